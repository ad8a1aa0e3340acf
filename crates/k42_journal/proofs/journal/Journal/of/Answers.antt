use Rattle.k42_journal.specs.Logs.{lists_of}
use Rattle.k42_journal.proofs.Merges.{merges}
use Rattle.k42_journal.proofs.journal.Journal.of.Goals as goal

pub returns : goal.returns
returns g c = merges c.args.first (lists_of c.args.logs.items) c.requires.lists
