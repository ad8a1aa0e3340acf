use Rattle.k42_journal.proofs.Merges.{merges}
use Rattle.k42_journal.proofs.laws.a_journal_is_the_merge.Goals as goal

pub returns : goal.returns
returns g c = merges
