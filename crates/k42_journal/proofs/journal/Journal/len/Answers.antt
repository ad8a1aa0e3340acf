use Rattle.std.proofs.Common.{ap, ◌∙◌}
use Rattle.k42_stamp.specs.Merging.{entries_in}
use Rattle.k42_journal.specs.Logs.{lists_of}
use Rattle.k42_journal.proofs.Merges.{length-merged_from}
use Rattle.k42_journal.proofs.journal.Journal.len.Goals as goal

pub returns : goal.returns
returns g c =
    let journal = c.self.inside in
    rw (← c.self.view_is, length-merged_from journal.first (lists_of journal.logs.items)) (c.total_of.ensures ∙ ap (λ logs. entries_in (lists_of logs)) c.as_slice.ensures.value)
