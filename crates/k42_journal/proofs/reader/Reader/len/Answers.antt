use Rattle.std.proofs.Common.{ap, ◌∙◌}
use Rattle.k42_stamp.specs.Merging.{entries_in}
use Rattle.k42_journal.proofs.Merges.{length-merged_from}
use Rattle.k42_journal.proofs.reader.Reader.len.Goals as goal

pub returns : goal.returns
returns g c =
    let reader = c.self.inside in
    rw (← c.self.view_is, length-merged_from reader.number reader.unread.items) (c.total_of.ensures ∙ ap entries_in c.as_slice.ensures.value)
