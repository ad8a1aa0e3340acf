use Rattle.std.proofs.Common.{◌∙◌}
use Rattle.k42_journal.proofs.Collected.{moved_over}
use Rattle.k42_journal.proofs.reader.Reader.collect.Goals as goal

pub loop-entry-preserved : goal.loop-entry-preserved
loop-entry-preserved g c =
    moved_over c.loop-entry.list.items c.loop-entry.self c.in-Some.entry _ _ c.in-Some.ensures.next c.in_ok-push_onto.ensures.ok c.next.ensures.rest
    ∙ c.loop-entry.invariant
