use Rattle.std.proofs.Common.{◌==◌, sym, ap, ◌∙◌}
use Rattle.k42_journal.proofs.Merges.{length-merged_from}
use Rattle.k42_journal.proofs.Queueing.{empty_queue}
use Rattle.k42_journal.proofs.reader.Reader.is_empty.Goals as goal

pub returns : goal.returns
returns g c =
    let lists = c.self.inside.unread.items in
    let queue = c.self.inside.queue in
    rw (← c.self.view_is)
    (c.is_empty.ensures ∙ (ap (λ n. n == 0) queue.ok.0 ∙ (empty_queue lists queue.items c.self.invariant.1 ∙ ap (λ n. n == 0) (sym (length-merged_from c.self.inside.number lists)))))
