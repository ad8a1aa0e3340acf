use Rattle.std.proofs.Common.{◌==◌, sym, ◌∙◌, ap}
use Rattle.k42_log.proofs.Appended.{length-entries_back}
use Rattle.k42_log.proofs.unread.Unread.is_empty.Goals as goal

pub returns : goal.returns
returns g c = rw (← c.self.view_is) (c.is_empty.ensures ∙ ap (λ n. n == 0) (sym (length-entries_back g.O.Packed.packing g.R.Packed.packing _ _ _ _)))
