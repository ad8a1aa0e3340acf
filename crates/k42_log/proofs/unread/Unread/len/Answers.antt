use Rattle.std.proofs.Common.{sym}
use Rattle.k42_log.proofs.Appended.{length-entries_back}
use Rattle.k42_log.proofs.unread.Unread.len.Goals as goal

pub returns : goal.returns
returns g c = rw (← c.self.view_is) (sym (length-entries_back g.O.Packed.packing g.R.Packed.packing _ _ _ _))
