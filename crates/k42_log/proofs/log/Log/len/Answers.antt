use Rattle.std.proofs.Common.{arith}
use Rattle.k42_log.proofs.Pushed.{length_seen}
use Rattle.k42_log.proofs.log.Log.len.Goals as goal

pub returns : goal.returns
returns g c = rw (← c.self.view_is) (omega (arith, c.len.ensures, c.self.inside.heads.ok.0, length_seen g.O.Packed.packing g.R.Packed.packing c.self.inside))
