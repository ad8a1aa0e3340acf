use Rattle.std.proofs.Common.{◌≡◌, ◌∙◌, ◌==◌, length, vec_len, ap, arith}
use Rattle.k42_log.specs.LogFields.{entries_in}
use Rattle.k42_log.proofs.Pushed.{length_seen}
use Rattle.k42_log.proofs.log.Log.is_empty.Goals as goal

pub returns : goal.returns
returns g c =
    let long : vec_len c.self.inside.heads ≡ length (entries_in g.O.Packed.packing g.R.Packed.packing c.self.inside) =
    omega (arith, c.self.inside.heads.ok.0, length_seen g.O.Packed.packing g.R.Packed.packing c.self.inside) in
    rw (← c.self.view_is) (c.is_empty.ensures ∙ ap (λ n. n == 0) long)
