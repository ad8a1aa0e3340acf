use Rattle.std.proofs.Common.{ℕ, ◌∙◌, arith, length-drop}
use Rattle.std.proofs.lemmas.List.{length-take}
use Rattle.k42_io.proofs.Relations.{Grows-then, take-then}
use Rattle.k42_io.proofs.writing.write_all.Goals as goal

pub loop-done-preserved : goal.loop-done-preserved
loop-done-preserved g c =
    let loop = c.loop-done in (
      Grows-then _ _ _ _ _ _ loop.invariant.0 c.in_ok-count.ensures.bytes (take-then loop.done c.in_ok-count.count c.args.bytes.now loop.invariant.1),
      omega (arith, length-take {A = ℕ}, length-drop {A = ℕ}, c.in_ok-count.ensures.bound),
      c.in_ok-count.ensures.quiet ∙ loop.invariant.2,
    )
