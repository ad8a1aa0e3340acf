-- What a pass that blocks its object has handed on: nothing yet.
use Rattle.std.proofs.Common.{◌≡◌, ℕ, Bool, true, false, List, Option, Some, None, refl, ap, ◌∙◌, ◌==◌, if◌then◌else◌}
use Rattle.k42_shapes.specs.declared.shape.Shape.{Shape}
use Rattle.phase_core.specs.Stages.{is_moved}
use Rattle.phase_core.specs.declared.caller.SwapAt.{SwapAt}
use Rattle.k42_board.specs.Log.{took}
use Rattle.k42_board.specs.Swapping.{FitsSwap, object_swapped, at_swap, moved_view, blocked_word}
use Rattle.phase_core.specs.declared.caller.SwapAt.TheVariants.{Moved}
use Rattle.k42_board.specs.declared.view.LastBegin.{LastBegin}
use Rattle.k42_board.specs.declared.view.PassView.{PassView}
use Rattle.k42_board.specs.declared.view.StepName.{StepName}

pub unhanded : (shapes : List (List Shape)) (swap : SwapAt) (turned : Bool) (handed : Option ℕ) (last : Option LastBegin) → FitsSwap shapes swap turned handed last
    → is_moved swap ≡ false → handed ≡ None
unhanded shapes swap turned None last fits e = refl
unhanded shapes swap turned (Some tag) last fits e = let moved = fits.moved refl in absurd (cc (moved, e))

either : {P O R : Type 0} (b : Bool) (v w : PassView P O R) (handed : Option ℕ) → v.handed ≡ handed → w.handed ≡ handed → (if b then v else w).handed ≡ handed
either true v w handed first second = first
either false v w handed first second = second

-- a try to move hands nothing on
pub still_unhanded : {P O R : Type 0} (step : StepName) (word found : ℕ) (v w : PassView P O R) → w ≡ took step word found (moved_view found v) → v.handed ≡ None → w.handed ≡ None
still_unhanded {P} {O} {R} step word found v w is none =
    ap (λ (x : PassView P O R). x.handed) is ∙ either (found == blocked_word v) (at_swap v (Moved (object_swapped v))) v None none none
