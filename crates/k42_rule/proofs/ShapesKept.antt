-- What a pass knows by the shapes that it was told stays, as long as it was told the same.
use Rattle.std.proofs.Common.{◌≡◌, ℕ, Bool, List, [], Option, get_or, sym, ap, ◌∙◌, subst}
use Rattle.k42_shapes.specs.declared.shape.Shape.{Shape}
use Rattle.k42_shapes.specs.Shapes.{IsKnownTag}
use Rattle.phase_core.specs.declared.caller.SwapAt.{SwapAt}
use Rattle.k42_board.specs.Seen.{IsSeatOf}
use Rattle.k42_board.specs.Steps.{Seated}
use Rattle.k42_board.specs.Swapping.{FitsSwap}
use Rattle.k42_board.specs.Views.{pass_in}
use Rattle.k42_board.specs.declared.view.LastBegin.{LastBegin}
use Rattle.k42_board.specs.declared.view.PassView.{PassView}

pub seat_shapes : {P O R : Type 0} (me : Seated P O R) (v w : PassView P O R) → IsSeatOf me w → w.shapes ≡ v.shapes → (pass_in me.0).shapes ≡ v.shapes
seat_shapes {P} {O} {R} me v w is same = ap (λ (m : Seated P O R). (pass_in m.0).shapes) is ∙ same

pub known_on : (before after : List (List Shape)) (o tag : ℕ) → after ≡ before → IsKnownTag (get_or before o []) tag → IsKnownTag (get_or after o []) tag
known_on before after o tag same known = subst (λ (shapes : List (List Shape)). IsKnownTag (get_or shapes o []) tag) (sym same) known

pub fits_on : (before after : List (List Shape)) (swap : SwapAt) (turned : Bool) (handed : Option ℕ) (last : Option LastBegin) → after ≡ before
    → FitsSwap before swap turned handed last → FitsSwap after swap turned handed last
fits_on before after swap turned handed last same fits = subst (λ (shapes : List (List Shape)). FitsSwap shapes swap turned handed last) (sym same) fits
