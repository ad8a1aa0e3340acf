-- What a system tells of an object's layouts is what its declared one tells.
use Rattle.std.proofs.Common.{◌≡◌, ℕ, zero, suc, List, [], ◌∷◌, Some, map, get_or, sym, ap, ◌∙◌}
use Rattle.std.specs.List.{slice_get}
use Rattle.std.proofs.lemmas.Option.{same_Some}

pub told_at : {A B : Type 0} (tells : A → List B) (items : List A) (place : ℕ) (item : A) → slice_get items place ≡ Some item
    → get_or (map tells items) place [] ≡ tells item
told_at tells [] place item e = absurd (cc)
told_at tells (first ∷ items) zero item e = ap tells (same_Some first item e)
told_at tells (first ∷ items) (suc place) item e = told_at tells items place item e

-- so does a pass that was told the same
pub shapes_asked : {A B : Type 0} (tells : A → List B) (items layouts : List A) (shapes : List (List B)) → items ≡ layouts → map tells items ≡ shapes
    → (place object : ℕ) (declaration : A) (told : List (List B)) → told ≡ shapes → place ≡ object → slice_get layouts object ≡ Some declaration
    → get_or told place [] ≡ tells declaration
shapes_asked {A} {B} tells items layouts shapes layouts_are shapes_are place object declaration told told_is place_is declares =
    (λ j. get_or ((told_is ∙ sym shapes_are) j) (place_is j) []) ∙ told_at tells items object declaration (ap (λ (xs : List A). slice_get xs object) layouts_are ∙ declares)
