-- What is told of an empty handle.
use Rattle.std.proofs.Common.{◌≡◌, ℕ, refl, sym, subst}
use Rattle.std.specs.Prelude.{Result, Err}
use Rattle.k42_c.specs.Exports.{Tells}
use Rattle.k42_handles.specs.declared.coding.TheConstants.{EMPTY}
use Rattle.k42_handles.specs.declared.refusal.Refusal.{Refusal}
use Rattle.k42_handles.specs.declared.refusal.Refusal.TheVariants.{Empty}
use Rattle.k42_handles.specs.declared.seat.Seat.{Seat}
use Rattle.k42_handles.specs.declared.seat.Seat.TheVariants.{Gone}

-- what is so of a seat that is gone is so of this handle's
pub kept_empty : {A : Type 0} (happened : Seat → Seat → Result A Refusal → Type 0) (old new : Seat) → old ≡ Gone → new ≡ Gone → happened Gone Gone (Err Empty)
    → happened old new (Err Empty)
kept_empty happened old new was is fact =
    subst (λ (seat : Seat). happened seat new (Err Empty)) (sym was) (subst (λ (seat : Seat). happened Gone seat (Err Empty)) (sym is) fact)

pub told_empty : {A : Type 0} (code : A → ℕ) (happened : Seat → Seat → Result A Refusal → Type 0) (old new : Seat) → old ≡ Gone → new ≡ Gone
    → happened Gone Gone (Err Empty) → Tells code (happened old new) EMPTY
told_empty code happened old new was is fact = (Err Empty, kept_empty happened old new was is fact, refl)
