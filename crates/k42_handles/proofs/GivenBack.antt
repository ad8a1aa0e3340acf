-- A pass that is put among free passes is one of them, and they stay free.
use Rattle.std.proofs.Common.{◌≡◌, ◌≤◌, ◌⊎◌, ℕ, length, Bool, zero, suc, List, [], ◌∷◌, ◌++◌, Option, Some, None, false, take, drop, refl, sym, ap, ◌∙◌, subst, arith}
use lib.ListN.{take-append-drop}
use Rattle.std.proofs.lemmas.Option.{same_Some}
use Rattle.std.specs.Prelude.{IfSome, Ok, Result, insert, is_none, slice_get, slice_index_or}
use Rattle.std.proofs.lemmas.List.Elements.{Contains-append_right}
use Rattle.k42_crews.specs.Ready.{IsFree, AreFree}
use Rattle.co_system.specs.Systems.{IsPlanned, SystemSeen, SystemPass}
use Rattle.k42_handles.specs.Closing.{AreGiven, IsAdded}
use Rattle.k42_handles.specs.Parking.{HasTriedAgain, HasTriedBy, HasTriedOrNot, IsAt, is_section}
use Rattle.k42_handles.specs.Seats.{IsKept}
use Rattle.k42_handles.specs.declared.parking.Parked.{Parked}
use Rattle.k42_handles.specs.declared.parking.Parked.TheVariants.{Closed}
use Rattle.k42_handles.specs.declared.refusal.Refusal.{Refusal}
use Rattle.k42_handles.specs.declared.refusal.Refusal.TheVariants.{Again}
use Rattle.k42_handles.specs.declared.seat.Parks.{Parks as Parking}
use Rattle.k42_handles.specs.declared.seat.Seat.{Seat}
use Rattle.k42_handles.specs.declared.seat.Seat.TheVariants.{Gone, Parks}

pub few_callers : (system : SystemSeen) → IsPlanned system → length system.plan.callers ≤ 16
few_callers system planned = planned.sound.turns.limits.few_callers

insert_free : (system : SystemSeen) (pass : SystemPass) → IsFree system pass → (place : ℕ) (passes : List SystemPass) → AreFree system passes
    → AreFree system (insert passes place pass)
insert_free system pass one zero [] free = (one, tt)
insert_free system pass one zero (other ∷ passes) free = (one, free)
insert_free system pass one (suc place) [] free = (one, tt)
insert_free system pass one (suc place) (other ∷ passes) free = (free.0, insert_free system pass one place passes free.1)

pub inserted : (system : SystemSeen) (pass : SystemPass) (place : ℕ) (passes : List SystemPass) → IsFree system pass → AreFree system passes
    → AreGiven system pass (insert passes place pass)
inserted system pass place passes one free = record {
  free = insert_free system pass one place passes free;
  among = Contains-append_right (take place passes) (pass ∷ drop place passes) pass (0, omega arith, refl);
}

-- a pass that is taken out of free passes is free, and so are the others
pub others_free : (system : SystemSeen) (place : ℕ) (passes : List SystemPass) → AreFree system passes → AreFree system (take place passes ++ drop (suc place) passes)
others_free system zero [] free = tt
others_free system zero (pass ∷ passes) free = free.1
others_free system (suc place) [] free = tt
others_free system (suc place) (pass ∷ passes) free = (free.0, others_free system place passes free.1)

pub one_free : (system : SystemSeen) (place : ℕ) (passes : List SystemPass) (one : SystemPass) → AreFree system passes → slice_get passes place ≡ Some one → IsFree system one
one_free system zero [] one free at = absurd (cc)
one_free system zero (pass ∷ passes) one free at = subst (λ p. IsFree system p) (same_Some pass one at) free.0
one_free system (suc place) [] one free at = absurd (cc)
one_free system (suc place) (pass ∷ passes) one free at = one_free system place passes one free.1 at

-- what is taken out at the place of a caller is that caller's
pub removed_at : (caller : ℕ) (passes : List SystemPass) (place : ℕ) (one : SystemPass) → IsAt caller passes place → one ≡ slice_index_or passes place one
    → (slice_get passes place ≡ Some one) × (one.view.number ≡ caller)
removed_at caller [] place one at e = absurd at
removed_at caller (pass ∷ passes) zero one at e = (ap Some (sym e), ap (λ (p : SystemPass). p.view.number) e ∙ at)
removed_at caller (pass ∷ passes) (suc place) one at e = removed_at caller passes place one at e

pub inserted_there : (place : ℕ) (passes : List SystemPass) (pass : SystemPass) → IsAdded passes pass (insert passes place pass)
inserted_there place passes pass = record { before = take place passes; behind = drop place passes; old_is = sym (take-append-drop place passes); new_is = refl }

pub place_found : (caller : ℕ) (passes : List SystemPass) (found : Option ℕ) → is_none found ≡ false → IfSome found (IsAt caller passes) → (place : ℕ) × IsAt caller passes place
place_found caller passes None some at = absurd (cc)
place_found caller passes (Some place) some at = (place, at)

-- a pass without a section tries again, or cannot
pub tried_fresh : (old : Parking) (seat : Seat) (told : Result Parked Refusal) → is_section old.section.value ≡ false
    → HasTriedAgain old seat told ⊎ (IsKept Again (Parks old) seat told ⊎ ((told ≡ Ok Closed) × (seat ≡ Gone))) → HasTriedOrNot old seat told
tried_fresh old seat told fresh is = subst (λ (b : Bool). HasTriedBy b old seat told) (sym fresh) is
