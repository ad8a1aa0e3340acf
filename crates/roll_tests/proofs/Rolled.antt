-- Free passes may roll, and come back free.
use Rattle.std.proofs.Common.{◌≡◌, ℕ, zero, suc, ◌<◌, List, [], ◌∷◌, ◌++◌, length, Some, None, refl, sym, subst}
use Rattle.std.specs.Prelude.{slice_get, Option, Result, IsSomeAnd}
use Rattle.std.proofs.lemmas.Option.{same_Some}
use Rattle.k42_crews.specs.Ready.{IsFree, AreFree}
use Rattle.k42_places.specs.Places.{EachPlace}
use Rattle.co_any.specs.Layouts.{LeadsAny}
use Rattle.co_system.specs.Systems.{MayLead, PlanSeen, SystemSeen, SystemPass}
use Rattle.k42_watch.specs.WatchedRows.{LeadsWatched}
use Rattle.k42_runtime.specs.Systems.{IsPassHere, IsAtRest}
use Rattle.k42_kinds.specs.declared.entry.To.{To}
use Rattle.k42_runtime.specs.declared.swaps.NoSwap.{NoSwap}
use Rattle.k42_runtime.specs.declared.swaps.Swapped.{Swapped}
use Rattle.swap_future.specs.Rolling.{HasRolled, MayRoll, seen}
use Rattle.swap_future.specs.declared.rolling.Rolling.{Rolling}
use Rattle.roll_tests.specs.Rolls.{AreWithin}

pub may_roll : (system : SystemSeen) (passes : List SystemPass) → AreFree system passes → EachPlace (λ i. MayRoll system) passes
may_roll system [] free i pass at = absurd (cc)
may_roll system (first ∷ passes) free zero pass at =
    subst (λ (p : SystemPass). MayRoll system p) (same_Some first pass at) (record { here = free.0.here; rests = free.0.rests })
may_roll system (first ∷ passes) free (suc i) pass at = may_roll system passes free.1 i pass at

pub within : (objects : ℕ) (plan : List (ℕ × To)) → AreWithin objects plan → EachPlace (λ i asked. asked.0 < objects) plan
within objects [] are i asked at = absurd (cc)
within objects (first ∷ plan) are zero asked at = subst (λ (a : ℕ × To). a.0 < objects) (same_Some first asked at) are.0
within objects (first ∷ plan) are (suc i) asked at = within objects plan are.2 i asked at

pub all_lead : (seen : PlanSeen) (objects : ℕ) (plan : List (ℕ × To)) → AreWithin objects plan → EachPlace (λ i asked. MayLead seen asked.0 asked.1) plan
all_lead seen objects [] are i asked at = absurd (cc)
all_lead seen objects (first ∷ plan) are zero asked at = λ declaration is.
    subst (λ (a : ℕ × To). LeadsWatched LeadsAny a.1) (same_Some first asked at) are.1
all_lead seen objects (first ∷ plan) are (suc i) asked at = all_lead seen objects plan are.2 i asked at

pub all_free : (system : SystemSeen) (passes : List SystemPass) → EachPlace (λ i pass. IsPassHere system pass × IsAtRest pass.view) passes → AreFree system passes
all_free system [] each = tt
all_free system (pass ∷ passes) each =
    let first = each 0 pass refl in
    (record { here = first.0; rests = first.1 }, all_free system passes (λ i other at. each (suc i) other at))

-- one more, behind the others
pub one_more_free : (system : SystemSeen) (passes : List SystemPass) (pass : SystemPass) → AreFree system passes → IsFree system pass
    → AreFree system (passes ++ pass ∷ [])
one_more_free system [] pass free one = (one, tt)
one_more_free system (first ∷ passes) pass free one = (free.0, one_more_free system passes pass free.1 one)

-- and so the passes that a roll gives back
pub rolled_free : (system : SystemSeen) (o : Option Rolling) (answers : List (Result Swapped NoSwap)) (passes : List SystemPass)
    → IsSomeAnd o (λ rolling. HasRolled system (seen rolling) answers passes) → AreFree system passes
rolled_free system (Some rolling) answers passes is = all_free system passes is.rest
rolled_free system None answers passes is = absurd is
