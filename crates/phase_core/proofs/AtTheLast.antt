-- A state whose one object is at its last incarnation is sound, and a swap of it is refused there and not before.
use Rattle.std.proofs.Common.{◌≡◌, ◌<◌, ◌≤◌, [], ◌∷◌, length, refl, arith}
use Rattle.k42_limits.specs.declared.TheConstants.{LAST_INCARNATION, LIVE_LAYOUTS}
use Rattle.k42_shapes.specs.Shapes.{IsKnownTag}
use Rattle.k42_places.proofs.EachPlaces.{EachPlace-replicate}
use Rattle.phase_core.specs.declared.caller.SwapAt.TheVariants.{Refused, Begun}
use Rattle.phase_core.specs.Event.{Begin}
use Rattle.phase_core.specs.Events.{happens}
use Rattle.phase_core.specs.Plain.{Phases}
use Rattle.phase_core.specs.Sound.{IsSound}
use Rattle.phase_core.specs.State.{IsPlan, of_two, visitor_at}
use Rattle.phase_core.proofs.Fresh.{phases_of_age, IsSound-of_age}

plan : IsPlan 1 (of_two 0 ∷ []) (0 ∷ [])
plan = record {
  turns = record {
    limits = record { some_procs = omega arith; few_procs = omega arith; some_callers = omega arith; few_callers = omega arith };
    placed = EachPlace-replicate (λ c p. p < 1) 1 0 (λ c. omega arith);
  };
  some_objects = omega arith;
  few_objects = omega arith;
  known_layouts = EachPlace-replicate (λ o plan. IsKnownTag plan.shapes plan.layout) 1 (of_two 0) (λ o. omega arith);
  few_layouts = EachPlace-replicate (λ o plan. length plan.shapes ≤ LIVE_LAYOUTS) 1 (of_two 0) (λ o. omega arith);
}

abbrev pub aged : Phases
aged = phases_of_age LAST_INCARNATION 1 (of_two 0 ∷ []) (0 ∷ [])

pub IsSound-aged : IsSound aged
IsSound-aged = IsSound-of_age LAST_INCARNATION 1 (of_two 0 ∷ []) (0 ∷ []) (omega arith) plan

refused : (visitor_at (happens aged (Begin 0 0)) 0).swap ≡ Refused 0
refused = refl

begun : (visitor_at (happens (phases_of_age 1048574 1 (of_two 0 ∷ []) (0 ∷ [])) (Begin 0 0)) 0).swap ≡ Begun 0
begun = refl
