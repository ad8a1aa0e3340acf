-- A new state meets every fact.
use Rattle.std.proofs.Common.{◌≡◌, ℕ, false, List, [], None, length, map, refl, arith}
use Rattle.std.proofs.lemmas.List.{length-map, length-replicate}
use Rattle.std.proofs.lemmas.Bool.{and_right}
use Rattle.gen_core.specs.declared.state.GraceAt.TheVariants.{Idle}
use Rattle.gen_core.specs.Plain.{Generations}
use Rattle.gen_core.specs.State.{fresh_proc, fresh_caller, fresh, IsPlan}
use Rattle.gen_core.specs.Sound.{Course, is_active_in, active_in, IsPlaced, IsHolderOrIdle, IsComing, IsInStep, IsActiveInStep, IsCounted, FitsField, IsInCourse, IsSound}
use Rattle.k42_places.proofs.EachPlaces.{EachPlace-map, EachPlace-replicate}
use Rattle.k42_places.proofs.Counts.{count_by_none}

-- nobody holds the role, and all processors are at generation 0
abbrev pub fresh_course : ℕ → List ℕ → Course
fresh_course procs callers = record { procs = procs; callers = length callers; base = 0; holder = None; stage = Idle; waits = []; coming = None }

-- nobody is active
nobody_active : (procs : ℕ) (callers : List ℕ) (p generation : ℕ)
    → active_in (map (fresh_caller procs) callers) p generation ≡ 0
nobody_active procs callers p generation =
    count_by_none (is_active_in p generation) (map (fresh_caller procs) callers)
    (EachPlace-map (λ i x. is_active_in p generation x ≡ false) (fresh_caller procs) callers (λ i q at_i. and_right _ false refl))

pub fresh_in_course : (procs : ℕ) (callers : List ℕ) → IsPlan procs callers
    → IsInCourse (fresh_course procs callers) (fresh procs callers)
fresh_in_course procs callers plan =
    let course : Course = fresh_course procs callers in
    record {
      limits = plan.limits;
      many_procs = length-replicate procs fresh_proc;
      many_callers = length-map callers (fresh_caller procs);
      role = refl;
      stage = (refl, refl);
      placed = EachPlace-map (IsPlaced procs) (fresh_caller procs) callers
          (λ i p at_i. record { proc = plan.placed i p at_i; waits = length-replicate procs 0 });
      one_role_holder = EachPlace-map (IsHolderOrIdle course) (fresh_caller procs) callers (λ i p at_i. record { grace = refl; coming = refl });
      known_ahead = EachPlace-replicate (IsComing course) procs fresh_proc (λ i next exits known. absurd (cc));
      generations_in_step = EachPlace-replicate (IsInStep course) procs fresh_proc (λ i. refl);
      activities_in_step = EachPlace-map (IsActiveInStep course) (fresh_caller procs) callers (λ i p at_i generation active. absurd (cc));
      counted_generations = EachPlace-replicate (IsCounted course (map (fresh_caller procs) callers)) procs fresh_proc
          (λ i. record {
            present = rw (nobody_active procs callers i 0) refl;
            former = λ flipped passed. absurd (cc);
          });
      no_generation_passes_its_field = EachPlace-replicate FitsField procs fresh_proc (λ i. omega arith);
    }

pub IsSound-fresh : (procs : ℕ) (callers : List ℕ) → IsPlan procs callers → IsSound (fresh procs callers)
IsSound-fresh procs callers plan = record { course = fresh_course procs callers; in_course = fresh_in_course procs callers plan }

pub IsSound-is_fresh : (s : Generations) (procs : ℕ) (callers : List ℕ) → IsPlan procs callers
    → s ≡ fresh procs callers → IsSound s
IsSound-is_fresh s procs callers plan e = rw e (IsSound-fresh procs callers plan)
