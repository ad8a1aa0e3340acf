-- A plan without a fault is sound.
use Rattle.std.proofs.Common.{◌≡◌, ℕ, zero, suc, ◌+◌, ◌<◌, ◌≤◌, Bool, true, false, cond, ltb, leb, List, [], ◌∷◌, Option, Some, None, length, refl, subst}
use Rattle.std.proofs.lemmas.Option.{same_Some}
use Rattle.std.proofs.lemmas.Bool.{and_parts, leb-true, ltb-true}
use Rattle.k42_limits.specs.declared.TheConstants.{PROCESSORS, OBJECTS, CALLERS}
use Rattle.k42_places.specs.Places.{EachPlace}
use Rattle.k42_runtime.specs.Plans.{PlanSeen, plan_fault, stray_from, dead_from, or_else, is_within, IsSoundPlan}
use Rattle.k42_runtime.specs.declared.plan.PlanFault.{PlanFault}
use Rattle.k42_runtime.specs.declared.plan.PlanFault.TheVariants as faults

within : (limit count : ℕ) → is_within limit count ≡ true → (0 < count) × (count ≤ limit)
within limit count e =
    let both = and_parts (ltb 0 count) (leb count limit) e in
    (ltb-true 0 count both.0, leb-true count limit both.1)

placed_behind : (procs first here : ℕ) (homes : List ℕ) → (EachPlace (λ c home. home < procs) homes) → here < procs → EachPlace (λ c home. home < procs) (here ∷ homes)
placed_behind procs first here homes others lt zero home at = subst (λ n. n < procs) (same_Some here home at) lt
placed_behind procs first here homes others lt (suc c) home at = others c home at

placed : (procs first : ℕ) (homes : List ℕ) → stray_from procs first homes ≡ None → EachPlace (λ c home. home < procs) homes
placed procs first [] e = λ c home at. absurd (cc)
placed procs first (here ∷ homes) e = go (ltb here procs) refl e (placed procs (first + 1) homes) where
  go : (b : Bool) → ltb here procs ≡ b → cond b (stray_from procs (first + 1) homes) (Some (faults.Processor first)) ≡ None
      → (stray_from procs (first + 1) homes ≡ None → EachPlace (λ c home. home < procs) homes) → EachPlace (λ c home. home < procs) (here ∷ homes)
  go true is none others = placed_behind procs first here homes (others none) (ltb-true here procs is)
  go false is none others = absurd (cc)

-- and where no object is dead, each is live
alive_behind : {L : Type 0} (is_live : L → Bool) (here : L) (layouts : List L) → EachPlace (λ o layout. is_live layout ≡ true) layouts → is_live here ≡ true
    → EachPlace (λ o layout. is_live layout ≡ true) (here ∷ layouts)
alive_behind is_live here layouts others is zero layout at = subst (λ (l : _). is_live l ≡ true) (same_Some here layout at) is
alive_behind is_live here layouts others is (suc o) layout at = others o layout at

alive : {L : Type 0} (is_live : L → Bool) (first : ℕ) (layouts : List L) → dead_from is_live first layouts ≡ None → EachPlace (λ o layout. is_live layout ≡ true) layouts
alive is_live first [] e = λ o layout at. absurd (cc)
alive is_live first (here ∷ layouts) e = go (is_live here) refl e (alive is_live (first + 1) layouts) where
  go : (b : Bool) → is_live here ≡ b → cond b (dead_from is_live (first + 1) layouts) (Some (faults.Dead first)) ≡ None
      → (dead_from is_live (first + 1) layouts ≡ None → EachPlace (λ o layout. is_live layout ≡ true) layouts) → EachPlace (λ o layout. is_live layout ≡ true) (here ∷ layouts)
  go true is none others = alive_behind is_live here layouts (others none) is
  go false is none others = absurd (cc)

-- neither is there
neither : (one other : Option PlanFault) → or_else one other ≡ None → (one ≡ None) × (other ≡ None)
neither None other e = (refl, e)
neither (Some fault) other e = absurd (cc)

pub sound : {L : Type 0} (is_live : L → Bool) (plan : PlanSeen L) → plan_fault is_live plan.procs plan.objects plan.callers ≡ None → IsSoundPlan is_live plan
sound is_live plan = by_procs (is_within PROCESSORS plan.procs) refl where
  Goal : Bool → Bool → Bool → Type 0
  Goal a b c = cond a (cond b (cond c (or_else (stray_from plan.procs 0 plan.callers) (dead_from is_live 0 plan.objects)) (Some faults.Callers)) (Some faults.Objects)) (Some faults.Procs) ≡ None → IsSoundPlan is_live plan

  by_callers : (c : Bool) → is_within PROCESSORS plan.procs ≡ true → is_within OBJECTS (length plan.objects) ≡ true → is_within CALLERS (length plan.callers) ≡ c → Goal true true c
  by_callers true a b is = λ e.
      let procs = within PROCESSORS plan.procs a in
      let objects = within OBJECTS (length plan.objects) b in
      let callers = within CALLERS (length plan.callers) is in
      record {
        turns = record {
          limits = record { some_procs = procs.0; few_procs = procs.1; some_callers = callers.0; few_callers = callers.1 };
          placed = placed plan.procs 0 plan.callers (neither (stray_from plan.procs 0 plan.callers) (dead_from is_live 0 plan.objects) e).0;
        };
        some_objects = objects.0;
        few_objects = objects.1;
        live = alive is_live 0 plan.objects (neither (stray_from plan.procs 0 plan.callers) (dead_from is_live 0 plan.objects) e).1;
      }
  by_callers false a b is = λ e. absurd (cc)

  by_objects : (b : Bool) → is_within PROCESSORS plan.procs ≡ true → is_within OBJECTS (length plan.objects) ≡ b → Goal true b (is_within CALLERS (length plan.callers))
  by_objects true a is = by_callers (is_within CALLERS (length plan.callers)) a is refl
  by_objects false a is = λ e. absurd (cc)

  by_procs : (a : Bool) → is_within PROCESSORS plan.procs ≡ a → Goal a (is_within OBJECTS (length plan.objects)) (is_within CALLERS (length plan.callers))
  by_procs true is = by_objects (is_within OBJECTS (length plan.objects)) is refl
  by_procs false is = λ e. absurd (cc)
