-- A new state meets every fact.
use Rattle.std.proofs.Common.{◌≡◌, ℕ, zero, suc, ◌<◌, ◌≤◌, false, List, None, length, map, replicate, sym, refl, subst, inl, arith}
use Rattle.std.proofs.lemmas.List.{length-map, length-replicate}
use Rattle.k42_limits.specs.declared.TheConstants.{LAST_INCARNATION, LIVE_LAYOUTS}
use Rattle.k42_shapes.specs.Shapes.{IsKnownTag}
use Rattle.gen_core.specs.State as turns
use Rattle.k42_places.proofs.EachPlaces.{EachPlace-map, EachPlace-replicate}
use Rattle.k42_places.proofs.Counts.{count_by_none}
use Rattle.gen_core.proofs.Fresh.{fresh_course, fresh_in_course}
use Rattle.phase_core.specs.declared.caller.SwapAt.TheVariants.{Idle}
use Rattle.phase_core.specs.Callers.{IsVisitor}
use Rattle.phase_core.specs.Objects.{counts_at, many_counted, IsEntry, IsObject, IsCounted}
use Rattle.phase_core.specs.Outlooks.{Outlook, Scene}
use Rattle.phase_core.specs.Plain.{ObjectPlan, Object, Phases}
use Rattle.phase_core.specs.Sound.{IsInScene, IsSound}
use Rattle.phase_core.specs.State.{empty_entry, note_at, span_at, new_object, new_visitor, new_phases, IsPlan}

-- what is shared of an object that nobody has swapped yet, at an incarnation
abbrev pub look_at : ℕ → Outlook
look_at i = record { swapper = None; stage = Idle; incarnation = i; freed = 0; noted = None; settled = false }

abbrev pub scene_at : ℕ → ℕ → List ObjectPlan → List ℕ → Scene
scene_at i procs plans callers = record { course = fresh_course procs callers; objects = length plans; looks = λ o. look_at i }

abbrev pub object_of_age : ℕ → ℕ → ObjectPlan → Object
object_of_age i procs plan = record (new_object procs plan) { incarnation = i; entries = replicate procs (empty_entry i) }

-- a new state but for the incarnation of its objects
abbrev pub phases_of_age : ℕ → ℕ → List ObjectPlan → List ℕ → Phases
phases_of_age i procs plans callers =
    record (new_phases procs plans callers) { objects = map (object_of_age i procs) plans }

nothing_noted : (n o : ℕ) → note_at (replicate n None) o ≡ None
nothing_noted zero o = refl
nothing_noted (suc n) zero = refl
nothing_noted (suc n) (suc o) = nothing_noted n o

nothing_freed : (n o : ℕ) → span_at (replicate n (0, 0)) o ≡ (0, 0)
nothing_freed zero o = refl
nothing_freed (suc n) zero = refl
nothing_freed (suc n) (suc o) = nothing_freed n o

nobody_counted : (objects callers : ℕ) (o : ℕ) → many_counted (replicate callers (new_visitor objects)) o ≡ 0
nobody_counted objects callers o =
    count_by_none (λ x. counts_at x.place o) (replicate callers (new_visitor objects))
    (EachPlace-replicate (λ i x. counts_at x.place o ≡ false) callers (new_visitor objects) (λ i. refl))

IsObject-of_age : (i procs callers o : ℕ) (plan : ObjectPlan) → i ≤ LAST_INCARNATION → IsKnownTag plan.shapes plan.layout → length plan.shapes ≤ LIVE_LAYOUTS
    → IsObject procs callers (look_at i) o (object_of_age i procs plan)
IsObject-of_age i procs callers o plan young fits few = record {
  bits_follow = record {
    incarnation = refl;
    freed = refl;
    swap = refl;
    named = refl;
    swapper_there = λ d e. absurd (cc);
    bits = (refl, refl, refl);
    last = young;
    layout = fits;
    few = few;
  };
  within = tt;
  many_entries = length-replicate procs (empty_entry i);
  entries_follow = EachPlace-replicate (IsEntry Idle i plan.shapes plan.layout) procs (empty_entry i)
      (λ p. record { tagged = inl (refl, refl, refl); number = refl });
  freed_rows = record {
    freed = omega arith;
    freed_entries = λ p e at_p. omega arith;
    noted = λ n e. absurd (cc);
    noted_entries = λ n e. absurd (cc);
    settled = λ e. absurd (cc);
    stage = tt;
  };
}

IsVisitor-of_age : (i procs : ℕ) (plans : List ObjectPlan) (callers : List ℕ) (c p : ℕ)
    → IsVisitor (scene_at i procs plans callers) c (turns.fresh_caller procs p) (new_visitor (length plans))
IsVisitor-of_age i procs plans callers c p = record {
  at_rest = λ inactive. (refl, refl);
  at_place = tt;
  rows_read = λ o i has. absurd (cc);
  read_once = record { there = λ o i has. absurd (cc); once = λ o i. omega arith };
  swap_alone = record {
    there = λ o e. absurd (cc);
    owned = λ o e. absurd (cc);
    owner = λ o e. absurd (cc);
    inactive = λ o e. absurd (cc);
    grace = tt;
    settled = λ o e. absurd (cc);
  };
  frees_alone = record {
    many_noted = length-replicate (length plans) None;
    many_freeing = length-replicate (length plans) (0, 0);
    noted = λ holds. absurd (cc);
    freeing = λ o some. let none : 0 < 0 = rw (nothing_freed (length plans) o) at some in absurd (omega arith);
  };
}

pub in_scene_of_age : (i procs : ℕ) (plans : List ObjectPlan) (callers : List ℕ) → i ≤ LAST_INCARNATION → IsPlan procs plans callers
    → IsInScene (scene_at i procs plans callers) (phases_of_age i procs plans callers)
in_scene_of_age i procs plans callers young plan = record {
  in_course = fresh_in_course procs callers plan.turns;
  many_objects = length-map plans (object_of_age i procs);
  many_callers = length-replicate (length callers) (new_visitor (length plans));
  objects = EachPlace-map (λ o k. IsObject procs (length callers) (look_at i) o k) (object_of_age i procs) plans
      (λ o start at_o. IsObject-of_age i procs (length callers) o start young (plan.known_layouts o start at_o) (plan.few_layouts o start at_o));
  counted = EachPlace-map (IsCounted (replicate (length callers) (new_visitor (length plans)))) (object_of_age i procs) plans
      (λ o start at_o. sym (nobody_counted (length plans) (length callers) o));
  visitors = λ c g x at_g at_x.
      let visitor = new_visitor (length plans) in
      subst (λ y. IsVisitor (scene_at i procs plans callers) c g y)
      (EachPlace-replicate (λ d y. visitor ≡ y) (length callers) visitor (λ d. refl) c x at_x)
      (EachPlace-map (λ d f. IsVisitor (scene_at i procs plans callers) d f visitor) (turns.fresh_caller procs) callers
      (λ d p at_d. IsVisitor-of_age i procs plans callers d p) c g at_g);
}

pub IsSound-of_age : (i procs : ℕ) (plans : List ObjectPlan) (callers : List ℕ) → i ≤ LAST_INCARNATION → IsPlan procs plans callers
    → IsSound (phases_of_age i procs plans callers)
IsSound-of_age i procs plans callers young plan =
    record { scene = scene_at i procs plans callers; in_scene = in_scene_of_age i procs plans callers young plan }

pub IsSound-new : (procs : ℕ) (plans : List ObjectPlan) (callers : List ℕ) → IsPlan procs plans callers → IsSound (new_phases procs plans callers)
IsSound-new procs plans callers plan = IsSound-of_age 0 procs plans callers (omega arith) plan

pub IsSound-is_new : (s : Phases) (procs : ℕ) (plans : List ObjectPlan) (callers : List ℕ) → IsPlan procs plans callers
    → s ≡ new_phases procs plans callers → IsSound s
IsSound-is_new s procs plans callers plan e = rw e (IsSound-new procs plans callers plan)
