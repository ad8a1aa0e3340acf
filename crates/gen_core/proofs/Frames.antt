-- What an event leaves alone: one lemma for a caller that enters or leaves, one for the holder of the role.
use Rattle.std.proofs.Common.{◌≡◌, ℕ, ◌≢◌, ◌∙◌, Bool, true, false, List, Option, Some, None, length, set, length-set, sym, refl, arith}
use Rattle.std.specs.List.{slice_get}
use Rattle.std.proofs.lemmas.Bool.{MatchBool-at_true, MatchBool-at_false}
use Rattle.std.proofs.lemmas.Bool.Decides.{nat_tests}
use Rattle.gen_core.specs.declared.state.GenProc.{GenProc}
use Rattle.gen_core.specs.declared.state.GraceAt.{GraceAt}
use Rattle.gen_core.specs.declared.state.GraceAt.TheVariants.{Idle, Flipping, Looking, Quiet}
use Rattle.gen_core.specs.Plain.{Caller, Generations}
use Rattle.k42_places.specs.Places.{EachPlace}
use Rattle.gen_core.specs.Sound.{Course, holds_role, is_active_in, active_in, IsPlaced, StageFits, IsHolder, IsNoHolder, IsHolderOrIdle, IsComing, IsInStep, IsActiveInStep, IsCounted, FitsField, IsInCourse}
use Rattle.k42_places.proofs.EachPlaces.{EachPlace-set, EachPlace-set_else, EachPlace-then}
use Rattle.k42_places.proofs.Counts.{count_by-set_same}

-- a caller whose activity alone changes
abbrev pub with_active : Caller → Option ℕ → Caller
with_active x active = record x { active = active }

-- a caller whose grace changes, with what it noted
abbrev pub with_grace : Caller → GraceAt → Option ℕ → List ℕ → Caller
with_grace x grace coming waits = record x { grace = grace; coming = coming; waits = waits }

-- the course after its holder, or the one who gave the role back, became y
abbrev pub steered : Course → ℕ → Option ℕ → Caller → Course
steered course base holder y = record course { base = base; holder = holder; stage = y.grace; waits = y.waits; coming = y.coming }

-- counts of other processors do not see a caller that moves on its own
pub active_in_else : (callers : List Caller) (c : ℕ) (x : Caller) (active : Option ℕ) (q generation : ℕ)
    → slice_get callers c ≡ Some x → q ≢ x.proc
    → active_in (set callers c (with_active x active)) q generation ≡ active_in callers q generation
active_in_else callers c x active q generation e other =
    count_by-set_same (is_active_in q generation) callers c x (with_active x active) e (grind (arith, nat_tests))

-- a caller's grace is not counted
pub active_in_grace : (callers : List Caller) (c : ℕ) (x : Caller) (grace : GraceAt) (coming : Option ℕ) (waits : List ℕ) (q generation : ℕ) → slice_get callers c ≡ Some x
    → active_in (set callers c (with_grace x grace coming waits)) q generation ≡ active_in callers q generation
active_in_grace callers c x grace coming waits q generation e =
    count_by-set_same (is_active_in q generation) callers c x (with_grace x grace coming waits) e refl

-- a processor stays counted where the counts of active callers do
pub IsCounted-same : (course : Course) (callers callers' : List Caller) (q : ℕ) (k : GenProc)
    → ((generation : ℕ) → active_in callers' q generation ≡ active_in callers q generation)
    → IsCounted course callers q k → IsCounted course callers' q k
IsCounted-same course callers callers' q k same counted = record {
  present = rw (same k.generation) counted.present;
  former = λ flipped passed. rw (same course.base) (counted.former flipped passed);
}

module _ (course : Course) (s : Generations) (h : IsInCourse course s) (c : ℕ) (x : Caller) (at_c : slice_get s.callers c ≡ Some x) where
  -- an active caller does not hold the role
  pub no_holder_active : (generation : ℕ) → x.active ≡ Some generation → holds_role course.holder c ≡ false
  no_holder_active generation active = by_test (holds_role course.holder c) refl where
    by_test : (b : Bool) → holds_role course.holder c ≡ b → b ≡ false
    by_test true holds =
        let holder : IsHolder course x = MatchBool-at_true (IsHolder course x) (IsNoHolder x) holds (h.one_role_holder c x at_c) in
        let inactive = holder.inactive in absurd (cc)
    by_test false holds = refl

  -- nor does an idle one
  pub no_holder_idle : x.grace ≡ Idle → holds_role course.holder c ≡ false
  no_holder_idle idle = by_test (holds_role course.holder c) refl where
    from_stage : (stage : GraceAt) → stage ≡ Idle → StageFits course stage → course.holder ≡ None
    from_stage Idle e fits = fits.0
    from_stage (Flipping p) e fits = absurd (cc)
    from_stage (Looking p) e fits = absurd (cc)
    from_stage Quiet e fits = absurd (cc)

    by_test : (b : Bool) → holds_role course.holder c ≡ b → b ≡ false
    by_test true holds =
        let holder : IsHolder course x = MatchBool-at_true (IsHolder course x) (IsNoHolder x) holds (h.one_role_holder c x at_c) in
        let none : course.holder ≡ None = from_stage course.stage (sym holder.grace ∙ idle) h.stage in
        let fails : false ≡ true = rw none at holds in cc
    by_test false holds = refl

  -- a caller with a grace under way holds the role
  pub holder_from_grace : (x.grace ≡ Idle → ⊥) → (holds_role course.holder c ≡ true) × IsHolder course x
  holder_from_grace busy = by_test (holds_role course.holder c) refl where
    by_test : (b : Bool) → holds_role course.holder c ≡ b → (holds_role course.holder c ≡ true) × IsHolder course x
    by_test true holds = (holds, MatchBool-at_true (IsHolder course x) (IsNoHolder x) holds (h.one_role_holder c x at_c))
    by_test false holds =
        absurd (busy (MatchBool-at_false (IsHolder course x) (IsNoHolder x) holds (h.one_role_holder c x at_c)).grace)

  -- one caller changes its activity, and its processor with it
  pub keeps_activity : (active : Option ℕ) (l : GenProc) → holds_role course.holder c ≡ false
      → IsComing course x.proc l → IsInStep course x.proc l → FitsField x.proc l
      → IsActiveInStep course c (with_active x active)
      → IsCounted course (set s.callers c (with_active x active)) x.proc l
      → IsInCourse course (record s { procs = set s.procs x.proc l; callers = set s.callers c (with_active x active) })
  keeps_activity active l no_holder coming in_step fits active_in_step counted = record {
    limits = h.limits;
    many_procs = length-set s.procs x.proc l ∙ h.many_procs;
    many_callers = length-set s.callers c (with_active x active) ∙ h.many_callers;
    role = h.role;
    stage = h.stage;
    placed = EachPlace-set (IsPlaced course.procs) s.callers c (with_active x active) h.placed
        (record { proc = (h.placed c x at_c).proc; waits = (h.placed c x at_c).waits });
    one_role_holder = EachPlace-set (IsHolderOrIdle course) s.callers c (with_active x active) h.one_role_holder
        (let old : IsNoHolder x = MatchBool-at_false (IsHolder course x) (IsNoHolder x) no_holder (h.one_role_holder c x at_c) in
        rw no_holder (record { grace = old.grace; coming = old.coming }));
    known_ahead = EachPlace-set (IsComing course) s.procs x.proc l h.known_ahead coming;
    generations_in_step = EachPlace-set (IsInStep course) s.procs x.proc l h.generations_in_step in_step;
    activities_in_step = EachPlace-set (IsActiveInStep course) s.callers c (with_active x active) h.activities_in_step active_in_step;
    counted_generations = EachPlace-set_else (IsCounted course s.callers) (IsCounted course (set s.callers c (with_active x active)))
        s.procs x.proc l h.counted_generations counted
        (λ q k other at_q old. IsCounted-same course s.callers (set s.callers c (with_active x active)) q k
        (λ generation. active_in_else s.callers c x active q generation at_c other) old);
    no_generation_passes_its_field = EachPlace-set FitsField s.procs x.proc l h.no_generation_passes_its_field fits;
  }

  -- one caller, in no activity, changes its grace, and the course with it
  pub keeps_grace : (base : ℕ) (holder role : Option ℕ) (grace : GraceAt) (coming : Option ℕ) (waits : List ℕ) (procs : List GenProc)
      → let next : Course = steered course base holder (with_grace x grace coming waits) in
      role ≡ holder → length procs ≡ course.procs → length waits ≡ course.procs → StageFits next grace → x.active ≡ None
      → IsHolderOrIdle next c (with_grace x grace coming waits)
      → ((i : ℕ) → i ≢ c → (holds_role course.holder i ≡ false) × (holds_role holder i ≡ false))
      → EachPlace (IsComing next) procs → EachPlace (IsInStep next) procs
      → ((i : ℕ) (z : Caller) → slice_get s.callers i ≡ Some z → IsActiveInStep course i z → IsActiveInStep next i z)
      → EachPlace (IsCounted next s.callers) procs → EachPlace FitsField procs
      → IsInCourse next (record { procs = procs; callers = set s.callers c (with_grace x grace coming waits); role = role })
  keeps_grace base holder role grace coming waits procs same_role many noted stage inactive holds others known in_step activities counted fits =
      let y : Caller = with_grace x grace coming waits in
      let next : Course = steered course base holder y in
      record {
        limits = h.limits;
        many_procs = many;
        many_callers = length-set s.callers c y ∙ h.many_callers;
        role = same_role;
        stage = stage;
        placed = EachPlace-set (IsPlaced course.procs) s.callers c y h.placed (record { proc = (h.placed c x at_c).proc; waits = noted });
        one_role_holder = EachPlace-set_else (IsHolderOrIdle course) (IsHolderOrIdle next) s.callers c y h.one_role_holder holds
            (λ i z other at_i old. rw (others i other).1 (MatchBool-at_false (IsHolder course z) (IsNoHolder z) (others i other).0 old));
        known_ahead = known;
        generations_in_step = in_step;
        activities_in_step = EachPlace-set (IsActiveInStep next) s.callers c y
            (EachPlace-then (IsActiveInStep course) (IsActiveInStep next) s.callers h.activities_in_step activities)
            (λ generation active. absurd (cc));
        counted_generations = EachPlace-then (IsCounted next s.callers) (IsCounted next (set s.callers c y)) procs counted
            (λ q k at_q old. IsCounted-same next s.callers (set s.callers c y) q k
            (λ generation. active_in_grace s.callers c x grace coming waits q generation at_c) old);
        no_generation_passes_its_field = fits;
      }
