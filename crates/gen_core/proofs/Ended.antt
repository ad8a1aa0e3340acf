-- A caller that was active when the role was taken has left before that grace is quiet.
use Rattle.std.proofs.Common.{◌≡◌, ℕ, ◌+◌, ◌<◌, ◌≢◌, ◌⊎◌, ◌∙◌, Bool, true, false, cond, List, [], ◌∷◌, Option, Some, None, length, length-set, sym, refl, ap, subst, inl, inr, ⊎_elim, arith}
use Rattle.std.proofs.lemmas.List.{get_or-set_same, get_or-set_other}
use Rattle.std.proofs.lemmas.Option.{same_Some, get_or_from_slice_get}
use Rattle.std.proofs.lemmas.Bool.{and_parts, cases_eq}
use Rattle.gen_core.specs.declared.event.GenEvent.{GenEvent}
use Rattle.gen_core.specs.declared.event.GenEvent.TheVariants.{Enter, Leave, TakeRole, LookAhead, Flip, Look, GiveRole}
use Rattle.gen_core.specs.declared.state.GraceAt.TheVariants.{Idle, Quiet}
use Rattle.gen_core.specs.Plain.{Generations}
use Rattle.gen_core.specs.State.{caller_at, put_caller}
use Rattle.gen_core.specs.Events.{is_idle, is_drained, caller_passed, looked_ahead, caller_flipped, role_taken, role_given, turn_of, taken, is_possible, effect, happens, caller_of}
use Rattle.gen_core.specs.Sound.{Course, IsInCourse, IsSound}
use Rattle.gen_core.specs.Runs.{run, AreInRange, Occurs, FindsRoleFree, IsActive, IsQuiet, IsQuietGrace, HasLeft}
use Rattle.gen_core.proofs.Stages.{from_is_quiet, from_is_none, from_is_some}
use Rattle.gen_core.proofs.Frames.{holder_from_grace}
use Rattle.gen_core.proofs.Courses.{course_taken, course_looked, course_after, at_caller, keeps_effect}
use Rattle.gen_core.proofs.Graces.{idle_stage}
use Rattle.gen_core.proofs.Alone.{only_caller, happens_only}
use Rattle.gen_core.proofs.Reached.{holds_from, holder_from_role, role_there}

occurs_here : (event : GenEvent) (events : List GenEvent) (s : Generations) → is_possible s event ≡ true
    → Occurs event (event ∷ events) s
occurs_here event events s possible = record { before = []; after = events; split = refl; possible = possible }

occurs_later : (event first : GenEvent) (events : List GenEvent) (s : Generations)
    → Occurs event events (happens s first) → Occurs event (first ∷ events) s
occurs_later event first events s later =
    record { before = first ∷ later.before; after = later.after; split = ap (λ l. first ∷ l) later.split; possible = later.possible }

-- the event's own caller, where it was active, leaves by the event or stays active
module _ (s : Generations) (generation : ℕ) where
  own_active : (event : GenEvent) → caller_of event < length s.callers → is_possible s event ≡ true
      → (caller_at s (caller_of event)).active ≡ Some generation
      → (event ≡ Leave (caller_of event)) ⊎ ((caller_at (effect s event) (caller_of event)).active ≡ Some generation)
  own_active (Enter c) there possible active =
      let none = from_is_none (caller_at s c).active (and_parts (is_idle (caller_at s c).grace) _ possible).1 in absurd (cc)
  own_active (Leave c) there possible active = inl refl
  own_active (TakeRole c) there possible active =
      let none = from_is_none (caller_at s c).active (and_parts (is_idle (caller_at s c).grace) _ (and_parts _ _ possible).0).1 in absurd (cc)
  own_active (LookAhead c) there possible active = inr (rw (get_or-set_same s.callers c (looked_ahead (caller_at s c) (turn_of s c)) _ there) active)
  own_active (Flip c) there possible active =
      inr (rw (get_or-set_same s.callers c (caller_flipped (caller_at s c) (turn_of s c) (length s.procs)) _ there) active)
  own_active (Look c) there possible active = inr (by_test (is_drained (caller_at s c) (turn_of s c))) where
    by_test : (drained : Bool)
        → (caller_at (cond drained (put_caller s c (caller_passed (caller_at s c) (length s.procs))) s) c).active ≡ Some generation
    by_test true = rw (get_or-set_same s.callers c (caller_passed (caller_at s c) (length s.procs)) _ there) active
    by_test false = active
  own_active (GiveRole c) there possible active = inr (rw (get_or-set_same s.callers c (role_given (caller_at s c)) _ there) active)

-- while the role is held, an event gives it back or leaves the holder and the base as they were
module _ (course : Course) (s : Generations) (h : IsInCourse course s) (holder : ℕ) (held : course.holder ≡ Some holder) where
  same_grace : (event : GenEvent) → caller_of event < length s.callers → is_possible s event ≡ true
      → (event ≡ GiveRole holder) ⊎ (((course_after course s event).base ≡ course.base) × ((course_after course s event).holder ≡ Some holder))
  same_grace (Enter c) there possible = inr (refl, held)
  same_grace (Leave c) there possible = inr (refl, held)
  same_grace (TakeRole c) there possible =
      let role : s.role ≡ Some holder = h.role ∙ held in
      inr (rw role (refl, held))
  same_grace (LookAhead c) there possible = inr (refl, held)
  same_grace (Flip c) there possible = inr (refl, held)
  same_grace (Look c) there possible = inr (by_test (is_drained (caller_at s c) (turn_of s c))) where
    by_test : (drained : Bool)
        → ((course_looked course (caller_at s c) (length s.procs) drained).base ≡ course.base)
        × ((course_looked course (caller_at s c) (length s.procs) drained).holder ≡ Some holder)
    by_test true = (refl, held)
    by_test false = (refl, held)
  same_grace (GiveRole c) there possible =
      let grace = from_is_quiet (caller_at s c).grace possible in
      let holds = (holder_from_grace course s h c (caller_at s c) (at_caller course s h c there) (λ idle. absurd (cc))).0 in
      let same : c ≡ holder = same_Some c holder (sym (holds_from course.holder c holds) ∙ held) in
      inl (ap (λ n. GiveRole n) same)

-- the holder keeps the role, and the caller has been active since it took it
record IsOlder (holder caller : ℕ) (s : Generations) : Type 0 where
  course : Course
  in_course : IsInCourse course s
  held : course.holder ≡ Some holder
  there : caller < length s.callers
  active : (caller_at s caller).active ≡ Some course.base

-- an event that does not give the role back ends the caller's activity, or leaves it older
older_or_left : (holder caller : ℕ) (s : Generations) (event : GenEvent) → IsOlder holder caller s
    → caller_of event < length s.callers
    → (is_possible s event ≡ true → event ≢ GiveRole holder)
    → ((event ≡ Leave caller) × (is_possible s event ≡ true)) ⊎ IsOlder holder caller (happens s event)
older_or_left holder caller s event older there keeps = by_test (is_possible s event) refl where
  stays : is_possible s event ≡ true → (caller_at (effect s event) caller).active ≡ Some older.course.base
      → IsOlder holder caller (effect s event)
  stays possible active =
      let next = ⊎_elim (λ given. absurd (keeps possible given)) (λ same. same)
      (same_grace older.course s older.in_course holder older.held event there possible) in
      record {
        course = course_after older.course s event;
        in_course = keeps_effect older.course s event older.in_course there possible;
        held = next.1;
        there = rw (only_caller s event there).many_callers older.there;
        active = rw next.0 active;
      }

  by_test : (b : Bool) → is_possible s event ≡ b
      → ((event ≡ Leave caller) × (b ≡ true)) ⊎ IsOlder holder caller (cond b (effect s event) s)
  by_test false possible = inr older
  by_test true possible =
      ⊎_elim
      (λ (same : caller ≡ caller_of event).
      let own : (caller_at s (caller_of event)).active ≡ Some older.course.base = rw same at older.active in
      ⊎_elim
      (λ (leaves : event ≡ Leave (caller_of event)). inl (rw same leaves, refl))
      (λ (active : (caller_at (effect s event) (caller_of event)).active ≡ Some older.course.base). inr (stays possible (rw same active)))
      (own_active s older.course.base event there possible own))
      (λ (other : caller ≢ caller_of event).
      let before = at_caller older.course s older.in_course caller older.there in
      let after = (only_caller s event there).other_callers caller other ∙ before in
      inr (stays possible (rw (get_or_from_slice_get (effect s event).callers caller (caller_at s caller) _ after) older.active)))
      (cases_eq caller (caller_of event))

-- once the holder is quiet, nobody is active in the generation in which its grace began
none_older : (holder caller : ℕ) (s : Generations) → IsOlder holder caller s → IsQuiet s holder → ⊥
none_older holder caller s older quiet =
    let course : Course = older.course in
    let h = older.in_course in
    let fits = role_there course course.stage holder h.stage older.held in
    let known = holder_from_role course s holder h (h.role ∙ older.held) (rw h.many_callers fits.0) in
    let stage : course.stage ≡ Quiet = sym known.grace ∙ quiet in
    let step : course.base ≡ course.base + 1 =
    rw stage at (h.activities_in_step caller (caller_at s caller) (at_caller course s h caller older.there) course.base older.active) in
    omega arith

ended : (holder caller : ℕ) (events : List GenEvent) (s : Generations) → IsOlder holder caller s
    → AreInRange (length s.callers) events
    → ¬ Occurs (GiveRole holder) events s → IsQuiet (run events s) holder → Occurs (Leave caller) events s
ended holder caller [] s older in_range keeps quiet = absurd (none_older holder caller s older quiet)
ended holder caller (event ∷ events) s older in_range keeps quiet =
    ⊎_elim
    (λ (left : (event ≡ Leave caller) × (is_possible s event ≡ true)).
    subst (λ e. Occurs e (event ∷ events) s) left.0 (occurs_here event events s left.1))
    (λ (still : IsOlder holder caller (happens s event)).
    occurs_later (Leave caller) event events s
    (ended holder caller events (happens s event) still (rw (happens_only s event in_range.0).many_callers in_range.1)
    (λ given. keeps (occurs_later (GiveRole holder) event events s given)) quiet))
    (older_or_left holder caller s event older in_range.0
    (λ possible e. keeps (subst (λ ev. Occurs ev (event ∷ events) s) e (occurs_here event events s possible))))

-- as the role is taken, each caller that is active is older
taken_older : (s : Generations) (holder caller : ℕ) → IsSound s → FindsRoleFree s holder
    → holder < length s.callers → caller < length s.callers
    → IsActive s caller → IsOlder holder caller (happens s (TakeRole holder))
taken_older s holder caller sound takes there there' active =
    by_test (is_possible s (TakeRole holder)) s.role takes.possible takes.free
    (keeps_effect sound.course s (TakeRole holder) sound.in_course there takes.possible) where
      own : (generation : ℕ) × ((caller_at s caller).active ≡ Some generation)
      own = from_is_some (caller_at s caller).active active

      inactive : (caller_at s holder).active ≡ None
      inactive = from_is_none (caller_at s holder).active (and_parts (is_idle (caller_at s holder).grace) _ (and_parts _ _ takes.possible).0).1

      apart : caller ≢ holder
      apart same = let was = own.1 in let now : (caller_at s caller).active ≡ None = rw same inactive in cc

      of_base : own.0 ≡ sound.course.base
      of_base =
          let idle : sound.course.stage ≡ Idle = idle_stage sound.course sound.course.stage sound.in_course.stage (sym sound.in_course.role ∙ takes.free) in
          rw idle at (sound.in_course.activities_in_step caller (caller_at s caller) (at_caller sound.course s sound.in_course caller there') own.0 own.1)

      by_test : (b : Bool) (role : Option ℕ) → b ≡ true → role ≡ None
          → IsInCourse (course_taken sound.course holder (caller_at s holder) role) (taken s holder role)
          → IsOlder holder caller (cond b (taken s holder role) s)
      by_test false role possible free kept = cc
      by_test true (Some other) possible free kept = cc
      by_test true None possible free kept = record {
        course = course_taken sound.course holder (caller_at s holder) None;
        in_course = kept;
        held = refl;
        there = rw length-set there';
        active = rw (get_or-set_other s.callers holder caller (role_taken (caller_at s holder)) _ apart, own.1, of_base) refl;
      }

-- where the holder of the role is quiet, each caller that was active when it took the role has left
pub quiet_means_ended : (s : Generations) (events : List GenEvent) (holder caller : ℕ) → IsSound s
    → AreInRange (length s.callers) events
    → holder < length s.callers → caller < length s.callers → IsActive s caller → IsQuietGrace s events holder
    → HasLeft s events holder caller
quiet_means_ended s events holder caller sound in_range there there' active grace =
    ended holder caller events (happens s (TakeRole holder)) (taken_older s holder caller sound grace.takes there there' active)
    (rw (happens_only s (TakeRole holder) there).many_callers in_range) grace.keeps grace.quiet
