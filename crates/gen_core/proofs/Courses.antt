-- Each event, and each list of events, keeps every fact.
use Rattle.std.proofs.Common.{◌≡◌, ℕ, ◌+◌, ◌<◌, Bool, true, false, cond, Option, Some, None, length, refl}
use Rattle.std.specs.List.{slice_get, slice_index}
use Rattle.std.specs.Option.{is_some}
use Rattle.std.proofs.lemmas.Option.{slice_get-get_or}
use Rattle.std.proofs.lemmas.Bool.{and_parts, eqb-true}
use Rattle.gen_core.specs.declared.event.GenEvent.{GenEvent}
use Rattle.gen_core.specs.declared.event.GenEvent.TheVariants.{Enter, Leave, TakeRole, LookAhead, Flip, Look, GiveRole}
use Rattle.gen_core.specs.declared.state.GraceAt.{GraceAt}
use Rattle.gen_core.specs.declared.state.GraceAt.TheVariants.{Idle, Flipping, Looking, Quiet}
use Rattle.gen_core.specs.Plain.{Caller, Generations}
use Rattle.gen_core.specs.State.{fresh_proc, caller_at, put_proc, put_caller}
use Rattle.gen_core.specs.Events.{is_even, other_exits, is_idle, is_looking, place_of, is_drained, caller_left, proc_left, exit_counted, role_taken, looked_ahead, caller_flipped, caller_passed, role_given, home_of, turn_of, taken, is_possible, effect, caller_of}
use Rattle.gen_core.specs.Sound.{Course, StageFits, IsInCourse}
use Rattle.gen_core.proofs.Stages.{from_is_idle, from_is_flipping, from_is_looking, from_is_quiet, from_is_none, from_is_some, exit_is_counted}
use Rattle.gen_core.proofs.Frames.{steered, holder_from_grace}
use Rattle.gen_core.proofs.Activities.{keeps_entered, keeps_left}
use Rattle.gen_core.proofs.Graces.{keeps_taken, keeps_looked_ahead, keeps_flipped, keeps_passed, keeps_given}

-- the course after an event

abbrev pub course_taken : Course → ℕ → Caller → Option ℕ → Course
course_taken course c x None = steered course course.base (Some c) (role_taken x)
course_taken course c x (Some holder) = course

abbrev pub course_looked : Course → Caller → ℕ → Bool → Course
course_looked course x procs true = steered course course.base course.holder (caller_passed x procs)
course_looked course x procs false = course

abbrev pub course_after : Course → Generations → GenEvent → Course
course_after course s (Enter c) = course
course_after course s (Leave c) = course
course_after course s (TakeRole c) = course_taken course c (caller_at s c) s.role
course_after course s (LookAhead c) = steered course course.base course.holder (looked_ahead (caller_at s c) (turn_of s c))
course_after course s (Flip c) = steered course course.base course.holder (caller_flipped (caller_at s c) (turn_of s c) (length s.procs))
course_after course s (Look c) = course_looked course (caller_at s c) (length s.procs) (is_drained (caller_at s c) (turn_of s c))
course_after course s (GiveRole c) = steered course (course.base + 1) None (role_given (caller_at s c))

-- the processor at which a grace is, is there
stage_place : (course : Course) (stage : GraceAt) → StageFits course stage → 0 < course.procs
    → place_of stage < course.procs
stage_place course Idle fits some = some
stage_place course (Flipping p) fits some = fits.1
stage_place course (Looking p) fits some = fits.1
stage_place course Quiet fits some = some

module _ (course : Course) (s : Generations) (h : IsInCourse course s) (c : ℕ) (there : c < length s.callers) where
  -- the caller of an event, its processor, and the one at which its grace is
  pub at_caller : slice_get s.callers c ≡ Some (caller_at s c)
  at_caller = slice_get-get_or s.callers c _ there

  pub proc_there : (caller_at s c).proc < length s.procs
  proc_there = rw h.many_procs (h.placed c (caller_at s c) at_caller).proc

  pub at_home : slice_get s.procs (caller_at s c).proc ≡ Some (home_of s c)
  at_home = slice_get-get_or s.procs (caller_at s c).proc fresh_proc proc_there

  pub place_there : ((caller_at s c).grace ≡ Idle → ⊥) → place_of (caller_at s c).grace < length s.procs
  place_there busy =
      let holder = (holder_from_grace course s h c (caller_at s c) at_caller busy).1 in
      rw (h.many_procs, holder.grace) (stage_place course course.stage h.stage h.limits.some_procs)

  pub at_turn : ((caller_at s c).grace ≡ Idle → ⊥)
      → slice_get s.procs (place_of (caller_at s c).grace) ≡ Some (turn_of s c)
  at_turn busy = slice_get-get_or s.procs (place_of (caller_at s c).grace) fresh_proc (place_there busy)

  keeps_leave : (active : Option ℕ) → (caller_at s c).active ≡ active → is_some active ≡ true
      → IsInCourse course (put_proc (put_caller s c (caller_left (caller_at s c))) (caller_at s c).proc (proc_left (home_of s c) active))
  keeps_leave None e possible = cc
  keeps_leave (Some own) e possible =
      keeps_left course s h c (caller_at s c) at_caller (home_of s c) at_home own e (exit_counted (home_of s c) (is_even own))
      (exit_is_counted (home_of s c) (is_even own))

  keeps_take : (role : Option ℕ) → s.role ≡ role → is_possible s (TakeRole c) ≡ true
      → IsInCourse (course_taken course c (caller_at s c) role) (taken s c role)
  keeps_take None free possible =
      let parts = and_parts _ _ possible in
      let alone = and_parts (is_idle (caller_at s c).grace) _ parts.0 in
      keeps_taken course s h c (caller_at s c) at_caller free (from_is_idle (caller_at s c).grace alone.0) (from_is_none (caller_at s c).active alone.1) parts.1
  keeps_take (Some holder) held possible = h

  keeps_look : (drained : Bool) → is_drained (caller_at s c) (turn_of s c) ≡ drained
      → is_looking (caller_at s c).grace ≡ true
      → IsInCourse (course_looked course (caller_at s c) (length s.procs) drained) (cond drained (put_caller s c (caller_passed (caller_at s c) (length s.procs))) s)
  keeps_look true drained looking =
      let grace = from_is_looking (caller_at s c).grace looking in
      keeps_passed course s h c (caller_at s c) at_caller (place_of (caller_at s c).grace) (turn_of s c) (at_turn (λ idle. absurd (cc)))
      grace (eqb-true (other_exits (turn_of s c)) (slice_index (caller_at s c).waits (place_of (caller_at s c).grace)) drained)
  keeps_look false drained looking = h

-- a possible event keeps every fact
pub keeps_effect : (course : Course) (s : Generations) (event : GenEvent) → IsInCourse course s
    → caller_of event < length s.callers → is_possible s event ≡ true
    → IsInCourse (course_after course s event) (effect s event)
keeps_effect course s (Enter c) h there possible =
    let x : Caller = caller_at s c in
    let alone = and_parts (is_idle x.grace) _ possible in
    keeps_entered course s h c x (at_caller course s h c there) (home_of s c) (at_home course s h c there)
    (from_is_idle x.grace alone.0) (from_is_none x.active alone.1)
keeps_effect course s (Leave c) h there possible = keeps_leave course s h c there (caller_at s c).active refl possible
keeps_effect course s (TakeRole c) h there possible = keeps_take course s h c there s.role refl possible
keeps_effect course s (LookAhead c) h there possible =
    let x : Caller = caller_at s c in
    let grace = from_is_flipping x.grace (and_parts _ _ possible).0 in
    keeps_looked_ahead course s h c x (at_caller course s h c there) (place_of x.grace) (turn_of s c) (at_turn course s h c there (λ idle. absurd (cc))) grace
keeps_effect course s (Flip c) h there possible =
    let x : Caller = caller_at s c in
    let parts = and_parts _ _ possible in
    let grace = from_is_flipping x.grace parts.0 in
    let known = from_is_some x.coming parts.1 in
    keeps_flipped course s h c x (at_caller course s h c there) (place_of x.grace) (turn_of s c) (at_turn course s h c there (λ idle. absurd (cc)))
    grace known.0 known.1
keeps_effect course s (Look c) h there possible = keeps_look course s h c there (is_drained (caller_at s c) (turn_of s c)) refl possible
keeps_effect course s (GiveRole c) h there possible =
    keeps_given course s h c (caller_at s c) (at_caller course s h c there) (from_is_quiet (caller_at s c).grace possible)
