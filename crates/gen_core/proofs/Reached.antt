-- What is true after every list of events: the facts are kept, one caller holds the role, and the counts agree.
use Rattle.std.proofs.Common.{◌≡◌, ℕ, ◌+◌, ◌<◌, ◌≢◌, ◌∙◌, Bool, true, false, cond, List, [], ◌∷◌, Option, Some, None, length, sym, refl, ap, arith}
use Rattle.std.specs.List.{slice_get, slice_index}
use Rattle.std.proofs.lemmas.List.{length-map}
use Rattle.std.proofs.lemmas.Option.{slice_get-get_or}
use Rattle.std.proofs.lemmas.Bool.{MatchBool-at_true, eqb-true, eq-eqb}
use Rattle.gen_core.specs.declared.event.GenEvent.{GenEvent}
use Rattle.gen_core.specs.declared.state.GraceAt.{GraceAt}
use Rattle.gen_core.specs.declared.state.GraceAt.TheVariants.{Idle, Flipping, Looking, Quiet}
use Rattle.gen_core.specs.Plain.{Generations}
use Rattle.gen_core.specs.State.{proc_at, caller_at, fresh}
use Rattle.gen_core.specs.Events.{is_possible, effect, happens, caller_of}
use Rattle.gen_core.specs.Sound.{Course, is_flipped, is_passed, holds_role, StageFits, IsHolder, IsNoHolder, IsInCourse, IsSound}
use Rattle.gen_core.specs.Runs.{run, AreInRange, IsReached}
use Rattle.gen_core.specs.Consequences.{HasOneHolder, EntriesAre, WaitsFor, CountsAgree}
use Rattle.gen_core.proofs.Frames.{holder_from_grace}
use Rattle.gen_core.proofs.Courses.{course_after, at_caller, keeps_effect}
use Rattle.gen_core.proofs.Fresh.{IsSound-fresh}
use Rattle.gen_core.proofs.Alone.{happens_only}

-- lists of events

pub IsSound-happens : (s : Generations) (event : GenEvent) → IsSound s → caller_of event < length s.callers
    → IsSound (happens s event)
IsSound-happens s event sound there = by_test (is_possible s event) refl where
  by_test : (b : Bool) → is_possible s event ≡ b → IsSound (cond b (effect s event) s)
  by_test true possible = record { course = course_after sound.course s event; in_course = keeps_effect sound.course s event sound.in_course there possible }
  by_test false possible = sound

pub IsSound-run : (events : List GenEvent) (s : Generations) → IsSound s → AreInRange (length s.callers) events
    → IsSound (run events s)
IsSound-run [] s sound in_range = sound
IsSound-run (event ∷ events) s sound in_range =
    IsSound-run events (happens s event) (IsSound-happens s event sound in_range.0)
    (rw (happens_only s event in_range.0).many_callers in_range.1)

pub reached_sound : (s : Generations) → IsReached s → IsSound s
reached_sound s reached =
    rw reached.result (IsSound-run reached.events (fresh reached.procs reached.callers) (IsSound-fresh reached.procs reached.callers reached.plan)
    (rw length-map reached.in_range))

-- the facts in plain words

pub holds_from : (holder : Option ℕ) (c : ℕ) → holds_role holder c ≡ true → holder ≡ Some c
holds_from None c holds = cc
holds_from (Some h) c holds = ap (λ n. Some n) (eqb-true h c holds)

-- the holder of the role, from the role
pub holder_from_role : (course : Course) (s : Generations) (c : ℕ) → IsInCourse course s → s.role ≡ Some c
    → c < length s.callers → IsHolder course (caller_at s c)
holder_from_role course s c h held there =
    let holder : course.holder ≡ Some c = sym h.role ∙ held in
    let holds : holds_role course.holder c ≡ true = rw holder (eq-eqb c c refl) in
    MatchBool-at_true (IsHolder course (caller_at s c)) (IsNoHolder (caller_at s c)) holds (h.one_role_holder c (caller_at s c) (at_caller course s h c there))

pub role_there : (course : Course) (stage : GraceAt) (c : ℕ) → StageFits course stage → course.holder ≡ Some c
    → (c < course.callers) × (stage ≢ Idle)
role_there course Idle c fits held = absurd (let none = fits.0 in cc)
role_there course (Flipping p) c fits held = (rw held at fits.0, (λ e. cc))
role_there course (Looking p) c fits held = (rw held at fits.0, (λ e. cc))
role_there course Quiet c fits held = (rw held at fits.0, (λ e. cc))

pub one_holder : (s : Generations) → IsSound s → HasOneHolder s
one_holder s sound =
    let course : Course = sound.course in
    let h = sound.in_course in
    let place = λ (c : ℕ) (held : s.role ≡ Some c). role_there course course.stage c h.stage (sym h.role ∙ held) in
    let known = λ (c : ℕ) (held : s.role ≡ Some c). holder_from_role course s c h held (rw h.many_callers (place c held).0) in
    record {
      holder = λ c there busy.
          h.role ∙ holds_from course.holder c (holder_from_grace course s h c (caller_at s c) (at_caller course s h c there) busy).0;
      under_way = λ c held idle. (place c held).1 (sym (known c held).grace ∙ idle);
      inactive = λ c held. (known c held).inactive;
    }

-- where the holder waits for a processor, that is one generation ahead
module _ (s : Generations) (sound : IsSound s) (p holder : ℕ) (there : p < length s.procs) (waits : WaitsFor s holder p) where
  abbrev course : Course
  course = sound.course

  at_p : slice_get s.procs p ≡ Some (proc_at s p)
  at_p = slice_get-get_or s.procs p _ there

  known : IsHolder course (caller_at s holder)
  known =
      let place = role_there course course.stage holder sound.in_course.stage (sym sound.in_course.role ∙ waits.0) in
      holder_from_role course s holder sound.in_course waits.0 (rw sound.in_course.many_callers place.0)

  flipped : is_flipped course.stage p ≡ true
  flipped = rw (← (known.grace)) waits.1

  pub one_ahead : (proc_at s p).generation ≡ course.base + 1
  one_ahead = rw flipped at (sound.in_course.generations_in_step p (proc_at s p) at_p)

  -- what it waits for are the exits of the former generation and the callers active in it
  pub waits_agree : EntriesAre s p course.base (slice_index (caller_at s holder).waits p)
  waits_agree =
      let passed : is_passed course.stage p ≡ false = rw (← (known.grace)) waits.2 in
      rw known.waits ((sound.in_course.counted_generations p (proc_at s p) at_p).former flipped passed)

pub counts_agree : (s : Generations) → IsSound s → CountsAgree s
counts_agree s sound = record {
  present = λ p there. (sound.in_course.counted_generations p (proc_at s p) (slice_get-get_or s.procs p _ there)).present;
  former = λ p holder generation there waits before.
      let ahead = one_ahead s sound p holder there waits in
      let former : generation ≡ sound.course.base = omega (arith, before, ahead) in
      rw former (waits_agree s sound p holder there waits);
}
