-- What the holder's grace tells of all: in a quiet one every activity is present, and nobody else moves it.
use Rattle.std.proofs.Common.{◌≡◌, ℕ, ◌<◌, ◌≢◌, ◌∙◌, Bool, true, false, cond, Option, Some, None, length, sym, refl}
use Rattle.std.proofs.lemmas.Option.{same_Some}
use Rattle.k42_places.proofs.Written.{get_or-set_related}
use Rattle.gen_core.specs.declared.event.GenEvent.{GenEvent}
use Rattle.gen_core.specs.declared.event.GenEvent.TheVariants.{Enter, Leave, TakeRole, LookAhead, Flip, Look, GiveRole}
use Rattle.gen_core.specs.declared.state.GenProc.{GenProc}
use Rattle.gen_core.specs.declared.state.GraceAt.TheVariants.{Idle, Quiet}
use Rattle.gen_core.specs.Plain.{Caller, Generations}
use Rattle.gen_core.specs.State.{fresh_proc, proc_at, caller_at, put_proc, put_caller}
use Rattle.gen_core.specs.Events.{is_even, caller_entered, proc_entered, caller_left, proc_left, home_of, taken, is_possible, effect, happens, caller_of}
use Rattle.gen_core.specs.Sound.{Course, holds_role, IsSound}
use Rattle.gen_core.specs.Runs.{IsQuiet}
use Rattle.gen_core.specs.Consequences.{AreAllPresent, IsOfNoHolder, KeepsGraces}
use Rattle.gen_core.proofs.Stages.{exit_is_counted}
use Rattle.gen_core.proofs.Frames.{holder_from_grace}
use Rattle.gen_core.proofs.Courses.{at_caller, at_home}
use Rattle.gen_core.proofs.Reached.{holds_from}

pub quiet_means_present : (s : Generations) (holder : ℕ) → IsSound s → holder < length s.callers → IsQuiet s holder
    → AreAllPresent s
quiet_means_present s holder sound there quiet c generation within active =
    let course : Course = sound.course in
    let h = sound.in_course in
    let known = (holder_from_grace course s h holder (caller_at s holder) (at_caller course s h holder there) (λ idle. absurd (cc))).1 in
    let stage : course.stage ≡ Quiet = sym known.grace ∙ quiet in
    let own = rw stage at (h.activities_in_step c (caller_at s c) (at_caller course s h c within) generation active) in
    let present = rw stage at (h.generations_in_step (caller_at s c).proc (home_of s c) (at_home course s h c within)) in
    own ∙ sym present

-- a caller with a grace under way is the holder, so its event is the holder's
module _ (s : Generations) (sound : IsSound s) (event : GenEvent) (there : caller_of event < length s.callers) where
  not_busy : (role : Option ℕ) → s.role ≡ role → IsOfNoHolder role event
      → (caller_at s (caller_of event)).grace ≢ Idle → ⊥
  not_busy role found other busy =
      apart role (sym found ∙ sound.in_course.role ∙ holds_from sound.course.holder (caller_of event) holds) other where
        holds : holds_role sound.course.holder (caller_of event) ≡ true
        holds = (holder_from_grace sound.course s sound.in_course (caller_of event) (caller_at s (caller_of event))
            (at_caller sound.course s sound.in_course (caller_of event) there) busy).0

        apart : (role : Option ℕ) → role ≡ Some (caller_of event) → IsOfNoHolder role event → ⊥
        apart None e other = absurd (cc)
        apart (Some holder) e other = other (sym (same_Some holder (caller_of event) e))

abbrev SameGrace : Caller → Caller → Type 0
SameGrace x y = y.grace ≡ x.grace

abbrev SameGeneration : GenProc → GenProc → Type 0
SameGeneration k l = l.generation ≡ k.generation

keeps_all : (s : Generations) → KeepsGraces s s
keeps_all s = record { role = refl; graces = λ c. refl; generations = λ p. refl }

-- a caller and a processor that change in their activities alone
keeps_graces : (s : Generations) (c q : ℕ) (x : Caller) (k : GenProc) → SameGrace (caller_at s c) x → SameGeneration (proc_at s q) k
    → KeepsGraces s (put_proc (put_caller s c x) q k)
keeps_graces s c q x k grace generation = record {
  role = refl;
  graces = λ i. get_or-set_related SameGrace (λ y. refl) s.callers c i x _ grace;
  generations = λ p. get_or-set_related SameGeneration (λ l. refl) s.procs q p k fresh_proc generation;
}

left_keeps : (k : GenProc) (active : Option ℕ) → SameGeneration k (proc_left k active)
left_keeps k None = refl
left_keeps k (Some generation) = (exit_is_counted k (is_even generation)).generation

module _ (s : Generations) (sound : IsSound s) where
  effect_keeps : (event : GenEvent) → caller_of event < length s.callers → IsOfNoHolder s.role event
      → is_possible s event ≡ true → KeepsGraces s (effect s event)
  effect_keeps (Enter c) there other possible =
      keeps_graces s c (caller_at s c).proc (caller_entered (caller_at s c) (home_of s c)) (proc_entered (home_of s c)) refl refl
  effect_keeps (Leave c) there other possible =
      keeps_graces s c (caller_at s c).proc (caller_left (caller_at s c)) (proc_left (home_of s c) (caller_at s c).active) refl
      (left_keeps (home_of s c) (caller_at s c).active)
  effect_keeps (TakeRole c) there other possible = by_role s.role other where
    by_role : (role : Option ℕ) → IsOfNoHolder role (TakeRole c) → KeepsGraces s (taken s c role)
    by_role None other = absurd (other refl)
    by_role (Some holder) other = keeps_all s
  effect_keeps (LookAhead c) there other possible = absurd (not_busy s sound (LookAhead c) there s.role refl other (λ idle. absurd (cc)))
  effect_keeps (Flip c) there other possible = absurd (not_busy s sound (Flip c) there s.role refl other (λ idle. absurd (cc)))
  effect_keeps (Look c) there other possible = absurd (not_busy s sound (Look c) there s.role refl other (λ idle. absurd (cc)))
  effect_keeps (GiveRole c) there other possible = absurd (not_busy s sound (GiveRole c) there s.role refl other (λ idle. absurd (cc)))

pub only_the_holder_moves : (s : Generations) (event : GenEvent) → IsSound s → caller_of event < length s.callers
    → IsOfNoHolder s.role event → KeepsGraces s (happens s event)
only_the_holder_moves s event sound there other = by_test (is_possible s event) refl where
  by_test : (b : Bool) → is_possible s event ≡ b → KeepsGraces s (cond b (effect s event) s)
  by_test true possible = effect_keeps s sound event there other possible
  by_test false possible = keeps_all s
