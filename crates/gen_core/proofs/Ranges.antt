-- What the code of an event needs: that places are there, and that numbers fit.
use Rattle.std.proofs.Common.{◌≡◌, ℕ, ◌+◌, ◌^◌, ◌<◌, ◌≤◌, ◌∙◌, length, sym, arith}
use Rattle.std.proofs.lemmas.Bool.{le-ltb}
use Rattle.k42_limits.specs.declared.TheConstants.{PROCESSORS}
use Rattle.gen_core.specs.declared.state.GraceAt.TheVariants.{Flipping, Looking}
use Rattle.gen_core.specs.Plain.{Generations}
use Rattle.gen_core.specs.State.{proc_at, caller_at}
use Rattle.gen_core.specs.Sound.{IsHolder, IsSound}
use Rattle.gen_core.proofs.Frames.{holder_from_grace}
use Rattle.gen_core.proofs.Courses.{at_caller, proc_there, place_there, at_turn}

module _ (s : Generations) (c : ℕ) (sound : IsSound s) (there : c < length s.callers) where
  pub home_there : (caller_at s c).proc < length s.procs
  home_there = proc_there sound.course s sound.in_course c there

  -- a caller notes a number for each processor
  pub length-waits : length (caller_at s c).waits ≡ length s.procs
  length-waits = (sound.in_course.placed c (caller_at s c) (at_caller sound.course s sound.in_course c there)).waits ∙ sym sound.in_course.many_procs

  pub few_procs : length s.procs ≤ PROCESSORS
  few_procs = rw sound.in_course.many_procs sound.in_course.limits.few_procs

  pub flipping_there : (p : ℕ) → (caller_at s c).grace ≡ Flipping p → p < length s.procs
  flipping_there p grace = rw grace at (place_there sound.course s sound.in_course c there (λ idle. absurd (cc)))

  pub looking_there : (p : ℕ) → (caller_at s c).grace ≡ Looking p → p < length s.procs
  looking_there p grace = rw grace at (place_there sound.course s sound.in_course c there (λ idle. absurd (cc)))

  module _ (p : ℕ) (grace : (caller_at s c).grace ≡ Flipping p) where
    holder : IsHolder sound.course (caller_at s c)
    holder =
        (holder_from_grace sound.course s sound.in_course c (caller_at s c) (at_caller sound.course s sound.in_course c there)
        (λ idle. absurd (cc))).1

    at_stage : sound.course.stage ≡ Flipping p
    at_stage = sym holder.grace ∙ grace

    -- the next generation of the processor to be flipped fits its field
    pub next_fits : (proc_at s p).generation + 1 < 2 ^ 32
    next_fits =
        let at_p = rw grace at (at_turn sound.course s sound.in_course c there (λ idle. absurd (cc))) in
        let in_step = rw (at_stage, le-ltb p p (omega arith)) at (sound.in_course.generations_in_step p (proc_at s p) at_p) in
        let fits = rw at_stage at sound.in_course.stage in
        rw in_step fits.2

-- what the code of a flip and of a look cites
pub ruleset flipping = (flipping_there, few_procs, length-waits, next_fits)

pub ruleset looking = (looking_there, few_procs, length-waits)
