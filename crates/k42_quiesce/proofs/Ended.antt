-- While a grace is quiet, the activities of the generation in which it took the role have ended.
use Rattle.std.proofs.Common.{◌≡◌, ℕ, ◌+◌, ◌<◌, Bool, true, false, ltb, List, [], Some, None, length, refl, ap, ◌∙◌, arith}
use Rattle.std.proofs.lemmas.Bool.{ltb-true, ltb-false}
use Rattle.std.proofs.lemmas.List.{get_or_past}
use Rattle.std.proofs.lemmas.Option.{slice_get-get_or}
use Rattle.gen_core.specs.Events.{is_idle}
use Rattle.gen_core.specs.Plain.{Caller, Generations}
use Rattle.gen_core.specs.Sound as gen
use Rattle.gen_core.specs.Sound.{generation_of, is_flipped}
use Rattle.gen_core.specs.State.{caller_at, proc_at, fresh_proc}
use Rattle.gen_core.specs.declared.state.GraceAt.{GraceAt}
use Rattle.gen_core.specs.declared.state.GraceAt.TheVariants.{Idle, Quiet}
use Rattle.gen_core.proofs.Holding.{quiet_means_present}
use Rattle.gen_core.proofs.Ranges.{home_there}
use Rattle.phase_core.proofs.Ranges.{turns_sound}
use Rattle.phase_core.proofs.Reached.{turn_there}
use Rattle.k42_stamp.specs.Layouts.{Layouts}
use Rattle.k42_board.specs.Steps.{Always}
use Rattle.k42_board.specs.declared.view.PassView.{PassView}
use Rattle.k42_board.proofs.OnePass.{known}
use Rattle.k42_quiesce.specs.Quiet.{HaveEnded}

-- who is active is one of the callers
pub active_there : (s : Generations) (c generation : ℕ) → (caller_at s c).active ≡ Some generation → c < length s.callers
active_there s c generation active = by_test (ltb c (length s.callers)) refl where
  by_test : (b : Bool) → ltb c (length s.callers) ≡ b → c < length s.callers
  by_test true e = ltb-true c (length s.callers) e
  by_test false e =
      let none = get_or_past s.callers c (record { proc = 0; active = None; grace = Idle; coming = None; waits = [] }) (ltb-false c (length s.callers) e) in
      absurd (let idle : (caller_at s c).active ≡ None = ap (λ (x : Caller). x.active) none in cc)

module _ {S L P O R : Type 0} (F : Layouts S L P O R) (declared : List L) (id : ℕ) (v : PassView P O R) where
  pub quiet_always : (base : ℕ) → v.turn.grace ≡ Quiet → v.base ≡ Some base → Always F declared id v (HaveEnded base)
  quiet_always base quiet found table r at c generation active =
      let s = r.state.phases.turns in
      let knows = known F declared table r id v at in
      let sound : gen.IsSound s = turns_sound r.state.phases r.sound.phases in
      let holder = turn_there r.state.phases r.sound.phases v.number knows.there in
      let there = active_there s c generation active in
      let own : (caller_at s v.number).grace ≡ Quiet = ap (λ (x : Caller). x.grace) knows.generations.turn ∙ quiet in
      let present = quiet_means_present s v.number sound holder own c generation there active in
      let home = home_there s c sound there in
      let at_home = slice_get-get_or s.procs (caller_at s c).proc fresh_proc home in
      let flipped : (proc_at s (caller_at s c).proc).generation ≡ base + 1 =
      knows.generations.base base found (ap is_idle quiet) (caller_at s c).proc (proc_at s (caller_at s c).proc) at_home
      ∙ ap (λ (grace : GraceAt). generation_of base (is_flipped grace (caller_at s c).proc)) quiet in
      omega (arith, present, flipped)
