-- How far a grace has gone on, for the pass that steps it.
use Rattle.std.specs.Prelude.{◌≡◌, ℕ, ◌+◌, ◌<◌, ◌≤◌, ◌%◌, ◌^◌, Bool, true, false, List, [], ◌∷◌, Option, Some, None, is_some, length, slice_index, unwrap_or}
use Rattle.k42_limits.specs.declared.TheConstants.{CALLERS}
use Rattle.gen_core.specs.Events.{is_looking}
use Rattle.gen_core.specs.declared.state.GraceAt.TheVariants.{Looking}
use Rattle.phase_core.specs.Effects.{drained_at}
use Rattle.k42_stamp.specs.Layouts.{Layouts}
use Rattle.k42_board.specs.Gracing.{MayTakeRole, role_view}
use Rattle.k42_board.specs.Log.{Grows, Extends, EndsWith, step_at, took, with_log}
use Rattle.k42_board.specs.Protocol.{take_role}
use Rattle.k42_board.specs.Stepping.{Takes}
use Rattle.k42_board.specs.Words.{exits_word, role_word}
use Rattle.k42_board.specs.declared.view.PassView.{PassView}
use Rattle.k42_board.specs.declared.view.StepName.TheVariants as steps
use Rattle.k42_board.specs.declared.view.Taken.{Taken}
use Rattle.k42_quiesce.specs.declared.steps.GraceStep.{GraceStep}
use Rattle.k42_quiesce.specs.declared.steps.GraceStep.TheVariants.{Again, Quiet}
use Rattle.k42_quiesce.specs.declared.steps.Held.{Held}
use Rattle.k42_quiesce.specs.declared.steps.Held.TheVariants.{Left, RoleHeld}

-- its grace has taken the role and is not quiet yet; it looks at the processors
pub record MayGoOn {P O R : Type 0} (holder : ℕ) (v : PassView P O R) : Type 0 where
  pub own : v.number ≡ holder
  pub looking : is_looking v.turn.grace ≡ true

-- A grace that nobody has taken the role for may begin; another goes on with the same pass.
abbrev pub MayStep : {P O R : Type 0} → Option ℕ → PassView P O R → Type 0
MayStep None v = MayTakeRole v
MayStep (Some holder) v = MayGoOn holder v

-- the pass as its grace has the role: where it has not, it takes it
abbrev pub with_role : {P O R : Type 0} → Option ℕ → PassView P O R → PassView P O R
with_role None v = took steps.TakeRole role_word 0 (role_view 0 v)
with_role (Some holder) v = v

-- By steps of its grace alone the one view has become the other; a swap that drains is drained as the grace is quiet.
pub record GoesOn {P O R : Type 0} (v w : PassView P O R) : Type 0 where
  pub turn :
      w.turn ≡ record v.turn { grace = w.turn.grace; coming = w.turn.coming; waits = w.turn.waits }
  pub procs : length w.turn.waits ≡ length v.turn.waits
  pub visitor : w.visitor ≡ record v.visitor { swap = drained_at w.turn.grace v.visitor.swap }
  pub base : is_some v.base ≡ true → w.base ≡ v.base
  pub rest : w ≡ record v { turn = w.turn; visitor = w.visitor; base = w.base; log = w.log }
  pub log : Extends v.log w.log
  pub frees_none : Grows v.log w.log

-- The last of its steps looked at the processor's exits of the generation that its grace has ended. They are fewer than
-- the entries that the grace noted there, by so many; of both counts it has seen the lower 32 bits.
pub record IsLeft {P O R : Type 0} (proc left : ℕ) (v w : PassView P O R) : Type 0 where
  pub at : w.turn.grace ≡ Looking proc
  pub there : proc < length w.turn.waits
  pub some : 0 < left
  pub exits : ℕ
  pub looked : EndsWith (step_at steps.Look (exits_word proc (unwrap_or w.base 0 % 2)) exits) v.log w.log
  pub short : (exits + left) % 2 ^ 32 ≡ slice_index w.turn.waits proc
  pub few : left ≤ CALLERS

abbrev pub IsLeftOf : {P O R : Type 0} → Held → PassView P O R → PassView P O R → Type 0
IsLeftOf (Left proc left) v w = IsLeft proc left v w
IsLeftOf (RoleHeld holder) v w = ⊥

-- by the answer to a step the pass has the role
abbrev pub has_role : GraceStep → Bool
has_role Quiet = true
has_role (Again (Left proc left)) = true
has_role (Again (RoleHeld holder)) = false

-- it has tried to take the role, once for each of these callers, and has found it with that caller; the last comes first
abbrev pub after_tries : List ℕ → List Taken → List Taken
after_tries [] log = log
after_tries (holder ∷ holders) log = step_at steps.TakeRole role_word (holder + 1) ∷ after_tries holders log

abbrev pub refused_by : {P O R : Type 0} → List ℕ → PassView P O R → PassView P O R
refused_by holders v = with_log (after_tries holders v.log) v

module _ {S L P O R : Type 0} (F : Layouts S L P O R) (declared : List L) where
  -- it takes the role: what its grace notes then is above the rows that it holds
  abbrev pub TakesRole : ℕ → PassView P O R → Type 0
  TakesRole id v = Takes F declared take_role id v 0 (with_role None v)

  -- after tries that found the role with these callers it has taken it, and its grace has gone on
  pub record HasGraced (id : ℕ) (old new : PassView P O R) : Type 0 where
    pub holders : List ℕ
    pub takes : TakesRole id (refused_by holders old)
    pub goes : GoesOn (with_role None (refused_by holders old)) new
