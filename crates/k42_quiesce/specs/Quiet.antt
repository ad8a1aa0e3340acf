-- What a quiet grace promises.
use Rattle.std.specs.Prelude.{◌≡◌, ℕ, ◌<◌, List, ◌∷◌, Some, None}
use Rattle.gen_core.specs.declared.event.GenEvent.TheVariants.{GiveRole}
use Rattle.gen_core.specs.declared.state.GraceAt.TheVariants.{Quiet}
use Rattle.gen_core.specs.State.{caller_at}
use Rattle.phase_core.specs.Event.{Turn, TakeRoleWith}
use Rattle.k42_stamp.specs.Layouts.{Layouts}
use Rattle.k42_stamp.specs.Orders.{In}
use Rattle.k42_joined.specs.Event.{Event, AtPhases}
use Rattle.k42_joined.specs.Plain.{Joined}
use Rattle.k42_joined.specs.Runs.{Leads}
use Rattle.k42_board.specs.Steps.{Always}
use Rattle.k42_board.specs.declared.view.PassView.{PassView}

-- the generation of a caller's activity, where it has one
abbrev pub IsActiveIn : {L O R : Type 0} → Joined L O R → ℕ → ℕ → Type 0
IsActiveIn s c generation = (caller_at s.phases.turns c).active ≡ Some generation

-- no activity of this generation or a former one is under way
abbrev pub HaveEnded : {L O R : Type 0} → ℕ → Joined L O R → Type 0
HaveEnded base s = (c generation : ℕ) → IsActiveIn s c generation → base < generation

module _ {S L P O R : Type 0} (F : Layouts S L P O R) (declared : List L) where
  -- The grace is quiet, and in every state that the table shows meanwhile the activities of the generation in which
  -- it took the role, and of all before, have ended.
  pub record IsQuiet (id : ℕ) (v : PassView P O R) : Type 0 where
    pub quiet : v.turn.grace ≡ Quiet
    pub base : ℕ
    pub found : v.base ≡ Some base
    pub ended : Always F declared id v (HaveEnded base)

  -- Whatever happens from the taking of the free role to a state in which this grace is quiet.
  pub record IsGrace (taking quiet : Joined L O R) (c : ℕ) (notes : List (ℕ × ℕ)) (events : List (Event L O R)) : Type 0 where
    pub free : taking.phases.turns.role ≡ None
    pub leads : Leads F declared (AtPhases (TakeRoleWith c notes) ∷ events) taking quiet
    pub keeps : ¬ In (AtPhases (Turn (GiveRole c))) events
    pub is_quiet : (caller_at quiet.phases.turns c).grace ≡ Quiet
