-- The steps of generations, for one pass: where each may be taken, and what the pass knows after it.
use Rattle.std.specs.Prelude.{◌≡◌, ℕ, ◌≤◌, true, [], Some, None}
use Rattle.std.specs.Option.{unwrap_or}
use Rattle.k42_places.specs.Places.{EachPlace}
use Rattle.gen_core.specs.Events.{is_free}
use Rattle.phase_core.specs.Stages.{is_idle, is_out}
use Rattle.k42_board.specs.Values.{generation_in}
use Rattle.k42_board.specs.declared.view.PassView.{PassView}

-- it has no activity, no grace and no swap under way
pub record MayEnter {P O R : Type 0} (v : PassView P O R) : Type 0 where
  pub free : is_free v.turn ≡ true
  pub no_swap : is_idle v.visitor.swap ≡ true

abbrev pub entered_view : {P O R : Type 0} → ℕ → PassView P O R → PassView P O R
entered_view found v = record v { turn = record v.turn { active = Some (generation_in found) } }

-- no entry of it is of a later generation than the one found; and it is inside no call
pub record EnteredFound {P O R : Type 0} (v : PassView P O R) (found : ℕ) : Type 0 where
  pub times :
      EachPlace
      (λ place entry. (generation : ℕ) → entry.generation ≡ Some generation → generation ≤ generation_in found)
      v.taker.mine
  pub out : is_out v.visitor.place ≡ true

-- it has an activity, of this generation, and is inside no call
pub record MayLeave {P O R : Type 0} (generation : ℕ) (v : PassView P O R) : Type 0 where
  pub active : v.turn.active ≡ Some generation
  pub out : is_out v.visitor.place ≡ true

abbrev pub CanLeave : {P O R : Type 0} → PassView P O R → Type 0
CanLeave v = (generation : ℕ) × MayLeave generation v

-- the generation of its activity
abbrev pub active_in : {P O R : Type 0} → PassView P O R → ℕ
active_in v = unwrap_or v.turn.active 0

abbrev pub left_view : {P O R : Type 0} → PassView P O R → PassView P O R
left_view v = record v { turn = record v.turn { active = None }; visitor = record v.visitor { read = [] } }
