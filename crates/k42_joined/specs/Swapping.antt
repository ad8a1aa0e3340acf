-- What an event of tables and swaps needs of cells and hands, and what is kept of its caller after it.
use Rattle.std.specs.Prelude.{ℕ, Bool, true, false, not, ◌&&◌, ◌||◌, ◌==◌, List, [], ◌∷◌, Some}
use Rattle.gen_core.specs.declared.event.GenEvent.TheVariants.{GiveRole}
use Rattle.phase_core.specs.Event.{Event as PhaseEvent, Turn, Install, StepOut, EndCall, Begin, TurnOver, Unblock, Clear}
use Rattle.phase_core.specs.Plain.{Object}
use Rattle.phase_core.specs.Stages.{object_named}
use Rattle.phase_core.specs.declared.caller.SwapAt.{SwapAt}
use Rattle.phase_core.specs.declared.caller.SwapAt.TheVariants.{Opened}
use Rattle.k42_joined.specs.Plain.{Kept, Joined}
use Rattle.k42_joined.specs.State.{object, swap_of, held, kept_of, keep, layouts_of, is_handed}
use Rattle.k42_joined.specs.Found.{answer_found}

abbrev pub holds_none : List ℕ → Bool
holds_none [] = true
holds_none (n ∷ cells) = false

-- the layout with which the newest row was handed on has this tag
abbrev pub is_newest_tag : {L : Type 0} → (L → ℕ) → List L → ℕ → Bool
is_newest_tag tag_of [] tag = false
is_newest_tag tag_of (layout ∷ layouts) tag = tag_of layout == tag

-- a swap that was opened again, and was not turned over, needs its Abandoned
abbrev pub may_clear : SwapAt → Object → Bool → Bool
may_clear (Opened o) k abandoned = k.complete || abandoned
may_clear swap k abandoned = true

module _ {L O R : Type 0} (s : Joined L O R) where
  -- a swap that moves its object turns it over after its hand, and gives up only before
  abbrev pub may_turn_over : (L → ℕ) → ℕ → ℕ → Bool
  may_turn_over tag_of o tag = is_handed s o && is_newest_tag tag_of (layouts_of s o) tag

  -- what the event needs of cells and hands
  abbrev pub may_at_phases : (L → ℕ) → PhaseEvent → Bool
  may_at_phases tag_of (Install c o) = holds_none (held s c)
  may_at_phases tag_of (EndCall c) = holds_none (held s c)
  may_at_phases tag_of (StepOut c) = holds_none (held s c)
  may_at_phases tag_of (Turn (GiveRole c)) = holds_none (held s c)
  may_at_phases tag_of (TurnOver c tag) =
      holds_none (held s c) && may_turn_over tag_of (object_named (swap_of s c)) tag
  may_at_phases tag_of (Unblock c) = holds_none (held s c) && not (is_handed s (object_named (swap_of s c)))
  may_at_phases tag_of (Clear c) =
      may_clear (swap_of s c) (object s (object_named (swap_of s c))) (kept_of s c).abandoned
  may_at_phases tag_of event = true

  -- what is kept after it
  abbrev pub kept_after_phases : PhaseEvent → List (Kept R)
  kept_after_phases (Begin c o) = keep s c (record (kept_of s c) { begun = Some o; found = answer_found (object s o) })
  kept_after_phases (Unblock c) = keep s c (record (kept_of s c) { abandoned = false })
  kept_after_phases event = s.kept
