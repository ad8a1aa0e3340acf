-- A step of one pass, as an event of the joined machine.
use Rattle.std.specs.Prelude.{◌≡◌, ℕ, List, [], ◌∷◌, slice_index}
use mathlib.Core.Option.{some}
use lib.ListN.{get_elem?}
use Rattle.atomic_table.specs.Table.{State, Me, Step, keeps, stepped}
use Rattle.k42_stamp.specs.Layouts.{Layouts}
use Rattle.k42_joined.specs.Effects.{effect}
use Rattle.k42_joined.specs.Event.{Event}
use Rattle.k42_joined.specs.Plain.{Joined}
use Rattle.k42_joined.specs.Possible.{IsPossible}
use Rattle.k42_board.specs.Cells.{Slot}
use Rattle.k42_board.specs.Rule.{Rule}
use Rattle.k42_board.specs.Views.{pass_in}
use Rattle.k42_board.specs.declared.view.PassView.{PassView}
use Rattle.k42_board.specs.declared.view.View.{View}
use Rattle.k42_board.specs.declared.view.View.TheVariants.{Crew}

-- what becomes of the pass that alone has a seat
abbrev pub on_pass : {P O R : Type 0} → (PassView P O R → PassView P O R) → View P O R → View P O R
on_pass changed (Crew (v ∷ [])) = Crew (changed v ∷ [])
on_pass changed view = view

abbrev pub Seated : Type 0 → Type 0 → Type 0 → Type 0
Seated P O R = Me (Slot P O R) (View P O R)

-- the step tells its pass what it makes of the word that was found
abbrev pub Tells :
    {P O R : Type 0} → (ℕ → PassView P O R → PassView P O R) → Step (Slot P O R) → Seated P O R → ℕ → Seated P O R → Type 0
Tells changed step me found after = after ≡ (on_pass (changed found) me.0, me.1)

-- and what is so of the word, for a pass that knew this before
abbrev pub TellsWith :
    {P O R : Type 0} → (ℕ → PassView P O R → PassView P O R) → (PassView P O R → ℕ → Type 0) → Step (Slot P O R) → Seated P O R → ℕ → Seated P O R → Type 0
TellsWith changed Facts step me found after = Tells changed step me found after × Facts (pass_in me.0) found

module _ {S L P O R : Type 0} (F : Layouts S L P O R) (declared : List L) where
  -- Whatever state the table shows as the pass finds the word, the event is possible, and the state that the table
  -- shows after is that of the event.
  abbrev pub StepIs : Event L O R → ℕ → (ℕ → ℕ) → ℕ → PassView P O R → ℕ → PassView P O R → Type 0
  StepIs event word changed id v found w =
      (table : State (Slot P O R) (View P O R)) (r : Rule F declared table)
      → get_elem? table.views id ≡ some (Crew (v ∷ [])) → slice_index table.words word ≡ found
      → (after : Rule F declared (stepped table word (changed found) id [] (Crew (w ∷ [])) keeps))
      × (after.state ≡ effect r.state event) × IsPossible F declared r.state event

  -- or the state stays
  abbrev pub StateStays : ℕ → (ℕ → ℕ) → ℕ → PassView P O R → ℕ → PassView P O R → Type 0
  StateStays word changed id v found w =
      (table : State (Slot P O R) (View P O R)) (r : Rule F declared table)
      → get_elem? table.views id ≡ some (Crew (v ∷ [])) → slice_index table.words word ≡ found
      → (after : Rule F declared (stepped table word (changed found) id [] (Crew (w ∷ [])) keeps))
      × (after.state ≡ r.state)

  -- in every state that the table shows while the pass has this view
  abbrev pub Always : ℕ → PassView P O R → (Joined L O R → Type 0) → Type 0
  Always id v Q =
      (table : State (Slot P O R) (View P O R)) (r : Rule F declared table)
      → get_elem? table.views id ≡ some (Crew (v ∷ [])) → Q r.state
