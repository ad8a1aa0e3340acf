-- What a step tells of its seat, as a step that was taken.
use Rattle.std.proofs.Common.{◌≡◌, ℕ, [], ◌∷◌, Option, Some, None, refl, sym, ap, ◌∙◌, subst}
use Rattle.atomic_table.specs.Table.{Step}
use Rattle.atomic_table.specs.declared.shared.Seat.{Seat}
use Rattle.k42_stamp.specs.Layouts.{Layouts}
use Rattle.k42_joined.specs.Event.{Event}
use Rattle.k42_board.specs.Cells.{Slot}
use Rattle.k42_board.specs.Log.{took}
use Rattle.k42_board.specs.Plan.{LayoutWords}
use Rattle.k42_board.specs.Seen.{IsSeatOf}
use Rattle.k42_board.specs.Stepping.{WordStep, DoesEvent, HasTaken, layouts_by}
use Rattle.k42_board.specs.Steps.{Seated, on_pass, Tells}
use Rattle.k42_board.specs.Views.{pass_in}
use Rattle.k42_board.specs.declared.setup.Setup.{Setup}
use Rattle.k42_board.specs.declared.view.PassView.{PassView}
use Rattle.k42_board.specs.declared.view.StepName.{StepName}
use Rattle.k42_board.specs.declared.view.View.{View}
use Rattle.k42_board.specs.declared.view.View.TheVariants.{Crew}
use Rattle.k42_board.proofs.Moves.{Moves, Stays, Finds, moves_is, stays_is}

module _ {S L P O R : Type 0} (words : LayoutWords S L P O R) (key : Setup L) (step : PassView P O R → WordStep S L P O R) (old new : Seat (Slot P O R) (View P O R)) where
  abbrev before : PassView P O R
  before = pass_in old.me.0

  abbrev F : Layouts S L P O R
  F = layouts_by words key

  -- by what the step tells its pass, where that comes to what the row says of this pass
  pub has_taken_by : IsSeatOf old.me before → new.table_id ≡ old.table_id → new.id ≡ old.id → (changed : ℕ → PassView P O R → PassView P O R)
      → (at : Step (Slot P O R)) (found : ℕ) → changed found before ≡ (step before).after found
      → Tells changed at old.me found new.me → (step before).Finds found
      → ((new_is : (step before).after found ≡ pass_in new.me.0) → DoesEvent F key.layouts.items (step before).event (step before).word (step before).changed
      old.id before found (pass_in new.me.0))
      → HasTaken words key step old found new
  has_taken_by is table seat changed at found same told finds event =
      let alone : IsSeatOf new.me ((step before).after found) =
      told ∙ ap (λ (m : Seated P O R). (on_pass (changed found) m.0, m.1)) is ∙ ap (λ (v : PassView P O R). (Crew (v ∷ []), [])) same in
      record {
        table = table;
        seat = seat;
        alone = alone;
        takes = record {
          knows = ap (λ (m : Seated P O R). pass_in m.0) alone;
          finds = finds;
          event = event (sym (ap (λ (m : Seated P O R). pass_in m.0) alone));
        };
      }

  pub has_taken : IsSeatOf old.me before → new.table_id ≡ old.table_id → new.id ≡ old.id → (at : Step (Slot P O R)) (found : ℕ)
      → Tells (λ n v. (step v).after n) at old.me found new.me → (step before).Finds found
      → DoesEvent F key.layouts.items (step before).event (step before).word (step before).changed
      old.id before found (pass_in new.me.0)
      → HasTaken words key step old found new
  has_taken is table seat at found told finds event = has_taken_by is table seat (λ n v. (step v).after n) at found refl told finds (λ new_is. event)

  -- The same of a step that logs the number of its word, which is the row's.
  module _ (name : StepName) (told : ℕ → ℕ) (view : ℕ → PassView P O R → PassView P O R)
      (is : IsSeatOf old.me before) (table : new.table_id ≡ old.table_id) (seat : new.id ≡ old.id) where
    abbrev logged : ℕ → ℕ → PassView P O R → PassView P O R
    logged word found v = took name word (told found) (view found v)

    pub has_moved : {event : Event L O R} {word : ℕ} → Moves F key.layouts.items event word (step before).changed (logged word) old.id before
        → word ≡ (step before).word → Some event ≡ (step before).event → (at : Step (Slot P O R)) (found : ℕ)
        → logged (step before).word found before ≡ (step before).after found
        → Tells (logged word) at old.me found new.me → (step before).Finds found → HasTaken words key step old found new
    has_moved {word = word} moves here happens at found after tells finds =
        let same = ap (λ (i : ℕ). took name i (told found) (view found before)) here ∙ after in
        has_taken_by is table seat (logged word) at found same tells finds
        (λ new_is.
        subst (λ (z : ℕ × (Option (Event L O R) × PassView P O R)). DoesEvent F key.layouts.items z.1.0 z.0 (step before).changed old.id before found z.1.1)
        (λ j. (here j, (happens j, (same ∙ new_is) j)))
        (moves_is moves found))

    pub has_stayed : {word : ℕ} (Facts : PassView P O R → ℕ → Type 0) → Finds F key.layouts.items word Facts old.id before
        → Stays F key.layouts.items word (step before).changed (logged word) old.id before
        → word ≡ (step before).word → None ≡ (step before).event → (at : Step (Slot P O R)) (found : ℕ)
        → logged (step before).word found before ≡ (step before).after found
        → Tells (logged word) at old.me found new.me → (step before).Finds found → HasTaken words key step old found new
    has_stayed {word} Facts facts stays here happens at found after tells finds =
        let same = ap (λ (i : ℕ). took name i (told found) (view found before)) here ∙ after in
        has_taken_by is table seat (logged word) at found same tells finds
        (λ new_is.
        subst (λ (z : ℕ × (Option (Event L O R) × PassView P O R)). DoesEvent F key.layouts.items z.1.0 z.0 (step before).changed old.id before found z.1.1)
        (λ j. (here j, (happens j, (same ∙ new_is) j)))
        (stays_is stays Facts facts found))
