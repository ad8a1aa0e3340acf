-- What a step of a pass is, and what it is to take one.
use Rattle.std.specs.Prelude.{◌≡◌, ℕ, ⊤, List, [], Option, Some, None}
use Rattle.atomic_table.specs.Seated.{TableId}
use Rattle.atomic_table.specs.Table.{Act}
use Rattle.atomic_table.specs.declared.shared.Seat.{Seat}
use Rattle.k42_stamp.specs.Laws.{AreLaws}
use Rattle.k42_stamp.specs.Layouts.{Layouts}
use Rattle.k42_joined.specs.Effects.{effect}
use Rattle.k42_joined.specs.Event.{Event}
use Rattle.k42_joined.specs.Plain.{Joined}
use Rattle.k42_joined.specs.Possible.{IsPossible}
use Rattle.k42_board.specs.Cells.{Slot}
use Rattle.k42_board.specs.Drawing.{IsDrawer, untold_view}
use Rattle.k42_board.specs.Plan.{LayoutWords, layouts_of}
use Rattle.k42_board.specs.Seen.{SysSeen, PassSeen, IsSeatOf, IsOf, IsSamePass}
use Rattle.k42_board.specs.Steps.{StepIs, StateStays, Always}
use Rattle.k42_board.specs.Taking.{ActIs, IsWhole}
use Rattle.k42_board.specs.Views.{pass_in}
use Rattle.k42_board.specs.Words.{many_words, lock_word}
use Rattle.k42_board.specs.declared.cell.Content.{Content}
use Rattle.k42_board.specs.declared.setup.Setup.{Setup}
use Rattle.k42_board.specs.declared.view.PassView.{PassView}
use Rattle.k42_board.specs.declared.view.View.{View}

-- A step on a word: which event it is, if it is one; which word it changes how; when it may be taken; what is so of the
-- word that it finds; and what the pass knows after it.
pub record WordStep (S L P O R : Type 0) : Type 1 where
  pub event : Option (Event L O R)
  pub word : ℕ
  pub changed : ℕ → ℕ
  pub May : Layouts S L P O R → List L → Type 0
  pub Finds : ℕ → Type 0
  pub after : ℕ → PassView P O R

-- A step that moves the slot of a cell: which event it is, if it is one; of which cell; what the pass has of slots, and
-- how that changes; and what the pass knows after it.
pub record SlotStep (L P O R : Type 0) : Type 0 where
  pub event : Option (Event L O R)
  pub cell : ℕ
  pub carried : List (ℕ × Slot P O R)
  pub act : Act (Slot P O R)
  pub after : PassView P O R

module _ {S L P O R : Type 0} (F : Layouts S L P O R) (declared : List L) where
  -- it is this event, or the state stays
  abbrev pub DoesEvent : Option (Event L O R) → ℕ → (ℕ → ℕ) → ℕ → PassView P O R → ℕ → PassView P O R → Type 0
  DoesEvent None = StateStays F declared
  DoesEvent (Some event) = StepIs F declared event

  -- The pass v, which has the seat id, has taken the step, found this word by it, and is w then.
  pub record Takes
      (step : PassView P O R → WordStep S L P O R) (id : ℕ) (v : PassView P O R) (found : ℕ) (w : PassView P O R)
      : Type 0 where
    pub knows : w ≡ (step v).after found
    pub finds : (step v).Finds found
    pub event : DoesEvent (step v).event (step v).word (step v).changed id v found w

  abbrev pub state_after : Option (Event L O R) → Joined L O R → Joined L O R
  state_after None s = s
  state_after (Some event) s = effect s event

  abbrev pub MayHappen : Option (Event L O R) → Joined L O R → Type 0
  MayHappen None s = ⊤
  MayHappen (Some event) s = IsPossible F declared s event

  -- The same of a step that moves a slot.
  pub record Moves (step : PassView P O R → SlotStep L P O R) (id : ℕ) (v w : PassView P O R) : Type 0 where
    pub knows : w ≡ (step v).after
    pub possible : Always F declared id v (MayHappen (step v).event)
    pub event :
        ActIs F declared (state_after (step v).event) (lock_word (step v).cell) id (step v).carried v (step v).act w

-- the layouts of a table
abbrev pub layouts_by : {S L P O R : Type 0} → LayoutWords S L P O R → Setup L → Layouts S L P O R
layouts_by words key = layouts_of words key.procs key.callers.items

-- the seat is of this table, whose layouts are lawful, and has one pass alone
pub record IsOfTable
    {S L P O R : Type 0} (words : LayoutWords S L P O R) (table : TableId) (key : Setup L) (seat : Seat (Slot P O R) (View P O R))
    : Type 0 where
  pub ours : seat.table_id ≡ table
  pub many : table.words ≡ many_words
  pub laws : AreLaws (layouts_by words key)
  pub alone : IsSeatOf seat.me (pass_in seat.me.0)

-- and the pass may take the step
pub record MayTake
    {S L P O R : Type 0} (words : LayoutWords S L P O R) (table : TableId) (key : Setup L)
    (step : PassView P O R → WordStep S L P O R) (seat : Seat (Slot P O R) (View P O R))
    : Type 0 where
  pub here : IsOfTable words table key seat
  pub may : (step (pass_in seat.me.0)).May (layouts_by words key) key.layouts.items

-- It has taken it, and is the same seat.
pub record HasTaken
    {S L P O R : Type 0} (words : LayoutWords S L P O R) (key : Setup L)
    (step : PassView P O R → WordStep S L P O R) (old : Seat (Slot P O R) (View P O R)) (found : ℕ) (new : Seat (Slot P O R) (View P O R))
    : Type 0 where
  pub table : new.table_id ≡ old.table_id
  pub seat : new.id ≡ old.id
  pub alone : IsSeatOf new.me ((step (pass_in old.me.0)).after found)
  pub takes :
      Takes (layouts_by words key) key.layouts.items step old.id (pass_in old.me.0) found (pass_in new.me.0)

-- It has moved a slot twice, out and back.
pub record HasMovedTwice
    {S L P O R : Type 0} (words : LayoutWords S L P O R) (key : Setup L)
    (first second : PassView P O R → SlotStep L P O R) (old new : Seat (Slot P O R) (View P O R))
    : Type 0 where
  pub table : new.table_id ≡ old.table_id
  pub seat : new.id ≡ old.id
  pub alone : IsSeatOf new.me (second (first (pass_in old.me.0)).after).after
  pub out :
      Moves (layouts_by words key) key.layouts.items first old.id (pass_in old.me.0) (first (pass_in old.me.0)).after
  pub back :
      Moves (layouts_by words key) key.layouts.items second old.id (first (pass_in old.me.0)).after (pass_in new.me.0)

-- the seat's pass knows the cell that it has taken
abbrev pub IsWholeIn :
    {S L P O R : Type 0} → LayoutWords S L P O R → Setup L → ℕ → Content P O R → Seat (Slot P O R) (View P O R) → Type 0
IsWholeIn words key n content seat =
    Always (layouts_by words key) key.layouts.items seat.id (pass_in seat.me.0)
    (IsWhole (layouts_by words key) key.layouts.items n content)

-- The same of a pass of a system.

abbrev pub layouts_in : {S L P O R : Type 0} → LayoutWords S L P O R → SysSeen L → Layouts S L P O R
layouts_in words sys = layouts_of words sys.procs sys.callers

pub record MayStep
    {S L P O R : Type 0} (words : LayoutWords S L P O R) (sys : SysSeen L) (step : PassView P O R → WordStep S L P O R) (pass : PassSeen P O R)
    : Type 0 where
  pub ours : IsOf sys pass
  pub may : (step pass.view).May (layouts_in words sys) sys.layouts

abbrev pub TakesIn :
    {S L P O R : Type 0} → LayoutWords S L P O R → SysSeen L → (PassView P O R → WordStep S L P O R) → PassSeen P O R → ℕ → PassSeen P O R → Type 0
TakesIn words sys step old found new = Takes (layouts_in words sys) sys.layouts step old.seat old.view found new.view

pub record HasStepped
    {S L P O R : Type 0} (words : LayoutWords S L P O R) (sys : SysSeen L)
    (step : PassView P O R → WordStep S L P O R) (old : PassSeen P O R) (found : ℕ) (new : PassSeen P O R)
    : Type 0 where
  pub same : IsSamePass old new
  pub takes : TakesIn words sys step old found new

-- by a step that tells nothing of the word that it found
abbrev pub HasDone :
    {S L P O R : Type 0} → LayoutWords S L P O R → SysSeen L → (PassView P O R → WordStep S L P O R) → PassSeen P O R → PassSeen P O R → Type 0
HasDone words sys step old new = (found : ℕ) → HasStepped words sys step old found new

pub record HasMoved
    {S L P O R : Type 0} (words : LayoutWords S L P O R) (sys : SysSeen L)
    (first second : PassView P O R → SlotStep L P O R) (old new : PassSeen P O R)
    : Type 0 where
  pub same : IsSamePass old new
  pub out :
      Moves (layouts_in words sys) sys.layouts first old.seat old.view (first old.view).after
  pub back :
      Moves (layouts_in words sys) sys.layouts second old.seat (first old.view).after new.view

-- It has drawn an entry, has room for one less, and these cells have been told of it.
pub record HasDrawn
    {S L P O R : Type 0} (words : LayoutWords S L P O R) (sys : SysSeen L)
    (step : PassView P O R → WordStep S L P O R) (cells : List ℕ) (old new : PassSeen P O R)
    : Type 0 where
  pub drawer : IsDrawer old new
  pub knows : new.view ≡ untold_view [] ((step old.view).after 0)
  pub takes :
      (found : ℕ)
      → Takes (layouts_in words sys) sys.layouts step old.seat old.view found (untold_view cells new.view)

-- in every state that the table shows while the pass knows what it knows now
abbrev pub AlwaysIn : {S L P O R : Type 0} → LayoutWords S L P O R → SysSeen L → PassSeen P O R → (Joined L O R → Type 0) → Type 0
AlwaysIn words sys pass Q = Always (layouts_in words sys) sys.layouts pass.seat pass.view Q
