-- The steps of a call on cells, for one pass: where each may be taken, and what the pass knows after it.
use Rattle.std.specs.Prelude.{◌≡◌, ◌≢◌, ◌⊎◌, ℕ, ◌≤◌, ◌+◌, ◌*◌, ◌-◌, ◌/◌, ◌%◌, ◌<◌, ◌==◌, if◌then◌else◌, Bool, true, false, is_some, not, List, [], ◌∷◌, Some, None, slice_get, slice_index}
use Rattle.std.specs.List.{filter}
use mathlib.Core.Option.{some}
use lib.ListN.{get_elem?}
use Rattle.k42_shapes.specs.Shapes.{IsLiveTag}
use Rattle.atomic_table.specs.Table.{State, Step, Act, Valid, rest, stepped}
use Rattle.k42_limits.specs.declared.TheConstants.{CALLERS, PROCESSORS}
use Rattle.k42_kinds.specs.Rows.{part_at}
use Rattle.k42_kinds.specs.declared.entry.Answer.{Answer}
use Rattle.phase_core.specs.Stages.{IsInside}
use Rattle.phase_core.specs.declared.caller.SwapAt.TheVariants.{Moved}
use Rattle.turn_core.specs.Events.{caller_locked, caller_unlocked}
use Rattle.turn_core.specs.Names.{names}
use Rattle.k42_stamp.specs.Layouts.{Layouts, IsKnown}
use Rattle.k42_joined.specs.Plain.{Joined}
use Rattle.k42_joined.specs.Found.{tells_over}
use Rattle.k42_joined.specs.Numbers.{cell_of, object_of, place_of}
use Rattle.k42_joined.specs.Touching.{is_moving, is_freeing}
use Rattle.k42_joined.specs.State.{cell}
use Rattle.k42_board.specs.Cells.{Slot, IsCell, cells_noted}
use Rattle.k42_board.specs.Parts.{HasDue, IsPart}
use Rattle.k42_board.specs.Rule.{Rule}
use Rattle.k42_board.specs.Seats.{told_by}
use Rattle.k42_board.specs.Steps.{Seated, on_pass, Always}
use Rattle.k42_board.specs.Values.{layout_in, incarnation_in}
use Rattle.k42_board.specs.Log.{took, logs, put_at}
use Rattle.k42_board.specs.Views.{pass_in, object_begun, shapes_at, word_begun}
use Rattle.k42_board.specs.Words.{slot_of}
use Rattle.k42_board.specs.declared.cell.Content.{Content}
use Rattle.k42_board.specs.declared.view.Note.{Note}
use Rattle.k42_board.specs.declared.view.PassView.{PassView}
use Rattle.k42_board.specs.declared.view.StepName.TheVariants as steps
use Rattle.k42_board.specs.declared.view.View.{View}
use Rattle.k42_board.specs.declared.view.View.TheVariants.{Crew}

-- the numbers of cells are below it
abbrev pub CELLS : ℕ
CELLS = 256

-- the cell whose lock this word is
abbrev pub cell_at_lock : ℕ → ℕ
cell_at_lock word = (word - 48) % 64 * 8 + (word - 48) / 64

-- what a pass notes of a cell that it takes
abbrev pub noted : {P O R : Type 0} → Content P O R → Note P O R
noted content = record {
  cell = content.number;
  closed = (told_by content.badge.views).closed;
  history = (told_by content.badge.views).history;
  part = content.part;
}

abbrev pub without : {P O R : Type 0} → ℕ → List (Note P O R) → List (Note P O R)
without n notes = filter (λ note. not (note.cell == n)) notes

-- the pass after each step

-- it has the lock, where that was found free
abbrev pub locked_view : {P O R : Type 0} → ℕ → ℕ → PassView P O R → PassView P O R
locked_view n found v = record v { taker = if found == 0 then caller_locked n v.taker else v.taker }

-- the same with the step itself, which a try keeps where it took the lock, and nowhere else
abbrev pub tried_view : {P O R : Type 0} → (word n : ℕ) → ℕ → PassView P O R → PassView P O R
tried_view word n found v = if found == 0 then took steps.Lock word found (locked_view n found v) else v

abbrev pub unlocked_view : {P O R : Type 0} → ℕ → PassView P O R → PassView P O R
unlocked_view n v = record v { taker = caller_unlocked n v.taker }

-- the slot is out with it
abbrev pub reaching_view : {P O R : Type 0} → ℕ → PassView P O R → PassView P O R
reaching_view n v = record v { out = Some n }

abbrev pub lifted_view : {P O R : Type 0} → Content P O R → PassView P O R → PassView P O R
lifted_view content v = record v { notes = noted content ∷ v.notes; out = Some content.number }

-- and no longer is
abbrev pub cell_given_view : {P O R : Type 0} → PassView P O R → PassView P O R
cell_given_view v = record v { out = None }

abbrev pub taken_view : {P O R : Type 0} → Content P O R → PassView P O R → PassView P O R
taken_view content v = record v { notes = noted content ∷ v.notes; out = None }

abbrev pub put_view : {P O R : Type 0} → ℕ → PassView P O R → PassView P O R
put_view n v = record v { notes = without n v.notes; out = None }

-- the slot has a cell with a part
abbrev pub has_part : {P O R : Type 0} → Slot P O R → Bool
has_part None = false
has_part (Some content) = is_some content.part

-- what each load of a lock tells of the slot

abbrev pub Lifts : {P O R : Type 0} → Step (Slot P O R) → Seated P O R → ℕ → Seated P O R → Type 0
Lifts {O} {R} step me found after =
    (content : Content _ O R) × (content.number ≡ cell_at_lock step.word)
    × (after
    ≡ (
      on_pass (λ v. took steps.Lift step.word 0 (lifted_view content v)) me.0,
      (slot_of (cell_at_lock step.word), Some content) ∷ me.1,
    ))

abbrev pub gave_back : {P O R : Type 0} → ℕ → PassView P O R → PassView P O R
gave_back word v = took steps.GiveBack word 0 (cell_given_view v)

abbrev pub GivesBack : {P O R : Type 0} → Step (Slot P O R) → Seated P O R → ℕ → Seated P O R → Type 0
GivesBack step me found after = after ≡ (on_pass (gave_back step.word) me.0, rest me.1)

-- and what the pass knows then
abbrev pub GivesBackKnown : {P O R : Type 0} → (PassView P O R → Type 0) → Step (Slot P O R) → Seated P O R → ℕ → Seated P O R → Type 0
GivesBackKnown Known step me found after = GivesBack step me found after × Known (gave_back step.word (pass_in me.0))

abbrev pub Reaches : {P O R : Type 0} → Step (Slot P O R) → Seated P O R → ℕ → Seated P O R → Type 0
Reaches step me found after =
    after
    ≡ (
      on_pass (λ v. took steps.Reach step.word 0 (reaching_view (cell_at_lock step.word) v)) me.0,
      (slot_of (cell_at_lock step.word), None) ∷ me.1,
    )

-- the slot that is put back first has a part
abbrev pub is_full : {P O R : Type 0} → List (ℕ × Slot P O R) → Bool
is_full [] = false
is_full (carried ∷ others) = has_part carried.1

abbrev pub Puts : {P O R : Type 0} → Step (Slot P O R) → Seated P O R → ℕ → Seated P O R → Type 0
Puts step me found after =
    after
    ≡ (on_pass (λ v. logs (put_at step.word (is_full me.1)) (put_view (cell_at_lock step.word) v)) me.0, rest me.1)

-- it holds the cell, which is in its place
pub record HoldsHome {P O R : Type 0} (n : ℕ) (v : PassView P O R) : Type 0 where
  pub cell : n < CELLS
  pub held : names v.taker.held n ≡ true
  pub home : names (cells_noted v.notes) n ≡ false

-- by what a pass may touch a cell, of so many processors

-- its call is inside the row of the cell
pub record TouchesInside {P O R : Type 0} (procs n : ℕ) (v : PassView P O R) : Type 0 where
  pub object : ℕ
  pub row : ℕ
  pub place : ℕ
  pub cell : n ≡ cell_of object row place
  pub there : place < procs
  pub inside : IsInside v.visitor.place object row

-- it moves the object of the cell
pub record TouchesMoved {P O R : Type 0} (procs n : ℕ) (v : PassView P O R) : Type 0 where
  pub there : place_of n < procs
  pub moves : is_moving v.visitor.swap (object_of n) ≡ true

-- it has freed the row of the cell
pub record TouchesFreed {P O R : Type 0} (procs n : ℕ) (v : PassView P O R) : Type 0 where
  pub object : ℕ
  pub row : ℕ
  pub place : ℕ
  pub cell : n ≡ cell_of object row place
  pub there : place < procs
  pub freed : is_freeing v.visitor.freeing object row ≡ true

-- its last Begin found the object of the cell dead or at its last incarnation, and the cell is of that row
pub record TouchesOver {P O R : Type 0} (procs n : ℕ) (v : PassView P O R) : Type 0 where
  pub place : ℕ
  pub cell : n ≡ cell_of (object_begun v.last) (incarnation_in (word_begun v.last)) place
  pub there : place < procs
  pub answer : Answer R
  pub found : v.found ≡ Some answer
  pub over : tells_over answer ≡ true

abbrev pub Touches : {P O R : Type 0} → ℕ → ℕ → PassView P O R → Type 0
Touches procs n v = TouchesInside procs n v ⊎ (TouchesMoved procs n v ⊎ (TouchesFreed procs n v ⊎ TouchesOver procs n v))

-- it does not hold the cell, and may touch it
pub record MayLock {P O R : Type 0} (procs n : ℕ) (v : PassView P O R) : Type 0 where
  pub cell : n < CELLS
  pub unheld : names v.taker.held n ≡ false
  pub touches : Touches procs n v

-- The word found is that of nobody, or of another caller; of nobody where the pass is alone at the row.
pub record LockFound {P O R : Type 0} (n : ℕ) (v : PassView P O R) (found : ℕ) : Type 0 where
  pub another : found ≢ v.number + 1
  pub small : found ≤ CALLERS
  pub free : TouchesMoved PROCESSORS n v ⊎ TouchesFreed PROCESSORS n v → found ≡ 0
  -- the pass has taken no content of this cell
  pub unnoted : names (cells_noted v.notes) n ≡ false

module _ {S L P O R : Type 0} (F : Layouts S L P O R) (declared : List L) where
  -- it has taken the cell of which this is the content: its number, its history, and the part that is due
  pub record MayPut (id n : ℕ) (content : Content P O R) (v : PassView P O R) : Type 0 where
    pub cell : n < CELLS
    pub place : ℕ
    pub note : Note P O R
    pub noted : slice_get v.notes place ≡ Some note
    pub named : note.cell ≡ n
    pub whole : IsCell n note.history note.closed content.part content
    pub part : Always F declared id v (λ s. IsPart F declared s n content.part)

  -- what the pass knows of a cell that it has taken: its history, and the part that is due
  pub record IsWhole (n : ℕ) (content : Content P O R) (s : Joined L O R) : Type 0 where
    pub history : (cell s n).history ≡ (told_by content.badge.views).history
    pub closed : (cell s n).closed ≡ (told_by content.badge.views).closed
    pub part : IsPart F declared s n content.part

  -- The noted parts of a row with a layout of this tag are those of one whole row.
  pub record IsRowNoted (notes : List (Note P O R)) (o i tag : ℕ) : Type 0 where
    pub declaration : L
    pub declares : slice_get declared o ≡ Some declaration
    pub layout : L
    pub same : F.object_of layout ≡ F.object_of declaration
    pub tagged : F.tag_of layout ≡ tag
    pub known : IsKnown F layout
    pub row : List P
    pub whole : F.Whole layout F.procs row
    pub parts :
        (k p : ℕ) (note : Note P O R) → p < F.procs → slice_get notes k ≡ Some note → note.cell ≡ cell_of o i p
        → HasDue (F.ways_of layout) F.procs p note.part (part_at row p)

  -- so are those of the row that the pass is inside, and of the one that it moves and has not handed on, which is live
  pub record AreRowsNoted (v : PassView P O R) : Type 0 where
    pub inside :
        (o i tag : ℕ) → IsInside v.visitor.place o i → v.layout ≡ Some tag → IsRowNoted v.notes o i tag
    pub moved :
        (o : ℕ) → v.visitor.swap ≡ Moved o → v.handed ≡ None
        → IsRowNoted v.notes o (incarnation_in (word_begun v.last)) (layout_in (word_begun v.last))
        × IsLiveTag (shapes_at v o) (layout_in (word_begun v.last))

  -- Whatever state the table shows, and whatever the word is, the slot moves and the state becomes this.
  abbrev pub ActIs :
      (Joined L O R → Joined L O R) → ℕ → ℕ → List (ℕ × Slot P O R) → PassView P O R → Act (Slot P O R) → PassView P O R → Type 0
  ActIs becomes word id carried v act w =
      (table : State (Slot P O R) (View P O R)) (r : Rule F declared table)
      → get_elem? table.views id ≡ some (Crew (v ∷ [])) → Valid table.homes carried act
      → (after : Rule F declared (stepped table word (slice_index table.words word) id carried (Crew (w ∷ [])) act))
      × (after.state ≡ becomes r.state)
