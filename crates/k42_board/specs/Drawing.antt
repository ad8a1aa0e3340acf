-- Drawing entries, for one pass: the entry, where it may be drawn, and what the pass and its cells tell after it.
use Rattle.std.specs.Prelude.{◌≡◌, ◌⊎◌, ℕ, ◌+◌, ◌-◌, ◌<◌, ◌≤◌, ◌==◌, ◌||◌, Bool, true, false, not, IsTrue, if◌then◌else◌, List, [], ◌∷◌, ◌++◌, length, map, max, Option, Some, None, slice_get, unwrap_or}
use Rattle.k42_shapes.specs.declared.shape.Shape.{Shape}
use Rattle.k42_limits.specs.declared.TheConstants.{LAST_STAMP, PASS_ENTRIES}
use Rattle.k42_places.specs.Places.{EachPlace, EachPair}
use Rattle.k42_kinds.specs.Histories.{is_call}
use Rattle.k42_kinds.specs.Rows.{Ways, made_from, part_at}
use Rattle.k42_shapes.specs.Shapes.{cells_of}
use Rattle.k42_kinds.specs.declared.entry.Act.{Act}
use Rattle.k42_kinds.specs.declared.entry.Act.TheVariants.{Call}
use Rattle.k42_kinds.specs.declared.entry.Answer.{Answer}
use Rattle.k42_kinds.specs.declared.entry.Answer.TheVariants.{Replied, Swapped, Busy, Abandoned}
use Rattle.k42_kinds.specs.declared.entry.Entry.{Entry}
use Rattle.k42_kinds.specs.declared.entry.Reach.{Reach}
use Rattle.k42_kinds.specs.declared.entry.Reach.TheVariants.{One, All}
use Rattle.phase_core.specs.Stages.{IsInside, object_of, row_of, object_named}
use Rattle.phase_core.specs.declared.caller.SwapAt.{SwapAt}
use Rattle.phase_core.specs.declared.caller.SwapAt.TheVariants.{Moved, Reopening, Opened}
use Rattle.turn_core.specs.Events.{caller_drawn}
use Rattle.turn_core.specs.Names.{names}
use Rattle.turn_core.specs.Stamps.{last_stamp}
use Rattle.k42_stamp.specs.Layouts.{Layouts, IsKnown, shape_of}
use Rattle.k42_joined.specs.Drawing.{first_cell}
use Rattle.k42_joined.specs.Found.{tells_over}
use Rattle.k42_joined.specs.Numbers.{cell_of, row_cells}
use Rattle.k42_joined.specs.Refusals.{tells_abandoned}
use Rattle.k42_joined.specs.Rows.{cells_reached}
use Rattle.k42_board.specs.Cells.{cells_noted}
use Rattle.k42_board.specs.Seats.{told_by}
use Rattle.k42_board.specs.Seen.{PassSeen, IsRoomLeft}
use Rattle.k42_board.specs.Values.{layout_in, incarnation_in}
use Rattle.k42_board.specs.Views.{word_begun, object_begun}
use Rattle.k42_board.specs.declared.cell.Content.{Content}
use Rattle.k42_board.specs.declared.view.Note.{Note}
use Rattle.k42_board.specs.declared.view.PassView.{PassView}

-- what a pass has noted of a cell

abbrev pub history_noted : {P O R : Type 0} → List (Note P O R) → ℕ → List (Entry O R)
history_noted [] n = []
history_noted (note ∷ notes) n = if note.cell == n then note.history else history_noted notes n

abbrev pub closed_noted : {P O R : Type 0} → List (Note P O R) → ℕ → Bool
closed_noted [] n = false
closed_noted (note ∷ notes) n = if note.cell == n then note.closed else closed_noted notes n

abbrev pub part_noted : {P O R : Type 0} → List (Note P O R) → ℕ → Option P
part_noted [] n = None
part_noted (note ∷ notes) n = if note.cell == n then note.part else part_noted notes n

-- the part of a place of a row, where a missing one stands for the empty one, and those of so many places
abbrev pub part_due : {S P O R : Type 0} → Ways S P O R → ℕ → List (Note P O R) → ℕ → ℕ → ℕ → P
part_due ways procs notes o i p = unwrap_or (part_noted notes (cell_of o i p)) (ways.empty procs p)

abbrev pub parts_due : {S P O R : Type 0} → Ways S P O R → ℕ → List (Note P O R) → ℕ → ℕ → Shape → List P
parts_due ways procs notes o i shape = made_from (part_due ways procs notes o i) 0 (cells_of shape procs)

-- the stamp that a draw bears: one more than the last that the pass and these cells know

abbrev pub last_noted : {P O R : Type 0} → List (Note P O R) → List ℕ → ℕ
last_noted notes [] = 0
last_noted notes (n ∷ cells) = max (last_stamp (history_noted notes n)) (last_noted notes cells)

abbrev pub stamp_next : {P O R : Type 0} → PassView P O R → List ℕ → ℕ
stamp_next v cells = max v.taker.clock (last_noted v.notes cells) + 1

-- the next entry of the pass, at these cells; a call bears the generation of its activity
abbrev pub entry_next : {P O R : Type 0} → PassView P O R → List ℕ → (object incarnation cell : ℕ) → Act O → Answer R → Entry O R
entry_next v cells object incarnation cell act answer = record {
  stamp = stamp_next v cells;
  caller = v.number;
  index = length v.taker.mine;
  object = object;
  incarnation = incarnation;
  cell = cell;
  act = act;
  answer = answer;
  proc = v.turn.proc;
  generation = if is_call act then v.turn.active else None;
}

-- the entry of a call, of a swap that found its object over, of one that was refused or given up, and of a
-- hand

abbrev pub entry_call : {P O R : Type 0} → PassView P O R → List ℕ → Act O → Answer R → Entry O R
entry_call v cells act answer =
    entry_next v cells (object_of v.visitor.place) (row_of v.visitor.place) (first_cell cells) act answer

abbrev pub entry_mark : {P O R : Type 0} → PassView P O R → ℕ → Act O → Answer R → Entry O R
entry_mark v n act answer =
    entry_next v (n ∷ []) (object_begun v.last) (incarnation_in (word_begun v.last)) n act answer

-- the number of the swap that the answer tells of
abbrev pub number_told : {R : Type 0} → Answer R → ℕ
number_told (Busy number) = number
number_told (Abandoned number) = number
number_told answer = 0

abbrev pub entry_alone : {P O R : Type 0} → PassView P O R → Act O → Answer R → Entry O R
entry_alone v act answer = entry_next v [] (object_begun v.last) (number_told answer - 1) 0 act answer

abbrev pub entry_hand : {P O R : Type 0} → PassView P O R → List ℕ → List ℕ → Act O → Answer R → Entry O R
entry_hand v from onto act answer =
    entry_next v (from ++ onto) (object_named v.visitor.swap) (incarnation_in (word_begun v.last)) (first_cell onto) act
    answer

-- cells that were taken

abbrev pub numbers_of : {P O R : Type 0} → List (Content P O R) → List ℕ
numbers_of contents = map (λ content. content.number) contents

-- the entry of a call that was made at these cells
abbrev pub entry_at : {P O R : Type 0} → List (Content P O R) → O → R → PassView P O R → Entry O R
entry_at contents op reply v = entry_call v (numbers_of contents) (Call op) (Replied reply)

-- the part of the cell with this number
abbrev pub part_in : {P O R : Type 0} → List (Content P O R) → ℕ → Option P
part_in [] n = None
part_in (content ∷ contents) n = if content.number == n then content.part else part_in contents n

-- the greatest last stamp that these cells tell
abbrev pub last_told : {P O R : Type 0} → List (Content P O R) → ℕ
last_told [] = 0
last_told (content ∷ contents) = max content.last (last_told contents)

-- the pass has noted the cell as the cell's seat tells it
pub record IsHeld {P O R : Type 0} (notes : List (Note P O R)) (content : Content P O R) : Type 0 where
  pub noted : names (cells_noted notes) content.number ≡ true
  pub history : (told_by content.badge.views).history ≡ history_noted notes content.number
  pub closed : (told_by content.badge.views).closed ≡ closed_noted notes content.number

abbrev pub AreHeld : {P O R : Type 0} → List (Note P O R) → List (Content P O R) → Type 0
AreHeld notes contents = EachPlace (λ place content. IsHeld notes content) contents

-- the cells have the parts of the row at their places
abbrev pub HaveParts : {P O R : Type 0} → List P → List (Content P O R) → Type 0
HaveParts row contents = EachPlace (λ place content. content.part ≡ part_at row place) contents

-- what a draw makes of the cells: each tells the entry, and keeps its number and its part
pub record IsTold {P O R : Type 0} (notes : List (Note P O R)) (old new : Content P O R) : Type 0 where
  pub number : new.number ≡ old.number
  pub part : new.part ≡ old.part
  pub held : IsHeld notes new

abbrev pub AreTold : {P O R : Type 0} → List (Note P O R) → List (Content P O R) → List (Content P O R) → Type 0
AreTold notes old new = (length new ≡ length old) × EachPair (λ place x y. IsTold notes x y) old new

-- the pass after a draw

-- the note of a named cell has the entry, and the part that is due after it
abbrev pub told_note : {P O R : Type 0} → List ℕ → Entry O R → (ℕ → Option P) → Note P O R → Note P O R
told_note cells entry fresh note =
    if names cells note.cell then record note { history = note.history ++ entry ∷ []; part = fresh note.cell } else note

abbrev pub told_notes : {P O R : Type 0} → List ℕ → Entry O R → (ℕ → Option P) → List (Note P O R) → List (Note P O R)
told_notes cells entry fresh notes = map (told_note cells entry fresh) notes

abbrev pub drawn_view : {P O R : Type 0} → List ℕ → Entry O R → (ℕ → Option P) → PassView P O R → PassView P O R
drawn_view cells entry fresh v = record v {
  taker = caller_drawn entry v.taker;
  notes = told_notes cells entry fresh v.notes;
  found = None;
}

abbrev pub alone_view : {P O R : Type 0} → Entry O R → PassView P O R → PassView P O R
alone_view entry v = record v {
  taker = caller_drawn entry v.taker;
  found = None;
  abandoned = tells_abandoned entry.answer || v.abandoned;
}

-- the first cells are closed, and the others begin with the entry
abbrev pub handed_note : {P O R : Type 0} → List ℕ → List ℕ → Entry O R → (ℕ → Option P) → Note P O R → Note P O R
handed_note from onto entry fresh note =
    if names from note.cell then record note { closed = true; part = fresh note.cell }
    else if names onto note.cell
    then record note { closed = false; history = entry ∷ []; part = fresh note.cell }
    else note

abbrev pub handed_view : {P O R : Type 0} → List ℕ → List ℕ → Entry O R → ℕ → (ℕ → Option P) → PassView P O R → PassView P O R
handed_view from onto entry tag fresh v = record v {
  taker = caller_drawn entry v.taker;
  notes = map (handed_note from onto entry fresh) v.notes;
  found = None;
  handed = Some tag;
}

-- the seats of these cells do not tell of it yet
abbrev pub untold_view : {P O R : Type 0} → List ℕ → PassView P O R → PassView P O R
untold_view cells v = record v { untold = cells }

-- the pass that draws an entry at these cells, and once their seats tell of it
abbrev pub draws_at : {P O R : Type 0} → List (Content P O R) → Entry O R → PassView P O R → PassView P O R
draws_at contents entry v =
    untold_view (numbers_of contents) (drawn_view (numbers_of contents) entry (part_in contents) v)

abbrev pub drawn_at : {P O R : Type 0} → List (Content P O R) → Entry O R → PassView P O R → PassView P O R
drawn_at contents entry v = untold_view [] (drawn_view (numbers_of contents) entry (part_in contents) v)

-- its clock is not above the number of entries that may be drawn
abbrev pub HasSmallStamp : {P O R : Type 0} → PassView P O R → Type 0
HasSmallStamp v = v.taker.clock ≤ LAST_STAMP

-- the pass that has drawn has the same seat, and at most one entry less room where it keeps them
pub record IsDrawer {P O R : Type 0} (old new : PassSeen P O R) : Type 0 where
  pub table : new.table ≡ old.table
  pub seat : new.seat ≡ old.seat
  pub keep : new.keep ≡ old.keep
  pub room : IsRoomLeft old.keep.what old.room new.room
  pub row_room : new.row_room ≡ old.row_room
  pub queue : new.queue ≡ old.queue
  pub pushed : new.pushed ≡ old.pushed
  pub popped : new.popped ≡ old.popped

-- Its last Begin found the object over, with this answer; the cell is the first of that row.
pub record MayDrawMark {P O R : Type 0} (content : Content P O R) (act : Act O) (answer : Answer R) (v : PassView P O R) : Type 0 where
  pub act_is : is_call act ≡ false
  pub found : v.found ≡ Some answer
  pub over : tells_over answer ≡ true
  pub named : content.number ≡ cell_of (object_begun v.last) (incarnation_in (word_begun v.last)) 0
  pub held : IsHeld v.notes content
  pub part : content.part ≡ part_noted v.notes content.number
  pub few : length v.taker.mine < PASS_ENTRIES

-- its swap opens its object again, or has, without having turned it over
abbrev pub gives_up : SwapAt → Bool → Bool
gives_up (Reopening o p) turned = true
gives_up (Opened o) turned = not turned
gives_up swap turned = false

-- what its last Begin found, or the number of the swap that it gives up, of which it has not told yet
abbrev pub IsAnswerAlone : {P O R : Type 0} → PassView P O R → Answer R → Type 0
IsAnswerAlone v (Busy number) = v.found ≡ Some (Busy number)
IsAnswerAlone v (Abandoned number) =
    (gives_up v.visitor.swap v.turned ≡ true) × (v.abandoned ≡ false)
    × (number ≡ incarnation_in (word_begun v.last) + 1)
IsAnswerAlone v _ = ⊥

pub record MayDrawAlone {P O R : Type 0} (act : Act O) (answer : Answer R) (v : PassView P O R) : Type 0 where
  pub act_is : is_call act ≡ false
  pub answer_is : IsAnswerAlone v answer
  pub few : length v.taker.mine < PASS_ENTRIES

-- layouts of one object with one tag keep it in one way
abbrev pub AgreeOn : {S L P O R : Type 0} → Layouts S L P O R → Type 0
AgreeOn {S} {L} F =
    (layout other : L) → F.object_of layout ≡ F.object_of other → F.tag_of layout ≡ F.tag_of other
    → F.ways_of layout ≡ F.ways_of other

module _ {S L P O R : Type 0} (F : Layouts S L P O R) (declared : List L) where
  -- the operation was stepped on the parts that are due, with this reply
  abbrev pub IsStepped : L → List (Note P O R) → (o i : ℕ) → List (Content P O R) → O → Reach → R → Type 0
  IsStepped layout notes o i contents op (One p) reply =
      let ways = F.ways_of layout in
      let part = part_due ways F.procs notes o i p in
      (reply ≡ ways.part_reply part op)
      × EachPlace (λ place content. content.part ≡ Some (ways.part_after part op)) contents
  IsStepped layout notes o i contents op All reply =
      let ways = F.ways_of layout in
      let parts = parts_due ways F.procs notes o i (shape_of F layout) in
      (reply ≡ ways.row_reply parts op) × HaveParts (ways.row_after parts op) contents

  -- A call is inside a row whose layout it knows, and has stepped its operation at the cells that the layout names.
  pub record MayDrawCall (contents : List (Content P O R)) (op : O) (reply : R) (v : PassView P O R) : Type 0 where
    pub object : ℕ
    pub row : ℕ
    pub inside : IsInside v.visitor.place object row
    pub declaration : L
    pub declares : slice_get declared object ≡ Some declaration
    pub layout : L
    pub same : F.object_of layout ≡ F.object_of declaration
    pub tagged : v.layout ≡ Some (F.tag_of layout)
    pub takes : IsTrue ((F.object_of layout).takes op)
    pub named :
        numbers_of contents ≡ cells_reached F.procs object row ((F.ways_of layout).reach F.procs op v.turn.proc)
    pub held : AreHeld v.notes contents
    pub stepped :
        IsStepped layout v.notes object row contents op ((F.ways_of layout).reach F.procs op v.turn.proc) reply
    pub few : length v.taker.mine < PASS_ENTRIES

  -- the parts that are due in the row which the pass moves
  abbrev pub parts_moved : L → PassView P O R → ℕ → List P
  parts_moved layout v o =
      parts_due (F.ways_of layout) F.procs v.notes o (incarnation_in (word_begun v.last)) (shape_of F layout)

  -- the cell of a row that is handed on keeps its part; a missing one may be made
  abbrev pub KeepsPart : List (Note P O R) → List P → ℕ → Content P O R → Type 0
  KeepsPart notes row place content =
      (content.part ≡ part_noted notes content.number) ⊎ (content.part ≡ part_at row place)

  -- It moves its object, has taken all cells of the present row and of the next, and has put into these, in their
  -- order, what the new layout imports of the state for which the present parts stand.
  pub record MayHandOn (from onto : List (Content P O R)) (to : L) (answer : Answer R) (v : PassView P O R) : Type 0 where
    pub object : ℕ
    pub moved : v.visitor.swap ≡ Moved object
    pub once : v.handed ≡ None
    pub declaration : L
    pub declares : slice_get declared object ≡ Some declaration
    pub kind : F.object_of to ≡ F.object_of declaration
    pub known : IsKnown F to
    pub layout : L
    pub same : F.object_of layout ≡ F.object_of declaration
    pub tagged : F.tag_of layout ≡ layout_in (word_begun v.last)
    pub answer_is : answer ≡ Swapped (incarnation_in (word_begun v.last) + 1)
    pub closes : numbers_of from ≡ row_cells F.procs object (incarnation_in (word_begun v.last))
    pub begins : numbers_of onto ≡ row_cells F.procs object (incarnation_in (word_begun v.last) + 1)
    pub held_from : AreHeld v.notes from
    pub held_onto : AreHeld v.notes onto
    pub kept : EachPlace (KeepsPart v.notes (parts_moved layout v object)) from
    pub imported :
        HaveParts
        ((F.ways_of to).imported F.procs (F.admitted to ((F.ways_of layout).combine (parts_moved layout v object))))
        onto
    pub few : length v.taker.mine < PASS_ENTRIES
