-- Systems and passes, as contracts see them.
use Rattle.std.specs.Prelude.{◌≡◌, ◌+◌, ◌<◌, ◌≤◌, ℕ, ◌&&◌, Bool, true, false, List, [], ◌∷◌, ◌++◌, Option, None, drop, is_none, length, take, unwrap_or}
use Rattle.std.specs.Global.{Global}
use Rattle.k42_shapes.specs.declared.shape.Shape.{Shape}
use Rattle.atomic_table.specs.Seated.{TableId}
use Rattle.crossbeam_queue.specs.SegTies.{SegId}
use Rattle.gen_core.specs.Events as graces
use Rattle.gen_core.specs.Plain as gens
use Rattle.phase_core.specs.Stages as swaps
use Rattle.phase_core.specs.declared.caller.Place.{Place}
use Rattle.phase_core.specs.declared.caller.Place.TheVariants.{Tracked}
use Rattle.phase_core.specs.declared.caller.SwapAt.{SwapAt}
use Rattle.k42_kinds.specs.declared.entry.Entry.{Entry}
use Rattle.k42_places.specs.Places.{EachPlace}
use Rattle.k42_board.specs.Steps.{Seated}
use Rattle.k42_board.specs.Views.{pass_in}
use Rattle.k42_board.specs.declared.keep.Keep.{Keep}
use Rattle.k42_board.specs.declared.keep.Keep.TheVariants as keeps
use Rattle.k42_board.specs.declared.view.Inside.{Inside}
use Rattle.k42_board.specs.declared.view.LastBegin.{LastBegin}
use Rattle.k42_board.specs.declared.view.PassView.{PassView}
use Rattle.k42_board.specs.declared.view.Row.{Row}
use Rattle.k42_board.specs.declared.view.View.TheVariants.{Crew}

-- which queue of rows
abbrev pub QueueId : Type 0
QueueId = SegId Global

-- a system: its table and its queue, and what it was told at the start
pub record SysSeen (L : Type 0) : Type 0 where
  pub table : TableId
  pub queue : QueueId
  pub keep : Keep
  pub procs : ℕ
  pub layouts : List L
  -- the shapes of the live layouts of each object
  pub shapes : List (List Shape)
  pub callers : List ℕ

-- which of its entries a pass keeps, how many it has given to sections, and the stamp to which the last of these has raised
-- its clock
pub record Keeping : Type 0 where
  pub what : Keep
  pub given : ℕ
  pub since : ℕ

-- before the first section
abbrev pub keeping : Keep → Keeping
keeping what = record { what = what; given = 0; since = 0 }

-- what is kept of the entries that were drawn, where so many were given
abbrev pub kept_of : {A : Type 0} → Keep → ℕ → List A → List A
kept_of keeps.All given mine = mine
kept_of keeps.Sections given mine = drop given mine
kept_of keeps.Nothing given mine = []

abbrev pub kept_by : {A : Type 0} → Keeping → List A → List A
kept_by keep mine = kept_of keep.what keep.given mine

-- and of what was kept, once one more was drawn
abbrev pub kept_with : {A : Type 0} → Keep → List A → A → List A
kept_with keeps.All kept entry = kept ++ entry ∷ []
kept_with keeps.Sections kept entry = kept ++ entry ∷ []
kept_with keeps.Nothing kept entry = kept

-- how much room the next entry needs
abbrev pub room_due : Keep → ℕ
room_due keeps.All = 1
room_due keeps.Sections = 1
room_due keeps.Nothing = 0

-- the room that is left once one more was drawn, which is for any entry: a small one may leave more
abbrev pub IsRoomLeft : Keep → ℕ → ℕ → Type 0
IsRoomLeft keeps.All old new = old ≤ new + 1
IsRoomLeft keeps.Sections old new = old ≤ new + 1
IsRoomLeft keeps.Nothing old new = new ≡ old

-- the entries that were given bear no stamp above that of the last section, and all others bear a greater one
pub record IsParted {O R : Type 0} (keep : Keeping) (mine : List (Entry O R)) : Type 0 where
  pub few : keep.given ≤ length mine
  pub given : EachPlace (λ place entry. entry.stamp ≤ keep.since) (take keep.given mine)
  pub left : EachPlace (λ place entry. keep.since < entry.stamp) (drop keep.given mine)

-- a pass: whose table's seat it has, which of its entries it keeps, what it knows, and for how many more entries and
-- rows it has room
pub record PassSeen (P O R : Type 0) : Type 0 where
  pub table : TableId
  pub seat : ℕ
  pub keep : Keeping
  pub view : PassView P O R
  pub room : ℕ
  pub row_room : ℕ
  -- on which queue it is, and which rows it has pushed and popped there, the oldest first
  pub queue : QueueId
  pub pushed : List Row
  pub popped : List Row

-- what the pass keeps by itself of what it knows
pub record Own : Type 0 where
  pub number : ℕ
  pub turn : gens.Caller
  pub place : Place
  pub noted : List (Option ℕ)
  pub freeing : List (ℕ × ℕ)
  pub swap : SwapAt
  -- how many entries it has drawn, and the stamp above which it draws the next
  pub drawn : ℕ
  pub clock : ℕ
  pub graces : ℕ
  pub base : Option ℕ
  pub last : Option LastBegin
  pub turned : Bool
  pub layout : Option ℕ
  pub handed : Option ℕ
  pub rows : List Row
  pub granted : ℕ

abbrev pub own_in : {P O R : Type 0} → PassView P O R → Own
own_in v = record {
  number = v.number;
  turn = v.turn;
  place = v.visitor.place;
  noted = v.visitor.noted;
  freeing = v.visitor.freeing;
  swap = v.visitor.swap;
  drawn = length v.taker.mine;
  clock = v.taker.clock;
  graces = v.graces;
  base = v.base;
  last = v.last;
  turned = v.turned;
  layout = v.layout;
  handed = v.handed;
  rows = v.rows;
  granted = v.granted;
}

-- the seat has just this pass, and no slot is out with it
abbrev pub IsSeatOf : {P O R : Type 0} → Seated P O R → PassView P O R → Type 0
IsSeatOf me v = me ≡ (Crew (v ∷ []), [])

-- between two calls no slot is out with the pass, and each cell at which it drew tells so
pub record Mirrors {P O R : Type 0} (me : Seated P O R) (own : Own) : Type 0 where
  pub seat : IsSeatOf me (pass_in me.0)
  pub own_is : own ≡ own_in (pass_in me.0)
  pub out : (pass_in me.0).out ≡ None
  pub told : (pass_in me.0).untold ≡ []

-- the pass has room for its next entry
abbrev pub HasRoom : {P O R : Type 0} → PassSeen P O R → Type 0
HasRoom pass = room_due pass.keep.what ≤ pass.room

-- the pass has a seat of the system's table
abbrev pub IsOf : {L P O R : Type 0} → SysSeen L → PassSeen P O R → Type 0
IsOf sys pass = pass.table ≡ sys.table

-- and is of its processors and objects
pub record IsPassOf {L P O R : Type 0} (sys : SysSeen L) (pass : PassSeen P O R) : Type 0 where
  pub table : IsOf sys pass
  pub proc : pass.view.turn.proc < sys.procs
  pub waits : length pass.view.turn.waits ≡ sys.procs
  pub objects : length pass.view.visitor.noted ≡ length sys.layouts
  pub shapes : pass.view.shapes ≡ sys.shapes
  pub spans : length pass.view.visitor.freeing ≡ length sys.layouts
  pub queue : pass.queue ≡ sys.queue
  pub keep : pass.keep.what ≡ sys.keep

-- it has the same seat and the same room, and keeps the same
pub record IsSamePass {P O R : Type 0} (old new : PassSeen P O R) : Type 0 where
  pub table : new.table ≡ old.table
  pub seat : new.seat ≡ old.seat
  pub keep : new.keep ≡ old.keep
  pub room : new.room ≡ old.room
  pub row_room : new.row_room ≡ old.row_room
  pub queue : new.queue ≡ old.queue
  pub pushed : new.pushed ≡ old.pushed
  pub popped : new.popped ≡ old.popped

-- it has the same seat and the same room for entries, and keeps the same; for rows it has room as before, less what they need that are new
pub record HasSameRoom {P O R : Type 0} (old new : PassSeen P O R) : Type 0 where
  pub table : new.table ≡ old.table
  pub seat : new.seat ≡ old.seat
  pub keep : new.keep ≡ old.keep
  pub room : new.room ≡ old.room
  pub row_room : new.row_room + length new.view.rows ≡ old.row_room + length old.view.rows
  pub queue : new.queue ≡ old.queue
  pub pushed : new.pushed ≡ old.pushed
  pub popped : new.popped ≡ old.popped

-- it has room for no fewer entries and rows, and knows the same
pub record IsRoomier {P O R : Type 0} (old new : PassSeen P O R) : Type 0 where
  pub table : new.table ≡ old.table
  pub seat : new.seat ≡ old.seat
  pub keep : new.keep ≡ old.keep
  pub view : new.view ≡ old.view
  pub room : old.room ≤ new.room
  pub row_room : old.row_room ≤ new.row_room
  pub queue : new.queue ≡ old.queue
  pub pushed : new.pushed ≡ old.pushed
  pub popped : new.popped ≡ old.popped

-- the mediator counts the call
abbrev pub is_tracked : Place → Bool
is_tracked (Tracked o i) = true
is_tracked place = false

-- the row that its call is inside, and what it has learned of the row's layout
abbrev pub inside_in : {P O R : Type 0} → PassView P O R → Inside
inside_in v = record {
  object = swaps.object_of v.visitor.place;
  incarnation = swaps.row_of v.visitor.place;
  layout = unwrap_or v.layout 0;
  tracked = is_tracked v.visitor.place;
}

-- no activity, no grace and no swap is under way
abbrev pub is_at_rest : {P O R : Type 0} → PassView P O R → Bool
is_at_rest v = is_none v.turn.active && graces.is_idle v.turn.grace && swaps.is_idle v.visitor.swap
