-- A call inside the row that serves it: what the pass has there, and what becomes of it.
use Rattle.std.specs.Prelude.{◌≡◌, ℕ, ◌<◌, true, IsTrue, List, [], length, Option, Some, None, slice_get, is_some}
use Rattle.k42_kinds.specs.declared.entry.Act.TheVariants.{Call}
use Rattle.k42_kinds.specs.declared.entry.Answer.TheVariants.{Replied}
use Rattle.k42_kinds.specs.declared.entry.Entry.{Entry}
use Rattle.k42_kinds.specs.declared.entry.Reach.{Reach}
use Rattle.phase_core.specs.Stages.{is_out, object_of, row_of}
use Rattle.turn_core.specs.Events.{caller_drawn}
use Rattle.turn_core.specs.Stamps.{last_stamp}
use Rattle.k42_stamp.specs.Layouts.{Layouts, IsKnown}
use Rattle.k42_joined.specs.Rows.{cells_reached}
use Rattle.k42_board.specs.Drawing.{numbers_of}
use Rattle.k42_board.specs.Log.{ComesTo, Extends, with_log}
use Rattle.k42_board.specs.Phases.{is_served}
use Rattle.k42_board.specs.Seen.{PassSeen}
use Rattle.k42_board.specs.Taking.{AreRowsNoted}
use Rattle.k42_board.specs.declared.cell.Content.{Content}
use Rattle.k42_board.specs.declared.keep.Keep.TheVariants as keeps
use Rattle.k42_board.specs.declared.view.PassView.{PassView}
use Rattle.k42_mediator.specs.Taken.{released, AreTaken}
use Rattle.k42_runtime.specs.Calls.{WasHeld, HasCalled, HoldsUp}
use Rattle.k42_runtime.specs.Systems.{KeepsElse}
use Rattle.k42_runtime.specs.declared.calls.CallCause.{CallCause}
use Rattle.k42_runtime.specs.declared.calls.CallCause.TheVariants as causes
use Rattle.k42_runtime.specs.declared.calls.CallStep.{CallStep}
use Rattle.k42_runtime.specs.declared.calls.CallStep.TheVariants as steps
use Rattle.k42_runtime.specs.declared.calls.CallTry.{CallTry}
use Rattle.k42_runtime.specs.declared.calls.CallTry.TheVariants as tries

-- the row that its call is inside
abbrev pub object_inside : {P O R : Type 0} → PassView P O R → ℕ
object_inside v = object_of v.visitor.place

abbrev pub row_inside : {P O R : Type 0} → PassView P O R → ℕ
row_inside v = row_of v.visitor.place

-- it is inside a row of the object, whose layout it knows
pub record IsServing {P O R : Type 0} (object : ℕ) (v : PassView P O R) : Type 0 where
  pub served : is_served v.visitor.place ≡ true
  pub of : object_inside v ≡ object
  pub known : is_some v.layout ≡ true

-- only where it is may be other
pub record GoesBy {P O R : Type 0} (old new : PassView P O R) : Type 0 where
  pub keeps : KeepsElse old new
  pub shapes : new.shapes ≡ old.shapes
  pub taker : new.taker ≡ old.taker
  pub notes : new.notes ≡ old.notes

-- it has the seat that it had, and keeps as before; for rows it has room as before, and, where it keeps none, for entries
pub record IsSameSeat {P O R : Type 0} (old new : PassSeen P O R) : Type 0 where
  pub table : new.table ≡ old.table
  pub seat : new.seat ≡ old.seat
  pub keep : new.keep ≡ old.keep
  pub room : old.keep.what ≡ keeps.Nothing → new.room ≡ old.room
  pub row_room : new.row_room ≡ old.row_room
  pub queue : new.queue ≡ old.queue

-- the entry of a call, the next one of the pass
pub record IsCallNext {P O R : Type 0} (op : O) (reply : R) (v : PassView P O R) (entry : Entry O R) : Type 0 where
  pub later : last_stamp v.taker.mine < entry.stamp
  pub whole :
      entry
      ≡ record {
        stamp = entry.stamp;
        caller = v.number;
        index = length v.taker.mine;
        object = object_inside v;
        incarnation = entry.incarnation;
        cell = entry.cell;
        act = Call op;
        answer = Replied reply;
        proc = v.turn.proc;
        generation = v.turn.active;
      }

-- it has drawn the call, and holds these cells still
pub record HasMade {P O R : Type 0} (cells : List ℕ) (op : O) (reply : R) (old new : PassView P O R) : Type 0 where
  pub entry : Entry O R
  pub next : IsCallNext op reply old entry
  pub knows :
      released cells new
      ≡ with_log new.log (record (released cells old) {
        taker = caller_drawn entry (released cells old).taker;
        found = None;
        untold = [];
      })
  pub log : Extends old.log new.log

-- what a try and the reply that it left are of a step
abbrev pub step_with : {R : Type 0} → CallTry → R → CallStep R
step_with (tries.Again cause) reply = steps.Again cause
step_with tries.Ended reply = steps.Ended reply
step_with tries.Memory reply = steps.Memory
step_with tries.Worn reply = steps.Worn

abbrev pub Makes : {P O R : Type 0} → CallStep R → List ℕ → O → PassView P O R → PassView P O R → Type 0
Makes (steps.Ended reply) cells op old new = HasMade cells op reply old new
Makes (steps.Again cause) cells op old new = ⊥
Makes steps.Memory cells op old new = new ≡ old
Makes steps.Worn cells op old new = ⊥

-- it has drawn the call
pub record HasDrawn {P O R : Type 0} (op : O) (reply : R) (old new : PassView P O R) : Type 0 where
  pub entry : Entry O R
  pub next : IsCallNext op reply old entry
  pub comes : ComesTo old (record old { taker = caller_drawn entry old.taker; found = None }) new

-- how it has come out that sought its row: it is there, and nothing held it up, or it knows what did
abbrev pub GoesIn : {P O R : Type 0} → Option CallCause → ℕ → PassView P O R → PassView P O R → Type 0
GoesIn None object old new = IsServing object new × Extends old.log new.log
GoesIn (Some cause) object old new = (is_out new.visitor.place ≡ true) × HoldsUp cause object old new

-- it is inside no call, and nothing held it up
abbrev pub GoesOut : {P O R : Type 0} → PassView P O R → PassView P O R → Type 0
GoesOut old new = (is_out new.visitor.place ≡ true) × Extends old.log new.log

module _ {S L P O R : Type 0} (F : Layouts S L P O R) (declared : List L) where
  -- it is inside a row with this layout, of which the operation needs these cells
  pub record IsCallAt (v : PassView P O R) (layout : L) (reach : Reach) (op : O) : Type 0 where
    pub served : is_served v.visitor.place ≡ true
    pub few : object_inside v < 16
    pub declaration : L
    pub declares : slice_get declared (object_inside v) ≡ Some declaration
    pub same : F.object_of layout ≡ F.object_of declaration
    pub tagged : v.layout ≡ Some (F.tag_of layout)
    pub known : IsKnown F layout
    pub on : v.turn.proc < F.procs
    pub takes : IsTrue ((F.object_of layout).takes op)
    pub reaches : reach ≡ (F.ways_of layout).reach F.procs op v.turn.proc

  -- it has taken them
  pub record HasCells
      (v : PassView P O R) (layout : L) (reach : Reach) (op : O) (contents : List (Content P O R))
      : Type 0 where
    pub call : IsCallAt v layout reach op
    pub numbers : numbers_of contents ≡ cells_reached F.procs (object_inside v) (row_inside v) reach
    pub held : v.taker.held ≡ numbers_of contents
    pub taken : AreTaken v.notes contents
    pub rows : AreRowsNoted F declared v
    pub back : v.out ≡ None

-- how it has come out that was in its row, where it holds no cell again
abbrev pub IsServedBy : {P O R : Type 0} → CallStep R → O → PassView P O R → PassView P O R → Type 0
IsServedBy (steps.Ended reply) op old new = HasDrawn op reply old new
IsServedBy (steps.Again (causes.CellHeld holder)) op old new =
    (new ≡ with_log new.log old) × WasHeld (object_inside old) holder old new
IsServedBy (steps.Again cause) op old new = ⊥
IsServedBy steps.Memory op old new = ComesTo old old new
IsServedBy steps.Worn op old new = ⊥

-- what it has drawn, or what has held it up
abbrev pub TellsTry : {P O R : Type 0} → CallStep R → ℕ → O → PassView P O R → PassView P O R → Type 0
TellsTry (steps.Ended reply) object op old new = HasCalled object op reply old new × Extends old.log new.log
TellsTry (steps.Again cause) object op old new =
    (new.taker.mine ≡ old.taker.mine) × (new.taker.clock ≡ old.taker.clock) × HoldsUp cause object old new
TellsTry steps.Memory object op old new =
    (new.taker.mine ≡ old.taker.mine) × (new.taker.clock ≡ old.taker.clock) × Extends old.log new.log
TellsTry steps.Worn object op old new = ⊥

-- how one try of a call has come out: the pass is inside no call, and holds what it held
pub record HasTried {P O R : Type 0} (step : CallStep R) (object : ℕ) (op : O) (old new : PassView P O R) : Type 0 where
  pub out : is_out new.visitor.place ≡ true
  pub keeps : KeepsElse old new
  pub shapes : new.shapes ≡ old.shapes
  pub held : new.taker.held ≡ old.taker.held
  pub notes : new.notes ≡ old.notes
  pub told : TellsTry step object op old new
