-- The phases of a swap: where each may begin, and what the pass knows after it.
use Rattle.std.specs.Prelude.{◌≡◌, ℕ, ◌+◌, ◌≤◌, true, false, if◌then◌else◌, List, [], ◌∷◌, Some, None, is_some, slice_index}
use mathlib.Core.Option.{some}
use lib.ListN.{get_elem?}
use Rattle.atomic_table.specs.Table.{State}
use Rattle.k42_kinds.specs.declared.entry.Act.{Act}
use Rattle.k42_kinds.specs.declared.entry.Answer.TheVariants.{Abandoned}
use Rattle.k42_places.specs.Places.{EachPlace}
use Rattle.phase_core.specs.Effects.{at_stage}
use Rattle.phase_core.specs.declared.caller.SwapAt.{SwapAt}
use Rattle.phase_core.specs.declared.caller.SwapAt.TheVariants.{Idle, Begun, Interposing, Interposed, Moved, Opening, Reopening, Opened}
use Rattle.phase_core.specs.declared.object.LocalEntry.{LocalEntry}
use Rattle.turn_core.specs.Events.{caller_drawn}
use Rattle.k42_stamp.specs.Layouts.{Layouts}
use Rattle.k42_joined.specs.State.{object}
use Rattle.k42_joined.specs.Swapping.{holds_none}
use Rattle.k42_board.specs.Cells.{Slot}
use Rattle.k42_board.specs.Drawing.{entry_alone}
use Rattle.k42_board.specs.Rule.{Rule}
use Rattle.k42_board.specs.Swapping.{object_swapped, rows_ended, clears, IsRestored}
use Rattle.k42_board.specs.Tabling.{begun_view}
use Rattle.k42_board.specs.Values.{answer_in, incarnation_in}
use Rattle.k42_board.specs.Log.{Extends, last_found, took, with_log}
use Rattle.k42_board.specs.Protocol as protocol
use Rattle.k42_board.specs.Stepping.{Takes}
use Rattle.k42_board.specs.Views.{word_begun, live_at}
use Rattle.k42_board.specs.Words.{object_word}
use Rattle.k42_board.specs.declared.view.PassView.{PassView}
use Rattle.k42_board.specs.declared.view.StepName.TheVariants as steps
use Rattle.k42_board.specs.declared.view.Taken.{Taken}
use Rattle.k42_board.specs.declared.view.View.{View}
use Rattle.k42_board.specs.declared.view.View.TheVariants.{Crew}

-- the swap of the pass is at this stage
abbrev pub staged : {P O R : Type 0} → SwapAt → PassView P O R → PassView P O R
staged swap v = record v { visitor = at_stage v.visitor swap }

-- it has tried to begin a swap of the object, and found this word: it has begun one just where the word answers nothing
abbrev pub begun_now : {P O R : Type 0} → ℕ → ℕ → PassView P O R → PassView P O R
begun_now {R} o word v = record v {
  visitor = if is_some (answer_in {R = R} (live_at v o) word) then v.visitor else at_stage v.visitor (Begun o);
  last = Some (record { object = o; word = word });
  found = answer_in (live_at v o) word;
}

-- the stage once the entries of all processors were changed
abbrev pub stage_changed : SwapAt → SwapAt
stage_changed (Begun o) = Interposed o
stage_changed (Interposing o p) = Interposed o
stage_changed (Opening o p) = Opened o
stage_changed (Reopening o p) = Opened o
stage_changed swap = swap

-- its swap has begun, and nothing more
abbrev pub HasBegun : {P O R : Type 0} → PassView P O R → Type 0
HasBegun v = v.visitor.swap ≡ Begun (object_swapped v)

-- the entry of every processor is a mediator
abbrev pub interposed_view : {P O R : Type 0} → PassView P O R → PassView P O R
interposed_view v = staged (Interposed (object_swapped v)) v

-- it has moved its object, and has not transferred the state; it holds no cell
pub record HasMoved {P O R : Type 0} (v : PassView P O R) : Type 0 where
  pub moved : v.visitor.swap ≡ Moved (object_swapped v)
  pub unhanded : v.handed ≡ None
  pub free : holds_none v.taker.held ≡ true

-- it has transferred the state to a layout, and has not turned its object over
pub record HasTransferred {P O R : Type 0} (v : PassView P O R) : Type 0 where
  pub moved : v.visitor.swap ≡ Moved (object_swapped v)
  pub handed : is_some v.handed ≡ true
  pub free : holds_none v.taker.held ≡ true

-- its object is turned over, and every entry is empty
abbrev pub opened_view : {P O R : Type 0} → PassView P O R → PassView P O R
opened_view v = record (staged (Opened (object_swapped v)) v) { turned = true; handed = None }

-- it has turned its object over and opened all entries
pub record HasOpened {P O R : Type 0} (v : PassView P O R) : Type 0 where
  pub opened : v.visitor.swap ≡ Opened (object_swapped v)
  pub turned : v.turned ≡ true

-- it swaps nothing any more, and has the old row behind those that it held
abbrev pub swap_ended_view : {P O R : Type 0} → PassView P O R → PassView P O R
swap_ended_view v = record (staged Idle v) { turned = false; rows = rows_ended v }

-- it gives its swap up: it has opened all entries again, and has drawn that
abbrev pub given_up_view : {P O R : Type 0} → Act O → PassView P O R → PassView P O R
given_up_view act v =
    let entry = entry_alone v act (Abandoned (incarnation_in (word_begun v.last) + 1)) in
    record (staged (Opened (object_swapped v)) v) { taker = caller_drawn entry v.taker; found = None; abandoned = true }

-- and swaps nothing any more
abbrev pub abandoned_view : {P O R : Type 0} → Act O → PassView P O R → PassView P O R
abandoned_view act v = staged Idle (given_up_view act v)

-- an entry that leads into the row, or is empty there
pub record LeadsToRow (i : ℕ) (e : LocalEntry) : Type 0 where
  pub incarnation : e.incarnation ≡ i
  pub tag : e.tag ≤ 1

module _ {S L P O R : Type 0} (F : Layouts S L P O R) (declared : List L) where
  -- Whatever state the table shows, the step by which the pass ends its swap leaves its object as it was when the swap
  -- began, and all its entries lead there.
  abbrev pub LeavesOpen : ℕ → PassView P O R → Type 0
  LeavesOpen id v =
      (table : State (Slot P O R) (View P O R)) (r : Rule F declared table) → get_elem? table.views id ≡ some (Crew (v ∷ []))
      → IsRestored (word_begun v.last) (clears v.visitor.swap (slice_index table.words (object_word (object_swapped v))))
      × EachPlace (λ p e. LeadsToRow (incarnation_in (word_begun v.last)) e) (object r.state (object_swapped v)).entries

  -- The pass has given its swap up: it had opened all entries again, and drawn that, when its last step ended the swap and
  -- left the old implementation open.
  pub record HasGivenUp (id : ℕ) (act : Act O) (old new : PassView P O R) : Type 0 where
    pub log : List Taken
    pub since : Extends old.log log
    pub cleared : Takes F declared protocol.clear id (with_log log (given_up_view act old)) (last_found new.log) new
    pub opened : LeavesOpen id (with_log log (given_up_view act old))

  -- the pass as it has asked to begin a swap of the object, by the word that it keeps
  abbrev pub asks : ℕ → PassView P O R → PassView P O R → PassView P O R
  asks o old new = took steps.Begin (object_word o) (word_begun new.last) (begun_view o (word_begun new.last) old)

  -- It has asked to begin a swap of the object, and found there the word that it keeps; where the object was over it has
  -- cleared what it had set.
  pub record HasTried (id o : ℕ) (old new : PassView P O R) : Type 0 where
    pub asked : Takes F declared (protocol.begin o) id old (word_begun new.last) (asks o old new)
    pub log : Extends (asks o old new).log new.log
