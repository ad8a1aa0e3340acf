-- A call at the one cell that it needs, which stays in its slot meanwhile: what it may do there, and what it has done.
use Rattle.std.proofs.Common.{◌≡◌, Bool, ℕ, ◌<◌, ◌≤◌, true, false, List, [], ◌∷◌, ◌++◌, None, length, refl, sym, ap, ◌∙◌, subst}
use Rattle.std.specs.Prelude.{Result, Ok, Err, IfOk, OnErr, OnOk, is_some}
use Rattle.atomic_table.specs.Seated.{TableId}
use Rattle.k42_kinds.specs.LayoutLaws.{Agree, StepsRow}
use Rattle.k42_kinds.specs.declared.entry.Reach.TheVariants.{One}
use Rattle.k42_shapes.specs.Shapes.{cells_of}
use Rattle.k42_limits.specs.declared.TheConstants.{PASS_ENTRIES}
use Rattle.k42_memory.specs.declared.Memory.{Memory}
use Rattle.turn_core.specs.Names.{names}
use Rattle.turn_core.specs.Stamps.{last_stamp}
use Rattle.k42_stamp.specs.Laws.{AreLaws}
use Rattle.k42_stamp.specs.Layouts.{Layouts, shape_of}
use Rattle.k42_joined.specs.Numbers.{cell_of}
use Rattle.k42_board.specs.Calling.{HasCalledAt, HasLeftCell, HasStepped, MayCallAt, MayCallWith, called_by, due_in, lifted_by, stepped_cell}
use Rattle.k42_board.specs.Cells.{cells_noted}
use Rattle.k42_board.specs.Drawing.{IsDrawer, MayDrawCall}
use Rattle.k42_board.specs.Log.{ComesTo, put_at, logs, step_at, took, with_log}
use Rattle.k42_board.specs.Seen.{IsRoomLeft, IsSamePass, PassSeen}
use Rattle.k42_board.specs.Taking.{AreRowsNoted, CELLS, HoldsHome, MayPut, locked_view, put_view, taken_view, unlocked_view}
use Rattle.k42_board.specs.Words.{lock_word}
use Rattle.k42_board.specs.declared.cell.Content.{Content}
use Rattle.k42_board.specs.declared.view.PassView.{PassView}
use Rattle.k42_board.specs.declared.view.StepName.TheVariants as steps
use Rattle.k42_board.proofs.Gained.{extends_by}
use Rattle.k42_rule.proofs.PutBack.{may_put}
use Rattle.k42_mediator.specs.Taken.{MayPutBack, released}
use Rattle.k42_mediator.proofs.AfterMark.{later_stamp}
use Rattle.k42_mediator.proofs.GivenBack.{cell_in, given_one, holds_last}
use Rattle.k42_mediator.proofs.Logs.{comes_by}
use Rattle.k42_mediator.proofs.Remaining.{none_remains}
use Rattle.k42_runtime.specs.Reaching.{HasTakenNext}
use Rattle.k42_runtime.specs.Replies.{CanReply}
use Rattle.k42_runtime.specs.Serving.{object_inside, row_inside, HasCells, IsCallAt, IsSameSeat, IsServedBy}
use Rattle.k42_runtime.specs.Stepping.{HasSteppedCells}
use Rattle.k42_runtime.specs.declared.calls.CallStep.TheVariants as calls
use Rattle.k42_runtime.proofs.CallMade.{has_alone, has_made, may_draw, may_give_drawn, may_give_taken, may_step, told_alone}
use Rattle.k42_runtime.proofs.CallReplied.{replied_at_one}
use Rattle.k42_runtime.proofs.CallServed.{served_by}
use Rattle.k42_runtime.proofs.CallTaken.{has_taken_next, taken_alone}

-- the seat of a pass that has drawn, or has left the cell
pub seat_drawn : {P O R : Type 0} (old new : PassSeen P O R) → IsDrawer old new → IsSameSeat old new
seat_drawn old new drew = record {
  table = drew.table;
  seat = drew.seat;
  keep = drew.keep;
  room = λ none. subst (λ k. IsRoomLeft k old.room new.room) none drew.room;
  row_room = drew.row_room;
  queue = drew.queue;
}

pub seat_left : {P O R : Type 0} (old new : PassSeen P O R) → IsSamePass old new → IsSameSeat old new
seat_left old new same = record {
  table = same.table;
  seat = same.seat;
  keep = same.keep;
  room = λ none. same.room;
  row_room = same.row_room;
  queue = same.queue;
}

pub still_ours : {P O R : Type 0} (table : TableId) (result : Result ℕ Memory) (old new : PassSeen P O R) → OnOk result (IsDrawer old new) → OnErr result (IsSamePass old new) → old.table ≡ table
    → new.table ≡ table
still_ours table (Ok stamp) old new drew same ours = drew.table ∙ ours
still_ours table (Err error) old new drew same ours = same.table ∙ ours

-- a pass whose slot is out, as if it were back
abbrev back_in : {P O R : Type 0} → PassView P O R → PassView P O R
back_in v = record v { out = None }

-- rows that are noted stay so
rows_back : {S L P O R : Type 0} (F : Layouts S L P O R) (declared : List L) (v : PassView P O R) → AreRowsNoted F declared v → AreRowsNoted F declared (back_in v)
rows_back F declared v rows = record { inside = rows.inside; moved = rows.moved }

-- a cell that may be put back, whatever else is, may be put where only the slot is out besides
put_now : {S L P O R : Type 0} (F : Layouts S L P O R) (declared : List L) (id n : ℕ) (v : PassView P O R) (cell : Content P O R) → cell.number ≡ n
    → MayPutBack F declared id (back_in v) cell → MayPut F declared id n cell v
put_now F declared id n v cell number ready =
    subst (λ m. MayPut F declared id m cell v) number
    (may_put F declared id cell.number v cell refl ready.cell
    (record { noted = ready.held.noted; history = ready.held.history; closed = ready.held.closed })
    (ready.due v (record { visitor = refl; last = refl; handed = refl }) ready.held.noted refl))

-- and so is a draw
draw_now : {S L P O R : Type 0} (F : Layouts S L P O R) (declared : List L) (cells : List (Content P O R)) (op : O) (reply : R) (v : PassView P O R)
    → MayDrawCall F declared cells op reply (back_in v) → MayDrawCall F declared cells op reply v
draw_now F declared cells op reply v may = record {
  object = may.object;
  row = may.row;
  inside = may.inside;
  declaration = may.declaration;
  declares = may.declares;
  layout = may.layout;
  same = may.same;
  tagged = may.tagged;
  takes = may.takes;
  named = may.named;
  held = may.held;
  stepped = may.stepped;
  few = may.few;
}

-- once the cell is put, the lock may be left, which gives the cell back
module _ {P O R : Type 0} (n : ℕ) (full : Bool) (v w : PassView P O R) (put : w ≡ logs (put_at (lock_word n) full) (put_view n v)) where
  home_again : n < CELLS → names v.taker.held n ≡ true → HoldsHome n w
  home_again small holds = record {
    cell = small;
    held = ap (λ (u : PassView P O R). names u.taker.held n) put ∙ holds;
    home = ap (λ (u : PassView P O R). names (cells_noted u.notes) n) put ∙ none_remains cell_in n v.notes;
  }

  given : (new : PassView P O R) → new ≡ took steps.Unlock (lock_word n) 0 (unlocked_view n w) → ComesTo (back_in v) (released (n ∷ []) (back_in v)) new
  given new left =
      let gained = step_at steps.Unlock (lock_word n) 0 ∷ put_at (lock_word n) full ∷ [] in
      comes_by (back_in v) (released (n ∷ []) (back_in v)) new (gained ++ v.log)
      (left ∙ ap (λ (u : PassView P O R). took steps.Unlock (lock_word n) 0 (unlocked_view n u)) put ∙ ap (with_log (gained ++ v.log)) (given_one n (back_in v)))
      (extends_by gained refl refl)

module _ {S L P O R : Type 0} (F : Layouts S L P O R) (laws : AreLaws F) (declared : List L)
    (agrees : (l m : L) → F.object_of l ≡ F.object_of m → F.tag_of l ≡ F.tag_of m
    → Agree (F.ways_of l) (F.ways_of m) (F.Whole l) (F.Whole m) (F.Serves l) (F.Serves m))
    (layout : L) (p n found : ℕ) (op : O) (v v1 : PassView P O R) (procs_few : F.procs ≤ 8)
    (named : n ≡ cell_of (object_inside v) (row_inside v) p) (call : IsCallAt F declared v layout (One p) op)
    (held : v.taker.held ≡ []) (unnoted : names (cells_noted v.notes) n ≡ false) (few : length v.taker.mine < PASS_ENTRIES)
    (free : found ≡ 0) (locked : v1 ≡ took steps.Lock (lock_word n) found (locked_view n found v)) where
  -- the pass with the cell out, as if it were back
  abbrev out_with : Content P O R → PassView P O R
  out_with content = back_in (lifted_by n content v1)

  abbrev after : Content P O R → Content P O R
  after = stepped_cell F declared layout p n op

  holds : names v1.taker.held n ≡ true
  holds = ap (λ (x : PassView P O R). names x.taker.held n) (locked ∙ ap (λ h. took steps.Lock (lock_word n) h (locked_view n h v)) free) ∙ holds_last v.taker.held n

  mine_few : length v1.taker.mine < PASS_ENTRIES
  mine_few = subst (λ (x : PassView P O R). length x.taker.mine < PASS_ENTRIES) (sym (locked ∙ ap (λ h. took steps.Lock (lock_word n) h (locked_view n h v)) free)) few

  comes_out : (content : Content P O R) → ComesTo v (taken_view content (locked_view n 0 v)) (out_with content)
  comes_out content =
      let gained = step_at steps.Lift (lock_word n) 0 ∷ step_at steps.Lock (lock_word n) 0 ∷ [] in
      comes_by v (taken_view content (locked_view n 0 v)) (out_with content) (gained ++ v.log)
      (ap out_of (locked ∙ ap (λ h. took steps.Lock (lock_word n) h (locked_view n h v)) free))
      (extends_by gained refl refl) where
        out_of : PassView P O R → PassView P O R
        out_of x = back_in (lifted_by n content x)

  module _ (content : Content P O R) (number : content.number ≡ n) (rows : AreRowsNoted F declared (lifted_by n content v1)) where
    taken : HasTakenNext F declared n v (out_with content) [] (content ∷ [])
    taken =
        has_taken_next F declared n v (out_with content) content [] (content ∷ []) (comes_out content) number held refl (λ k c at. absurd (cc)) unnoted
        (rows_back F declared (lifted_by n content v1) rows) refl

    has : HasCells F declared (out_with content) layout (One p) op (content ∷ [])
    has = has_alone F declared layout op p n v (out_with content) content named call taken

    module _ (reply : R) (is : HasStepped (F.ways_of layout) F.procs p op reply content (after content)) where
      made : HasSteppedCells (F.ways_of layout) F.procs (cells_of (shape_of F layout) F.procs) op (One p) reply (content ∷ []) (after content ∷ [])
      made = (is.replied, refl)

      abbrev drew : PassView P O R
      drew = back_in (called_by F declared layout p n op content reply v1)

    may_with : (id : ℕ) → MayCallWith F declared layout p n op id content v1
    may_with id = record {
      reached = (may_step F laws declared agrees (out_with content) layout (One p) op (content ∷ []) has procs_few).1;
      kept =
          put_now F declared id n (lifted_by n content v1) content number
          ((may_give_taken F laws declared agrees (out_with content) layout (One p) op (content ∷ []) has procs_few id).ready 0 content refl);
      draws = λ reply is.
          draw_now F declared (after content ∷ []) op reply (lifted_by n content v1)
          (may_draw F laws declared agrees (out_with content) layout (One p) op (content ∷ []) has procs_few reply (after content ∷ []) (made reply is) mine_few);
      puts = λ reply told is tells.
          put_now F declared id n (called_by F declared layout p n op content reply v1) told (tells.number ∙ number)
          ((may_give_drawn F laws declared agrees (out_with content) layout (One p) op (content ∷ []) has procs_few reply (after content ∷ []) (made reply is) id
          (called_by F declared layout p n op content reply v1).log (told ∷ []) (told_alone (drew reply is).notes (after content) told tells)).ready 0 told refl);
    }

  -- the operation may be made at the cell
  pub may_call : (id : ℕ) → MayCallAt F declared layout p n op id v1
  may_call id content number rows = may_with content number rows id

  -- what it was replied there is what the object can reply
  pub can_reply :
      (id : ℕ) (v2 : PassView P O R) (reply : R) (stamp : ℕ)
      → ((procs : ℕ) (parts : List P) → 0 < procs → F.Whole layout procs parts → F.Serves layout ((F.ways_of layout).combine parts))
      → ((procs proc : ℕ) (parts : List P) → proc < procs → F.Whole layout procs parts
      → StepsRow (F.object_of layout) (F.ways_of layout) (F.Whole layout procs) parts op ((F.ways_of layout).reach procs op proc))
      → HasCalledAt F declared layout p n op id reply stamp v1 v2 → CanReply F.object_of F.Serves layout op reply
  can_reply id v2 reply stamp serves steps is =
      replied_at_one F.object_of F.Serves layout (F.ways_of layout) (F.Whole layout) op call.takes reply serves steps
      (due_in (F.ways_of layout) F.procs p is.content) (may_with is.content is.number is.rows id).reached is.stepped.replied

  module _ (id : ℕ) (v2 : PassView P O R) where
    -- the lock may be left afterwards
    pub left_home : n < CELLS → (reply : R) (result : Result ℕ Memory) → IfOk result (λ stamp. HasCalledAt F declared layout p n op id reply stamp v1 v2)
        → OnErr result (HasLeftCell F declared n id v1 v2) → HoldsHome n v2
    left_home small reply (Ok stamp) is none =
        home_again n (is_some is.told.part) (called_by F declared layout p n op is.content reply v1) v2 is.put.knows small holds
    left_home small reply (Err error) none is = home_again n (is_some is.content.part) (lifted_by n is.content v1) v2 is.put.knows small holds

    -- and what has come of it then
    module _ (back : v.out ≡ None) (untold : v.untold ≡ []) (v3 : PassView P O R) (left : v3 ≡ took steps.Unlock (lock_word n) 0 (unlocked_view n v2)) where
      pub called_served : (reply : R) (stamp : ℕ) → last_stamp v1.taker.mine < stamp → HasCalledAt F declared layout p n op id reply stamp v1 v2
          → IsServedBy (calls.Ended reply) op v v3
      called_served reply stamp later is =
          let content = is.content in let u = out_with content in let drew = back_in (called_by F declared layout p n op content reply v1) in
          let gave = given n (is_some is.told.part) (called_by F declared layout p n op content reply v1) v2 is.put.knows v3 left in
          served_by F declared v u (content ∷ []) back (n ∷ []) (taken_alone F declared n v u (content ∷ []) (taken content is.number is.rows)) op drew v3 (is.told ∷ [])
          (ap (λ m. m ∷ []) is.tells.number)
          (subst (λ (m : ℕ). ComesTo drew (released (m ∷ []) drew) v3) (sym (is.tells.number ∙ is.number)) gave)
          (calls.Ended reply) untold
          (has_made F laws declared agrees u layout (One p) op (content ∷ []) (has content is.number is.rows) procs_few reply (after content ∷ []) (made content is.number is.rows reply is.stepped)
          (lock_word content.number) drew (later_stamp u (content.number ∷ []) stamp is.stamped later) refl)

      pub left_served : HasLeftCell F declared n id v1 v2 → IsServedBy calls.Memory op v v3
      left_served is =
          let content = is.content in let u = out_with content in
          let gave = given n (is_some content.part) (lifted_by n content v1) v2 is.put.knows v3 left in
          served_by F declared v u (content ∷ []) back (n ∷ []) (taken_alone F declared n v u (content ∷ []) (taken content is.number is.rows)) op u v3 (content ∷ []) refl
          (subst (λ (m : ℕ). ComesTo u (released (m ∷ []) u) v3) (sym is.number) gave) calls.Memory untold refl
