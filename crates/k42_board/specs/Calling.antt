-- A call at the one cell that it needs: the cell is lifted, stepped in its slot, told of the entry that is drawn at it, and
-- put back.
use Rattle.std.specs.Prelude.{◌≡◌, ℕ, List, [], ◌∷◌, Some, unwrap_or}
use Rattle.k42_kinds.specs.LayoutLaws.{IsReached}
use Rattle.k42_kinds.specs.Rows.{Ways}
use Rattle.k42_stamp.specs.Layouts.{Layouts}
use Rattle.k42_joined.specs.Drawing.{first_cell}
use Rattle.k42_board.specs.Drawing.{IsTold, MayDrawCall, drawn_at, entry_at, numbers_of, stamp_next, untold_view}
use Rattle.k42_board.specs.Log.{took}
use Rattle.k42_board.specs.Protocol.{lift, put, draw_call}
use Rattle.k42_board.specs.Stepping.{Moves, Takes}
use Rattle.k42_board.specs.Taking.{AreRowsNoted, MayPut, lifted_view}
use Rattle.k42_board.specs.Words.{lock_word}
use Rattle.k42_board.specs.declared.cell.Content.{Content}
use Rattle.k42_board.specs.declared.view.PassView.{PassView}
use Rattle.k42_board.specs.declared.view.StepName.TheVariants as steps

module _ {S P O R : Type 0} (ways : Ways S P O R) (procs : ℕ) where
  -- the part that is due at a place: a missing one stands for the empty one
  abbrev pub due_in : ℕ → Content P O R → P
  due_in p content = unwrap_or content.part (ways.empty procs p)

  -- the cell of a place after the operation
  abbrev pub stepped_at : ℕ → O → Content P O R → Content P O R
  stepped_at p op content = record content { part = Some (ways.part_after (due_in p content) op) }

  -- the operation was made at the cell of a place, with this reply
  pub record HasStepped (p : ℕ) (op : O) (reply : R) (old new : Content P O R) : Type 0 where
    pub replied : reply ≡ ways.part_reply (due_in p old) op
    pub stepped : new ≡ stepped_at p op old

-- the pass once it has the cell out, in its slot
abbrev pub lifted_by : {P O R : Type 0} → ℕ → Content P O R → PassView P O R → PassView P O R
lifted_by n content v = took steps.Lift (lock_word n) 0 (lifted_view content v)

module _ {S L P O R : Type 0} (F : Layouts S L P O R) (declared : List L) (layout : L) (p n : ℕ) (op : O) where
  -- the cell after the operation
  abbrev pub stepped_cell : Content P O R → Content P O R
  stepped_cell = stepped_at (F.ways_of layout) F.procs p op

  -- the pass once it has drawn the call too, with this reply
  abbrev pub called_by : Content P O R → R → PassView P O R → PassView P O R
  called_by content reply v =
      let cells = stepped_cell content ∷ [] in let w = lifted_by n content v in
      took steps.Draw (lock_word (first_cell (numbers_of cells))) 0 (drawn_at cells (entry_at cells op reply w) w)

  -- The operation may be made on this cell, once it is out, and drawn, and the cell be put back then; or it may be put back
  -- as it is.
  pub record MayCallWith (id : ℕ) (content : Content P O R) (v : PassView P O R) : Type 0 where
    pub reached : IsReached (F.ways_of layout) (F.Whole layout) (due_in (F.ways_of layout) F.procs p content) op
    pub kept : MayPut F declared id n content (lifted_by n content v)
    pub draws :
        (reply : R) → HasStepped (F.ways_of layout) F.procs p op reply content (stepped_cell content)
        → MayDrawCall F declared (stepped_cell content ∷ []) op reply (lifted_by n content v)
    pub puts :
        (reply : R) (told : Content P O R) → HasStepped (F.ways_of layout) F.procs p op reply content (stepped_cell content)
        → IsTold (called_by content reply v).notes (stepped_cell content) told
        → MayPut F declared id n told (called_by content reply v)

  -- So it is of the cell with this number, whatever is in it, where the pass has noted what is due in its row.
  abbrev pub MayCallAt : ℕ → PassView P O R → Type 0
  MayCallAt id v =
      (content : Content P O R) → content.number ≡ n → AreRowsNoted F declared (lifted_by n content v)
      → MayCallWith id content v

  -- The pass v has lifted the cell, made the operation on it with this reply, drawn the call with this stamp, told the cell
  -- of it and put it back, and is w then.
  pub record HasCalledAt (id : ℕ) (reply : R) (stamp : ℕ) (v w : PassView P O R) : Type 0 where
    pub content : Content P O R
    pub number : content.number ≡ n
    pub lifted : Moves F declared (lift n content) id v (lifted_by n content v)
    pub rows : AreRowsNoted F declared (lifted_by n content v)
    pub stepped : HasStepped (F.ways_of layout) F.procs p op reply content (stepped_cell content)
    pub stamped : stamp ≡ stamp_next (lifted_by n content v) (content.number ∷ [])
    pub drawn :
        (found : ℕ)
        → Takes F declared (draw_call (stepped_cell content ∷ []) op reply) id (lifted_by n content v) found
        (untold_view (content.number ∷ []) (called_by content reply v))
    pub told : Content P O R
    pub tells : IsTold (called_by content reply v).notes (stepped_cell content) told
    pub put : Moves F declared (put n told) id (called_by content reply v) w

-- It has lifted the cell and put it back as it was.
pub record HasLeftCell
    {S L P O R : Type 0} (F : Layouts S L P O R) (declared : List L) (n id : ℕ) (v w : PassView P O R)
    : Type 0 where
  pub content : Content P O R
  pub number : content.number ≡ n
  pub lifted : Moves F declared (lift n content) id v (lifted_by n content v)
  pub rows : AreRowsNoted F declared (lifted_by n content v)
  pub put : Moves F declared (put n content) id (lifted_by n content v) w
