-- Rows that are freed.
use Rattle.std.specs.Prelude.{◌≡◌, ℕ, ◌++◌, List, length}
use Rattle.k42_stamp.specs.Layouts.{Layouts}
use Rattle.k42_board.specs.Log.{Grows}
use Rattle.k42_board.specs.Noting.{notes_due}
use Rattle.k42_board.specs.Seen.{PassSeen}
use Rattle.k42_board.specs.Steps.{Always}
use Rattle.k42_board.specs.declared.view.PassView.{PassView}
use Rattle.k42_board.specs.declared.view.Row.{Row}
use Rattle.k42_board.specs.declared.view.Taken.{Taken}
use Rattle.k42_quiesce.specs.Reclaiming.{Reclaims, AreRowsFreed}

-- the pass with these rows more
abbrev pub with_rows : {P O R : Type 0} → List Row → PassView P O R → PassView P O R
with_rows rows v = record v { rows = v.rows ++ rows }

-- The pass has collected rows that others had handed over; the grace that began then has freed so many rows, and has
-- dropped their parts; those that it held are free.
pub record HasReclaimed
    {S L P O R : Type 0} (F : Layouts S L P O R) (declared : List L) (count : ℕ) (old new : PassSeen P O R)
    : Type 0 where
  pub collected : List Row
  pub popped : new.popped ≡ old.popped ++ collected
  pub pushed : new.pushed ≡ old.pushed
  pub log : List Taken
  pub graced : Grows old.view.log log
  pub freed : Reclaims F.procs (length declared) (notes_due (with_rows collected old.view)) log new.view.log count
  pub rows : Always F declared old.seat new.view (AreRowsFreed (old.view.rows ++ collected))
