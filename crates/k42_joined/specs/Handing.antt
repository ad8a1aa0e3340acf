-- Where a row is handed on to the next.
use Rattle.std.specs.Prelude.{◌≡◌, ◌⊎◌, ℕ, ◌+◌, ◌≤◌, false, List, Some, None, slice_get}
use Rattle.k42_kinds.specs.declared.entry.Answer.TheVariants.{Swapped}
use Rattle.k42_kinds.specs.declared.entry.Entry.{Entry}
use Rattle.phase_core.specs.declared.caller.SwapAt.TheVariants.{Moved}
use Rattle.k42_stamp.specs.Layouts.{Layouts, IsKnown}
use Rattle.k42_joined.specs.Plain.{Joined}
use Rattle.k42_joined.specs.State.{object, incarnation, swap_of, is_handed, many_procs}
use Rattle.k42_joined.specs.Numbers.{row_cells}
use Rattle.k42_joined.specs.Drawing.{Bears}

-- The caller moves the object, whose row was not handed on yet, and all rows before it are freed. It closes
-- the cells of the row of the incarnation and begins those of the next. The layout is of the object's kind,
-- and the entry tells of it.
pub record MayHand
    {S L P O R : Type 0} (F : Layouts S L P O R) (declared : List L) (s : Joined L O R) (c : ℕ) (from onto : List ℕ)
    (layout : L) (entry : Entry O R)
    : Type 0 where
  pub moved : swap_of s c ≡ Moved entry.object
  pub once : is_handed s entry.object ≡ false
  pub freed :
      (incarnation s entry.object ≡ 0) ⊎ (incarnation s entry.object ≤ (object s entry.object).freed)
  pub closes : from ≡ row_cells (many_procs s) entry.object (incarnation s entry.object)
  pub begins : onto ≡ row_cells (many_procs s) entry.object (incarnation s entry.object + 1)
  pub declaration : L
  pub declares : slice_get declared entry.object ≡ Some declaration
  pub kind : F.object_of layout ≡ F.object_of declaration
  pub known : IsKnown F layout
  pub present : entry.incarnation ≡ incarnation s entry.object
  pub act : entry.act ≡ F.act_of layout
  pub answer : entry.answer ≡ Swapped (incarnation s entry.object + 1)
  pub bears : Bears s c onto entry
  pub generation : entry.generation ≡ None
