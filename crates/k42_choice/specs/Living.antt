-- What layouts owe an object while it lives.
use Rattle.std.specs.Prelude.{◌≡◌, ℕ, List}
use Rattle.k42_kinds.specs.LayoutLaws.{Agree}
use Rattle.k42_kinds.specs.OneThread.{OneThread}
use Rattle.k42_kinds.specs.Rows.{Ways, empty_row}
use Rattle.k42_shapes.specs.declared.shape.Shape.{Shape}

-- empty parts are a whole row, which stands for the state before the first operation
pub record IsRowOfNew
    {S P O R : Type 0} (object : OneThread S O R) (ways : Ways S P O R) (Whole : List P → Type 0)
    (shape : Shape) (procs : ℕ)
    : Type 0 where
  pub whole : Whole (empty_row ways shape procs)
  pub empty : ways.combine (empty_row ways shape procs) ≡ object.start

-- they share cells in one way, and keep the object in one way
pub record IsKeptAlike
    {S P O R : Type 0} (shape other_shape : Shape) (these those : Ways S P O R) (Whole OtherWhole : ℕ → List P → Type 0)
    (Serves OtherServes : S → Type 0)
    : Type 0 where
  pub shapes : shape ≡ other_shape
  pub agree : Agree these those Whole OtherWhole Serves OtherServes

-- The two begin alike, take the same, and do the same. That neither has an end of its own, and that a swap leaves the
-- state of each, is owed already where they live.
abbrev pub AreOneObject : {S O R : Type 0} → OneThread S O R → OneThread S O R → Type 0
AreOneObject {S} {O} one other =
    (one.start ≡ other.start)
    × ((op : O) → one.takes op ≡ other.takes op)
    × ((state : S) (op : O) → one.after state op ≡ other.after state op)
    × ((state : S) (op : O) → one.reply state op ≡ other.reply state op)
