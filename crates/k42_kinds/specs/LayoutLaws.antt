-- What a layout owes the object of one thread.
use Rattle.std.specs.Prelude.{◌≡◌, ℕ, ◌<◌, List, length, Some}
use Rattle.k42_kinds.specs.declared.entry.Act.{Act}
use Rattle.k42_kinds.specs.declared.entry.Act.TheVariants.{Swap}
use Rattle.k42_kinds.specs.declared.entry.Answer.TheVariants.{Swapped}
use Rattle.k42_kinds.specs.declared.entry.Reach.{Reach}
use Rattle.k42_kinds.specs.declared.entry.To.{To}
use Rattle.k42_kinds.specs.declared.entry.Reach.TheVariants.{One}
use Rattle.k42_shapes.specs.declared.shape.Shape.{Shape}
use Rattle.k42_kinds.specs.OneThread.{OneThread}
use Rattle.k42_kinds.specs.Histories.{state_moved}
use Rattle.k42_kinds.specs.Rows.{Ways, part_at, row_moved, row_replied, empty_row}
use Rattle.k42_shapes.specs.Shapes.{cells_of, IsKnownTag, IsLiveTag, shape_at}

-- an operation at these cells of the row is the step of the object, and leaves the row whole
pub record StepsRow
    {S P O R : Type 0} (object : OneThread S O R) (ways : Ways S P O R) (Whole : List P → Type 0)
    (parts : List P) (op : O) (reach : Reach)
    : Type 0 where
  pub whole : Whole (row_moved ways parts op reach)
  pub moved : ways.combine (row_moved ways parts op reach) ≡ object.after (ways.combine parts) op
  pub replied : row_replied ways parts op reach ≡ Some (object.reply (ways.combine parts) op)

-- a whole row has the cells that are due, and stands for a state that the layout serves
pub record StandsFor
    {S P O R : Type 0} (ways : Ways S P O R) (Serves : S → Type 0) (shape : Shape) (procs : ℕ) (parts : List P)
    : Type 0 where
  pub sized : length parts ≡ cells_of shape procs
  pub served : Serves (ways.combine parts)

-- empty parts are a whole row, which stands for the empty state unless the layout is the dead one
pub record Begins
    {S P O R : Type 0} (object : OneThread S O R) (ways : Ways S P O R) (Whole : List P → Type 0)
    (shapes : List Shape) (tag procs : ℕ)
    : Type 0 where
  pub whole : Whole (empty_row ways (shape_at shapes tag) procs)
  pub empty : IsLiveTag shapes tag → ways.combine (empty_row ways (shape_at shapes tag) procs) ≡ object.start

-- what is made of a state is a whole row that stands for it
pub record Imports
    {S P O R : Type 0} (ways : Ways S P O R) (Whole : List P → Type 0) (procs : ℕ) (state : S)
    : Type 0 where
  pub whole : Whole (ways.imported procs state)
  pub back : ways.combine (ways.imported procs state) ≡ state

-- what is admitted is what a carried-out swap to the layout makes of a state, whatever its number
abbrev pub AdmitsAsSwapped : {S O R : Type 0} → OneThread S O R → Act O → S → S → Type 0
AdmitsAsSwapped object act state admitted =
    (number : ℕ) → state_moved object state act (Swapped number) ≡ admitted

-- two layouts keep an object in one way
pub record Agree
    {S P O R : Type 0} (these those : Ways S P O R) (Whole OtherWhole : ℕ → List P → Type 0)
    (Serves OtherServes : S → Type 0)
    : Type 0 where
  pub ways : these ≡ those
  pub whole : (procs : ℕ) (parts : List P) → Whole procs parts → OtherWhole procs parts
  pub served : (state : S) → Serves state → OtherServes state

-- a layout of the same object with the tag that is wanted
pub record IsTagged {S O R : Type 0} (object old : OneThread S O R) (tag wanted : ℕ) : Type 0 where
  pub same : object ≡ old
  pub tagged : tag ≡ wanted

-- a layout of the same object that is asked for by a swap to this
pub record IsTarget {S O R : Type 0} (object old : OneThread S O R) (shapes : List Shape) (tag : ℕ) (act : Act O) (to : To)
    : Type 0 where
  pub same : object ≡ old
  pub known : IsKnownTag shapes tag
  pub asked : act ≡ Swap to

-- the part is that of a whole row at the cell that the operation needs
pub record IsReached
    {S P O R : Type 0} (ways : Ways S P O R) (Whole : ℕ → List P → Type 0) (part : P) (op : O)
    : Type 0 where
  pub procs : ℕ
  pub proc : ℕ
  pub parts : List P
  pub cell : ℕ
  pub known : proc < procs
  pub whole : Whole procs parts
  pub needed : ways.reach procs op proc ≡ One cell
  pub there : part_at parts cell ≡ Some part

-- the parts are a whole row
pub record IsWholeRow {P : Type 0} (Whole : ℕ → List P → Type 0) (parts : List P) : Type 0 where
  pub procs : ℕ
  pub some : 0 < procs
  pub whole : Whole procs parts
