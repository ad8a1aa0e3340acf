-- An object kept as a row of copies of its state.
use Rattle.std.specs.Prelude.{◌≡◌, ℕ, ◌==◌, Bool, IsTrue, ◌||◌, if◌then◌else◌, List, fold, map, replicate, slice_index_or}
use Rattle.std.specs.List.{AllByRecursion}
use Rattle.k42_shapes.specs.declared.shape.Shape.{Shape}
use Rattle.k42_shapes.specs.Shapes.{cells_of, cell_called}
use Rattle.k42_kinds.specs.declared.entry.Reach.{Reach}
use Rattle.k42_kinds.specs.declared.entry.Reach.TheVariants.{One, All}
use Rattle.k42_kinds.specs.OneThread.{OneThread}
use Rattle.k42_kinds.specs.Rows.{Ways}

-- the state after these operations, the first of them first
abbrev pub state_after : {S O R : Type 0} → OneThread S O R → List O → S
state_after object ops = fold object.after object.start ops

-- operations that the object takes lead to the state
pub record IsReachable {S O R : Type 0} (object : OneThread S O R) (state : S) : Type 0 where
  pub ops : List O
  pub taken : AllByRecursion (λ op. IsTrue (object.takes op)) ops
  pub reached : state_after object ops ≡ state

-- the state of the first cell
abbrev pub first_of : {S O R : Type 0} → OneThread S O R → List S → S
first_of object row = slice_index_or row 0 object.start

-- each cell has the same state, in which the object can be
pub record AreCopies {S O R : Type 0} (object : OneThread S O R) (shape : Shape) (procs : ℕ) (row : List S) : Type 0 where
  pub same : row ≡ replicate (cells_of shape procs) (first_of object row)
  pub reachable : IsReachable object (first_of object row)

-- The caller's own cell serves for an operation that only reads, and for every one where it is the only cell.
abbrev pub copies_reach : {O : Type 0} → (O → Bool) → Shape → ℕ → O → ℕ → Reach
copies_reach reads shape procs op proc =
    if (cells_of shape procs == 1) || reads op then One (cell_called shape proc) else All

abbrev pub copies : {S O R : Type 0} → OneThread S O R → (O → Bool) → Shape → Ways S S O R
copies object reads shape = record {
  reach = copies_reach reads shape;
  empty = λ procs cell. object.start;
  part_after = object.after;
  part_reply = object.reply;
  row_after = λ row op. map (λ state. object.after state op) row;
  row_reply = λ row op. object.reply (first_of object row) op;
  combine = first_of object;
  imported = λ procs state. replicate (cells_of shape procs) state;
}
