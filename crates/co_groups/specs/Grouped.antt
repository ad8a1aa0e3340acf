-- An object with a cell for each processor, kept with a cell for each group of them.
use Rattle.std.specs.Prelude.{ℕ, ◌%◌, false, List}
use Rattle.k42_shapes.specs.declared.shape.Shape.{Shape}
use Rattle.k42_shapes.specs.Shapes.{cells_of, cell_called}
use Rattle.k42_kinds.specs.OneThread.{OneThread}
use Rattle.k42_kinds.specs.Rows.{Ways}

-- the object while it lives: it has no end, and a swap leaves its state
abbrev pub living : {S O R : Type 0} → OneThread S O R → OneThread S O R
living object = record {
  start = object.start;
  takes = object.takes;
  after = object.after;
  reply = object.reply;
  swapped = λ state to. state;
  is_ended = λ state. false;
}

-- What the layout does, with the cells of the shape for the processors. A cell that is not in the row begins as one that is.
abbrev pub grouped : {S P O R : Type 0} → Shape → Ways S P O R → Ways S P O R
grouped shape ways = record {
  reach = λ procs op proc. ways.reach (cells_of shape procs) op (cell_called shape proc);
  empty = λ procs cell. ways.empty (cells_of shape procs) (cell % cells_of shape procs);
  part_after = ways.part_after;
  part_reply = ways.part_reply;
  row_after = ways.row_after;
  row_reply = ways.row_reply;
  combine = ways.combine;
  imported = λ procs state. ways.imported (cells_of shape procs) state;
}

-- the parts are a row of the layout for as many processors as the shape has cells
abbrev pub IsGrouped : {P : Type 0} → Shape → (ℕ → List P → Type 0) → ℕ → List P → Type 0
IsGrouped shape Whole procs = Whole (cells_of shape procs)
