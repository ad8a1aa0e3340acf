-- The layouts of a system, on its processors and for its callers.
use Rattle.std.specs.Prelude.{ℕ, Bool, List, slice_index_or}
use Rattle.k42_shapes.specs.declared.shape.Shape.{Shape}
use Rattle.k42_kinds.specs.OneThread.{OneThread}
use Rattle.k42_kinds.specs.Rows.{Ways}
use Rattle.k42_kinds.specs.declared.entry.Act.{Act}
use Rattle.k42_kinds.specs.declared.entry.To.{To}
use Rattle.k42_stamp.specs.Layouts.{Layouts, layouts_with}

abbrev pub layouts_on :
    {S L P O R : Type 0}
    → (L → OneThread S O R) → (L → List Shape) → (L → ℕ) → (L → Ways S P O R) → (L → ℕ → List P → Type 0)
    → (L → S → Type 0) → (L → S → S) → (L → Act O) → ℕ → List ℕ
    → Layouts S L P O R
layouts_on object_of shapes_of tag_of ways_of Whole Serves admitted act_of procs callers =
    layouts_with object_of shapes_of tag_of ways_of Whole Serves admitted act_of procs (λ c. slice_index_or callers c 0)

-- what a type of layouts says of them: what a clause has as `L.Layout`
abbrev pub LayoutWords : Type 0 → Type 0 → Type 0 → Type 0 → Type 0 → Type 1
LayoutWords S L P O R = record {
  object : L → OneThread S O R;
  shapes : L → List Shape;
  tag_of : L → ℕ;
  has_tag : L → ℕ → Bool;
  ways : L → Ways S P O R;
  whole : L → ℕ → List P → Type 0;
  serves : L → S → Type 0;
  admitted : L → S → S;
  act_of : L → Act O;
  leads : L → To → Type 0;
}

-- its layouts on so many processors, and for callers that are on these
abbrev pub layouts_of : {S L P O R : Type 0} → LayoutWords S L P O R → ℕ → List ℕ → Layouts S L P O R
layouts_of words procs callers =
    layouts_on words.object words.shapes words.tag_of words.ways words.whole words.serves words.admitted words.act_of procs callers
