-- The layouts of one type, on the processors of one system.
use Rattle.std.specs.Prelude.{ℕ, Bool, List}
use Rattle.k42_shapes.specs.declared.shape.Shape.{Shape}
use Rattle.k42_shapes.specs.Shapes.{IsKnownTag, IsLiveTag, is_dead_tag, shape_at}
use Rattle.k42_kinds.specs.declared.entry.Act.{Act}
use Rattle.k42_kinds.specs.OneThread.{OneThread}
use Rattle.k42_kinds.specs.Rows.{Ways}

-- what the layouts tell of themselves, how many processors there are, and on which of them each caller is
pub record Layouts (S L P O R : Type 0) : Type 1 where
  pub object_of : L → OneThread S O R
  pub shapes_of : L → List Shape
  pub tag_of : L → ℕ
  pub ways_of : L → Ways S P O R
  pub Whole : L → ℕ → List P → Type 0
  pub Serves : L → S → Type 0
  pub admitted : L → S → S
  pub act_of : L → Act O
  pub procs : ℕ
  pub proc_of : ℕ → ℕ

-- the same from the ghost members of the trait, each by itself
abbrev pub layouts_with :
    {S L P O R : Type 0}
    → (L → OneThread S O R) → (L → List Shape) → (L → ℕ) → (L → Ways S P O R) → (L → ℕ → List P → Type 0)
    → (L → S → Type 0) → (L → S → S) → (L → Act O) → ℕ → (ℕ → ℕ)
    → Layouts S L P O R
layouts_with object_of shapes_of tag_of ways_of Whole Serves admitted act_of procs proc_of = record {
  object_of = object_of;
  shapes_of = shapes_of;
  tag_of = tag_of;
  ways_of = ways_of;
  Whole = Whole;
  Serves = Serves;
  admitted = admitted;
  act_of = act_of;
  procs = procs;
  proc_of = proc_of;
}

-- what a layout's tag says among those of its object
module _ {S L P O R : Type 0} (F : Layouts S L P O R) (layout : L) where
  abbrev pub IsKnown : Type 0
  IsKnown = IsKnownTag (F.shapes_of layout) (F.tag_of layout)

  abbrev pub IsLive : Type 0
  IsLive = IsLiveTag (F.shapes_of layout) (F.tag_of layout)

  abbrev pub is_dead : Bool
  is_dead = is_dead_tag (F.shapes_of layout) (F.tag_of layout)

  abbrev pub shape_of : Shape
  shape_of = shape_at (F.shapes_of layout) (F.tag_of layout)
