-- What is used of the laws of a layout, on the processors of one system.
use Rattle.std.specs.Prelude.{◌≡◌, ℕ, ◌<◌, ◌≤◌, false, IsTrue, List, length}
use Rattle.k42_limits.specs.declared.TheConstants.{LIVE_LAYOUTS}
use Rattle.k42_kinds.specs.Histories.{is_call}
use Rattle.k42_kinds.specs.Rows.{IsWithin}
use Rattle.k42_shapes.specs.Shapes.{cells_of}
use Rattle.k42_kinds.specs.LayoutLaws.{StepsRow, StandsFor, Begins, Imports, AdmitsAsSwapped}
use Rattle.k42_stamp.specs.Layouts.{Layouts, IsKnown, IsLive, is_dead, shape_of}

pub record AreLaws {S L P O R : Type 0} (F : Layouts S L P O R) : Type 0 where
  pub some : 0 < F.procs
  pub on_one : (caller : ℕ) → F.proc_of caller < F.procs
  pub steps :
      (layout : L) (proc : ℕ) (parts : List P) (op : O) → IsKnown F layout → proc < F.procs
      → IsTrue ((F.object_of layout).takes op) → F.Whole layout F.procs parts
      → StepsRow (F.object_of layout) (F.ways_of layout) (F.Whole layout F.procs) parts op
      ((F.ways_of layout).reach F.procs op proc)
  pub reaches :
      (layout : L) (proc : ℕ) (op : O) → IsKnown F layout → proc < F.procs
      → IsTrue ((F.object_of layout).takes op)
      → IsWithin (cells_of (shape_of F layout) F.procs) ((F.ways_of layout).reach F.procs op proc)
  pub stands :
      (layout : L) (parts : List P) → IsKnown F layout → F.Whole layout F.procs parts
      → StandsFor (F.ways_of layout) (F.Serves layout) (shape_of F layout) F.procs parts
  pub begins :
      (layout : L) → IsKnown F layout
      → Begins (F.object_of layout) (F.ways_of layout) (F.Whole layout F.procs) (F.shapes_of layout) (F.tag_of layout) F.procs
  pub imports :
      (layout : L) (state : S) → IsKnown F layout → F.Serves layout state
      → Imports (F.ways_of layout) (F.Whole layout F.procs) F.procs state
  pub ends :
      (layout : L) (state : S) → IsKnown F layout → F.Serves layout state
      → (F.object_of layout).is_ended state ≡ is_dead F layout
  pub admits :
      (layout before : L) (state : S) → IsKnown F layout → IsLive F before
      → F.object_of before ≡ F.object_of layout → F.Serves before state
      → F.Serves layout (F.admitted layout state)
  pub swaps :
      (layout : L) (state : S) → IsKnown F layout
      → AdmitsAsSwapped (F.object_of layout) (F.act_of layout) state (F.admitted layout state)
  pub asks : (layout : L) → is_call (F.act_of layout) ≡ false
  pub alike :
      (layout other : L) → F.object_of layout ≡ F.object_of other → F.shapes_of layout ≡ F.shapes_of other
  pub few : (layout : L) → length (F.shapes_of layout) ≤ LIVE_LAYOUTS
