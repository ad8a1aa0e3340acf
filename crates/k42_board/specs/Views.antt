-- The views of passes.
use Rattle.std.specs.Prelude.{ℕ, ◌+◌, false, List, [], ◌∷◌, Option, Some, None, length, map, slice_index_or}
use Rattle.k42_kinds.specs.declared.entry.Answer.{Answer}
use Rattle.k42_shapes.specs.declared.shape.Shape.{Shape}
use Rattle.gen_core.specs.State.{fresh_caller}
use Rattle.phase_core.specs.State.{new_visitor}
use Rattle.turn_core.specs.State as turns
use Rattle.k42_joined.specs.Plain.{Kept}
use Rattle.k42_board.specs.Values.{answer_in}
use Rattle.k42_board.specs.declared.view.View.{View}
use Rattle.k42_board.specs.declared.view.View.TheVariants.{Crew}
use Rattle.k42_board.specs.declared.view.PassView.{PassView}
use Rattle.k42_board.specs.declared.view.LastBegin.{LastBegin}

abbrev pub begun_of : Option LastBegin → Option ℕ
begun_of None = None
begun_of (Some begin) = Some begin.object

-- the word that its last Begin found, 0 where there is none
abbrev pub word_begun : Option LastBegin → ℕ
word_begun None = 0
word_begun (Some begin) = begin.word

-- and its object
abbrev pub object_begun : Option LastBegin → ℕ
object_begun None = 0
object_begun (Some begin) = begin.object

-- the shapes of an object's live layouts, and how many these are
abbrev pub shapes_at : {P O R : Type 0} → PassView P O R → ℕ → List Shape
shapes_at v o = slice_index_or v.shapes o []

abbrev pub live_at : {P O R : Type 0} → PassView P O R → ℕ → ℕ
live_at v o = length (shapes_at v o)

-- what the word of its last Begin answered, where there is one, by how many live layouts each object has
abbrev pub answer_begun : {R : Type 0} → (ℕ → ℕ) → Option LastBegin → Option (Answer R)
answer_begun live None = None
answer_begun live (Some begin) = answer_in (live begin.object) begin.word

-- what the joined machine keeps of the pass
abbrev pub kept_in : {P O R : Type 0} → PassView P O R → Kept R
kept_in v = record { begun = begun_of v.last; found = v.found; abandoned = v.abandoned }

-- of a caller that has done nothing
abbrev pub new_pass : {P O R : Type 0} → ℕ → List (List Shape) → ℕ → ℕ → PassView P O R
new_pass procs shapes number home = record {
  shapes = shapes;
  number = number;
  turn = fresh_caller procs home;
  visitor = new_visitor (length shapes);
  taker = turns.fresh_caller;
  graces = 0;
  base = None;
  last = None;
  found = None;
  abandoned = false;
  turned = false;
  layout = None;
  handed = None;
  rows = [];
  granted = 0;
  notes = [];
  out = None;
  untold = [];
  log = [];
}

-- the pass that alone has the view of a seat
abbrev pub pass_in : {P O R : Type 0} → View P O R → PassView P O R
pass_in (Crew (v ∷ [])) = v
pass_in view = new_pass 0 [] 0 0

-- the callers on these processors, counted from a first one
abbrev pub new_passes : {P O R : Type 0} → ℕ → List (List Shape) → ℕ → List ℕ → List (PassView P O R)
new_passes procs shapes first [] = []
new_passes procs shapes first (home ∷ homes) =
    new_pass procs shapes first home ∷ new_passes procs shapes (first + 1) homes

-- the seat of a new table has all callers
abbrev pub first_view : {L P O R : Type 0} → (L → List Shape) → ℕ → List L → List ℕ → View P O R
first_view shapes_of procs layouts callers = Crew (new_passes procs (map shapes_of layouts) 0 callers)
