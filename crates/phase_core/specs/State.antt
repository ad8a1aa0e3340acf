-- Reading and changing one place of a state, and the state that was just made.
use Rattle.std.specs.List.{list_any}
use Rattle.std.specs.Prelude.{ℕ, Bool, List, Option, false, ◌&&◌, ◌==◌, ◌++◌, if◌then◌else◌, [], ◌∷◌, None, slice_index_or, slice_set, count_by, ◌<◌, length, replicate, ◌≤◌, map}
use Rattle.k42_limits.specs.declared.TheConstants.{LIVE_LAYOUTS, OBJECTS}
use Rattle.k42_shapes.specs.Shapes.{IsKnownTag, shared_and_spread}
use Rattle.k42_places.specs.Places.{EachPlace}
use Rattle.gen_core.specs.State as turns
use Rattle.gen_core.specs.State.{caller_at}
use Rattle.phase_core.specs.Plain.{ObjectPlan, Object, Visitor, Phases}
use Rattle.phase_core.specs.declared.caller.Place.TheVariants.{Out}
use Rattle.phase_core.specs.declared.caller.SwapAt.TheVariants.{Idle}
use Rattle.phase_core.specs.declared.object.LocalEntry.{LocalEntry}

-- an entry that leads nowhere
abbrev pub empty_entry : ℕ → LocalEntry
empty_entry i = record { tag = 0; layout = 0; cell = 0; incarnation = i }

abbrev pub mediator_entry : ℕ → LocalEntry
mediator_entry i = record { tag = 2; layout = 0; cell = 0; incarnation = i }

abbrev pub fresh_object : Object
fresh_object = record {
  shapes = [];
  count = 0;
  swap = false;
  block = false;
  moving = false;
  complete = false;
  layout = 0;
  incarnation = 0;
  entries = [];
  freed = 0;
}

abbrev pub fresh_visitor : Visitor
fresh_visitor = record { place = Out; read = []; noted = []; freeing = []; swap = Idle }

abbrev pub object_at : Phases → ℕ → Object
object_at s o = slice_index_or s.objects o fresh_object

abbrev pub visitor_at : Phases → ℕ → Visitor
visitor_at s c = slice_index_or s.callers c fresh_visitor

abbrev pub entry_at : Object → ℕ → LocalEntry
entry_at k p = slice_index_or k.entries p (empty_entry 0)

-- the processor of a caller
abbrev pub proc_of : Phases → ℕ → ℕ
proc_of s c = (caller_at s.turns c).proc

abbrev pub put_object : Phases → ℕ → Object → Phases
put_object s o k = record s { objects = slice_set s.objects o k }

abbrev pub put_visitor : Phases → ℕ → Visitor → Phases
put_visitor s c x = record s { callers = slice_set s.callers c x }

abbrev pub put_entry : Object → ℕ → LocalEntry → Object
put_entry k p e = record k { entries = slice_set k.entries p e }

abbrev pub note_at : List (Option ℕ) → ℕ → Option ℕ
note_at notes o = slice_index_or notes o None

-- the rows of an object from the first number up to, but without, the second
abbrev pub span_at : List (ℕ × ℕ) → ℕ → ℕ × ℕ
span_at spans o = slice_index_or spans o (0, 0)

-- whether a list of rows has a row of an object
abbrev pub has_row : List (ℕ × ℕ) → ℕ → ℕ → Bool
has_row rows o i = list_any (λ r. (r.0 == o) && (r.1 == i)) rows

-- how often a list of rows has a row of an object
abbrev pub times : List (ℕ × ℕ) → ℕ → ℕ → ℕ
times rows o i = count_by (λ r. (r.0 == o) && (r.1 == i)) rows

-- a row goes to the end of the list where it is not in it
abbrev pub with_row : List (ℕ × ℕ) → ℕ → ℕ → List (ℕ × ℕ)
with_row rows o i = if has_row rows o i then rows else rows ++ (o, i) ∷ []

abbrev pub new_object : ℕ → ObjectPlan → Object
new_object procs plan = record {
  shapes = plan.shapes;
  count = 0;
  swap = false;
  block = false;
  moving = false;
  complete = false;
  layout = plan.layout;
  incarnation = 0;
  entries = replicate procs (empty_entry 0);
  freed = 0;
}

abbrev pub new_visitor : ℕ → Visitor
new_visitor objects = record {
  place = Out;
  read = [];
  noted = replicate objects None;
  freeing = replicate objects (0, 0);
  swap = Idle;
}

-- an object that is shared, spread, or dead
abbrev pub of_two : ℕ → ObjectPlan
of_two layout = record { shapes = shared_and_spread; layout = layout }

-- so many processors, an object of each plan, and a caller on each processor that is named
abbrev pub new_phases : ℕ → List ObjectPlan → List ℕ → Phases
new_phases procs plans callers = record {
  turns = turns.fresh procs callers;
  objects = map (new_object procs) plans;
  callers = replicate (length callers) (new_visitor (length plans));
}

-- so many processors, objects of layouts that they have, and callers on processors that are there
pub record IsPlan (procs : ℕ) (plans : List ObjectPlan) (callers : List ℕ) : Type 0 where
  pub turns : turns.IsPlan procs callers
  pub some_objects : 0 < length plans
  pub few_objects : length plans ≤ OBJECTS
  pub known_layouts : EachPlace (λ o plan. IsKnownTag plan.shapes plan.layout) plans
  pub few_layouts : EachPlace (λ o plan. length plan.shapes ≤ LIVE_LAYOUTS) plans
