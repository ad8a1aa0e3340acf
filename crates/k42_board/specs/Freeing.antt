-- The step that frees rows, for one pass: where it may be taken, and what the pass knows after it.
use Rattle.std.specs.Prelude.{◌≡◌, ℕ, ◌+◌, ◌<◌, if◌then◌else◌, nat_lt, Some, length, slice_set, unwrap_or}
use Rattle.gen_core.specs.declared.state.GraceAt.TheVariants.{Quiet}
use Rattle.phase_core.specs.Plain.{Visitor}
use Rattle.phase_core.specs.State.{note_at}
use Rattle.k42_board.specs.declared.view.PassView.{PassView}

-- its grace is quiet, and noted a number of the object
pub record MayFree {P O R : Type 0} (objects o : ℕ) (v : PassView P O R) : Type 0 where
  pub quiet : v.turn.grace ≡ Quiet
  pub number : ℕ
  pub known : note_at v.visitor.noted o ≡ Some number
  pub there : o < objects

abbrev pub number_noted : {P O R : Type 0} → PassView P O R → ℕ → ℕ
number_noted v o = unwrap_or (note_at v.visitor.noted o) 0

-- the rows from the mark found up to the noted number are freed by it
abbrev pub visitor_freed : Visitor → ℕ → ℕ → ℕ → Visitor
visitor_freed x o found n = if nat_lt found n then record x { freeing = slice_set x.freeing o (found, n) } else x

abbrev pub freed_view : {P O R : Type 0} → ℕ → ℕ → PassView P O R → PassView P O R
freed_view o found v = record v { visitor = visitor_freed v.visitor o found (number_noted v o) }

-- the mark is short of the noted number by one row at most
pub record MarkFound {P O R : Type 0} (o : ℕ) (v : PassView P O R) (found : ℕ) : Type 0 where
  pub short : found < number_noted v o → found + 1 ≡ number_noted v o
  pub there : o < length v.visitor.freeing
