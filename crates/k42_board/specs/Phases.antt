-- The words of the objects, and what a pass knows of its call and its swap.
use Rattle.std.specs.Prelude.{◌≡◌, ◌≢◌, ℕ, ◌+◌, ◌<◌, ◌≤◌, Bool, true, false, List, Option, Some, None, take, slice_index}
use Rattle.k42_places.specs.Places.{EachPlace}
use Rattle.phase_core.specs.Plain.{Object, Phases}
use Rattle.phase_core.specs.Stages.{IsInside, named_by, object_named}
use Rattle.phase_core.specs.State.{object_at, visitor_at, note_at, span_at}
use Rattle.phase_core.specs.declared.caller.Place.{Place}
use Rattle.phase_core.specs.declared.caller.Place.TheVariants.{Direct, Tracked}
use Rattle.k42_joined.specs.Answers.{is_turned}
use Rattle.k42_board.specs.Log.{has_swept}
use Rattle.k42_board.specs.Words.{object_word, freed_word, local_word}
use Rattle.k42_board.specs.Values.{object_value, local_value, layout_in, incarnation_in}
use Rattle.k42_board.specs.Views.{shapes_at, word_begun}
use Rattle.k42_board.specs.declared.view.PassView.{PassView}
use Rattle.k42_board.specs.declared.view.Row.{Row}

pub record IsObjectShown (words : List ℕ) (o : ℕ) (k : Object) : Type 0 where
  pub word : slice_index words (object_word o) ≡ object_value k
  pub freed : slice_index words (freed_word o) ≡ k.freed
  pub entries : EachPlace (λ p e. slice_index words (local_word p o) ≡ local_value e) k.entries

abbrev pub AreObjects : List ℕ → List Object → Type 0
AreObjects words objects = EachPlace (IsObjectShown words) objects

-- A row that was handed on is below its object's incarnation, and is handed out once the swap is over.
abbrev pub IsOld : Phases → Row → Type 0
IsOld s row =
    let k = object_at s row.object in
    (row.incarnation < k.incarnation) × (k.complete ≡ true → row.incarnation + 1 < k.incarnation)

-- in a direct or a tracked call
abbrev pub is_served : Place → Bool
is_served (Direct o i) = true
is_served (Tracked o i) = true
is_served _ = false

-- its grace has noted more than the row
pub record IsGranted (noted : List (Option ℕ)) (row : Row) : Type 0 where
  pub number : ℕ
  pub known : note_at noted row.object ≡ Some number
  pub above : row.incarnation < number

-- of the rows from a first number up to a second, where there are some: there is one, and the object has the second
-- number still
pub record IsLastFreed (span : ℕ × ℕ) (k : Object) : Type 0 where
  pub one : span.0 + 1 ≡ span.1
  pub last : span.1 ≡ k.incarnation

-- what a pass knows of the object that it swaps
pub record KnowsSwap {P O R : Type 0} (s : Phases) (v : PassView P O R) : Type 0 where
  pub turned : v.turned ≡ is_turned v.visitor.swap (object_at s (object_named v.visitor.swap))
  -- until it turns the object over, what its Begin found there stays
  pub layout_begun :
      (o : ℕ) → named_by v.visitor.swap ≡ Some o → v.turned ≡ false
      → layout_in (word_begun v.last) ≡ (object_at s o).layout
  pub begun :
      (o : ℕ) → named_by v.visitor.swap ≡ Some o → v.turned ≡ false
      → incarnation_in (word_begun v.last) ≡ (object_at s o).incarnation
  -- and then the object is one incarnation further
  pub next :
      (o : ℕ) → named_by v.visitor.swap ≡ Some o → v.turned ≡ true
      → incarnation_in (word_begun v.last) + 1 ≡ (object_at s o).incarnation

-- what it knows of rows that were handed on
pub record KnowsRows {P O R : Type 0} (s : Phases) (v : PassView P O R) : Type 0 where
  pub old : EachPlace (λ place row. IsOld s row) v.rows
  -- its grace has noted more than the rows that it held then
  pub granted : EachPlace (λ place row. IsGranted v.visitor.noted row) (take v.granted v.rows)
  -- of these objects all rows are freed that it noted
  pub swept :
      (o n : ℕ) → has_swept v.log o ≡ true → note_at v.visitor.noted o ≡ Some n → n ≤ (object_at s o).freed
  -- the rows that it has freed are the last ones
  pub spans :
      (o : ℕ) → (span_at v.visitor.freeing o).0 < (span_at v.visitor.freeing o).1
      → IsLastFreed (span_at v.visitor.freeing o) (object_at s o)

pub record KnowsPhases {P O R : Type 0} (s : Phases) (v : PassView P O R) : Type 0 where
  pub visitor : visitor_at s v.number ≡ v.visitor
  -- which shapes the live layouts of each object have
  pub shapes : (o : ℕ) → shapes_at v o ≡ (object_at s o).shapes
  -- the layout that it has learned is that of the row which it is inside
  pub layout :
      (l o i : ℕ) → v.layout ≡ Some l → IsInside v.visitor.place o i → (object_at s o).layout ≡ l
  pub learned : is_served v.visitor.place ≡ true → v.layout ≢ None
  pub swap : KnowsSwap s v
  pub rows : KnowsRows s v
