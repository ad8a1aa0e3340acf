-- The rule of the table: words, slots and views show a state of the joined machine that meets its invariant.
use Rattle.std.specs.Prelude.{◌≡◌, ℕ, ◌<◌, ◌≤◌, true, List, length, ⊤, Some, slice_get}
use mathlib.Core.Option.{some}
use lib.ListN.{get_elem?}
use Rattle.atomic_table.specs.Table.{State}
use Rattle.k42_limits.specs.declared.TheConstants.{OBJECTS, PASS_ENTRIES}
use Rattle.k42_places.specs.Places.{EachPlace}
use Rattle.k42_stamp.specs.Layouts.{Layouts}
use Rattle.turn_core.specs.Events.{is_known}
use Rattle.k42_joined.specs.Plain.{Joined}
use Rattle.k42_joined.specs.Sound.{IsSound}
use Rattle.k42_joined.specs.State.{many_procs, many_callers, many_objects}
use Rattle.k42_board.specs.Cells.{Slot, Contents, IsCellShown, KnowsCells}
use Rattle.k42_board.specs.Generations.{Counts, AreGenerations, KnowsGenerations}
use Rattle.k42_board.specs.Parts.{IsPart}
use Rattle.k42_board.specs.Phases.{AreObjects, IsOld, KnowsPhases}
use Rattle.k42_board.specs.Trace.{KnowsTrace}
use Rattle.k42_board.specs.Words.{many_words, many_slots}
use Rattle.k42_board.specs.declared.view.PassView.{PassView}
use Rattle.k42_board.specs.declared.view.Row.{Row}
use Rattle.k42_board.specs.declared.view.View.{View}
use Rattle.k42_board.specs.declared.view.View.TheVariants.{Crew, Kept, Named, Drew, Spent}

-- what is shown beside the state: which seat each caller and each row has, which graces callers have begun, and what
-- the cells have
pub record Beside (P : Type 0) : Type 0 where
  pub seat : ℕ → ℕ
  pub row_seat : Row → ℕ
  pub counts : Counts
  pub contents : Contents P

-- no two passes of the list are of one caller
abbrev pub AreApart : {P O R : Type 0} → List (PassView P O R) → Type 0
AreApart {P} {O} {R} passes =
    (i j : ℕ) (v w : PassView P O R) → slice_get passes i ≡ Some v → slice_get passes j ≡ Some w
    → v.number ≡ w.number → i ≡ j

-- no row stands twice in the list
abbrev pub AreOnce : List Row → Type 0
AreOnce rows =
    (i j : ℕ) (row : Row) → slice_get rows i ≡ Some row → slice_get rows j ≡ Some row → i ≡ j

-- a seat names the rows of its pass, each once; no other seat names one of them
pub record NamesRows {P : Type 0} (beside : Beside P) (id : ℕ) (rows : List Row) : Type 0 where
  pub named : EachPlace (λ place row. beside.row_seat row ≡ id) rows
  pub once : AreOnce rows

module _ {L P O R : Type 0} (tag_of : L → ℕ) (s : Joined L O R) (beside : Beside P) where
  -- a pass knows its caller, which no other seat has
  pub record KnowsPass (id : ℕ) (v : PassView P O R) : Type 0 where
    pub there : v.number < many_callers s
    pub seat : beside.seat v.number ≡ id
    pub names : NamesRows beside id v.rows
    pub generations : KnowsGenerations s.phases.turns beside.counts v
    pub phases : KnowsPhases s.phases v
    pub cells : KnowsCells s.turns beside.contents v
    pub trace : KnowsTrace tag_of s v

  abbrev pub Knows : ℕ → View P O R → Type 0
  Knows id (Crew passes) = AreApart passes × EachPlace (λ place v. KnowsPass id v) passes
  Knows id (Named row) = IsOld s.phases row × (beside.row_seat row ≡ id)
  Knows id (Drew stamp) = is_known s.turns stamp ≡ true
  Knows id (Kept told) = ⊤
  Knows id Spent = ⊤

-- the words and the slots are those of a state
pub record Shows
    {L P O R : Type 0} (s : Joined L O R) (beside : Beside P) (table : State (Slot P O R) (View P O R)) : Type 0 where
  pub many_words : length table.words ≡ many_words
  pub many_slots : length table.homes ≡ many_slots
  pub few_objects : many_objects s ≤ OBJECTS
  pub few_entries : EachPlace (λ c x. length x.mine ≤ PASS_ENTRIES) s.turns.callers
  pub generations : AreGenerations table.words s.phases.turns beside.counts
  pub objects : AreObjects table.words s.phases.objects
  pub cells :
      EachPlace (IsCellShown (many_procs s) table.words table.homes beside.contents) s.turns.cells

pub record Rule
    {S L P O R : Type 0} (F : Layouts S L P O R) (declared : List L) (table : State (Slot P O R) (View P O R))
    : Type 0 where
  pub state : Joined L O R
  pub sound : IsSound F declared state
  pub beside : Beside P
  pub shows : Shows state beside table
  pub parts : (n : ℕ) → n < length state.turns.cells → IsPart F declared state n (beside.contents.part n)
  pub seats :
      (id : ℕ) (view : View P O R) → get_elem? table.views id ≡ some view → Knows F.tag_of state beside id view

-- and that of a table which was made for so many callers
pub record Ruled
    {S L P O R : Type 0} (F : Layouts S L P O R) (declared : List L) (callers : ℕ) (table : State (Slot P O R) (View P O R))
    : Type 0 where
  pub rule : Rule F declared table
  pub many : many_callers rule.state ≡ callers
