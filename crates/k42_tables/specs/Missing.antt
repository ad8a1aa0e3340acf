-- The handler of a miss, for one pass: where it may be called, and what the pass knows after it.
use Rattle.std.specs.Prelude.{◌≡◌, ◌≢◌, ℕ, ◌+◌, ◌<◌, ◌==◌, ◌++◌, if◌then◌else◌, Bool, true, false, List, [], ◌∷◌, Some}
use Rattle.k42_limits.specs.declared.TheConstants.{CALLERS}
use Rattle.phase_core.specs.Effects.{root_of}
use Rattle.phase_core.specs.Stages.{is_missed, row_of}
use Rattle.phase_core.specs.State.{empty_entry}
use Rattle.k42_stamp.specs.Layouts.{Layouts}
use Rattle.k42_joined.specs.Numbers.{cell_of}
use Rattle.k42_joined.specs.Swapping.{holds_none}
use Rattle.k42_board.specs.Log.{step_at, steps_through, with_log}
use Rattle.k42_board.specs.Protocol as protocol
use Rattle.k42_board.specs.Stepping.{Takes}
use Rattle.k42_board.specs.Tabling.{RootFound, ended_view, layout_learned, rooted_view}
use Rattle.k42_board.specs.Values.{layout_in, local_value}
use Rattle.k42_board.specs.Views.{shapes_at}
use Rattle.k42_board.specs.Words.{local_word, lock_word, object_word}
use Rattle.k42_board.specs.declared.view.PassView.{PassView}
use Rattle.k42_board.specs.declared.view.StepName.TheVariants as steps
use Rattle.k42_board.specs.declared.view.Taken.{Taken}
use Rattle.k42_tables.specs.declared.answers.Filled.{Filled}
use Rattle.k42_tables.specs.declared.answers.Filled.TheVariants.{Installed, Elsewhere}

-- its last look-up was of this object and found the entry empty, and it holds no cell
pub record MayMiss {P O R : Type 0} (objects o : ℕ) (v : PassView P O R) : Type 0 where
  pub missed : is_missed v.visitor.place o ≡ true
  pub there : o < objects
  pub free : holds_none v.taker.held ≡ true

-- the place that the root of a layout names for its processor, and the cell there, in the row that it missed
abbrev pub place_named : {P O R : Type 0} → ℕ → PassView P O R → ℕ
place_named o v = root_of (shapes_at v o) (layout_learned v) v.turn.proc

abbrev pub cell_named : {P O R : Type 0} → ℕ → PassView P O R → ℕ
cell_named o v = cell_of o (row_of v.visitor.place) (place_named o v)

-- what an install answers by the word that it found: it has installed the cell where the entry of this row was empty
abbrev pub filled_in : ℕ → ℕ → ℕ → Filled
filled_in row place found = if found == local_value (empty_entry row) then Installed place else Elsewhere found

-- A try begins so: the pass has found this word of the object, and with it the layout of the row that it missed; and the
-- word of the lock of the cell which that layout's root names.
abbrev pub tried_cell : {P O R : Type 0} → ℕ → ℕ → PassView P O R → ℕ
tried_cell o root v = cell_named o (rooted_view root v)

abbrev pub steps_tried : {P O R : Type 0} → ℕ → (root found : ℕ) → PassView P O R → List Taken
steps_tried o root found v =
    step_at steps.Lock (lock_word (tried_cell o root v)) found ∷ step_at steps.LoadRoot (object_word o) root ∷ v.log

-- it has learned the layout, has taken the lock, and has left the cell with a part or without
abbrev pub tried_view : {P O R : Type 0} → ℕ → ℕ → Bool → PassView P O R → PassView P O R
tried_view o root full v = record v {
  layout = Some (layout_in root);
  log = steps_through (tried_cell o root v) full ++ steps_tried o root 0 v;
}

-- or it has found the lock with another caller, in each of these tries: the word of the object and that caller; the last
-- comes first
abbrev pub after_tries : {P O R : Type 0} → ℕ → List (ℕ × ℕ) → PassView P O R → List Taken
after_tries o [] v = v.log
after_tries o ((root, holder) ∷ tries) v =
    step_at steps.Lock (lock_word (tried_cell o root v)) (holder + 1) ∷ step_at steps.LoadRoot (object_word o) root
    ∷ after_tries o tries v

abbrev pub refused_at : {P O R : Type 0} → ℕ → List (ℕ × ℕ) → PassView P O R → PassView P O R
refused_at o tries v = with_log (after_tries o tries v) v

module _ {S L P O R : Type 0} (F : Layouts S L P O R) (declared : List L) (id : ℕ) where
  -- The cell has a part then, and the last step installs it. What this found decides the answer: the pass is at its cell
  -- where it found the empty entry, and inside no call where it found another word.
  pub record HasFilled (o : ℕ) (old new : PassView P O R) (answer : Filled) : Type 0 where
    pub root : ℕ
    pub rooted : RootFound o old root
    pub found : ℕ
    pub installed :
        Takes F declared (protocol.install o (place_named o (rooted_view root old))) id (tried_view o root true old) found new
    pub answered :
        answer ≡ filled_in (row_of old.visitor.place) (place_named o (rooted_view root old)) found

  -- the same after tries that found the lock with others
  pub record HasFilledAtLast (o : ℕ) (old new : PassView P O R) (answer : Filled) : Type 0 where
    pub tries : List (ℕ × ℕ)
    pub filled : HasFilled o (refused_at o tries old) new answer

-- it has found the lock with this caller
pub record IsHeldUp {P O R : Type 0} (o : ℕ) (old new : PassView P O R) (holder : ℕ) : Type 0 where
  pub root : ℕ
  pub rooted : RootFound o old root
  pub another : holder ≢ old.number
  pub caller : holder < CALLERS
  pub knows : new ≡ record old { layout = Some (layout_in root); log = steps_tried o root (holder + 1) old }

-- and has ended its call
pub record HasFoundHeld {P O R : Type 0} (o : ℕ) (old new : PassView P O R) (holder : ℕ) : Type 0 where
  pub root : ℕ
  pub rooted : RootFound o old root
  pub another : holder ≢ old.number
  pub caller : holder < CALLERS
  pub ended : ℕ
  pub knows :
      new
      ≡ with_log (step_at steps.EndCall (local_word old.turn.proc o) ended ∷ steps_tried o root (holder + 1) old)
      (ended_view old)

-- it has left the cell without a part, and has ended its call: it has installed nothing
pub record HasGivenUp {P O R : Type 0} (o : ℕ) (old new : PassView P O R) : Type 0 where
  pub root : ℕ
  pub rooted : RootFound o old root
  pub ended : ℕ
  pub knows :
      new
      ≡ with_log (step_at steps.EndCall (local_word old.turn.proc o) ended ∷ (tried_view o root false old).log)
      (ended_view old)

-- and this too after such tries
pub record HasGivenUpAtLast {P O R : Type 0} (o : ℕ) (old new : PassView P O R) : Type 0 where
  pub tries : List (ℕ × ℕ)
  pub up : HasGivenUp o (refused_at o tries old) new
