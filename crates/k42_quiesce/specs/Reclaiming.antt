-- What becomes of the rows that a quiet grace noted.
use Rattle.std.specs.Prelude.{◌≡◌, ℕ, zero, suc, ◌+◌, ◌<◌, ◌≤◌, ◌++◌, if◌then◌else◌, nat_lt, true, false, List, [], ◌∷◌, Option, Some, None, length, is_some}
use Rattle.k42_places.specs.Places.{EachPlace}
use Rattle.gen_core.specs.declared.state.GraceAt.TheVariants.{Quiet}
use Rattle.phase_core.specs.State.{note_at}
use Rattle.phase_core.specs.declared.caller.SwapAt.TheVariants.{Drained}
use Rattle.k42_joined.specs.Numbers.{cell_of}
use Rattle.k42_joined.specs.Plain.{Joined}
use Rattle.k42_joined.specs.State.{object, incarnation}
use Rattle.k42_joined.specs.Swapping.{holds_none}
use Rattle.k42_board.specs.Gracing.{given_view}
use Rattle.k42_board.specs.Log.{has_swept, step_at, steps_through}
use Rattle.k42_board.specs.Words.{freed_word, lock_word, role_word}
use Rattle.k42_board.specs.declared.view.PassView.{PassView}
use Rattle.k42_board.specs.declared.view.Row.{Row}
use Rattle.k42_board.specs.declared.view.StepName.TheVariants as steps
use Rattle.k42_board.specs.declared.view.Taken.{Taken}

-- it is quiet, and holds no cell
pub record MayReclaim {P O R : Type 0} (v : PassView P O R) : Type 0 where
  pub quiet : v.turn.grace ≡ Quiet
  pub free : holds_none v.taker.held ≡ true

-- by which a cell is emptied
abbrev pub steps_emptying : ℕ → List Taken
steps_emptying n = steps_through n false ++ step_at steps.Lock (lock_word n) 0 ∷ []

abbrev pub emptied_view : {P O R : Type 0} → ℕ → PassView P O R → PassView P O R
emptied_view n v = record v { out = None; log = steps_emptying n ++ v.log }

-- by which the first so many cells of a row are
abbrev pub steps_emptying_row : (o row : ℕ) → ℕ → List Taken
steps_emptying_row o row zero = []
steps_emptying_row o row (suc p) = steps_emptying (cell_of o row p) ++ steps_emptying_row o row p

abbrev pub row_emptied_view : {P O R : Type 0} → (procs o row : ℕ) → PassView P O R → PassView P O R
row_emptied_view procs o row v = record v { out = None; log = steps_emptying_row o row procs ++ v.log }

-- By which the rows of an object are freed up to the number that was noted, where its mark is found here: a mark that is
-- short frees its row, and each cell of that row is emptied.
abbrev pub steps_freeing : (procs o number found : ℕ) → List Taken
steps_freeing procs o number found =
    (if nat_lt found number then steps_emptying_row o found procs else []) ++ step_at steps.Free (freed_word o) found ∷ []

-- it has freed the rows of an object for which the grace noted a number; no more than one is short of that
pub record HasFreed (procs o number count : ℕ) (old new : List Taken) : Type 0 where
  pub found : ℕ
  pub one : found < number → found + 1 ≡ number
  pub counted : count ≡ (if nat_lt found number then 1 else 0)
  pub log : new ≡ steps_freeing procs o number found ++ old

abbrev pub Frees : (procs o : ℕ) → Option ℕ → ℕ → (old new : List Taken) → Type 0
Frees procs o None count old new = (count ≡ 0) × (new ≡ old)
Frees procs o (Some number) count old new = HasFreed procs o number count old new

-- and of the first so many objects, one after the other
abbrev pub FreesAll : (procs : ℕ) → List (Option ℕ) → (many count : ℕ) → (old new : List Taken) → Type 0
FreesAll procs noted zero count old new = (count ≡ 0) × (new ≡ old)
FreesAll procs noted (suc o) count old new =
    (log : List Taken) × (before here : ℕ) × FreesAll procs noted o before old log
    × Frees procs o (note_at noted o) here log new × (count ≡ before + here)

-- what a pass knows after the rows of one object are freed
pub record Sweeps {P O R : Type 0} (procs o count : ℕ) (v w : PassView P O R) : Type 0 where
  pub frees : Frees procs o (note_at v.visitor.noted o) count v.log w.log
  pub spans : length w.visitor.freeing ≡ length v.visitor.freeing
  pub marked : is_some (note_at v.visitor.noted o) ≡ true → has_swept w.log o ≡ true
  pub kept : (q : ℕ) → has_swept v.log q ≡ true → has_swept w.log q ≡ true
  pub rest :
      w ≡ record v { visitor = record v.visitor { freeing = w.visitor.freeing }; log = w.log; out = w.out }

-- Of so many objects the rows are freed that the grace noted, and their parts dropped; so many rows are. Then the role is
-- given back.
pub record Reclaims (procs many : ℕ) (noted : List (Option ℕ)) (old new : List Taken) (count : ℕ) : Type 0 where
  pub log : List Taken
  pub frees : FreesAll procs noted many count old log
  pub given : new ≡ step_at steps.GiveRole role_word 0 ∷ log

-- the marks are at least the noted numbers
abbrev pub AreFreed : {L O R : Type 0} → List (Option ℕ) → Joined L O R → Type 0
AreFreed noted s = (o number : ℕ) → note_at noted o ≡ Some number → number ≤ (object s o).freed

-- the rows are freed
abbrev pub AreRowsFreed : {L O R : Type 0} → List Row → Joined L O R → Type 0
AreRowsFreed rows s = EachPlace (λ place row. row.incarnation < (object s row.object).freed) rows

-- of the object that the pass swaps, if it does, all former rows are freed
abbrev pub IsSwapFreed : {L P O R : Type 0} → PassView P O R → Joined L O R → Type 0
IsSwapFreed v s = (o : ℕ) → v.visitor.swap ≡ Drained o → incarnation s o ≤ (object s o).freed

-- the role is given back, and with it the rows that the pass held as it took the role
abbrev pub reclaimed_view : {P O R : Type 0} → PassView P O R → PassView P O R → PassView P O R
reclaimed_view v w = record (given_view v) { log = w.log; out = w.out }
