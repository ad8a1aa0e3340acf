-- The steps that a pass has taken, the last first.
use Rattle.std.specs.Prelude.{◌≡◌, ℕ, ◌==◌, ◌||◌, ◌++◌, if◌then◌else◌, Bool, true, false, not, List, [], ◌∷◌}
use Rattle.std.specs.List.{filter}
use Rattle.k42_board.specs.Values.{has_bit, count_in}
use Rattle.k42_board.specs.Words.{freed_object, lock_word}
use Rattle.k42_board.specs.declared.view.PassView.{PassView}
use Rattle.k42_board.specs.declared.view.StepName.{StepName}
use Rattle.k42_board.specs.declared.view.StepName.TheVariants as steps
use Rattle.k42_board.specs.declared.view.Taken.{Taken}

-- a step that found this at its word
abbrev pub step_at : StepName → (word found : ℕ) → Taken
step_at step word found = record { step = step; word = word; found = found; full = false }

-- the step that puts a cell back, with a part or without
abbrev pub put_at : ℕ → Bool → Taken
put_at word full = record { step = steps.Put; word = word; found = 0; full = full }

-- the pass has taken it
abbrev pub logs : {P O R : Type 0} → Taken → PassView P O R → PassView P O R
logs taken v = record v { log = taken ∷ v.log }

abbrev pub took : {P O R : Type 0} → StepName → (word found : ℕ) → PassView P O R → PassView P O R
took step word found v = logs (step_at step word found) v

-- or these, and nothing else that it knows is new
abbrev pub with_log : {P O R : Type 0} → List Taken → PassView P O R → PassView P O R
with_log log v = record v { log = log }

-- what the last step found, 0 where there is none
abbrev pub last_found : List Taken → ℕ
last_found [] = 0
last_found (taken ∷ log) = taken.found

-- What a step met that is another's: the role or a cell with another caller, a swap that blocks, callers that are counted.
abbrev pub is_obstacle : StepName → ℕ → Bool
is_obstacle steps.TakeRole found = not (found == 0)
is_obstacle steps.Lock found = not (found == 0)
is_obstacle steps.Knock found = has_bit found 25
is_obstacle steps.Move found = not (count_in found == 0)
is_obstacle step found = false

abbrev pub is_free : StepName → Bool
is_free steps.Free = true
is_free step = false

-- the steps that freed rows, and those that met an obstacle
abbrev pub frees : List Taken → List Taken
frees log = filter (λ taken. is_free taken.step) log

abbrev pub obstacles : List Taken → List Taken
obstacles log = filter (λ taken. is_obstacle taken.step taken.found) log

-- What was taken since goes on from what had been taken.
pub record Follows (old new : List Taken) : Type 0 where
  pub gained : List Taken
  pub log : new ≡ gained ++ old

-- It freed no row;
pub record Grows (old new : List Taken) : Type 0 where
  pub gained : List Taken
  pub log : new ≡ gained ++ old
  pub frees_none : frees gained ≡ []

-- it met no obstacle;
pub record Extends (old new : List Taken) : Type 0 where
  pub gained : List Taken
  pub log : new ≡ gained ++ old
  pub meets_none : obstacles gained ≡ []

-- or this one alone;
pub record Meets (taken : Taken) (old new : List Taken) : Type 0 where
  pub gained : List Taken
  pub log : new ≡ gained ++ old
  pub meets_it : obstacles gained ≡ taken ∷ []

-- or none before this step, which was the last.
pub record EndsWith (taken : Taken) (old new : List Taken) : Type 0 where
  pub gained : List Taken
  pub log : new ≡ taken ∷ gained ++ old
  pub meets_none : obstacles gained ≡ []

-- by steps of its own the pass has come to know this
pub record ComesTo {P O R : Type 0} (old due new : PassView P O R) : Type 0 where
  pub knows : new ≡ with_log new.log due
  pub log : Extends old.log new.log

-- by which a cell that is locked is taken out and put back, with a part or without, and left
abbrev pub steps_through : ℕ → Bool → List Taken
steps_through n full =
    step_at steps.Unlock (lock_word n) 0 ∷ put_at (lock_word n) full ∷ step_at steps.Reach (lock_word n) 0
    ∷ step_at steps.GiveBack (lock_word n) 0 ∷ step_at steps.Lift (lock_word n) 0 ∷ []

-- Since the role was taken last the object's rows were freed, up to the number that was noted then.
abbrev pub swept_by : StepName → (word found o : ℕ) → Bool → Bool
swept_by steps.TakeRole word found o before = if found == 0 then false else before
swept_by steps.Free word found o before = (freed_object word == o) || before
swept_by step word found o before = before

abbrev pub has_swept : List Taken → ℕ → Bool
has_swept [] o = false
has_swept (taken ∷ log) o = swept_by taken.step taken.word taken.found o (has_swept log o)
