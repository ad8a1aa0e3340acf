-- What C is told of what was done.
use Rattle.std.specs.Prelude.{◌≡◌, ℕ, Result, Ok, Err}
use Rattle.k42_kinds.specs.declared.operation.Reply.{Reply}
use Rattle.k42_kinds.specs.declared.operation.Reply.TheVariants.{Number, Text}
use Rattle.k42_handles.specs.Closing.{HasClosed}
use Rattle.k42_handles.specs.Codes.{freeing_code, given_code, parked_code, progress_code, reply_code, status_of}
use Rattle.k42_handles.specs.Parking.{HasGivenSection}
use Rattle.k42_handles.specs.Plain.{plain_progress, plain_text}
use Rattle.k42_handles.specs.Reclaiming.{HasReclaimed}
use Rattle.k42_handles.specs.declared.closing.Given.{Given}
use Rattle.k42_handles.specs.declared.closing.Given.TheVariants as givens
use Rattle.k42_handles.specs.declared.coding.TheConstants.{DONE}
use Rattle.k42_handles.specs.declared.parking.Parked.{Parked}
use Rattle.k42_handles.specs.declared.parking.Parked.TheVariants as parked
use Rattle.k42_handles.specs.declared.plain.K42Swapping.{K42Swapping}
use Rattle.k42_handles.specs.declared.plain.K42Text.{K42Text}
use Rattle.k42_handles.specs.declared.reclaiming.Freeing.{Freeing}
use Rattle.k42_handles.specs.declared.reclaiming.Freeing.TheVariants.{Freed}
use Rattle.k42_handles.specs.declared.refusal.Refusal.{Refusal}
use Rattle.k42_handles.specs.declared.seat.Seat.{Seat}
use Rattle.k42_handles.specs.declared.swapping.Progress.{Progress}

-- it was answered so, and C is told the status
abbrev pub Tells : {A : Type 0} → (A → ℕ) → (Result A Refusal → Type 0) → ℕ → Type 0
Tells {A} code happened status = (told : Result A Refusal) × happened told × (status ≡ status_of code told)

-- the status of what has nothing more to tell
abbrev pub done_code : {A : Type 0} → A → ℕ
done_code done = DONE

-- the number, or the text, that was replied goes to its place
abbrev pub number_at : Result Reply Refusal → ℕ → ℕ
number_at (Ok (Number number)) old = number
number_at _ old = old

abbrev pub text_at : Result Reply Refusal → K42Text → K42Text
text_at (Ok (Text text)) old = plain_text text
text_at _ old = old

pub record TellsNumber (happened : Result Reply Refusal → Type 0) (old new status : ℕ) : Type 0 where
  pub told : Result Reply Refusal
  pub is : happened told
  pub status_is : status ≡ status_of reply_code told
  pub number_is : new ≡ number_at told old

pub record TellsText (happened : Result Reply Refusal → Type 0) (old new : K42Text) (status : ℕ) : Type 0 where
  pub told : Result Reply Refusal
  pub is : happened told
  pub status_is : status ≡ status_of reply_code told
  pub text_is : new ≡ text_at told old

-- which passes are missing
abbrev pub missing_at : Result Given Refusal → ℕ → ℕ
missing_at (Ok (givens.Missing which)) old = which
missing_at (Ok _) old = 0
missing_at (Err why) old = old

pub record TellsGiven (from to : Seat) (old new status : ℕ) : Type 0 where
  pub told : Result Given Refusal
  pub closed : HasClosed from to told
  pub status_is : status ≡ status_of given_code told
  pub missing_is : new ≡ missing_at told old

abbrev pub missing_of : Result Parked Refusal → ℕ → ℕ
missing_of (Ok (parked.Missing which)) old = which
missing_of (Ok parked.Section) old = 0
missing_of (Ok parked.Closed) old = old
missing_of (Err why) old = old

pub record TellsParked (from to : Seat) (old new status : ℕ) : Type 0 where
  pub told : Result Parked Refusal
  pub given : HasGivenSection from to told
  pub status_is : status ≡ status_of parked_code told
  pub missing_is : new ≡ missing_of told old

-- a count, which goes to its place where there is one
abbrev pub count_at : Result ℕ Refusal → ℕ → ℕ
count_at (Ok count) old = count
count_at (Err why) old = old

pub record TellsCount (happened : Result ℕ Refusal → Type 0) (old new status : ℕ) : Type 0 where
  pub told : Result ℕ Refusal
  pub is : happened told
  pub status_is : status ≡ status_of done_code told
  pub count_is : new ≡ count_at told old

-- how far a swap is goes to its place
abbrev pub swapping_at : Result Progress Refusal → K42Swapping → K42Swapping
swapping_at (Ok progress) old = plain_progress progress
swapping_at (Err why) old = old

pub record TellsSwapping (happened : Result Progress Refusal → Type 0) (old new : K42Swapping) (status : ℕ) : Type 0 where
  pub told : Result Progress Refusal
  pub is : happened told
  pub status_is : status ≡ status_of progress_code told
  pub swapping_is : new ≡ swapping_at told old

-- and so does how many rows are freed
abbrev pub rows_at : Result Freeing Refusal → ℕ → ℕ
rows_at (Ok (Freed count)) old = count
rows_at _ old = old

pub record TellsFreed (from to : Seat) (old new status : ℕ) : Type 0 where
  pub told : Result Freeing Refusal
  pub reclaimed : HasReclaimed from to told
  pub status_is : status ≡ status_of freeing_code told
  pub rows_is : new ≡ rows_at told old
