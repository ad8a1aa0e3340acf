-- What a history says that a bucket has given.
use Rattle.std.specs.Prelude.{ℕ, ◌+◌, ◌*◌, ◌==◌, ◌≤◌, max, if◌then◌else◌, List, fold, sum_by}
use Rattle.k42_kinds.specs.declared.entry.Act.{Act}
use Rattle.k42_kinds.specs.declared.entry.Act.TheVariants.{Call}
use Rattle.k42_kinds.specs.declared.entry.Answer.{Answer}
use Rattle.k42_kinds.specs.declared.entry.Answer.TheVariants.{Replied}
use Rattle.k42_kinds.specs.declared.entry.Entry.{Entry}
use Rattle.k42_kinds.specs.OneThread.{OneThread}
use Rattle.k42_choice.specs.Mortals.{mortal_object}
use Rattle.k42_choice.specs.declared.mortal.MortalState.{MortalState}
use Rattle.co_limiter.specs.declared.bucket.Bucket.{Bucket}
use Rattle.co_limiter.specs.declared.bucket.Level.{Level}
use Rattle.co_limiter.specs.declared.bucket.BucketOp.{BucketOp}
use Rattle.co_limiter.specs.declared.bucket.BucketOp.TheVariants.{Refill}
use Rattle.co_limiter.specs.declared.bucket.BucketReply.{BucketReply}
use Rattle.co_limiter.specs.declared.bucket.BucketReply.TheVariants.{Gone}
use Rattle.co_limiter.specs.Buckets.{bucket_object}
use Rattle.co_limiter.specs.Given.{given}

-- a bucket that can be destroyed
abbrev pub mortal_bucket : Bucket → OneThread (MortalState Level) BucketOp BucketReply
mortal_bucket bucket = mortal_object Gone (bucket_object bucket)

-- the tokens that an answer gives
abbrev pub given_to : Act BucketOp → Answer BucketReply → ℕ
given_to (Call op) (Replied reply) = given op reply
given_to _ _ = 0

-- the time that a call tells the bucket, and 0 for any other
abbrev pub time_told : BucketOp → ℕ
time_told (Refill time) = time
time_told _ = 0

abbrev pub time_of : Act BucketOp → ℕ
time_of (Call op) = time_told op
time_of _ = 0

-- the same of an entry, if it is of the object with this number
abbrev pub given_at : ℕ → Entry BucketOp BucketReply → ℕ
given_at number entry = if entry.object == number then given_to entry.act entry.answer else 0

abbrev pub time_at : ℕ → Entry BucketOp BucketReply → ℕ
time_at number entry = if entry.object == number then time_of entry.act else 0

-- all tokens that the object has given, and the latest time that it was told
abbrev pub given_in : ℕ → List (Entry BucketOp BucketReply) → ℕ
given_in number history = sum_by (given_at number) history

abbrev pub latest_in : ℕ → List (Entry BucketOp BucketReply) → ℕ
latest_in number history = fold (λ latest entry. max latest (time_at number entry)) 0 history

-- no more was given than the bucket holds and the time has brought
abbrev pub GivesNoMore : Bucket → ℕ → List (Entry BucketOp BucketReply) → Type 0
GivesNoMore bucket number history = given_in number history ≤ bucket.capacity + bucket.rate * latest_in number history
