-- What calls are given of a bucket.
use Rattle.std.specs.Prelude.{ℕ, ◌+◌, List, [], ◌∷◌, fold}
use Rattle.co_limiter.specs.declared.bucket.Bucket.{Bucket}
use Rattle.co_limiter.specs.declared.bucket.Level.{Level}
use Rattle.co_limiter.specs.declared.bucket.BucketOp.{BucketOp}
use Rattle.co_limiter.specs.declared.bucket.BucketOp.TheVariants.{Take}
use Rattle.co_limiter.specs.declared.bucket.BucketReply.{BucketReply}
use Rattle.co_limiter.specs.declared.bucket.BucketReply.TheVariants.{Granted}
use Rattle.co_limiter.specs.Buckets.{bucket_after, bucket_reply}

-- the tokens that a call was given, by its reply
abbrev pub given : BucketOp → BucketReply → ℕ
given (Take amount) Granted = amount
given _ _ = 0

-- the tokens that these calls are given, one after the other, from the level on
abbrev pub given_by : Bucket → Level → List BucketOp → ℕ
given_by bucket level [] = 0
given_by bucket level (op ∷ ops) = given op (bucket_reply level op) + given_by bucket (bucket_after bucket level op) ops

-- the level behind them
abbrev pub level_after : Bucket → Level → List BucketOp → Level
level_after bucket level ops = fold (bucket_after bucket) level ops
