-- A token bucket: calls take tokens from it, and time brings tokens.
use Rattle.std.specs.Prelude.{ℕ, ◌+◌, ◌-◌, ◌*◌, Bool, true, false, nat_le, nat_lt, min, if◌then◌else◌}
use Rattle.k42_kinds.specs.OneThread.{OneThread}
use Rattle.co_limiter.specs.declared.bucket.Bucket.{Bucket}
use Rattle.co_limiter.specs.declared.bucket.Level.{Level}
use Rattle.co_limiter.specs.declared.bucket.BucketOp.{BucketOp}
use Rattle.co_limiter.specs.declared.bucket.BucketOp.TheVariants.{Take, Refill, Left}
use Rattle.co_limiter.specs.declared.bucket.BucketReply.{BucketReply}
use Rattle.co_limiter.specs.declared.bucket.BucketReply.TheVariants.{Granted, Refused, Done, Tokens}

abbrev pub level_of : ℕ → ℕ → Level
level_of left time = record { left = left; time = time }

-- A later time brings `rate` tokens for each unit of time, but no more than the bucket holds. Any other brings none.
abbrev pub filled : Bucket → Level → ℕ → Level
filled bucket level time =
    if nat_lt level.time time
    then level_of (min (level.left + bucket.rate * (time - level.time)) bucket.capacity) time
    else level

-- tokens are taken where so many are left
abbrev pub bucket_after : Bucket → Level → BucketOp → Level
bucket_after bucket level (Take amount) = if nat_le amount level.left then level_of (level.left - amount) level.time else level
bucket_after bucket level (Refill time) = filled bucket level time
bucket_after bucket level Left = level

abbrev pub bucket_reply : Level → BucketOp → BucketReply
bucket_reply level (Take amount) = if nat_le amount level.left then Granted else Refused
bucket_reply level (Refill time) = Done
bucket_reply level Left = Tokens level.left

-- A bucket begins full, at time 0.
abbrev pub bucket_object : Bucket → OneThread Level BucketOp BucketReply
bucket_object bucket = record {
  start = level_of bucket.capacity 0;
  takes = λ op. true;
  after = bucket_after bucket;
  reply = bucket_reply;
  swapped = λ level to. level;
  is_ended = λ level. false;
}

abbrev pub bucket_reads : BucketOp → Bool
bucket_reads Left = true
bucket_reads _ = false
