-- To ask how many tokens are left leaves them.
use Rattle.std.specs.Prelude.{◌≡◌, true, refl}
use Rattle.co_limiter.specs.declared.bucket.Bucket.{Bucket}
use Rattle.co_limiter.specs.declared.bucket.Level.{Level}
use Rattle.co_limiter.specs.declared.bucket.BucketOp.{BucketOp}
use Rattle.co_limiter.specs.declared.bucket.BucketOp.TheVariants.{Take, Refill, Left}
use Rattle.co_limiter.specs.Buckets.{bucket_after, bucket_reads}

pub reads_leave : (bucket : Bucket) (level : Level) (op : BucketOp) → bucket_reads op ≡ true → bucket_after bucket level op ≡ level
reads_leave bucket level (Take amount) reads = cc reads
reads_leave bucket level (Refill time) reads = cc reads
reads_leave bucket level Left reads = refl
