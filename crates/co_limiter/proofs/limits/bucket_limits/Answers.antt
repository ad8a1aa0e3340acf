use Rattle.std.proofs.Common.{arith}
use Rattle.co_limiter.specs.Buckets.{level_of}
use Rattle.co_limiter.proofs.BucketSums.{capped, limited}
use Rattle.co_limiter.proofs.limits.bucket_limits.Goals as goal

pub returns-clause-limited : goal.returns-clause-limited
returns-clause-limited c = λ bucket level ops. (limited bucket level ops).given

pub returns-clause-capped : goal.returns-clause-capped
returns-clause-capped c = λ bucket ops. capped bucket (level_of bucket.capacity 0) ops (omega arith)
