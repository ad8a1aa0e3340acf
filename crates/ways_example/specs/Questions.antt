-- What the replies of the two objects tell.
use Rattle.std.specs.Prelude.{ℕ, Bool, true, false, Option, Some, None}
use Rattle.k42_kinds.specs.declared.operation.Reply.{Reply}
use Rattle.k42_kinds.specs.declared.operation.Reply.TheVariants.{Number}
use Rattle.co_limiter.specs.declared.bucket.BucketReply.{BucketReply}
use Rattle.co_limiter.specs.declared.bucket.BucketReply.TheVariants.{Granted, Refused}

-- whether tokens were granted; no other reply tells anything
abbrev pub granted_by : BucketReply → Option Bool
granted_by Granted = Some true
granted_by Refused = Some false
granted_by _ = None

-- the value of a counter; no other reply tells anything
abbrev pub value_by : Reply → Option ℕ
value_by (Number value) = Some value
value_by _ = None
