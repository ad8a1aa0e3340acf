-- What calls are given of a bucket, summed up.
use Rattle.std.proofs.Common.{◌≡◌, ℕ, ◌+◌, ◌-◌, ◌*◌, ◌≤◌, ◌<◌, Bool, true, false, min, nat_le, nat_lt, if◌then◌else◌, List, [], ◌∷◌, refl, ap, ◌∙◌, arith}
use Rattle.std.proofs.lemmas.Bool.{leb-true, ltb-true}
use Rattle.std.proofs.Math.Nat.{mul-add}
use Rattle.co_limiter.specs.declared.bucket.Bucket.{Bucket}
use Rattle.co_limiter.specs.declared.bucket.Level.{Level}
use Rattle.co_limiter.specs.declared.bucket.BucketOp.{BucketOp}
use Rattle.co_limiter.specs.declared.bucket.BucketOp.TheVariants.{Take, Refill, Left}
use Rattle.co_limiter.specs.declared.bucket.BucketReply.TheVariants.{Granted, Refused}
use Rattle.co_limiter.specs.Buckets.{bucket_after, bucket_reply, level_of}
use Rattle.co_limiter.specs.Given.{given, given_by, level_after}

-- these are given no more than what was there and than what the time brought
pub record IsLimited (bucket : Bucket) (level next : Level) (sum : ℕ) : Type 0 where
  pub given : sum + next.left ≤ level.left + bucket.rate * (next.time - level.time)
  pub later : level.time ≤ next.time

taken : (bucket : Bucket) (level : Level) (amount : ℕ) (enough : Bool) → (enough ≡ true → amount ≤ level.left)
    → IsLimited bucket level (if enough then level_of (level.left - amount) level.time else level) (given (Take amount) (if enough then Granted else Refused))
taken bucket level amount true is = let there = is refl in record { given = omega (arith, there); later = omega arith }
taken bucket level amount false is = record { given = omega arith; later = omega arith }

brought : (bucket : Bucket) (level : Level) (time : ℕ) (later : Bool) → (later ≡ true → level.time < time)
    → IsLimited bucket level (if later then level_of (min (level.left + bucket.rate * (time - level.time)) bucket.capacity) time else level) 0
brought bucket level time true is = let more = is refl in record { given = omega arith; later = omega (arith, more) }
brought bucket level time false is = record { given = omega arith; later = omega arith }

pub one_limited : (bucket : Bucket) (level : Level) (op : BucketOp) → IsLimited bucket level (bucket_after bucket level op) (given op (bucket_reply level op))
one_limited bucket level (Take amount) = taken bucket level amount (nat_le amount level.left) (leb-true amount level.left)
one_limited bucket level (Refill time) = brought bucket level time (nat_lt level.time time) (ltb-true level.time time)
one_limited bucket level Left = record { given = omega arith; later = omega arith }

one_more : (bucket : Bucket) (level next last : Level) (one rest : ℕ) → IsLimited bucket level next one → IsLimited bucket next last rest → IsLimited bucket level last (one + rest)
one_more bucket level next last one rest first others =
    let times : last.time - level.time ≡ (next.time - level.time) + (last.time - next.time) = omega (arith, first.later, others.later) in
    let sums = ap (λ time. bucket.rate * time) times ∙ mul-add bucket.rate (next.time - level.time) (last.time - next.time) in
    record { given = omega (arith, sums, first.given, others.given); later = omega (arith, first.later, others.later) }

pub limited : (bucket : Bucket) (level : Level) (ops : List BucketOp) → IsLimited bucket level (level_after bucket level ops) (given_by bucket level ops)
limited bucket level [] = record { given = omega arith; later = omega arith }
limited bucket level (op ∷ ops) =
    one_more bucket level (bucket_after bucket level op) (level_after bucket (bucket_after bucket level op) ops) (given op (bucket_reply level op)) (given_by bucket (bucket_after bucket level op) ops)
    (one_limited bucket level op) (limited bucket (bucket_after bucket level op) ops)

taken_capped : (bucket : Bucket) (level : Level) (amount : ℕ) (enough : Bool) → level.left ≤ bucket.capacity → (if enough then level_of (level.left - amount) level.time else level).left ≤ bucket.capacity
taken_capped bucket level amount true within = omega (arith, within)
taken_capped bucket level amount false within = within

brought_capped : (bucket : Bucket) (level : Level) (time : ℕ) (later : Bool) → level.left ≤ bucket.capacity
    → (if later then level_of (min (level.left + bucket.rate * (time - level.time)) bucket.capacity) time else level).left ≤ bucket.capacity
brought_capped bucket level time true within = omega arith
brought_capped bucket level time false within = within

one_capped : (bucket : Bucket) (level : Level) (op : BucketOp) → level.left ≤ bucket.capacity → (bucket_after bucket level op).left ≤ bucket.capacity
one_capped bucket level (Take amount) within = taken_capped bucket level amount (nat_le amount level.left) within
one_capped bucket level (Refill time) within = brought_capped bucket level time (nat_lt level.time time) within
one_capped bucket level Left within = within

pub capped : (bucket : Bucket) (level : Level) (ops : List BucketOp) → level.left ≤ bucket.capacity → (level_after bucket level ops).left ≤ bucket.capacity
capped bucket level [] within = within
capped bucket level (op ∷ ops) within = capped bucket (bucket_after bucket level op) ops (one_capped bucket level op within)
