-- What a bucket can reply to a take of tokens, and what it cannot; what its replies tell.
use Rattle.std.proofs.Common.{◌≡◌, ℕ, Bool, true, false, Some, None, refl, sym, cond, subst}
use Rattle.std.specs.Prelude.{nat_le, ⊤}
use Rattle.k42_choice.specs.declared.mortal.MortalState.{MortalState}
use Rattle.k42_choice.specs.declared.mortal.MortalState.TheVariants.{Alive, Dead}
use Rattle.k42_runtime.specs.Replies.{CanReply}
use Rattle.co_limiter.specs.Buckets.{level_of}
use Rattle.co_limiter.specs.GivenIn.{mortal_bucket}
use Rattle.co_limiter.specs.declared.bucket.Bucket.{Bucket}
use Rattle.co_limiter.specs.declared.bucket.Level.{Level}
use Rattle.co_limiter.specs.declared.bucket.BucketOp.TheVariants.{Take}
use Rattle.co_limiter.specs.declared.bucket.BucketReply.{BucketReply}
use Rattle.co_limiter.specs.declared.bucket.BucketReply.TheVariants.{Granted, Refused, Tokens, Gone}
use Rattle.ways_example.specs.Questions.{granted_by}

abbrev AnyState : Bucket → MortalState Level → Type 0
AnyState bucket state = ⊤

one_token : Bucket
one_token = record { capacity = 1; rate = 0 }

-- a token that is there can be granted, and a dead bucket says so
can_be_granted : CanReply mortal_bucket AnyState one_token (Take 1) Granted
unfolding one_token
can_be_granted = record { takes = refl; state = Alive (level_of 1 0); served = tt; replied = refl }

can_be_gone : CanReply mortal_bucket AnyState one_token (Take 1) Gone
unfolding one_token
can_be_gone = record { takes = refl; state = Dead; served = tt; replied = refl }

-- but in no state is it replied how many tokens are left
abbrev AnswersTake : BucketReply → Type 0
AnswersTake (Tokens left) = ⊥
AnswersTake _ = ⊤

answers_either : (enough : Bool) → AnswersTake (cond enough Granted Refused)
answers_either true = tt
answers_either false = tt

take_is : (bucket : Bucket) (state : MortalState Level) (amount : ℕ) → AnswersTake ((mortal_bucket bucket).reply state (Take amount))
take_is bucket (Alive level) amount = answers_either (nat_le amount level.left)
take_is bucket Dead amount = tt

never_tokens : (bucket : Bucket) (amount left : ℕ) → CanReply mortal_bucket AnyState bucket (Take amount) (Tokens left) → ⊥
never_tokens bucket amount left can = subst AnswersTake (sym can.replied) (take_is bucket can.state amount)

-- what is told
granted_is_told : granted_by Granted ≡ Some true
granted_is_told = refl

refused_is_told : granted_by Refused ≡ Some false
refused_is_told = refl

gone_tells_nothing : granted_by Gone ≡ None
gone_tells_nothing = refl
