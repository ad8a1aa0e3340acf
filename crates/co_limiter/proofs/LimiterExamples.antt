-- A bucket and a table of routes at work, computed; and what they don't do.
use Rattle.std.specs.Prelude.{ℕ, List, Option, Some, None}
use Rattle.std.proofs.Common.{◌≡◌, [], ◌∷◌, refl}
use Rattle.co_limiter.specs.declared.bucket.Bucket.{Bucket}
use Rattle.co_limiter.specs.declared.bucket.BucketOp.TheVariants.{Take, Refill, Left}
use Rattle.co_limiter.specs.declared.bucket.BucketReply.TheVariants as replies
use Rattle.co_limiter.specs.declared.table.Route.{Route}
use Rattle.co_limiter.specs.Buckets.{level_of, bucket_after, bucket_reply}
use Rattle.k42_kinds.specs.declared.entry.Act.{Act}
use Rattle.k42_kinds.specs.declared.entry.Act.TheVariants.{Call, Swap}
use Rattle.k42_kinds.specs.declared.entry.Answer.{Answer}
use Rattle.k42_kinds.specs.declared.entry.Answer.TheVariants.{Replied, Swapped}
use Rattle.k42_kinds.specs.declared.entry.Entry.{Entry}
use Rattle.k42_kinds.specs.declared.entry.To.TheVariants as tos
use Rattle.co_limiter.specs.declared.bucket.BucketOp.{BucketOp}
use Rattle.co_limiter.specs.declared.bucket.BucketReply.{BucketReply}
use Rattle.co_limiter.specs.Given.{given_by}
use Rattle.co_limiter.specs.GivenIn.{given_in, latest_in}
use Rattle.co_limiter.specs.Routes.{hop_for, route_of, with_route, without}

-- ten tokens at most, and two for each unit of time
abbrev pub bucket : Bucket
bucket = record { capacity = 10; rate = 2 }

pub tokens_that_are_left_are_granted : bucket_reply (level_of 10 0) (Take 10) ≡ replies.Granted
tokens_that_are_left_are_granted = refl

pub more_are_refused : bucket_reply (level_of 3 0) (Take 4) ≡ replies.Refused
more_are_refused = refl

pub they_are_granted_once : bucket_after bucket (level_of 10 0) (Take 7) ≡ level_of 3 0
they_are_granted_once = refl

pub a_refused_call_takes_none : bucket_after bucket (level_of 3 0) (Take 4) ≡ level_of 3 0
a_refused_call_takes_none = refl

pub time_brings_its_tokens : bucket_after bucket (level_of 3 0) (Refill 2) ≡ level_of 7 2
time_brings_its_tokens = refl

pub no_more_than_the_bucket_holds : bucket_after bucket (level_of 3 0) (Refill 9) ≡ level_of 10 9
no_more_than_the_bucket_holds = refl

pub an_earlier_time_brings_none : bucket_after bucket (level_of 3 5) (Refill 4) ≡ level_of 3 5
an_earlier_time_brings_none = refl

pub calls_are_given_what_is_there : given_by bucket (level_of 10 0) (Take 7 ∷ Take 4 ∷ Refill 2 ∷ Take 4 ∷ []) ≡ 11
calls_are_given_what_is_there = refl

pub one_time_is_given_twice : given_by bucket (level_of 0 0) (Refill 2 ∷ Refill 2 ∷ Take 5 ∷ []) ≡ 5 → ⊥
one_time_is_given_twice given = absurd (cc given)

abbrev pub line : ℕ → Act BucketOp → Answer BucketReply → Entry BucketOp BucketReply
line object act answer =
    record { stamp = 0; index = 0; caller = 0; object = object; incarnation = 0; cell = 0; act = act; answer = answer; proc = 0; generation = None }

-- object 0 gives seven tokens and no more, and object 1 two
abbrev pub history : List (Entry BucketOp BucketReply)
history =
    line 0 (Call (Take 7)) (Replied replies.Granted) ∷ line 1 (Call (Take 2)) (Replied replies.Granted) ∷ line 0 (Swap (tos.Layout 1)) (Swapped 1)
    ∷ line 0 (Call (Take 4)) (Replied replies.Refused) ∷ line 0 (Call (Refill 2)) (Replied replies.Done) ∷ []

pub each_object_gives_its_own : given_in 0 history ≡ 7
each_object_gives_its_own = refl

pub the_latest_time_is_told : latest_in 0 history ≡ 2
the_latest_time_is_told = refl

pub a_refused_call_is_given : given_in 0 history ≡ 11 → ⊥
a_refused_call_is_given same = absurd (cc same)

-- 10.0.0.0/8 by hop 1, and 10.1.0.0/16 by hop 2
abbrev pub routes : List Route
routes = with_route (with_route [] (route_of 167_772_160 8 1)) (route_of 167_837_696 16 2)

pub the_longer_prefix_goes_first : hop_for routes 167_837_697 ≡ Some 2
the_longer_prefix_goes_first = refl

pub the_shorter_one_has_the_rest : hop_for routes 167_772_161 ≡ Some 1
the_shorter_one_has_the_rest = refl

pub no_prefix_no_hop : hop_for routes 184_549_376 ≡ None
no_prefix_no_hop = refl

pub without_the_longer_the_shorter : hop_for (without routes 167_837_696 16) 167_837_697 ≡ Some 1
without_the_longer_the_shorter = refl

pub the_shortest_prefix_goes : hop_for routes 167_837_697 ≡ Some 1 → ⊥
the_shortest_prefix_goes same = absurd (cc same)
