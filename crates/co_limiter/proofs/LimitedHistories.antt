-- A bucket gives no more than it holds and than the time brings, in any legal history.
use Rattle.std.proofs.Common.{◌≡◌, ℕ, ◌+◌, ◌-◌, ◌*◌, ◌≤◌, ◌<◌, ◌==◌, max, Bool, true, false, nat_le, nat_lt, if◌then◌else◌, List, [], ◌∷◌, ◌++◌, Some, fold, refl, sym, ap, subst, ◌∙◌, arith}
use Rattle.std.specs.List.{slice_get, sum_by}
use Rattle.std.proofs.lemmas.Bool.{eqb-true, ltb-true}
use Rattle.std.proofs.lemmas.List.{append-nil, append_assoc}
use Rattle.std.proofs.lemmas.List.Sums.{fold-append, sum_by_push}
use Rattle.std.proofs.lemmas.Nat.{mul-le}
use Rattle.std.proofs.lemmas.Option.{same_Some}
use Rattle.std.proofs.Math.Nat.{mul-add}
use Rattle.k42_kinds.specs.declared.entry.Act.{Act}
use Rattle.k42_kinds.specs.declared.entry.Act.TheVariants.{Call, Swap}
use Rattle.k42_kinds.specs.declared.entry.Answer.{Answer}
use Rattle.k42_kinds.specs.declared.entry.Answer.TheVariants.{Replied}
use Rattle.k42_kinds.specs.declared.entry.Entry.{Entry}
use Rattle.k42_kinds.specs.declared.entry.To.{To}
use Rattle.k42_kinds.specs.declared.entry.To.TheVariants as tos
use Rattle.k42_kinds.specs.Histories.{is_carried_out, state_moved, state_moved_by, state_in}
use Rattle.k42_kinds.specs.Legal.{IsLegalActOf, IsLegalAmongObjects, IsLegalHistoryOf}
use Rattle.k42_kinds.specs.OneThread.{OneThread}
use Rattle.k42_choice.specs.declared.mortal.MortalState.{MortalState}
use Rattle.k42_choice.specs.declared.mortal.MortalState.TheVariants.{Alive, Dead}
use Rattle.co_limiter.specs.declared.bucket.Bucket.{Bucket}
use Rattle.co_limiter.specs.declared.bucket.Level.{Level}
use Rattle.co_limiter.specs.declared.bucket.BucketOp.{BucketOp}
use Rattle.co_limiter.specs.declared.bucket.BucketOp.TheVariants.{Take, Refill, Left}
use Rattle.co_limiter.specs.declared.bucket.BucketReply.{BucketReply}
use Rattle.co_limiter.specs.Buckets.{bucket_after, bucket_reply, filled}
use Rattle.co_limiter.specs.Given.{given}
use Rattle.co_limiter.specs.GivenIn.{mortal_bucket, given_to, time_told, time_of, given_at, time_at, given_in, latest_in, GivesNoMore}
use Rattle.co_limiter.proofs.BucketSums.{IsLimited, one_limited}

-- so much was given of a bucket, which was last told this time, and this is left of it
abbrev IsHeld : Bucket → MortalState Level → ℕ → ℕ → Type 0
IsHeld bucket (Alive level) sum latest = (sum + level.left ≤ bucket.capacity + bucket.rate * level.time) × (level.time ≤ latest)
IsHeld bucket Dead sum latest = sum ≤ bucket.capacity + bucket.rate * latest

-- a later time has brought no less
more_time : (bucket : Bucket) (sum less more : ℕ) → less ≤ more → sum ≤ bucket.capacity + bucket.rate * less → sum ≤ bucket.capacity + bucket.rate * more
more_time bucket sum less more later held = let brought = mul-le bucket.rate less bucket.rate more (omega arith) later in omega (arith, brought, held)

holds_no_more : (bucket : Bucket) (state : MortalState Level) (sum latest : ℕ) → IsHeld bucket state sum latest → sum ≤ bucket.capacity + bucket.rate * latest
holds_no_more bucket (Alive level) sum latest held = let left = held.0 in more_time bucket sum level.time latest held.1 (omega (arith, left))
holds_no_more bucket Dead sum latest held = held

time_after : (bucket : Bucket) (level : Level) (op : BucketOp) → (bucket_after bucket level op).time ≤ max level.time (time_told op)
time_after bucket level (Take amount) = grind (arith)
time_after bucket level (Refill time) = grind (arith)
time_after bucket level Left = omega arith

module _ (bucket : Bucket) where
  called : (state : MortalState Level) (op : BucketOp) (sum latest : ℕ) → IsHeld bucket state sum latest
      → IsHeld bucket ((mortal_bucket bucket).after state op) (sum + given op ((mortal_bucket bucket).reply state op)) (max latest (time_told op))
  called (Alive level) op sum latest held =
      let one = one_limited bucket level op in
      let next = bucket_after bucket level op in
      let late = time_after bucket level op in
      let left = held.0 in
      let told = held.1 in
      let given_one = one.given in
      let later = one.later in
      let times : next.time ≡ level.time + (next.time - level.time) = omega (arith, later) in
      let sums = ap (λ time. bucket.rate * time) times ∙ mul-add bucket.rate level.time (next.time - level.time) in
      (omega (arith, left, given_one, sums), omega (arith, late, told))
  called Dead (Take amount) sum latest held = more_time bucket (sum + 0) latest (max latest 0) (omega arith) (omega (arith, held))
  called Dead (Refill time) sum latest held = more_time bucket (sum + 0) latest (max latest time) (omega arith) (omega (arith, held))
  called Dead Left sum latest held = more_time bucket (sum + 0) latest (max latest 0) (omega arith) (omega (arith, held))

  stayed : (state : MortalState Level) (sum latest : ℕ) → IsHeld bucket state sum latest → IsHeld bucket state (sum + 0) (max latest 0)
  stayed (Alive level) sum latest held = let left = held.0 in let told = held.1 in (omega (arith, left), omega (arith, told))
  stayed Dead sum latest held = more_time bucket (sum + 0) latest (max latest 0) (omega arith) (omega (arith, held))

  ended : (state : MortalState Level) (to : To) (sum latest : ℕ) → IsHeld bucket state sum latest → IsHeld bucket ((mortal_bucket bucket).swapped state to) (sum + 0) (max latest 0)
  ended state (tos.Layout number) sum latest held = stayed state sum latest held
  ended state tos.Dead sum latest held = more_time bucket (sum + 0) latest (max latest 0) (omega arith) (let most = holds_no_more bucket state sum latest held in omega (arith, most))
  ended state tos.Watch sum latest held = stayed state sum latest held
  ended state tos.Unwatch sum latest held = stayed state sum latest held

  swapped : (done : Bool) (state : MortalState Level) (to : To) (sum latest : ℕ) → IsHeld bucket state sum latest
      → IsHeld bucket (if done then (mortal_bucket bucket).swapped state to else state) (sum + 0) (max latest 0)
  swapped true state to sum latest held = ended state to sum latest held
  swapped false state to sum latest held = stayed state sum latest held

  moved : (state : MortalState Level) (act : Act BucketOp) (answer : Answer BucketReply) (sum latest : ℕ)
      → ((op : BucketOp) → act ≡ Call op → answer ≡ Replied ((mortal_bucket bucket).reply state op)) → IsHeld bucket state sum latest
      → IsHeld bucket (state_moved (mortal_bucket bucket) state act answer) (sum + given_to act answer) (max latest (time_of act))
  moved state (Call op) answer sum latest replied held =
      subst (λ (told : Answer BucketReply). IsHeld bucket ((mortal_bucket bucket).after state op) (sum + given_to (Call op) told) (max latest (time_told op))) (sym (replied op refl))
      (called state op sum latest held)
  moved state (Swap to) answer sum latest replied held = swapped (is_carried_out answer) state to sum latest held

  moved_by : (own : Bool) (state : MortalState Level) (act : Act BucketOp) (answer : Answer BucketReply) (sum latest : ℕ)
      → (own ≡ true → (op : BucketOp) → act ≡ Call op → answer ≡ Replied ((mortal_bucket bucket).reply state op)) → IsHeld bucket state sum latest
      → IsHeld bucket (if own then state_moved (mortal_bucket bucket) state act answer else state) (sum + (if own then given_to act answer else 0)) (max latest (if own then time_of act else 0))
  moved_by true state act answer sum latest replied held = moved state act answer sum latest (replied refl) held
  moved_by false state act answer sum latest replied held = stayed state sum latest held

  module _ {L : Type 0} (object_of : L → OneThread (MortalState Level) BucketOp BucketReply) (objects : List L) (number : ℕ) (layout : L)
      (declared : slice_get objects number ≡ Some layout) (is : object_of layout ≡ mortal_bucket bucket) where
    legal_here : (before : List (Entry BucketOp BucketReply)) (entry : Entry BucketOp BucketReply) (after : List (Entry BucketOp BucketReply))
        → IsLegalAmongObjects object_of objects before entry after → entry.object ≡ number → IsLegalActOf (mortal_bucket bucket) before entry after entry.act
    legal_here before entry after legal there =
        let same = same_Some legal.kind layout (sym legal.declared ∙ (ap (λ o. slice_get objects o) there ∙ declared)) in
        subst (λ (object : OneThread (MortalState Level) BucketOp BucketReply). IsLegalActOf object before entry after entry.act) is
        (subst (λ (kind : L). IsLegalActOf (object_of kind) before entry after entry.act) same legal.legal)

    replied_here : (before : List (Entry BucketOp BucketReply)) (entry : Entry BucketOp BucketReply) (after : List (Entry BucketOp BucketReply))
        → IsLegalAmongObjects object_of objects before entry after → entry.object ≡ number
        → (op : BucketOp) → entry.act ≡ Call op → entry.answer ≡ Replied ((mortal_bucket bucket).reply (state_in (mortal_bucket bucket) number before) op)
    replied_here before entry after legal there op call =
        let called = subst (λ (act : Act BucketOp). IsLegalActOf (mortal_bucket bucket) before entry after act) call (legal_here before entry after legal there) in
        subst (λ o. entry.answer ≡ Replied ((mortal_bucket bucket).reply (state_in (mortal_bucket bucket) o before) op)) there called.replied

    abbrev IsHeldBy : List (Entry BucketOp BucketReply) → Type 0
    IsHeldBy history = IsHeld bucket (state_in (mortal_bucket bucket) number history) (given_in number history) (latest_in number history)

    one_more : (before : List (Entry BucketOp BucketReply)) (entry : Entry BucketOp BucketReply) (after : List (Entry BucketOp BucketReply))
        → IsLegalAmongObjects object_of objects before entry after → IsHeldBy before → IsHeldBy (before ++ entry ∷ [])
    one_more before entry after legal held =
        let next = moved_by (entry.object == number) (state_in (mortal_bucket bucket) number before) entry.act entry.answer (given_in number before) (latest_in number before)
        (λ own. replied_here before entry after legal (eqb-true entry.object number own)) held in
        rw (fold-append (state_moved_by (mortal_bucket bucket) number) (mortal_bucket bucket).start before (entry ∷ [])) (
        rw (sum_by_push (given_at number) before entry) (
        rw (fold-append (λ latest (other : Entry BucketOp BucketReply). max latest (time_at number other)) 0 before (entry ∷ [])) next))

    all_held : (history before after : List (Entry BucketOp BucketReply)) → IsLegalHistoryOf object_of objects history → history ≡ before ++ after → IsHeldBy before → IsHeldBy history
    all_held history before [] legal parts held = subst (λ (list : List (Entry BucketOp BucketReply)). IsHeldBy list) (sym (parts ∙ append-nil before)) held
    all_held history before (entry ∷ after) legal parts held =
        all_held history (before ++ entry ∷ []) after legal (parts ∙ sym (append_assoc before (entry ∷ []) after)) (one_more before entry after (legal.legal before entry after parts) held)

    pub gives_no_more : (history : List (Entry BucketOp BucketReply)) → IsLegalHistoryOf object_of objects history → GivesNoMore bucket number history
    gives_no_more history legal =
        holds_no_more bucket (state_in (mortal_bucket bucket) number history) (given_in number history) (latest_in number history)
        (all_held history [] history legal refl (omega arith, omega arith))
