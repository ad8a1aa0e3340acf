-- Histories that are not legal, and histories that do not have the entries of a caller in their order.
use Rattle.std.proofs.Common.{◌≡◌, ℕ, List, [], ◌∷◌, ◌++◌, refl, arith}
use Rattle.std.specs.List.{AllByRecursion}
use Rattle.k42_kinds.specs.declared.operation.KindName.TheVariants.{Counter}
use Rattle.k42_kinds.specs.declared.operation.Op.{Op}
use Rattle.k42_kinds.specs.declared.operation.Op.TheVariants.{Add, Get, Size}
use Rattle.k42_kinds.specs.declared.operation.Reply.{Reply}
use Rattle.k42_kinds.specs.declared.operation.Reply.TheVariants as replies
use Rattle.k42_kinds.specs.declared.entry.Act.TheVariants.{Call, Swap}
use Rattle.k42_kinds.specs.declared.entry.To.{To}
use Rattle.k42_kinds.specs.declared.entry.To.TheVariants.{Layout, Dead}
use Rattle.k42_kinds.specs.declared.entry.Answer.TheVariants.{Replied, Swapped, Busy, Spent, Gone, Abandoned}
use Rattle.k42_kinds.specs.declared.entry.Entry.{Entry}
use Rattle.k42_kinds.specs.declared.states.AnyState.TheVariants as states
use Rattle.k42_kinds.specs.Histories.{IsInOrder, state_of, number_of}
use Rattle.k42_kinds.specs.Legal.{IsLegalHistory, IsLegal, IsLegallySpent, IsRival}
use Rattle.k42_kinds.proofs.Splits.{none-Any}
use Rattle.k42_kinds.proofs.Ends.{not_dead}
use Rattle.k42_kinds.proofs.LegalHistories.{illegal_at, refusal_of_swap}
use Rattle.k42_kinds.proofs.ExampleLines.{line, on}

-- no history of two counters that has this entry between these is legal
record IsRefused (before : List (Entry Op Reply)) (entry : Entry Op Reply) (after : List (Entry Op Reply)) : Type 0 where
  refused : IsLegalHistory (Counter ∷ Counter ∷ []) (before ++ entry ∷ after) → ⊥

illegal : {before : List (Entry Op Reply)} {entry : Entry Op Reply} {after : List (Entry Op Reply)} → entry.object ≡ 0 → (IsLegal Counter before entry after → ⊥) → IsRefused before entry after
illegal {before} {entry} {after} declared not_legal = record { refused = illegal_at (Counter ∷ Counter ∷ []) Counter before entry after (rw declared) not_legal }

no_rival : {before : List (Entry Op Reply)} {entry : Entry Op Reply} {after : List (Entry Op Reply)} (to : To) (number : ℕ) → entry.object ≡ 0 → entry.act ≡ Swap to → entry.answer ≡ Busy number → AllByRecursion (λ other. IsRival entry number other → ⊥) (before ++ after) → IsRefused before entry after
no_rival {before} {entry} {after} to number declared act answer none = illegal declared (λ legal. none-Any (IsRival entry number) (before ++ after) none (refusal_of_swap Counter before entry after to number act answer legal).rival)

abbrev added : Entry Op Reply
added = line 1 0 0 0 (Call (Add 5)) (Replied replies.Done)

abbrev swapped : Entry Op Reply
swapped = line 2 0 1 0 (Swap (Layout 1)) (Swapped 1)

wrong_reply : IsRefused (added ∷ swapped ∷ []) (line 3 0 2 1 (Call Get) (Replied (replies.Number 6))) []
wrong_reply = illegal refl (λ legal. grind arith)

wrong_incarnation : IsRefused (added ∷ swapped ∷ []) (line 3 0 2 0 (Call Get) (Replied (replies.Number 5))) []
wrong_incarnation = illegal refl (λ legal. grind arith)

wrong_stamp : IsRefused (added ∷ []) (line 3 0 1 0 (Call Get) (Replied (replies.Number 5))) []
wrong_stamp = record { refused = λ history. let stamp = history.numbered (added ∷ []) (line 3 0 1 0 (Call Get) (Replied (replies.Number 5))) [] refl in grind arith }

call_answered_as_swap : IsRefused [] (line 1 0 0 0 (Call Get) (Swapped 1)) []
call_answered_as_swap = illegal refl (λ legal. grind arith)

swap_answered_as_call : IsRefused [] (line 1 0 0 0 (Swap (Layout 1)) (Replied replies.Done)) []
swap_answered_as_call = illegal refl (λ legal. legal)

skipped_number : IsRefused [] (line 1 0 0 0 (Swap (Layout 1)) (Swapped 2)) []
skipped_number = illegal refl (λ legal. grind arith)

-- a caller is not refused for the sake of its own swap, nor of a swap with another number
no_other_swap : IsRefused (line 1 0 0 0 (Swap (Layout 1)) (Swapped 1) ∷ []) (line 2 0 1 0 (Swap (Layout 1)) (Busy 1)) (line 3 1 0 1 (Swap (Layout 1)) (Swapped 2) ∷ [])
no_other_swap = no_rival (Layout 1) 1 refl refl refl (search arith)

-- nor for the sake of a swap of another object
no_swap_of_the_object : IsRefused (on 1 (line 1 1 0 0 (Swap (Layout 1)) (Swapped 1)) ∷ []) (line 2 0 0 0 (Swap (Layout 1)) (Busy 1)) (on 1 (line 3 2 0 1 (Swap (Layout 1)) (Abandoned 1)) ∷ [])
no_swap_of_the_object = no_rival (Layout 1) 1 refl refl refl (search arith)

-- nor of one that was given up under another number, or that it gave up itself
no_other_abandoned : IsRefused (line 1 0 0 0 (Swap (Layout 1)) (Abandoned 1) ∷ []) (line 2 0 1 0 (Swap (Layout 1)) (Busy 1)) (line 3 1 0 1 (Swap (Layout 1)) (Abandoned 2) ∷ [])
no_other_abandoned = no_rival (Layout 1) 1 refl refl refl (search arith)

-- nor if it had been in a later implementation than the one that the swap made
late_refusal : IsRefused (line 1 1 0 0 (Swap (Layout 1)) (Swapped 1) ∷ line 2 1 1 1 (Swap (Layout 1)) (Swapped 2) ∷ line 3 0 0 2 (Call Get) (Replied (replies.Number 0)) ∷ []) (line 4 0 1 0 (Swap (Layout 1)) (Busy 1)) []
late_refusal = illegal refl (λ legal. let past = legal.timely.earlier 2 added (omega arith) (record { caller = refl; object = refl }) in grind arith)

-- nor if it had made a later swap itself
refused_behind_its_own : IsRefused (line 1 1 0 0 (Swap (Layout 1)) (Swapped 1) ∷ line 2 0 0 1 (Swap (Layout 1)) (Swapped 2) ∷ []) (line 3 0 1 0 (Swap (Layout 1)) (Busy 1)) []
refused_behind_its_own = illegal refl (λ legal. let past = legal.timely.earlier 1 added (omega arith) (record { caller = refl; object = refl }) in grind arith)

-- nor if it goes on in an implementation before the one that the swap was to end
early_refusal : IsRefused [] (line 1 0 0 2 (Swap (Layout 1)) (Busy 3)) (line 2 1 0 0 (Swap (Layout 1)) (Swapped 1) ∷ line 3 0 1 1 (Call Get) (Replied (replies.Number 0)) ∷ line 4 1 1 1 (Swap (Layout 1)) (Swapped 2) ∷ line 5 1 2 2 (Swap (Layout 1)) (Swapped 3) ∷ [])
early_refusal = illegal refl (λ legal. let past = legal.timely.later 1 added (omega arith) (record { caller = refl; object = refl }) in grind arith)

-- what is given up bears the number that was to come, which is at least 1
abandoned_under_a_later_number : IsRefused [] (line 1 0 0 0 (Swap (Layout 1)) (Abandoned 2)) []
abandoned_under_a_later_number = illegal refl (λ legal. grind arith)

abandoned_under_no_number : IsRefused [] (line 1 0 0 0 (Swap (Layout 1)) (Abandoned 0)) []
abandoned_under_no_number = illegal refl (λ legal. grind arith)

-- and its caller had not been past it
late_abandoned : IsRefused (line 1 1 0 0 (Swap (Layout 1)) (Swapped 1) ∷ line 2 1 1 1 (Swap (Layout 1)) (Swapped 2) ∷ line 3 0 0 2 (Call Get) (Replied (replies.Number 0)) ∷ []) (line 4 0 1 0 (Swap (Layout 1)) (Abandoned 1)) []
late_abandoned = illegal refl (λ legal. let past = legal.earlier 2 added (omega arith) (record { caller = refl; object = refl }) in grind arith)

spent_too_early : IsRefused [] (line 1 0 0 0 (Swap (Layout 0)) Spent) []
spent_too_early = illegal refl (λ legal. grind arith)

-- whatever came before: no swap goes past the last incarnation, and none is spent before it
swap_past_the_last : (before : List (Entry Op Reply)) (number : ℕ) → number_of 0 before ≡ 1048575 → IsLegal Counter before (line 1 0 0 1048575 (Swap (Layout 0)) (Swapped number)) [] → ⊥
swap_past_the_last before number counted legal = omega (arith, counted, legal.unspent)

spent_before_the_last : (before : List (Entry Op Reply)) → number_of 0 before ≡ 1048574 → IsLegal Counter before (line 1 0 0 1048574 (Swap (Layout 0)) Spent) [] → ⊥
spent_before_the_last before counted legal = omega (arith, counted, legal.spent)

gone_while_alive : IsRefused [] (line 1 0 0 0 (Swap (Layout 0)) Gone) []
gone_while_alive = illegal refl (λ legal. grind arith)

swapped_when_dead : IsRefused (line 1 0 0 0 (Swap Dead) (Swapped 1) ∷ []) (line 2 0 1 1 (Swap (Layout 0)) (Swapped 2)) []
swapped_when_dead = illegal refl (λ legal. grind arith)

-- a dead object is never spent, however many swaps it went through
spent_when_dead : (before : List (Entry Op Reply)) (entry : Entry Op Reply) → (state_of Counter entry.object before).inner ≡ states.Dead → IsLegallySpent Counter before entry → ⊥
spent_when_dead before entry dead legal = not_dead (state_of Counter entry.object before).inner legal.alive dead

-- a dead object too takes the operations of its kind alone
call_of_another_kind : IsRefused (line 1 0 0 0 (Swap Dead) (Swapped 1) ∷ []) (line 2 0 1 1 (Call Size) (Replied replies.Gone)) []
call_of_another_kind = illegal refl (λ legal. grind arith)

-- what one caller asked
abbrev asked : List (Entry Op Reply)
asked = line 0 0 0 0 (Call (Add 5)) (Replied replies.Done) ∷ line 0 0 1 0 (Call Get) (Replied (replies.Number 5)) ∷ []

repeated : IsInOrder (line 1 0 0 0 (Call (Add 5)) (Replied replies.Done) ∷ line 2 0 0 0 (Call (Add 5)) (Replied replies.Done) ∷ line 3 0 1 0 (Call Get) (Replied (replies.Number 5)) ∷ []) 0 asked → ⊥
repeated order = cc order.same

missing : IsInOrder (line 1 0 0 0 (Call (Add 5)) (Replied replies.Done) ∷ []) 0 asked → ⊥
missing order = cc order.same

exchanged : IsInOrder (line 1 0 1 0 (Call Get) (Replied (replies.Number 5)) ∷ line 2 0 0 0 (Call (Add 5)) (Replied replies.Done) ∷ []) 0 asked → ⊥
exchanged order = cc order.same

wrong_index : IsInOrder (line 1 0 1 0 (Call Get) (Replied (replies.Number 0)) ∷ []) 0 (line 0 0 1 0 (Call Get) (Replied (replies.Number 0)) ∷ []) → ⊥
wrong_index order = let first = order.counted [] (line 0 0 1 0 (Call Get) (Replied (replies.Number 0))) [] refl in grind arith
