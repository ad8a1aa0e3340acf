-- Histories of a watched counter that are legal, and some that are not.
use Rattle.std.proofs.Common.{◌≡◌, ◌+◌, List, [], ◌∷◌, ◌++◌, length, slice_get, Some, refl, subst, arith}
use Rattle.std.proofs.lemmas.Option.{same_Some}
use Rattle.k42_kinds.specs.declared.operation.KindName.{KindName}
use Rattle.k42_kinds.specs.declared.operation.KindName.TheVariants.{Counter}
use Rattle.k42_kinds.specs.declared.operation.Op.{Op}
use Rattle.k42_kinds.specs.declared.operation.Op.TheVariants.{Add, Get, Drain, Seen}
use Rattle.k42_kinds.specs.declared.operation.Reply.{Reply}
use Rattle.k42_kinds.specs.declared.operation.Reply.TheVariants as replies
use Rattle.k42_kinds.specs.declared.entry.Act.TheVariants.{Call, Swap}
use Rattle.k42_kinds.specs.declared.entry.To.TheVariants.{Layout, Dead, Watch, Unwatch}
use Rattle.k42_kinds.specs.declared.entry.Answer.TheVariants.{Replied, Swapped, Busy, Gone, Abandoned}
use Rattle.k42_kinds.specs.declared.entry.Entry.{Entry}
use Rattle.k42_kinds.specs.Legal.{IsLegalHistoryOf, IsLegalAmongObjects, IsLegalActOf}
use Rattle.k42_kinds.specs.Watched.{watched_object}
use Rattle.k42_kinds.proofs.Splits.{EachBehind, each_split}
use Rattle.k42_kinds.proofs.ExampleLines.{line, on}

-- a legal history of two watched counters
abbrev IsWatchedHistory : List (Entry Op Reply) → Type 0
IsWatchedHistory history = IsLegalHistoryOf watched_object (Counter ∷ Counter ∷ []) history

legal : (history : List (Entry Op Reply)) → EachBehind (λ before entry after. entry.stamp ≡ length before + 1) [] history → EachBehind (IsLegalAmongObjects watched_object (Counter ∷ Counter ∷ [])) [] history → IsWatchedHistory history
legal history numbered each = record {
  numbered = each_split (λ before entry after. entry.stamp ≡ length before + 1) [] history numbered;
  legal = each_split (IsLegalAmongObjects watched_object (Counter ∷ Counter ∷ [])) [] history each;
}

-- it is added to, watched, called, swapped and watched no more
abbrev watched_between : List (Entry Op Reply)
watched_between =
    line 1 0 0 0 (Call (Add 5)) (Replied replies.Done) ∷ line 2 0 1 0 (Swap Watch) (Swapped 1) ∷ line 3 0 2 1 (Call (Add 1)) (Replied replies.Done) ∷ line 4 0 3 1 (Call Get) (Replied (replies.Number 6))
    ∷ line 5 0 4 1 (Call Seen) (Replied (replies.Number 2)) ∷ line 6 0 5 1 (Swap (Layout 1)) (Swapped 2) ∷ line 7 0 6 2 (Call Seen) (Replied (replies.Number 2))
    ∷ line 8 0 7 2 (Swap Unwatch) (Swapped 3) ∷ line 9 0 8 3 (Call Seen) (Replied replies.None) ∷ []

watched_between_legal : IsWatchedHistory watched_between
watched_between_legal = legal watched_between (search arith) (search arith)

-- nothing can be placed round a dead object
abbrev watched_when_dead : List (Entry Op Reply)
watched_when_dead = line 1 0 0 0 (Swap Dead) (Swapped 1) ∷ line 2 0 1 1 (Swap Watch) Gone ∷ line 3 0 2 1 (Call Seen) (Replied replies.Gone) ∷ []

watched_when_dead_legal : IsWatchedHistory watched_when_dead
watched_when_dead_legal = legal watched_when_dead (search arith) (search arith)

-- a second watch starts anew, and one that was refused or given up leaves the count
abbrev watched_twice : List (Entry Op Reply)
watched_twice =
    line 1 0 0 0 (Swap Watch) (Swapped 1) ∷ line 2 0 1 1 (Call Drain) (Replied (replies.Number 0)) ∷ line 3 1 0 1 (Swap Watch) (Busy 2) ∷ line 4 0 2 1 (Swap Watch) (Abandoned 2)
    ∷ line 5 0 3 1 (Call Seen) (Replied (replies.Number 1)) ∷ line 6 0 4 1 (Swap Watch) (Swapped 2) ∷ line 7 0 5 2 (Call Seen) (Replied (replies.Number 0)) ∷ []

watched_twice_legal : IsWatchedHistory watched_twice
watched_twice_legal = legal watched_twice (search arith) (search arith)

-- one that is not watched can be unwatched all the same
abbrev unwatched : List (Entry Op Reply)
unwatched = line 1 0 0 0 (Swap Unwatch) (Swapped 1) ∷ line 2 0 1 1 (Call Seen) (Replied replies.None) ∷ []

unwatched_legal : IsWatchedHistory unwatched
unwatched_legal = legal unwatched (search arith) (search arith)

-- another object's calls are not counted, nor is it watched
abbrev watched_elsewhere : List (Entry Op Reply)
watched_elsewhere =
    line 1 0 0 0 (Swap Watch) (Swapped 1) ∷ on 1 (line 2 0 1 0 (Call (Add 1)) (Replied replies.Done)) ∷ line 3 0 2 1 (Call Seen) (Replied (replies.Number 0))
    ∷ on 1 (line 4 0 3 0 (Call Seen) (Replied replies.None)) ∷ []

watched_elsewhere_legal : IsWatchedHistory watched_elsewhere
watched_elsewhere_legal = legal watched_elsewhere (search arith) (search arith)

-- no history that has this entry behind these is legal
record IsRefused (before : List (Entry Op Reply)) (entry : Entry Op Reply) : Type 0 where
  refused : IsWatchedHistory (before ++ entry ∷ []) → ⊥

illegal : {before : List (Entry Op Reply)} {entry : Entry Op Reply} → entry.object ≡ 0 → (IsLegalActOf (watched_object Counter) before entry [] entry.act → ⊥) → IsRefused before entry
illegal {before} {entry} declared not_legal = record {
  refused = λ history.
      let was = history.legal before entry [] refl in
      let counter : slice_get (Counter ∷ Counter ∷ []) entry.object ≡ Some Counter = rw declared in
      not_legal (subst (λ (kind : KindName). IsLegalActOf (watched_object kind) before entry [] entry.act) (same_Some was.kind Counter (cc (was.declared, counter))) was.legal);
}

abbrev watch : Entry Op Reply
watch = line 1 0 0 0 (Swap Watch) (Swapped 1)

abbrev added : Entry Op Reply
added = line 2 0 1 1 (Call (Add 5)) (Replied replies.Done)

abbrev asked : Entry Op Reply
asked = line 3 0 2 1 (Call Seen) (Replied (replies.Number 1))

asking_is_not_counted : IsRefused (watch ∷ added ∷ asked ∷ []) (line 4 0 3 1 (Call Seen) (Replied (replies.Number 2)))
asking_is_not_counted = illegal refl (λ legal. grind arith)

every_call_is_counted : IsRefused (watch ∷ added ∷ asked ∷ []) (line 4 0 3 1 (Call Seen) (Replied (replies.Number 0)))
every_call_is_counted = illegal refl (λ legal. grind arith)

calls_before_are_not_counted : IsRefused (line 1 0 0 0 (Call (Add 5)) (Replied replies.Done) ∷ line 2 0 1 0 (Swap Watch) (Swapped 1) ∷ []) (line 3 0 2 1 (Call Seen) (Replied (replies.Number 1)))
calls_before_are_not_counted = illegal refl (λ legal. grind arith)

no_count_without_a_watch : IsRefused [] (line 1 0 0 0 (Call Seen) (Replied (replies.Number 0)))
no_count_without_a_watch = illegal refl (λ legal. grind arith)

a_swap_keeps_the_count : IsRefused (watch ∷ added ∷ line 3 0 2 1 (Swap (Layout 1)) (Swapped 2) ∷ []) (line 4 0 3 2 (Call Seen) (Replied (replies.Number 0)))
a_swap_keeps_the_count = illegal refl (λ legal. grind arith)

an_unwatch_ends_it : IsRefused (watch ∷ added ∷ line 3 0 2 1 (Swap Unwatch) (Swapped 2) ∷ []) (line 4 0 3 2 (Call Seen) (Replied (replies.Number 1)))
an_unwatch_ends_it = illegal refl (λ legal. grind arith)

a_watch_starts_anew : IsRefused (watch ∷ added ∷ line 3 0 2 1 (Swap Watch) (Swapped 2) ∷ []) (line 4 0 3 2 (Call Seen) (Replied (replies.Number 1)))
a_watch_starts_anew = illegal refl (λ legal. grind arith)

the_dead_are_not_counted : IsRefused (watch ∷ added ∷ line 3 0 2 1 (Swap Dead) (Swapped 2) ∷ []) (line 4 0 3 2 (Call Seen) (Replied (replies.Number 1)))
the_dead_are_not_counted = illegal refl (λ legal. grind arith)

a_watch_of_the_dead_is_gone : IsRefused (line 1 0 0 0 (Swap Dead) (Swapped 1) ∷ []) (line 2 0 1 1 (Swap Watch) (Swapped 2))
a_watch_of_the_dead_is_gone = illegal refl (λ legal. grind arith)

a_watch_is_a_swap : IsRefused (watch ∷ []) (line 2 0 1 0 (Call Get) (Replied (replies.Number 0)))
a_watch_is_a_swap = illegal refl (λ legal. grind arith)
