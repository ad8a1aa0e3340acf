-- Entries that are not legal: for each part of a rule one that breaks this part, and two histories that a stricter rule would refuse.
use Rattle.std.proofs.Common.{◌≡◌, ℕ, List, [], ◌∷◌, ◌++◌, Option, None, Some, refl, arith}
use Rattle.std.specs.List.{AllByRecursion}
use Rattle.k42_kinds.specs.declared.operation.KindName.{KindName}
use Rattle.k42_kinds.specs.declared.operation.KindName.TheVariants as kinds
use Rattle.k42_kinds.specs.declared.operation.Op.{Op}
use Rattle.k42_kinds.specs.declared.operation.Op.TheVariants.{Add, Get, Size}
use Rattle.k42_kinds.specs.declared.operation.Reply.{Reply}
use Rattle.k42_kinds.specs.declared.operation.Reply.TheVariants.{Done, Number}
use Rattle.k42_kinds.specs.declared.entry.Act.{Act}
use Rattle.k42_kinds.specs.declared.entry.Act.TheVariants.{Call, Swap}
use Rattle.k42_kinds.specs.declared.entry.To.TheVariants.{Layout, Dead}
use Rattle.k42_kinds.specs.declared.entry.Answer.TheVariants.{Replied, Swapped, Busy, Spent, Gone, Abandoned}
use Rattle.k42_kinds.specs.declared.entry.Entry.{Entry}
use Rattle.k42_kinds.specs.Watched.{watched_object}
use Rattle.k42_kinds.specs.Histories.{number_of}
use Rattle.k42_kinds.specs.Legal.{IsLegalHistory, IsLegal, IsLegalRefusal, IsRival, IsActSoFar, IsLegalSoFar}
use Rattle.k42_kinds.proofs.Splits.{none-Any}
use Rattle.k42_kinds.proofs.LegalHistories.{legal_history, illegal_at}
use Rattle.k42_kinds.proofs.ExampleLines.{line, on}

-- the acts that are no calls
abbrev swap : Act Op
swap = Swap (Layout 1)

abbrev destroy : Act Op
destroy = Swap Dead

-- the entry of a counter is not legal between these, whatever these are
abbrev IsIllegal : List (Entry Op Reply) → Entry Op Reply → List (Entry Op Reply) → Type 0
IsIllegal before entry after = IsLegal kinds.Counter before entry after → ⊥

no_rival : {before : List (Entry Op Reply)} {entry : Entry Op Reply} {after : List (Entry Op Reply)} {number : ℕ} → AllByRecursion (λ other. IsRival entry number other → ⊥) (before ++ after) →
    IsLegalRefusal before entry after number → ⊥
no_rival {before} {entry} {after} {number} none legal = none-Any (IsRival entry number) (before ++ after) none legal.rival

-- ---- a refusal is for the sake of a swap that was carried out or given up

-- not of another refusal: while nobody swaps, two callers are not refused for each other's sake
refused_for_a_refusal : IsIllegal (line 1 0 0 0 swap (Busy 1) ∷ []) (line 2 1 0 0 swap (Busy 1)) []
refused_for_a_refusal legal = no_rival (search arith) legal

refused_for_a_coming_refusal : IsIllegal [] (line 1 0 0 0 swap (Busy 1)) (line 2 1 0 0 swap (Busy 1) ∷ [])
refused_for_a_coming_refusal legal = no_rival (search arith) legal

refused_for_each_other : IsLegalHistory (kinds.Counter ∷ []) (line 1 0 0 0 swap (Busy 1) ∷ line 2 1 0 0 swap (Busy 1) ∷ []) → ⊥
refused_for_each_other = illegal_at (kinds.Counter ∷ []) kinds.Counter [] (line 1 0 0 0 swap (Busy 1)) (line 2 1 0 0 swap (Busy 1) ∷ []) refl refused_for_a_coming_refusal

-- nor of any other answer
refused_for_calls : IsIllegal (line 1 1 0 0 (Call (Add 1)) (Replied Done) ∷ []) (line 2 0 0 0 swap (Busy 1)) (line 3 1 1 0 (Call Get) (Replied (Number 1)) ∷ [])
refused_for_calls legal = no_rival (search arith) legal

refused_for_a_spent_swap : IsIllegal (line 1 1 0 0 swap Spent ∷ []) (line 2 0 0 0 swap (Busy 1)) []
refused_for_a_spent_swap legal = no_rival (search arith) legal

refused_when_dead : IsIllegal (line 1 1 0 0 destroy (Swapped 1) ∷ line 2 1 1 1 swap Gone ∷ []) (line 3 0 0 1 swap (Busy 2)) []
refused_when_dead legal = no_rival (search arith) legal

-- a destroy is refused by the same rule
destroy_refused_for_nobody : IsIllegal [] (line 1 0 0 0 destroy (Busy 1)) []
destroy_refused_for_nobody legal = no_rival (search arith) legal

-- in the implementation that the other swap ends
refused_behind_the_swap : IsIllegal (line 1 1 0 0 swap (Swapped 1) ∷ []) (line 2 0 0 1 swap (Busy 1)) []
refused_behind_the_swap legal = grind (arith, legal.timely.incarnation)

-- What another caller saw of the object is no matter, neither before
refused_when_others_were_past : IsLegalHistory (kinds.Counter ∷ []) (line 1 1 0 0 swap (Swapped 1) ∷ line 2 1 1 1 swap (Swapped 2) ∷ line 3 0 0 0 swap (Busy 1) ∷ [])
refused_when_others_were_past = legal_history _ _ (search arith) (search arith)

-- nor later.
refused_before_others_go_on : IsLegalHistory (kinds.Counter ∷ []) (line 1 0 0 1 swap (Busy 2) ∷ line 2 1 0 0 swap (Swapped 1) ∷ line 3 1 1 1 swap (Swapped 2) ∷ [])
refused_before_others_go_on = legal_history _ _ (search arith) (search arith)

-- ---- a swap that is given up is timely too

abandoned_behind_its_own : IsIllegal (line 1 1 0 0 swap (Swapped 1) ∷ line 2 0 0 1 swap (Swapped 2) ∷ []) (line 3 0 1 0 swap (Abandoned 1)) []
abandoned_behind_its_own legal = let past = legal.earlier 1 (line 0 0 0 0 swap Gone) (omega arith) (record { caller = refl; object = refl }) in grind arith

abandoned_before_what_was : IsIllegal [] (line 1 0 0 2 swap (Abandoned 3)) (line 2 1 0 0 swap (Swapped 1) ∷ line 3 0 1 1 (Call Get) (Replied (Number 0)) ∷ [])
abandoned_before_what_was legal = let past = legal.later 1 (line 0 0 0 0 swap Gone) (omega arith) (record { caller = refl; object = refl }) in grind arith

-- ---- what is carried out, spent or gone is so in the present implementation

swapped_in_a_coming_implementation : IsIllegal [] (line 1 0 0 1 swap (Swapped 1)) []
swapped_in_a_coming_implementation legal = grind (arith, legal.incarnation)

swapped_in_a_former_implementation : IsIllegal (line 1 0 0 0 swap (Swapped 1) ∷ []) (line 2 0 1 0 swap (Swapped 2)) []
swapped_in_a_former_implementation legal = grind (arith, legal.incarnation)

number_again : IsIllegal (line 1 0 0 0 swap (Swapped 1) ∷ []) (line 2 0 1 1 swap (Swapped 1)) []
number_again legal = grind (arith, legal.next)

spent_in_a_former_implementation : (before : List (Entry Op Reply)) → number_of 0 before ≡ 1048575 → IsIllegal before (line 1 0 0 1048574 swap Spent) []
spent_in_a_former_implementation before counted legal = omega (arith, counted, legal.incarnation)

gone_in_a_former_implementation : IsIllegal (line 1 0 0 0 destroy (Swapped 1) ∷ []) (line 2 0 1 0 swap Gone) []
gone_in_a_former_implementation legal = grind (arith, legal.incarnation)

-- ---- a destroy is answered as a swap is

destroy_answered_as_call : IsIllegal [] (line 1 0 0 0 destroy (Replied Done)) []
destroy_answered_as_call legal = legal

destroy_skips_a_number : IsIllegal [] (line 1 0 0 0 destroy (Swapped 2)) []
destroy_skips_a_number legal = grind (arith, legal.next)

destroy_spent_too_early : IsIllegal [] (line 1 0 0 0 destroy Spent) []
destroy_spent_too_early legal = grind (arith, legal.spent)

destroy_gone_while_alive : IsIllegal [] (line 1 0 0 0 destroy Gone) []
destroy_gone_while_alive legal = grind arith

destroyed_twice : IsIllegal (line 1 0 0 0 destroy (Swapped 1) ∷ []) (line 2 0 1 1 destroy (Swapped 2)) []
destroyed_twice legal = grind arith

destroy_given_up_under_a_later_number : IsIllegal [] (line 1 0 0 0 destroy (Abandoned 2)) []
destroy_given_up_under_a_later_number legal = grind (arith, legal.incarnation)

-- ---- calls, and objects that are not declared

call_of_a_directory : IsIllegal [] (line 1 0 0 0 (Call Size) (Replied (Number 0))) []
call_of_a_directory legal = grind arith

call_in_a_coming_implementation : IsIllegal [] (line 1 0 0 1 (Call Get) (Replied (Number 0))) []
call_in_a_coming_implementation legal = grind (arith, legal.incarnation)

undeclared : {kind : KindName} → ◌≡◌ {A = Option KindName} None (Some kind) → ⊥
undeclared none = cc

undeclared_object : IsLegalHistory (kinds.Counter ∷ []) (on 1 (line 1 0 0 0 (Call Get) (Replied (Number 0))) ∷ []) → ⊥
undeclared_object history = undeclared (history.legal [] (on 1 (line 1 0 0 0 (Call Get) (Replied (Number 0)))) [] refl).declared

-- ---- what is not legal so far

-- the entry of a counter is not legal so far behind these
abbrev IsIllegalSoFar : List (Entry Op Reply) → Entry Op Reply → Type 0
IsIllegalSoFar before entry = IsActSoFar (watched_object kinds.Counter) before entry entry.act → ⊥

call_answered_as_swap_so_far : IsIllegalSoFar [] (line 1 0 0 0 (Call Get) (Swapped 1))
call_answered_as_swap_so_far legal = grind arith

swap_answered_as_call_so_far : IsIllegalSoFar [] (line 1 0 0 0 swap (Replied Done))
swap_answered_as_call_so_far legal = legal

skipped_number_so_far : IsIllegalSoFar [] (line 1 0 0 0 swap (Swapped 2))
skipped_number_so_far legal = grind (arith, legal.next)

spent_too_early_so_far : IsIllegalSoFar [] (line 1 0 0 0 swap Spent)
spent_too_early_so_far legal = grind (arith, legal.spent)

gone_while_alive_so_far : IsIllegalSoFar [] (line 1 0 0 0 destroy Gone)
gone_while_alive_so_far legal = grind arith

undeclared_object_so_far : IsLegalSoFar watched_object (kinds.Counter ∷ []) (on 1 (line 1 0 0 0 (Call Get) (Replied (Number 0))) ∷ []) → ⊥
undeclared_object_so_far history = undeclared (history.legal [] (on 1 (line 1 0 0 0 (Call Get) (Replied (Number 0)))) [] refl).declared

wrong_stamp_so_far : IsLegalSoFar watched_object (kinds.Counter ∷ []) (line 0 0 0 0 (Call Get) (Replied (Number 0)) ∷ []) → ⊥
wrong_stamp_so_far history = let stamp = history.numbered [] (line 0 0 0 0 (Call Get) (Replied (Number 0))) [] refl in grind arith
