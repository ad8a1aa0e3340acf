-- Histories that are legal.
use Rattle.std.proofs.Common.{◌≡◌, ℕ, List, [], ◌∷◌, length, refl, sym, ◌∙◌, arith}
use Rattle.std.specs.FinMap as finite
use Rattle.std.specs.FinMap.{gets}
use Rattle.std.specs.Ordering.{nat_cmp}
use Rattle.std.specs.Cmp.{nat_cmp_total}
use Rattle.std.proofs.lemmas.List.{nil_from_length}
use Rattle.k42_kinds.specs.declared.page.Page.{Page}
use Rattle.k42_kinds.specs.declared.operation.KindName.TheVariants as kinds
use Rattle.k42_kinds.specs.declared.operation.Op.{Op}
use Rattle.k42_kinds.specs.declared.operation.Op.TheVariants.{Add, Get, Bind, Find, Unbind, Size, Write, Read, Dirty, Clean}
use Rattle.k42_kinds.specs.declared.operation.Reply.{Reply}
use Rattle.k42_kinds.specs.declared.operation.Reply.TheVariants as replies
use Rattle.k42_kinds.specs.declared.entry.Act.TheVariants.{Call, Swap}
use Rattle.k42_kinds.specs.declared.entry.To.TheVariants.{Layout, Dead}
use Rattle.k42_kinds.specs.declared.entry.Answer.TheVariants.{Replied, Swapped, Busy, Spent, Gone, Abandoned}
use Rattle.k42_kinds.specs.declared.entry.Entry.{Entry}
use Rattle.k42_kinds.specs.Objects.{Pages}
use Rattle.k42_kinds.specs.Pages.{written, cleaned, all_cleaned}
use Rattle.k42_kinds.specs.Histories.{IsInOrder, number_of}
use Rattle.k42_kinds.specs.Legal.{IsLegalHistory, IsLegal, IsAlive}
use Rattle.k42_kinds.proofs.Splits.{each_split}
use Rattle.k42_kinds.proofs.LegalHistories.{legal_history}
use Rattle.k42_kinds.proofs.ExampleLines.{line, on}

-- a counter is added to, swapped and read
swapped_counter : IsLegalHistory (kinds.Counter ∷ []) (line 1 0 0 0 (Call (Add 5)) (Replied replies.Done) ∷ line 2 0 1 0 (Swap (Layout 1)) (Swapped 1) ∷ line 3 0 2 1 (Call Get) (Replied (replies.Number 5)) ∷ [])
swapped_counter = legal_history _ _ (search arith) (search arith)

thrice_swapped : IsLegalHistory (kinds.Counter ∷ []) (line 1 0 0 0 (Swap (Layout 0)) (Swapped 1) ∷ line 2 0 1 1 (Swap (Layout 0)) (Swapped 2) ∷ line 3 0 2 2 (Swap (Layout 0)) (Swapped 3) ∷ [])
thrice_swapped = legal_history _ _ (search arith) (search arith)

destroyed_counter : IsLegalHistory (kinds.Counter ∷ []) (line 1 0 0 0 (Swap Dead) (Swapped 1) ∷ line 2 0 1 1 (Call Get) (Replied replies.Gone) ∷ line 3 0 2 1 (Swap (Layout 0)) Gone ∷ line 4 0 3 1 (Swap Dead) Gone ∷ [])
destroyed_counter = legal_history _ _ (search arith) (search arith)

abbrev two_callers : List (Entry Op Reply)
two_callers = line 1 0 0 0 (Call (Add 5)) (Replied replies.Done) ∷ line 2 1 0 0 (Call (Add 7)) (Replied replies.Done) ∷ line 3 1 1 0 (Call Get) (Replied (replies.Number 12)) ∷ line 4 0 1 0 (Call Get) (Replied (replies.Number 12)) ∷ []

two_callers_legal : IsLegalHistory (kinds.Counter ∷ []) two_callers
two_callers_legal = legal_history _ _ (search arith) (search arith)

-- what the first of them asked, with other stamps
abbrev asked : List (Entry Op Reply)
asked = line 0 0 0 0 (Call (Add 5)) (Replied replies.Done) ∷ line 0 0 1 0 (Call Get) (Replied (replies.Number 12)) ∷ []

two_callers_in_order : IsInOrder two_callers 0 asked
two_callers_in_order = record { same = refl; counted = each_split (λ before entry after. entry.index ≡ length before) [] asked (search arith) }

-- a swap is refused for the sake of another caller's that stands behind it
refused_first : IsLegalHistory (kinds.Counter ∷ []) (line 1 0 0 0 (Swap (Layout 1)) (Busy 1) ∷ line 2 1 0 0 (Swap (Layout 1)) (Swapped 1) ∷ [])
refused_first = legal_history _ _ (search arith) (search arith)

-- or before it, even if its caller had been in the next implementation already
refused_last : IsLegalHistory (kinds.Counter ∷ []) (line 1 1 0 0 (Swap (Layout 1)) (Swapped 1) ∷ line 2 0 0 1 (Call Get) (Replied (replies.Number 0)) ∷ line 3 0 1 0 (Swap (Layout 1)) (Busy 1) ∷ [])
refused_last = legal_history _ _ (search arith) (search arith)

-- or of one that was given up, and given up is no number of its object
refused_for_an_abandoned : IsLegalHistory (kinds.Counter ∷ []) (line 1 1 0 0 (Swap (Layout 1)) (Abandoned 1) ∷ line 2 0 0 0 (Swap (Layout 1)) (Busy 1) ∷ line 3 0 1 0 (Swap Dead) (Swapped 1) ∷ [])
refused_for_an_abandoned = legal_history _ _ (search arith) (search arith)

-- what its caller had seen of another object is no matter
refused_after_another_object : IsLegalHistory (kinds.Counter ∷ kinds.Counter ∷ []) (on 1 (line 1 0 0 0 (Swap (Layout 1)) (Swapped 1)) ∷ on 1 (line 2 0 1 1 (Swap (Layout 1)) (Swapped 2)) ∷ line 3 0 2 0 (Swap (Layout 1)) (Busy 1) ∷ line 4 1 0 0 (Swap (Layout 1)) (Swapped 1) ∷ [])
refused_after_another_object = legal_history _ _ (search arith) (search arith)

-- nor what it sees later
refused_before_another_object : IsLegalHistory (kinds.Counter ∷ kinds.Counter ∷ []) (line 1 1 0 0 (Swap (Layout 1)) (Swapped 1) ∷ line 2 1 1 1 (Swap (Layout 1)) (Swapped 2) ∷ line 3 0 0 1 (Swap (Layout 1)) (Busy 2) ∷ on 1 (line 4 0 1 0 (Call Get) (Replied (replies.Number 0))) ∷ [])
refused_before_another_object = legal_history _ _ (search arith) (search arith)

-- whatever came before: the swap before the last incarnation is carried out, and it is the last one
last_swap : (before : List (Entry Op Reply)) → IsAlive kinds.Counter 0 before → number_of 0 before ≡ 1048574
    → IsLegal kinds.Counter before (line 1 0 0 1048574 (Swap (Layout 0)) (Swapped 1048575)) []
last_swap before alive number = record { next = omega (arith, number); alive = alive; unspent = omega (arith, number); incarnation = omega (arith, number) }

spent_at_the_last : (before : List (Entry Op Reply)) → IsAlive kinds.Counter 0 before → number_of 0 before ≡ 1048575 → IsLegal kinds.Counter before (line 1 0 0 1048575 (Swap (Layout 0)) Spent) []
spent_at_the_last before alive number = record { alive = alive; spent = omega (arith, number); incarnation = omega (arith, number) }

-- the name `x`
abbrev x : List ℕ
x = 120 ∷ []

name_bound : IsLegalHistory (kinds.Directory ∷ []) (line 1 0 0 0 (Call (Bind x 1)) (Replied replies.Done) ∷ line 2 0 1 0 (Call (Bind x 2)) (Replied replies.Taken) ∷ line 3 0 2 0 (Call (Find x)) (Replied (replies.Number 1)) ∷ line 4 0 3 0 (Call (Unbind x)) (Replied (replies.Number 1)) ∷ line 5 0 4 0 (Call (Unbind x)) (Replied replies.None) ∷ line 6 0 5 0 (Call Size) (Replied (replies.Number 0)) ∷ [])
name_bound = legal_history _ _ (search arith) (search (arith, gets))

-- the text `hello`
abbrev hello : List ℕ
hello = 104 ∷ 101 ∷ 108 ∷ 108 ∷ 111 ∷ []

abbrev unwritten : Pages
unwritten = finite.empty

abbrev hello_written : Pages
hello_written = finite.insert unwritten 0 (written hello)

entries-unwritten : finite.entries unwritten ≡ []
entries-unwritten = nil_from_length (finite.entries unwritten) (sym (finite.len-entries unwritten) ∙ finite.len-empty nat_cmp Page)

entries-hello_written : finite.entries hello_written ≡ (0, written hello) ∷ []
entries-hello_written = finite.entries-insert nat_cmp_total unwritten 0 (written hello) ∙ rw entries-unwritten

entries-cleaned : finite.entries (all_cleaned hello_written) ≡ (0, cleaned (written hello)) ∷ []
entries-cleaned = rw entries-hello_written (finite.entries-from_sorted nat_cmp ((0, cleaned (written hello)) ∷ []) tt)

page_written : IsLegalHistory (kinds.Pages ∷ []) (line 1 0 0 0 (Call (Read 0)) (Replied replies.Zero) ∷ line 2 0 1 0 (Call (Write 0 hello)) (Replied replies.Done) ∷ line 3 0 2 0 (Call (Read 0)) (Replied (replies.Text hello)) ∷ line 4 0 3 0 (Call Dirty) (Replied (replies.Number 1)) ∷ line 5 0 4 0 (Call Clean) (Replied (replies.Number 1)) ∷ line 6 0 5 0 (Call Dirty) (Replied (replies.Number 0)) ∷ [])
page_written = legal_history _ _ (search arith) (search (arith, gets, entries-unwritten, entries-hello_written, entries-cleaned))
