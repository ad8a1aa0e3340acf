-- The test of the order tells the order.
use Rattle.std.proofs.Common.{ℕ, ◌&&◌, eqb, ltb, List, [], ◌∷◌, Decides}
use Rattle.std.proofs.lemmas.Bool.Decides.{Decides-and, Decides-or, Decides-eqb, Decides-ltb}
use Rattle.k42_kinds.specs.declared.entry.Entry.{Entry}
use Rattle.k42_log.specs.declared.unread.Standing.{Standing}
use Rattle.k42_stamp.specs.Orders.{IsBelow, IsBefore, key_of}
use Rattle.k42_journal.specs.Keys.{is_below, comes_before, key_at, stands_before}

pub below_decides : (ms ns : List ℕ) → Decides (is_below ms ns) (IsBelow ms ns)
below_decides [] ns = (λ t. absurd (cc), λ h. absurd h)
below_decides (m ∷ ms) [] = (λ t. absurd (cc), λ h. absurd h)
below_decides (m ∷ ms) (n ∷ ns) =
    Decides-or (ltb m n) (eqb m n && is_below ms ns) (Decides-ltb m n) (Decides-and (eqb m n) (is_below ms ns) (Decides-eqb m n) (below_decides ms ns))

pub before_decides : {O R : Type 0} (one other : Entry O R) → Decides (comes_before one other) (IsBefore one other)
before_decides one other = below_decides (key_of one) (key_of other)

pub stands_decides : (one other : Standing) → Decides (stands_before one other) (IsBelow (key_at one) (key_at other))
stands_decides one other = below_decides (key_at one) (key_at other)
