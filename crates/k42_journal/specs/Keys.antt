-- The order of entries as a test: by stamp, object, cell and caller.
use Rattle.std.specs.Prelude.{ℕ, ◌&&◌, ◌||◌, ◌==◌, Bool, false, List, [], ◌∷◌, nat_lt}
use Rattle.k42_kinds.specs.declared.entry.Entry.{Entry}
use Rattle.k42_log.specs.declared.unread.Standing.{Standing}
use Rattle.k42_stamp.specs.Orders.{key_of}

-- whether the first number that differs is the lesser one
abbrev pub is_below : List ℕ → List ℕ → Bool
is_below [] ns = false
is_below (m ∷ ms) [] = false
is_below (m ∷ ms) (n ∷ ns) = nat_lt m n || (m == n && is_below ms ns)

abbrev pub comes_before : {O R : Type 0} → Entry O R → Entry O R → Bool
comes_before one other = is_below (key_of one) (key_of other)

-- the key of an entry that stands so
abbrev pub key_at : Standing → List ℕ
key_at standing = standing.stamp ∷ standing.object ∷ standing.cell ∷ standing.caller ∷ []

abbrev pub stands_before : Standing → Standing → Bool
stands_before one other = is_below (key_at one) (key_at other)
