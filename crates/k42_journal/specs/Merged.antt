-- What lists merge to, as a value.
use Rattle.std.specs.Prelude.{ℕ, List, [], ◌∷◌, ◌++◌, if◌then◌else◌}
use Rattle.k42_kinds.specs.declared.entry.Entry.{Entry}
use Rattle.k42_stamp.specs.Lists.{numbered_from}
use Rattle.k42_journal.specs.Keys.{comes_before}

-- the entry, before the first of the others that does not come before it
abbrev pub placed : {O R : Type 0} → Entry O R → List (Entry O R) → List (Entry O R)
placed entry [] = entry ∷ []
placed entry (one ∷ others) =
    if comes_before one entry then one ∷ placed entry others else entry ∷ one ∷ others

abbrev pub in_order : {O R : Type 0} → List (Entry O R) → List (Entry O R)
in_order [] = []
in_order (entry ∷ entries) = placed entry (in_order entries)

-- the entries of all lists, one list after the other
abbrev pub all_of : {O R : Type 0} → List (List (Entry O R)) → List (Entry O R)
all_of [] = []
all_of (list ∷ lists) = list ++ all_of lists

-- the entries of all lists in order, with their places as stamps, counted from a first one
abbrev pub merged_from : {O R : Type 0} → ℕ → List (List (Entry O R)) → List (Entry O R)
merged_from first lists = numbered_from first (in_order (all_of lists))
