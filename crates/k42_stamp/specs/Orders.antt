-- The order of entries: by stamp, object, cell and caller.
use Rattle.std.specs.Prelude.{◌≡◌, ℕ, ◌<◌, List, [], ◌∷◌, ◌⊎◌, ⊤}
use Rattle.std.specs.List.{AllByRecursion}
use Rattle.k42_kinds.specs.declared.entry.Entry.{Entry}

-- by the first number that differs
abbrev pub IsBelow : List ℕ → List ℕ → Type 0
IsBelow [] ns = ⊥
IsBelow (m ∷ ms) [] = ⊥
IsBelow (m ∷ ms) (n ∷ ns) = (m < n) ⊎ ((m ≡ n) × IsBelow ms ns)

abbrev pub key_of : {O R : Type 0} → Entry O R → List ℕ
key_of entry = entry.stamp ∷ entry.object ∷ entry.cell ∷ entry.caller ∷ []

abbrev pub IsBefore : {O R : Type 0} → Entry O R → Entry O R → Type 0
IsBefore one other = IsBelow (key_of one) (key_of other)

-- each element is before all that follow it
abbrev pub Ordered : {E : Type 0} → (E → E → Type 0) → List E → Type 0
Ordered before [] = ⊤
Ordered before (x ∷ xs) = AllByRecursion (before x) xs × Ordered before xs

-- the element is one of the list
abbrev pub In : {E : Type 0} → E → List E → Type 0
In e [] = ⊥
In e (x ∷ xs) = (e ≡ x) ⊎ In e xs
