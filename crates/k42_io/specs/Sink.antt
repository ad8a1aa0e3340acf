use Rattle.std.specs.Prelude.{◌≡◌, ℕ, List, ◌++◌, take, Option, Some, Result, IfSome, IsSomeAnd, MatchResult}

-- where the sink tells its bytes, it told them before, and they have grown by these
abbrev pub Grows : Option (List ℕ) → Option (List ℕ) → List ℕ → Type 0
Grows old new bytes = IfSome new (λ now. IsSomeAnd old (λ before. now ≡ before ++ bytes))

-- where the sink tells its bytes, they have grown by a front of these
abbrev pub GrowsByFront : Option (List ℕ) → Option (List ℕ) → List ℕ → Type 0
GrowsByFront old new bytes = (n : ℕ) × Grows old new (take n bytes)

-- where the sink tells its bytes, it told the same before
abbrev pub Stays : Option (List ℕ) → Option (List ℕ) → Type 0
Stays old new = IfSome new (λ now. old ≡ Some now)

-- a write of the piece appended the first n bytes at `Ok(n)`, and nothing at `Err`
abbrev pub WriteGrows : {E : Type 0} → Option (List ℕ) → Option (List ℕ) → Result ℕ E → List ℕ → Type 0
WriteGrows old new r piece =
    MatchResult r (λ n. Grows old new (take n piece)) (λ _. Stays old new)
