use Rattle.std.specs.Prelude.{◌≡◌, ℕ, ◌≤◌, List, take, drop, Option, Some, IfSome}

-- where the source told its bytes, these are the first n or all of them, and it has lost just these
abbrev pub TakesFirst : ℕ → Option (List ℕ) → Option (List ℕ) → List ℕ → Type 0
TakesFirst n old new taken =
    IfSome old (λ bytes. (taken ≡ take n bytes) × (new ≡ Some (drop n bytes)))

-- where the source told its bytes, it has lost no more than the first n of them
abbrev pub LosesAtMost : ℕ → Option (List ℕ) → Option (List ℕ) → Type 0
LosesAtMost n old new =
    IfSome old (λ bytes. (lost : ℕ) × (lost ≤ n) × (new ≡ Some (drop lost bytes)))
