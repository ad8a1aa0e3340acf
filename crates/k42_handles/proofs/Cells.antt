-- The bytes that are copied into an array of zeros.
use Rattle.std.proofs.Common.{◌≡◌, ◌∙◌, ℕ, ◌-◌, List, ◌++◌, length, take, drop, replicate, min, sym, ap, arith}
use Rattle.std.proofs.lemmas.Grind.{common_steps}
use Rattle.std.proofs.lemmas.List.{drop-replicate}
use Rattle.k42_kinds.specs.Padded.{padded}

take_min : (bytes : List ℕ) (size : ℕ) → take (min (length bytes) size) bytes ≡ take size bytes
take_min bytes size = grind (arith, common_steps)

length_min : (bytes : List ℕ) (size : ℕ) → length (take size bytes) ≡ min (length bytes) size
length_min bytes size = grind (arith, common_steps)

-- so many of them, and zeros behind them
pub copied : (size : ℕ) (bytes : List ℕ) (n : ℕ) → n ≡ min (length bytes) size
    → take n bytes ++ drop n (replicate size 0) ≡ (padded size (take size bytes)).cells
copied size bytes n is =
    let front : take n bytes ≡ take size bytes = ap (λ m. take m bytes) is ∙ take_min bytes size in
    let count : n ≡ length (take size bytes) = is ∙ sym (length_min bytes size) in
    λ i. front i ++ (drop-replicate n size 0 ∙ ap (λ m. replicate (size - m) 0) count) i

pub counted : (size : ℕ) (bytes : List ℕ) (n : ℕ) → n ≡ min (length bytes) size → n ≡ (padded size (take size bytes)).len
counted size bytes n is = is ∙ sym (length_min bytes size)
