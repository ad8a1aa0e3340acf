-- The bits of passes that are missing: a bit behind a number leaves it small, and examples.
use Rattle.std.proofs.Common.{◌≡◌, ◌<◌, ◌≤◌, ◌+◌, ◌*◌, ◌^◌, ℕ, suc, [], ◌∷◌, refl, subst, sym, arith}
use Rattle.std.proofs.Math.Nat.{pow-suc}
use Rattle.k42_handles.specs.Missing.{missing_from}

pub doubled : (others bit less : ℕ) → bit ≤ 1 → others < 2 ^ less → others * 2 + bit < 2 ^ suc less
doubled others bit less one few = subst (λ (n : ℕ). others * 2 + bit < n) (sym (pow-suc 2 less)) (omega (arith, one, few))

-- of four passes the second and the last are there
pub two_of_four : missing_from (1 ∷ 3 ∷ []) 0 4 ≡ 5
two_of_four = refl

pub none_is_there : missing_from [] 0 4 ≡ 15
none_is_there = refl

pub all_are_there : missing_from (0 ∷ 1 ∷ 2 ∷ []) 0 3 ≡ 0
all_are_there = refl

-- it is the numbers that count, and not how many there are
pub one_stands_twice : missing_from (0 ∷ 0 ∷ []) 0 2 ≡ 2
one_stands_twice = refl
