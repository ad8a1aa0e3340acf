-- Lists of which each place has a fact, and lists of which one has not.
use Rattle.std.proofs.Common.{◌≡◌, ℕ, ◌+◌, zero, suc, [], ◌∷◌, sym, refl, arith}
use Rattle.std.proofs.lemmas.Option.{same_Some}
use Rattle.k42_places.specs.Places.{EachPlace, EachPair}

counted : EachPlace (λ i x. x ≡ i) (0 ∷ 1 ∷ [])
counted zero x e = sym (same_Some 0 x e)
counted (suc zero) x e = sym (same_Some 1 x e)
counted (suc (suc i)) x e = absurd (cc)

-- the second place has another number
miscounted : EachPlace (λ i x. x ≡ i) (0 ∷ 2 ∷ []) → ⊥
miscounted each = let two = each 1 2 refl in absurd (omega (arith, two))

-- an empty list has none that could lack it
nothing : EachPlace {A = ℕ} (λ i x. ⊥) []
nothing i x e = absurd (cc)

added : EachPair (λ i x y. y ≡ x + i) (3 ∷ 4 ∷ []) (3 ∷ 5 ∷ [])
added zero x y e e' = rw (← same_Some 3 x e, ← same_Some 3 y e') refl
added (suc zero) x y e e' = rw (← same_Some 4 x e, ← same_Some 5 y e') refl
added (suc (suc i)) x y e e' = absurd (cc)

misadded : EachPair (λ i x y. y ≡ x + i) (3 ∷ 4 ∷ []) (3 ∷ 6 ∷ []) → ⊥
misadded each = let six = each 1 4 6 refl refl in absurd (omega (arith, six))

-- a place that one list alone has makes no pair
unpaired : EachPair {A = ℕ} {B = ℕ} (λ i x y. ⊥) (3 ∷ []) []
unpaired i x y e e' = absurd (cc)
