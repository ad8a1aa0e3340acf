-- What stands at a place of a list, and what is left of the list from there.
use Rattle.std.proofs.Common.{◌≡◌, ℕ, zero, suc, ◌+◌, List, [], ◌∷◌, drop, add-one, refl, ap}
use Rattle.std.specs.Prelude.{Some, None, slice_get, slice_index_or}
use Rattle.std.proofs.lemmas.Option.{same_Some}

drop_suc : {X : Type 0} (xs : List X) (n : ℕ) (x : X) → slice_get xs n ≡ Some x → drop n xs ≡ x ∷ drop (suc n) xs
drop_suc [] n x e = cc
drop_suc (y ∷ xs) zero x e = ap (λ z. z ∷ xs) (same_Some y x e)
drop_suc (y ∷ xs) (suc n) x e = drop_suc xs n x e

-- what is left of a list begins with what stands there
pub drop_at : {X : Type 0} (xs : List X) (n : ℕ) (x : X) → slice_get xs n ≡ Some x → drop n xs ≡ x ∷ drop (n + 1) xs
drop_at xs n x e = rw add-one (drop_suc xs n x e)

-- and the other way round
pub at_drop : {X : Type 0} (xs : List X) (n : ℕ) (x : X) (rest : List X) → drop n xs ≡ x ∷ rest → slice_get xs n ≡ Some x
at_drop [] zero x rest e = cc
at_drop [] (suc n) x rest e = cc
at_drop (y ∷ xs) zero x rest e = cc
at_drop (y ∷ xs) (suc n) x rest e = at_drop xs n x rest e

rest_suc : {X : Type 0} (xs : List X) (n : ℕ) (x : X) (rest : List X) → drop n xs ≡ x ∷ rest → drop (suc n) xs ≡ rest
rest_suc [] zero x rest e = cc
rest_suc [] (suc n) x rest e = cc
rest_suc (y ∷ xs) zero x rest e = cc
rest_suc (y ∷ xs) (suc n) x rest e = rest_suc xs n x rest e

pub rest_drop : {X : Type 0} (xs : List X) (n : ℕ) (x : X) (rest : List X) → drop n xs ≡ x ∷ rest → drop (n + 1) xs ≡ rest
rest_drop xs n x rest e = rw add-one (rest_suc xs n x rest e)

-- where nothing is left, nothing stands
pub none_drop : {X : Type 0} (xs : List X) (n : ℕ) → drop n xs ≡ [] → slice_get xs n ≡ None
none_drop [] zero e = refl
none_drop [] (suc n) e = refl
none_drop (y ∷ xs) zero e = cc
none_drop (y ∷ xs) (suc n) e = none_drop xs n e

pub index_drop : {X : Type 0} (xs : List X) (n : ℕ) (x : X) (rest : List X) (otherwise : X) → drop n xs ≡ x ∷ rest
    → slice_index_or xs n otherwise ≡ x
index_drop [] zero x rest otherwise e = cc
index_drop [] (suc n) x rest otherwise e = cc
index_drop (y ∷ xs) zero x rest otherwise e = cc
index_drop (y ∷ xs) (suc n) x rest otherwise e = index_drop xs n x rest otherwise e
