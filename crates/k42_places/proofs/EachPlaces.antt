-- What each place of a list has, after one place was written and in a list that was made.
use Rattle.std.proofs.Common.{◌≡◌, ◌≢◌, ℕ, zero, suc, Bool, true, List, [], ◌∷◌, map, replicate, set, Some, sym, refl, subst, ⊎_elim}
use Rattle.std.specs.List.{slice_get, list_all, All}
use Rattle.std.proofs.lemmas.Bool.{and_parts}
use Rattle.std.proofs.lemmas.List.Elements.{All-get_or}
use Rattle.std.proofs.lemmas.Option.{same_Some, slice_get_within, get_or_from_slice_get}
use Rattle.k42_places.specs.Places.{EachPlace}
use Rattle.k42_places.proofs.Written.{at_set}

module _ {A : Type 0} where
  -- what each place has after one was updated: the new element has it, and the others have it by what they had
  pub EachPlace-set_else : (P Q : ℕ → A → Type 0) (l : List A) (i : ℕ) (a : A) → EachPlace P l → Q i a
      → ((j : ℕ) (x : A) → j ≢ i → slice_get l j ≡ Some x → P j x → Q j x) → EachPlace Q (set l i a)
  EachPlace-set_else P Q l i a each here others j x e =
      ⊎_elim (λ t. subst (λ m. Q m x) (sym t.0) (subst (λ b. Q i b) t.1 here)) (λ t. others j x t.0 t.1 (each j x t.1)) (at_set l i j a x e)

  -- the frame: a fact of each place is kept where the new element has it
  pub EachPlace-set : (P : ℕ → A → Type 0) (l : List A) (i : ℕ) (a : A) → EachPlace P l → P i a
      → EachPlace P (set l i a)
  EachPlace-set P l i a each here = EachPlace-set_else P P l i a each here (λ j x n e p. p)

  pub EachPlace-then : (P Q : ℕ → A → Type 0) (l : List A) → EachPlace P l
      → ((j : ℕ) (x : A) → slice_get l j ≡ Some x → P j x → Q j x) → EachPlace Q l
  EachPlace-then P Q l each then j x e = then j x e (each j x e)

  pub EachPlace-list_all : (p : A → Bool) (l : List A) → list_all p l ≡ true → EachPlace (λ i x. p x ≡ true) l
  EachPlace-list_all p [] all i x e = absurd (cc)
  EachPlace-list_all p (y ∷ ys) all zero x e = rw (← (same_Some y x e)) (and_parts (p y) (list_all p ys) all).0
  EachPlace-list_all p (y ∷ ys) all (suc i) x e = EachPlace-list_all p ys (and_parts (p y) (list_all p ys) all).1 i x e

  pub EachPlace-replicate : (P : ℕ → A → Type 0) (n : ℕ) (a : A) → ((i : ℕ) → P i a) → EachPlace P (replicate n a)
  EachPlace-replicate P zero a each i x e = absurd (cc)
  EachPlace-replicate P (suc n) a each zero x e = subst (λ b. P 0 b) (same_Some a x e) (each 0)
  EachPlace-replicate P (suc n) a each (suc i) x e = EachPlace-replicate (λ j b. P (suc j) b) n a (λ j. each (suc j)) i x e

  pub EachPlace-map : {B : Type 0} (P : ℕ → A → Type 0) (f : B → A) (l : List B)
      → EachPlace (λ i b. P i (f b)) l → EachPlace P (map f l)
  EachPlace-map P f [] each i x e = absurd (cc)
  EachPlace-map P f (b ∷ bs) each zero x e = subst (λ a. P 0 a) (same_Some (f b) x e) (each 0 b refl)
  EachPlace-map P f (b ∷ bs) each (suc i) x e = EachPlace-map (λ j a. P (suc j) a) f bs (λ j b' e'. each (suc j) b' e') i x e

  pub EachPlace-All : (P : A → Type 0) (l : List A) → All P l → EachPlace (λ i x. P x) l
  EachPlace-All P l all i x e =
      subst P (get_or_from_slice_get l i x x e) (All-get_or P l i x (slice_get_within l i x e) all)
