-- What each two that stand at one place of two lists have.
use Rattle.std.proofs.Common.{◌≡◌, ◌≢◌, ℕ, ◌∙◌, List, set, Some, sym, subst, ⊎_elim}
use Rattle.std.specs.List.{slice_get}
use Rattle.k42_places.specs.Places.{EachPair}
use Rattle.k42_places.proofs.Written.{at_set}

module _ {A B : Type 0} where
  -- one place of both lists changes, and the others keep their facts
  pub EachPair-change : (P Q : ℕ → A → B → Type 0) (xs xs' : List A) (ys : List B) (c : ℕ) (y : B)
      → ((i : ℕ) → i ≢ c → slice_get xs' i ≡ slice_get xs i)
      → EachPair P xs ys
      → ((x : A) → slice_get xs' c ≡ Some x → Q c x y)
      → ((i : ℕ) (x : A) (z : B) → i ≢ c → slice_get xs i ≡ Some x → slice_get ys i ≡ Some z → P i x z → Q i x z)
      → EachPair Q xs' (set ys c y)
  EachPair-change P Q xs xs' ys c y same each here others i x z at_x at_z =
      ⊎_elim
      (λ (t : (i ≡ c) × (y ≡ z)).
      let at_c : slice_get xs' c ≡ Some x = rw (← (t.0)) at_x in
      subst (λ j. Q j x z) (sym t.0) (subst (λ w. Q c x w) t.1 (here x at_c)))
      (λ (t : (i ≢ c) × (slice_get ys i ≡ Some z)).
      let old : slice_get xs i ≡ Some x = sym (same i t.0) ∙ at_x in
      others i x z t.0 old t.1 (each i x z old t.1))
      (at_set ys c i y z at_z)
