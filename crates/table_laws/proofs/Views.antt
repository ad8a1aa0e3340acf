-- What is so of each view after a seat was split or took in another.
use Rattle.std.proofs.Common.{◌≡◌, ◌≢◌, ℕ, List, [], ◌∷◌, ◌++◌, length, set, sym, ◌∙◌, subst, ⊎_elim, length-set}
use mathlib.Core.Option.{some}
use lib.ListN.{get_elem?}
use Rattle.atomic_table.proofs.Lists.{at_set}
use Rattle.k42_board.proofs.Dealing.{at_end}

module _ {V : Type 0} (Has : ℕ → V → Type 0) (views : List V) (id : ℕ) where
  pub each_after_split : (left right : V) → Has id left → Has (length views) right
      → ((j : ℕ) (view : V) → j ≢ id → get_elem? views j ≡ some view → Has j view)
      → (j : ℕ) (view : V) → get_elem? (set views id left ++ right ∷ []) j ≡ some view → Has j view
  each_after_split left right own new others j view e =
      ⊎_elim
      (λ last. subst (λ (z : ℕ × V). Has z.0 z.1) (λ i. (sym (last.0 ∙ length-set views id left) i, last.1 i)) new)
      (λ old.
      ⊎_elim
      (λ here. subst (λ (z : ℕ × V). Has z.0 z.1) (λ i. (sym here.0 i, here.1 i)) own)
      (λ else. others j view else.0 else.1)
      (at_set views id j left view old))
      (at_end (set views id left) right view j e)

  pub each_after_join : (other : ℕ) (both spent : V) → Has id both → ((j : ℕ) → Has j spent)
      → ((j : ℕ) (view : V) → j ≢ id → j ≢ other → get_elem? views j ≡ some view → Has j view)
      → (j : ℕ) (view : V) → get_elem? (set (set views id both) other spent) j ≡ some view → Has j view
  each_after_join other both spent own none others j view e =
      ⊎_elim
      (λ gone. subst (Has j) gone.1 (none j))
      (λ else.
      ⊎_elim
      (λ here. subst (λ (z : ℕ × V). Has z.0 z.1) (λ i. (sym here.0 i, here.1 i)) own)
      (λ old. others j view old.0 else.0 old.1)
      (at_set views id j both view else.1))
      (at_set (set views id both) other j spent view e)
