-- What holds of each element of a list, and which elements a list has.
use Rattle.std.proofs.Common.{◌≡◌, Bool, true, false, cond, List, [], ◌∷◌, ◌++◌, refl, ap, ◌∙◌, inl, inr, ◌⊎◌, ⊎_elim}
use Rattle.std.specs.List.{AllByRecursion, filter}
use Rattle.k42_stamp.specs.Orders.{In}

module _ {E : Type 0} where
  pub all_weaker : (P Q : E → Type 0) → ((x : E) → P x → Q x) → (xs : List E) → AllByRecursion P xs → AllByRecursion Q xs
  all_weaker P Q f [] h = tt
  all_weaker P Q f (x ∷ xs) h = (f x h.0, all_weaker P Q f xs h.1)

  pub all_both : (P Q : E → Type 0) (xs : List E) → AllByRecursion P xs → AllByRecursion Q xs → AllByRecursion (λ x. P x × Q x) xs
  all_both P Q [] h g = tt
  all_both P Q (x ∷ xs) h g = ((h.0, g.0), all_both P Q xs h.1 g.1)

  pub all_append : (P : E → Type 0) (xs ys : List E) → AllByRecursion P xs → AllByRecursion P ys → AllByRecursion P (xs ++ ys)
  all_append P [] ys h g = g
  all_append P (x ∷ xs) ys h g = (h.0, all_append P xs ys h.1 g)

  pub all_front : (P : E → Type 0) (xs ys : List E) → AllByRecursion P (xs ++ ys) → AllByRecursion P xs
  all_front P [] ys h = tt
  all_front P (x ∷ xs) ys h = (h.0, all_front P xs ys h.1)

  pub all_back : (P : E → Type 0) (xs ys : List E) → AllByRecursion P (xs ++ ys) → AllByRecursion P ys
  all_back P [] ys h = h
  all_back P (x ∷ xs) ys h = all_back P xs ys h.1

  -- one element more in a list
  pub all_inserted : (P : E → Type 0) (e : E) (es front back : List E) → es ≡ front ++ back → AllByRecursion P es → P e → AllByRecursion P (front ++ e ∷ back)
  all_inserted P e es front back cut h p = let g = rw cut at h in all_append P front (e ∷ back) (all_front P front back g) (p, all_back P front back g)

  pub all_for : {C : Type 0} (P : C → E → Type 0) (xs : List E) → ((c : C) → AllByRecursion (P c) xs) → AllByRecursion (λ x. (c : C) → P c x) xs
  all_for P [] h = tt
  all_for P (x ∷ xs) h = ((λ c. (h c).0), all_for P xs (λ c. (h c).1))

  cond_all : (P : E → Type 0) (b : Bool) (x : E) (xs : List E) → AllByRecursion P (cond b (x ∷ xs) xs) → (b ≡ true → P x) × AllByRecursion P xs
  cond_all P true x xs h = ((λ _. h.0), h.1)
  cond_all P false x xs h = ((λ e. absurd (cc)), h)

  pub all-from_filter : (P : E → Type 0) (p : E → Bool) (xs : List E) → AllByRecursion P (filter p xs) → AllByRecursion (λ x. p x ≡ true → P x) xs
  all-from_filter P p [] h = tt
  all-from_filter P p (x ∷ xs) h = let t = cond_all P (p x) x (filter p xs) h in (t.0, all-from_filter P p xs t.1)

  cond_kept : (P : E → Type 0) (b : Bool) (x : E) (xs : List E) → P x → AllByRecursion P xs → AllByRecursion P (cond b (x ∷ xs) xs)
  cond_kept P true x xs h g = (h, g)
  cond_kept P false x xs h g = g

  pub all-filter : (P : E → Type 0) (p : E → Bool) (xs : List E) → AllByRecursion P xs → AllByRecursion P (filter p xs)
  all-filter P p [] h = tt
  all-filter P p (x ∷ xs) h = cond_kept P (p x) x (filter p xs) h.0 (all-filter P p xs h.1)

  pub filter-none : (p : E → Bool) (xs : List E) → AllByRecursion (λ x. p x ≡ false) xs → filter p xs ≡ []
  filter-none p [] h = refl
  filter-none p (x ∷ xs) h = rw h.0 (filter-none p xs h.1)

  pub all_at : (P : E → Type 0) (xs : List E) (e : E) → AllByRecursion P xs → In e xs → P e
  all_at P [] e h i = absurd i
  all_at P (x ∷ xs) e h i = ⊎_elim {C = P e} (λ (q : e ≡ x). rw q h.0) (λ (t : In e xs). all_at P xs e h.1 t) i

  pub all_in : (P : E → Type 0) (xs : List E) → ((e : E) → In e xs → P e) → AllByRecursion P xs
  all_in P [] f = tt
  all_in P (x ∷ xs) f = (f x (inl refl), all_in P xs (λ e i. f e (inr i)))

  pub in_left : (e : E) (xs ys : List E) → In e xs → In e (xs ++ ys)
  in_left e [] ys i = absurd i
  in_left e (x ∷ xs) ys i = ⊎_elim {C = In e (x ∷ (xs ++ ys))} (λ (q : e ≡ x). inl q) (λ (t : In e xs). inr (in_left e xs ys t)) i

  pub in_right : (e : E) (xs ys : List E) → In e ys → In e (xs ++ ys)
  in_right e [] ys i = i
  in_right e (x ∷ xs) ys i = inr (in_right e xs ys i)

  pub in-append : (e : E) (xs ys : List E) → In e (xs ++ ys) → In e xs ⊎ In e ys
  in-append e [] ys i = inr i
  in-append e (x ∷ xs) ys i =
      ⊎_elim {C = In e (x ∷ xs) ⊎ In e ys} (λ (q : e ≡ x). inl (inl q))
      (λ (t : In e (xs ++ ys)). ⊎_elim {C = In e (x ∷ xs) ⊎ In e ys} (λ (u : In e xs). inl (inr u)) (λ (u : In e ys). inr u) (in-append e xs ys t))
      i

  cond_in : (p : E → Bool) (e x : E) (xs : List E) (b : Bool) → p x ≡ b → (e ≡ x) ⊎ In e xs → p e ≡ true → In e (cond b (x ∷ xs) xs)
  cond_in p e x xs true q i t = i
  cond_in p e x xs false q i t = ⊎_elim {C = In e xs} (λ (s : e ≡ x). let r : p e ≡ false = ap p s ∙ q in absurd (cc)) (λ (u : In e xs). u) i

  pub in-filter : (p : E → Bool) (e : E) (xs : List E) → In e xs → p e ≡ true → In e (filter p xs)
  in-filter p e [] i t = absurd i
  in-filter p e (x ∷ xs) i t =
      cond_in p e x (filter p xs) (p x) refl
      (⊎_elim {C = (e ≡ x) ⊎ In e (filter p xs)} (λ (q : e ≡ x). inl q) (λ (u : In e xs). inr (in-filter p e xs u t)) i) t

  in_cond : (p : E → Bool) (e x : E) (xs ys : List E) (b : Bool) → p x ≡ b → (In e ys → In e xs × (p e ≡ true)) → In e (cond b (x ∷ ys) ys) → In e (x ∷ xs) × (p e ≡ true)
  in_cond p e x xs ys true q f i = ⊎_elim {C = In e (x ∷ xs) × (p e ≡ true)} (λ (s : e ≡ x). (inl s, ap p s ∙ q)) (λ (u : In e ys). let t = f u in (inr t.0, t.1)) i
  in_cond p e x xs ys false q f i = let t = f i in (inr t.0, t.1)

  pub in-from_filter : (p : E → Bool) (e : E) (xs : List E) → In e (filter p xs) → In e xs × (p e ≡ true)
  in-from_filter p e [] i = absurd i
  in-from_filter p e (x ∷ xs) i = in_cond p e x xs (filter p xs) (p x) refl (λ u. in-from_filter p e xs u) i
