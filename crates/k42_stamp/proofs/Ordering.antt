-- Lists in order, and the place of a new element.
use Rattle.std.proofs.Common.{◌≡◌, ℕ, ◌<◌, ◌≤◌, Bool, true, false, cond, List, [], ◌∷◌, ◌++◌, length, refl, sym, ap, ◌∙◌, subst, inl, inr, ◌⊎◌, ⊎_elim, arith}
use Rattle.std.specs.List.{AllByRecursion, filter}
use Rattle.std.proofs.lemmas.Bool.{cases_lt}
use Rattle.k42_kinds.specs.declared.entry.Entry.{Entry}
use Rattle.k42_stamp.specs.Orders.{IsBelow, key_of, IsBefore, Ordered, In}
use Rattle.k42_stamp.proofs.Elements.{all_weaker, all_append, all_front, all_back, all-filter, all_at}

module _ {E : Type 0} (before : E → E → Type 0) where
  pub Ordered-append : (xs ys : List E) → Ordered before xs → Ordered before ys → AllByRecursion (λ x. AllByRecursion (before x) ys) xs → Ordered before (xs ++ ys)
  Ordered-append [] ys o p h = p
  Ordered-append (x ∷ xs) ys o p h = (all_append (before x) xs ys o.0 h.0, Ordered-append xs ys o.1 p h.1)

  cond_ordered : (b : Bool) (x : E) (xs : List E) → AllByRecursion (before x) xs → Ordered before xs → Ordered before (cond b (x ∷ xs) xs)
  cond_ordered true x xs h g = (h, g)
  cond_ordered false x xs h g = g

  pub Ordered-filter : (p : E → Bool) (xs : List E) → Ordered before xs → Ordered before (filter p xs)
  Ordered-filter p [] o = tt
  Ordered-filter p (x ∷ xs) o = cond_ordered (p x) x (filter p xs) (all-filter (before x) p xs o.0) (Ordered-filter p xs o.1)

  module _ (trans : (x y z : E) → before x y → before y z → before x z) where
    -- the place of a new element
    pub record Placed (e : E) (es : List E) : Type 0 where
      pub front : List E
      pub back : List E
      pub cut : es ≡ front ++ back
      pub lower : AllByRecursion (λ x. before x e) front
      pub higher : AllByRecursion (before e) back

    pub placed : (e : E) (es : List E) → Ordered before es → AllByRecursion (λ x. before x e ⊎ before e x) es → Placed e es
    placed e [] o sides = record { front = []; back = []; cut = refl; lower = tt; higher = tt }
    placed e (x ∷ xs) o sides =
        ⊎_elim {C = Placed e (x ∷ xs)}
        (λ (low : before x e). let t = placed e xs o.1 sides.1 in record { front = x ∷ t.front; back = t.back; cut = ap (λ (l : List E). x ∷ l) t.cut; lower = (low, t.lower); higher = t.higher })
        (λ (high : before e x). record { front = []; back = x ∷ xs; cut = refl; lower = tt; higher = (high, all_weaker (before x) (before e) (λ y h. trans e x y high h) xs o.0) })
        sides.0

    pub Ordered-inserted : (e : E) (xs ys : List E) → Ordered before (xs ++ ys) → AllByRecursion (λ x. before x e) xs → AllByRecursion (before e) ys → Ordered before (xs ++ e ∷ ys)
    Ordered-inserted e [] ys o lower higher = (higher, o)
    Ordered-inserted e (x ∷ xs) ys o lower higher = (
      all_append (before x) xs (e ∷ ys) (all_front (before x) xs ys o.0) (lower.0, all_back (before x) xs ys o.0),
      Ordered-inserted e xs ys o.1 lower.1 higher,
    )

    -- two lists in order with the same elements are one
    module _ (irreflexive : (x : E) → before x x → ⊥) where
      tail_in : (x y : E) (xs ys : List E) → x ≡ y → AllByRecursion (before x) xs → ((e : E) → In e (x ∷ xs) → In e (y ∷ ys)) → (e : E) → In e xs → In e ys
      tail_in x y xs ys q o h e i =
          ⊎_elim {C = In e ys}
          (λ (s : e ≡ y). let b : before x e = all_at (before x) xs e o i in absurd (irreflexive x (subst (λ (z : E). before x z) (s ∙ sym q) b)))
          (λ (t : In e ys). t)
          (h e (inr i))

      same_head : (x y : E) (xs ys : List E) → AllByRecursion (before x) xs → AllByRecursion (before y) ys → In x (y ∷ ys) → In y (x ∷ xs) → x ≡ y
      same_head x y xs ys o p i j =
          ⊎_elim {C = x ≡ y} (λ (q : x ≡ y). q)
          (λ (t : In x ys). ⊎_elim {C = x ≡ y} (λ (q : y ≡ x). sym q) (λ (u : In y xs). absurd (irreflexive x (trans x y x (all_at (before x) xs y o u) (all_at (before y) ys x p t)))) j)
          i

      pub ordered_unique : (xs ys : List E) → Ordered before xs → Ordered before ys → ((e : E) → In e xs → In e ys) → ((e : E) → In e ys → In e xs) → xs ≡ ys
      ordered_unique [] [] o p h g = refl
      ordered_unique [] (y ∷ ys) o p h g = absurd (g y (inl refl))
      ordered_unique (x ∷ xs) [] o p h g = absurd (h x (inl refl))
      ordered_unique (x ∷ xs) (y ∷ ys) o p h g =
          let q = same_head x y xs ys o.0 p.0 (h x (inl refl)) (g y (inl refl)) in
          let r = ordered_unique xs ys o.1 p.1 (tail_in x y xs ys q o.0 h) (tail_in y x ys xs (sym q) p.0 g) in
          cc

below-trans : (ks ms ns : List ℕ) → IsBelow ks ms → IsBelow ms ns → IsBelow ks ns
below-trans [] ms ns a b = absurd a
below-trans (k ∷ ks) [] ns a b = absurd a
below-trans (k ∷ ks) (m ∷ ms) [] a b = absurd b
below-trans (k ∷ ks) (m ∷ ms) (n ∷ ns) a b =
    ⊎_elim {C = IsBelow (k ∷ ks) (n ∷ ns)}
    (λ (l : k < m). ⊎_elim {C = IsBelow (k ∷ ks) (n ∷ ns)} (λ (h : m < n). inl (omega arith)) (λ (h : (m ≡ n) × IsBelow ms ns). inl (omega arith)) b)
    (λ (l : (k ≡ m) × IsBelow ks ms). ⊎_elim {C = IsBelow (k ∷ ks) (n ∷ ns)} (λ (h : m < n). inl (omega arith)) (λ (h : (m ≡ n) × IsBelow ms ns). inr (l.0 ∙ h.0, below-trans ks ms ns l.1 h.1)) b)
    a

below-irreflexive : (ns : List ℕ) → IsBelow ns ns → ⊥
below-irreflexive [] h = h
below-irreflexive (n ∷ ns) h = ⊎_elim {C = ⊥} (λ (l : n < n). omega arith) (λ (t : (n ≡ n) × IsBelow ns ns). below-irreflexive ns t.1) h

pub below_or : (ms ns : List ℕ) → length ms ≡ length ns → IsBelow ms ns ⊎ ((ms ≡ ns) ⊎ IsBelow ns ms)
below_or [] [] e = inr (inl refl)
below_or [] (n ∷ ns) e = absurd (omega arith)
below_or (m ∷ ms) [] e = absurd (omega arith)
below_or (m ∷ ms) (n ∷ ns) e =
    let C = IsBelow (m ∷ ms) (n ∷ ns) ⊎ (((m ∷ ms) ≡ (n ∷ ns)) ⊎ IsBelow (n ∷ ns) (m ∷ ms)) in
    ⊎_elim {C = C}
    (λ (h : m < n). inl (inl h))
    (λ (h : n ≤ m). ⊎_elim {C = C}
    (λ (g : n < m). inr (inr (inl g)))
    (λ (g : m ≤ n). let s : m ≡ n = omega arith in ⊎_elim {C = C}
    (λ (b : IsBelow ms ns). inl (inr (s, b)))
    (λ (t : (ms ≡ ns) ⊎ IsBelow ns ms). ⊎_elim {C = C} (λ (q : ms ≡ ns). inr (inl (cc))) (λ (b : IsBelow ns ms). inr (inr (inr (sym s, b)))) t)
    (below_or ms ns (omega arith)))
    (cases_lt n m))
    (cases_lt m n)

pub before-trans : {O R : Type 0} (x y z : Entry O R) → IsBefore x y → IsBefore y z → IsBefore x z
before-trans x y z a b = below-trans (key_of x) (key_of y) (key_of z) a b

pub before-irreflexive : {O R : Type 0} (x : Entry O R) → IsBefore x x → ⊥
before-irreflexive x h = below-irreflexive (key_of x) h

pub before_stamp : {O R : Type 0} (e f : Entry O R) → IsBefore e f → e.stamp ≤ f.stamp
before_stamp e f b = ⊎_elim {C = e.stamp ≤ f.stamp} (λ (h : e.stamp < f.stamp). omega arith) (λ h. let i : e.stamp ≡ f.stamp = h.0 in omega arith) b

-- entries whose callers or stamps differ are on one side of each other
pub side_of : {O R : Type 0} (e f : Entry O R) → (f.caller ≡ e.caller → f.stamp < e.stamp) → IsBefore f e ⊎ IsBefore e f
side_of e f h =
    ⊎_elim {C = IsBefore f e ⊎ IsBefore e f}
    (λ (b : IsBefore f e). inl b)
    (λ (t : (key_of f ≡ key_of e) ⊎ IsBefore e f). ⊎_elim {C = IsBefore f e ⊎ IsBefore e f}
    (λ (q : key_of f ≡ key_of e). let s : f.stamp ≡ e.stamp = cc in let c : f.caller ≡ e.caller = cc in let l = h c in absurd (omega arith))
    (λ (b : IsBefore e f). inr b)
    t)
    (below_or (key_of f) (key_of e) refl)

-- two lists of entries in order with the same entries are one
pub same_entries : {O R : Type 0} (xs ys : List (Entry O R)) → Ordered IsBefore xs → Ordered IsBefore ys → ((e : Entry O R) → In e xs → In e ys) → ((e : Entry O R) → In e ys → In e xs) → xs ≡ ys
same_entries xs ys o p h g = ordered_unique IsBefore before-trans before-irreflexive xs ys o p h g
