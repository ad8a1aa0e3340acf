-- A tree's entries, seen as the finite map of them. The keys' order is total, and only equal keys tie.
use Rattle.std.proofs.Common.{◌≡◌, Bool, true, false, cond, ◌&&◌, T, List, [], ◌∷◌, map, length, Some, None, refl, sym, ap, subst, ◌∙◌, arith}
use Rattle.std.specs.declared.cmp.Ordering.{Ordering}
use Rattle.std.specs.declared.cmp.Ordering.TheVariants.{Less}
use Rattle.std.specs.Ordering.{is_lt}
use Rattle.std.specs.Cmp.{IsTotalOrder, eq_by_cmp_equiv}
use Rattle.std.specs.List.{AllByRecursion}
use Rattle.std.specs.List.Sorted.{IsStrictlySortedBy}
use Rattle.std.specs.Map.{lookup, keys_of}
use Rattle.std.specs.BTreeMap.{is_at}
use Rattle.std.specs.FinMap.{FinMap, IsAntisymmetric, same_map, same_entries_map, empty, entries, from_entries, from_sorted, find, is_sorted, put, get, insert, remove, len, get-from_entries, get-insert, get-remove, entries-insert, entries-from_sorted, len-entries, len-empty}
use Rattle.std.specs.FinMap.Entries.{below_all, by_order}
use Rattle.std.proofs.lemmas.Map.Keys.{sorted_head, sorted_tail}

both : (a b : Bool) → T a → T b → T (a && b)
both true b p q = q
both false b p q = p

empty_list : {A : Type 0} (xs : List A) → length xs ≡ 0 → xs ≡ []
empty_list [] e = refl
empty_list (x ∷ xs) e = absurd (omega arith)

module _ {K X : Type 0} (R : K → K → Ordering) where
  -- a search of a finite map's entries is a tree's look-up
  pub find-lookup : (es : List (K × X)) (q : K) → find R q es ≡ lookup (is_at (R q)) es
  find-lookup [] q = refl
  find-lookup (e ∷ es) q = ap (cond (is_at (R q) e.0) (Some e.1)) (find-lookup es q)

  below_each : (k : K) (es : List (K × X)) → AllByRecursion (λ y. R k y ≡ Less) (keys_of es) → T (below_all R k es)
  below_each k [] all = tt
  below_each k (e ∷ es) all = both _ _ (subst (λ r. T (is_lt r)) (sym all.0) tt) (below_each k es all.1)

  rising : (es : List (K × X)) → IsStrictlySortedBy R (keys_of es) → T (is_sorted R es)
  rising [] sorted = tt
  rising (e ∷ es) sorted = both _ _ (below_each e.0 es (sorted_head R e.0 (keys_of es) sorted)) (rising es (sorted_tail R e.0 (keys_of es) sorted))

  -- a key below all others goes to the front
  put_first : (e : K × X) (es : List (K × X)) → AllByRecursion (λ y. R e.0 y ≡ Less) (keys_of es) → put R e.0 e.1 es ≡ e ∷ es
  put_first e [] all = refl
  put_first e (f ∷ fs) all = ap (λ r. by_order r (e ∷ f ∷ fs) ((f.0, e.1) ∷ fs) (f ∷ put R e.0 e.1 fs)) all.0

  pub entries-empty : entries (empty {X = X} {R = R}) ≡ []
  entries-empty = empty_list _ (sym (len-entries empty) ∙ len-empty R X)

module _ {K X : Type 0} {R : K → K → Ordering} (total : IsTotalOrder R) where
  -- entries whose keys rise come back from their map
  pub entries-from_entries : (es : List (K × X)) → IsStrictlySortedBy R (keys_of es) → entries (from_entries {R = R} es) ≡ es
  entries-from_entries [] sorted = entries-empty R
  entries-from_entries (e ∷ es) sorted =
      entries-insert total (from_entries es) e.0 e.1
      ∙ ap (put R e.0 e.1) (entries-from_entries es (sorted_tail R e.0 (keys_of es) sorted))
      ∙ put_first R e es (sorted_head R e.0 (keys_of es) sorted)

  -- what the map has at a key
  pub get_seen : (es : List (K × X)) (m : FinMap R X) → from_entries es ≡ m → (q : K) → lookup (is_at (R q)) es ≡ get m q
  get_seen es m is q = sym (find-lookup R es q) ∙ sym (get-from_entries total es q) ∙ ap (λ n. get n q) is

  -- how many entries it has
  pub len_seen : (es : List (K × X)) (m : FinMap R X) → from_entries es ≡ m → IsStrictlySortedBy R (keys_of es) → length es ≡ len m
  len_seen es m is sorted = sym (ap length (entries-from_entries es sorted)) ∙ sym (len-entries (from_entries es)) ∙ ap len is

  module _ (same : IsAntisymmetric R) where
    -- entries with another value at one key
    pub insert_seen : (es fs : List (K × X)) (m : FinMap R X) → from_entries es ≡ m → (k : K) (v : X) → ((q : K) → lookup (is_at (R q)) fs ≡ cond (is_at (R k) q) (Some v) (lookup (is_at (R q)) es)) → from_entries fs ≡ insert m k v
    insert_seen es fs m is k v changed = same_map total same _ _ (λ q.
        sym (get_seen fs _ refl q) ∙ changed q
        ∙ ap (cond (is_at (R k) q) (Some v)) (get_seen es m is q)
        ∙ ap (λ b. cond b (Some v) (get m q)) ((eq_by_cmp_equiv total).symm k q)
        ∙ sym (get-insert total m k v q))

    -- entries without one key
    pub remove_seen : (es fs : List (K × X)) (m : FinMap R X) → from_entries es ≡ m → (k : K) → ((q : K) → lookup (is_at (R q)) fs ≡ cond (is_at (R k) q) None (lookup (is_at (R q)) es)) → from_entries fs ≡ remove m k
    remove_seen es fs m is k changed = same_map total same _ _ (λ q.
        sym (get_seen fs _ refl q) ∙ changed q
        ∙ ap (cond (is_at (R k) q) None) (get_seen es m is q)
        ∙ ap (λ b. cond b None (get m q)) ((eq_by_cmp_equiv total).symm k q)
        ∙ sym (get-remove total m k q))

  -- entries changed in place
  pub entries_seen : (es : List (K × X)) (m : FinMap R X) → from_entries es ≡ m → IsStrictlySortedBy R (keys_of es) → entries m ≡ es
  entries_seen es m is sorted = sym (ap entries is) ∙ entries-from_entries es sorted

  pub map_seen : (f : K × X → K × X) (es fs : List (K × X)) (m : FinMap R X) → from_entries es ≡ m → IsStrictlySortedBy R (keys_of es) → IsStrictlySortedBy R (keys_of fs) → fs ≡ map f es → from_entries {R = R} fs ≡ from_sorted (map f (entries m))
  map_seen f es fs m is old new changed =
      same_entries_map _ _ (entries-from_entries fs new ∙ sym (entries-from_sorted R fs (rising R fs new)))
      ∙ ap from_sorted (changed ∙ sym (ap (map f) (entries_seen es m is old)))
