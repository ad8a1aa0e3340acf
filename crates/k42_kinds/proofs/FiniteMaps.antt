-- What a change of a finite map does at its key, at every other key, and to a count over the values.
use Rattle.std.proofs.Common.{◌≡◌, ◌≢◌, ℕ, ◌+◌, Bool, true, false, cond, ◌&&◌, T, List, [], ◌∷◌, map, count_by, Option, Some, None, option_map, refl, sym, ap, subst, ◌∙◌}
use Rattle.std.specs.Option.{unwrap_or}
use Rattle.std.specs.declared.cmp.Ordering.{Ordering}
use Rattle.std.specs.declared.cmp.Ordering.TheVariants.{Less, Equal, Greater}
use Rattle.std.specs.Ordering.{is_lt, is_eq, eq_by_cmp, match_ordering}
use Rattle.std.specs.Cmp.{IsTotalOrder, Equal-is, tied_itself}
use Rattle.std.specs.List.{AllByRecursion}
use Rattle.std.specs.List.Sorted.{IsStrictlySortedBy}
use Rattle.std.specs.Map.{keys_of, values_of}
use Rattle.std.specs.BTreeMap.{insert_entry, is_at}
use Rattle.std.specs.FinMap.{FinMap, IsAntisymmetric, entries, entries_sorted, values, is_sorted, put, get, insert, remove, get-entries, get-insert, get-remove, entries-insert, from_sorted, entries-from_sorted, get-from_sorted}
use Rattle.std.specs.FinMap.Entries.{below_all, by_order}
use Rattle.std.proofs.lemmas.Map.Entries.{sum_by-insert_entry}
use Rattle.std.proofs.lemmas.Map.Made.{lookup-map_values}
use Rattle.k42_kinds.proofs.SeenMaps.{find-lookup}

-- the new map has this at the key, and at every other key what the old one has
pub record ChangesOnly {K X : Type 0} {R : K → K → Ordering} (old new : FinMap R X) (key : K) (value : Option X) : Type 0 where
  pub here : get new key ≡ value
  pub elsewhere : (other : K) → other ≢ key → get new other ≡ get old other

first : (a b : Bool) → T (a && b) → T a
first true b p = tt
first false b p = p

second : (a b : Bool) → T (a && b) → T b
second true b p = p
second false b p = absurd p

less : (r : Ordering) → T (is_lt r) → r ≡ Less
less Less p = refl
less Equal p = absurd p
less Greater p = absurd p

module _ {K X : Type 0} (R : K → K → Ordering) where
  all_below : (k : K) (es : List (K × X)) → T (below_all R k es) → AllByRecursion (λ y. R k y ≡ Less) (keys_of es)
  all_below k [] below = tt
  all_below k (e ∷ es) below = (less _ (first _ _ below), all_below k es (second _ _ below))

  keys_rise : (es : List (K × X)) → T (is_sorted R es) → IsStrictlySortedBy R (keys_of es)
  unfolding IsStrictlySortedBy
  keys_rise [] sorted = tt
  keys_rise (e ∷ es) sorted = (all_below e.0 es (first _ _ sorted), keys_rise es (second _ _ sorted))

  put-insert_entry : (k : K) (v : X) (es : List (K × X)) → put R k v es ≡ insert_entry R es k v
  put-insert_entry k v [] = refl
  put-insert_entry k v (e ∷ es) =
      elim (R k e.0) as (λ r. by_order r ((k, v) ∷ e ∷ es) ((e.0, v) ∷ es) (e ∷ put R k v es) ≡ match_ordering r ((k, v) ∷ e ∷ es) ((e.0, v) ∷ es) (e ∷ insert_entry R es k v)) [
        | Less ↦ refl
        | Equal ↦ refl
        | Greater ↦ ap (λ rest. e ∷ rest) (put-insert_entry k v es)
      ]

-- 1 for a value that passes, else 0
abbrev pub mark_of : {X : Type 0} → (X → Bool) → Option X → ℕ
mark_of passes found = unwrap_or (option_map (λ x. cond (passes x) 1 0) found) 0

module _ {K X : Type 0} {R : K → K → Ordering} (total : IsTotalOrder R) where
  -- a count over the values loses the old value's mark and gains the new one's
  pub count-insert : (passes : X → Bool) (m : FinMap R X) (k : K) (v : X) → count_by passes (values (insert m k v)) + mark_of passes (get m k) ≡ count_by passes (values m) + mark_of passes (Some v)
  count-insert passes m k v =
      let counted = sum_by-insert_entry (λ x. cond (passes x) 1 0) total (entries m) k v (keys_rise R (entries m) (entries_sorted m)) in
      let put_there = entries-insert total m k v ∙ put-insert_entry R k v (entries m) in
      let found = get-entries m k ∙ find-lookup R (entries m) k in
      ap (λ es. count_by passes (values_of es) + mark_of passes (get m k)) put_there
      ∙ ap (λ o. count_by passes (values_of (insert_entry R (entries m) k v)) + mark_of passes o) found
      ∙ counted

module _ {K : Type 0} {R : K → K → Ordering} (total : IsTotalOrder R) (same : IsAntisymmetric R) where
  at_itself : (key : K) → eq_by_cmp R key key ≡ true
  at_itself key = ap is_eq (tied_itself total key)

  at_others : (other key : K) → other ≢ key → eq_by_cmp R other key ≡ false
  at_others other key apart =
      elim (eq_by_cmp R other key) as (λ b. eq_by_cmp R other key ≡ b → b ≡ false) [
        | true ↦ λ tied. absurd (apart (same other key ((Equal-is _).0 tied)))
        | false ↦ λ _. refl
      ] refl

module _ {K X : Type 0} {R : K → K → Ordering} (total : IsTotalOrder R) (same : IsAntisymmetric R) where
  pub insert_changes : (m : FinMap R X) (k : K) (v : X) → ChangesOnly m (insert m k v) k (Some v)
  insert_changes m k v = record {
    here = get-insert total m k v k ∙ ap (λ b. cond b (Some v) (get m k)) (at_itself total same k);
    elsewhere = λ other apart. get-insert total m k v other ∙ ap (λ b. cond b (Some v) (get m other)) (at_others total same other k apart);
  }

  pub remove_changes : (m : FinMap R X) (k : K) → ChangesOnly m (remove m k) k None
  remove_changes m k = record {
    here = get-remove total m k k ∙ ap (λ b. cond b None (get m k)) (at_itself total same k);
    elsewhere = λ other apart. get-remove total m k other ∙ ap (λ b. cond b None (get m other)) (at_others total same other k apart);
  }

-- the entries with each value changed
abbrev pub changed_values : {K X : Type 0} → (X → X) → List (K × X) → List (K × X)
changed_values change es = map (λ entry. (entry.0, change entry.1)) es

module _ {K X : Type 0} (R : K → K → Ordering) (change : X → X) where
  below_all-changed : (k : K) (es : List (K × X)) → below_all R k (changed_values change es) ≡ below_all R k es
  below_all-changed k [] = refl
  below_all-changed k (e ∷ es) = ap (λ b. is_lt (R k e.0) && b) (below_all-changed k es)

  is_sorted-changed : (es : List (K × X)) → is_sorted R (changed_values change es) ≡ is_sorted R es
  is_sorted-changed [] = refl
  is_sorted-changed (e ∷ es) = λ i. below_all-changed e.0 es i && is_sorted-changed es i

  still_sorted : (m : FinMap R X) → T (is_sorted R (changed_values change (entries m)))
  still_sorted m = subst T (sym (is_sorted-changed (entries m))) (entries_sorted m)

  -- each key keeps its place, and has the changed value
  pub entries-changed : (m : FinMap R X) → entries (from_sorted {R = R} (changed_values change (entries m))) ≡ changed_values change (entries m)
  entries-changed m = entries-from_sorted R _ (still_sorted m)

  pub get-changed : (m : FinMap R X) (q : K) → get (from_sorted {R = R} (changed_values change (entries m))) q ≡ option_map change (get m q)
  get-changed m q =
      get-from_sorted R _ q (still_sorted m)
      ∙ find-lookup R (changed_values change (entries m)) q
      ∙ lookup-map_values change (is_at (R q)) (entries m)
      ∙ ap (option_map change) (sym (get-entries m q ∙ find-lookup R (entries m) q))
