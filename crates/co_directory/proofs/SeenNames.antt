-- Entries in any order, seen as the finite map of them. Names are compared by their bytes.
use Rattle.std.proofs.Common.{◌≡◌, ℕ, ◌+◌, Bool, true, false, cond, ◌&&◌, T, List, [], ◌∷◌, length, nat_eq, is_some, Option, Some, None, refl, sym, ap, subst, ◌∙◌, arith}
use Rattle.std.specs.declared.cmp.Ordering.{Ordering}
use Rattle.std.specs.declared.cmp.Ordering.TheVariants.{Less, Equal, Greater}
use Rattle.std.specs.Ordering.{nat_cmp, is_lt, is_eq, eq_by_cmp}
use Rattle.std.specs.Cmp.Lexicographic.{slice_cmp, pointwise, nat_list_cmp_total, nat_list_eq_equiv, texts_ties}
use Rattle.std.specs.List.{AllByRecursion, IsDistinct}
use Rattle.std.specs.Option.{unwrap_or, option_map}
use Rattle.std.specs.Map.{lookup, keys_of}
use Rattle.std.specs.BTreeMap.{is_at}
use Rattle.std.specs.FinMap.{same_map, empty, entries, entries_sorted, from_entries, is_sorted, get, insert, remove, len, get-empty, get-entries, get-from_entries, get-insert, len-empty, len-insert}
use Rattle.std.specs.FinMap.Entries.{below_all}
use Rattle.std.proofs.lemmas.Map.{lookup-none}
use Rattle.std.proofs.lemmas.Map.Entries.{none_past_head}
use Rattle.std.proofs.lemmas.Map.Keys.{IsDistinct-head, IsDistinct-tail}
use Rattle.std.proofs.lemmas.Map.Lookups.{exact_bytes}
use Rattle.k42_kinds.specs.Objects.{Directory}
use Rattle.k42_kinds.proofs.SeenMaps.{get_seen, insert_seen, remove_seen}

abbrev pub Bound : Type 0
Bound = List ℕ × ℕ

abbrev pub same_name : List ℕ → List ℕ → Bool
same_name = pointwise nat_eq

abbrev pub in_order : List ℕ → List ℕ → Ordering
in_order = slice_cmp nat_cmp

-- what is seen of a map that may not be there
abbrev seen_of : {X : Type 0} → (X → List Bound) → Option X → Directory
seen_of entries_of bound = from_entries (unwrap_or (option_map entries_of bound) [])

pub seen_there : {X : Type 0} (entries_of : X → List Bound) {bound : Option X} {here : X} {names : Directory} {entries : List Bound} → bound ≡ Some here → entries ≡ entries_of here → seen_of entries_of bound ≡ names → from_entries entries ≡ names
seen_there entries_of there found seen = ap from_entries found ∙ ap (seen_of entries_of) (sym there) ∙ seen

pub seen_of_none : {X : Type 0} (entries_of : X → List Bound) {bound : Option X} {names : Directory} → bound ≡ None → seen_of entries_of bound ≡ names → from_entries [] ≡ names
seen_of_none entries_of none seen = ap (seen_of entries_of) (sym none) ∙ seen

-- two names are the same where neither comes first
same_test : (name : List ℕ) (bound : List Bound) → lookup (same_name name) bound ≡ lookup (is_at (in_order name)) bound
same_test name bound = λ i. lookup (λ other. texts_ties name other i) bound

pub get_named : (bound : List Bound) (names : Directory) → from_entries bound ≡ names → (name : List ℕ) → lookup (same_name name) bound ≡ get names name
get_named bound names is name = same_test name bound ∙ get_seen nat_list_cmp_total bound names is name

pub insert_named : (bound changed : List Bound) (names : Directory) → from_entries bound ≡ names → (name : List ℕ) (number : ℕ) → ((other : List ℕ) → lookup (same_name other) changed ≡ cond (same_name name other) (Some number) (lookup (same_name other) bound)) → from_entries changed ≡ insert names name number
insert_named bound changed names is name number updated = insert_seen nat_list_cmp_total exact_bytes bound changed names is name number (λ other. sym (same_test other changed) ∙ updated other ∙ (λ i. cond (texts_ties name other i) (Some number) (same_test other bound i)))

pub remove_named : (bound changed : List Bound) (names : Directory) → from_entries bound ≡ names → (name : List ℕ) → ((other : List ℕ) → lookup (same_name other) changed ≡ cond (same_name name other) None (lookup (same_name other) bound)) → from_entries changed ≡ remove names name
remove_named bound changed names is name updated = remove_seen nat_list_cmp_total exact_bytes bound changed names is name (λ other. sym (same_test other changed) ∙ updated other ∙ (λ i. cond (texts_ties name other i) None (same_test other bound i)))

either_way : (same : Bool) (found : Option ℕ) → found ≡ cond same found found
either_way true found = refl
either_way false found = refl

-- a map of nothing stays where a name is unbound
pub remove_from_none : (names : Directory) → from_entries [] ≡ names → (name : List ℕ) → names ≡ remove names name
remove_from_none names none name = sym none ∙ remove_named [] [] names none name (λ other. either_way (same_name name other) None)

none_named : (name : List ℕ) (bound : List Bound) → AllByRecursion (λ other. same_name name other ≡ false) (keys_of bound) → lookup (same_name name) bound ≡ None
none_named name [] apart = refl
none_named name (first ∷ bound) apart = ap (λ found. cond found (Some first.1) (lookup (same_name name) bound)) apart.0 ∙ none_named name bound apart.1

-- where each name stands once, the map has as many
pub len_named : (bound : List Bound) → IsDistinct same_name (keys_of bound) → length bound ≡ len (from_entries {R = in_order} bound)
len_named [] distinct = sym (len-empty in_order ℕ)
len_named (first ∷ bound) distinct =
    let none = sym (get_named bound (from_entries bound) refl first.0) ∙ none_named first.0 bound (IsDistinct-head same_name first.0 (keys_of bound) distinct) in
    let grown = len-insert nat_list_cmp_total (from_entries bound) first.0 first.1 ∙ ap (λ (found : Option ℕ). cond (is_some found) (len (from_entries {R = in_order} bound)) (len (from_entries {R = in_order} bound) + 1)) none in
    let rest = len_named bound (IsDistinct-tail same_name first.0 (keys_of bound) distinct) in
    omega (arith, grown, rest)

-- one name after the other is bound, besides those of the map
abbrev pub all_bound : Directory → List Bound → Directory
all_bound names [] = names
all_bound names (first ∷ bound) = all_bound (insert names first.0 first.1) bound

abbrev or_else : Option ℕ → Option ℕ → Option ℕ
or_else None other = other
or_else (Some number) other = Some number

or_else-None : (found : Option ℕ) → or_else found None ≡ found
or_else-None None = refl
or_else-None (Some number) = refl

get-all_bound : (names : Directory) (bound : List Bound) (name : List ℕ) → IsDistinct same_name (keys_of bound) → get (all_bound names bound) name ≡ or_else (lookup (same_name name) bound) (get names name)
get-all_bound names [] name distinct = refl
get-all_bound names (first ∷ bound) name distinct =
    get-all_bound (insert names first.0 first.1) bound name (IsDistinct-tail same_name first.0 (keys_of bound) distinct)
    ∙ ap (or_else (lookup (same_name name) bound)) (get-insert nat_list_cmp_total names first.0 first.1 name ∙ ap (λ found. cond found (Some first.1) (get names name)) (sym (texts_ties name first.0)))
    ∙ elim (same_name name first.0) as (λ b. same_name name first.0 ≡ b → or_else (lookup (same_name name) bound) (cond b (Some first.1) (get names name)) ≡ or_else (cond b (Some first.1) (lookup (same_name name) bound)) (get names name)) [
      | true ↦ λ same. ap (λ found. or_else found (Some first.1)) (lookup-none (same_name name) bound (none_past_head nat_list_eq_equiv name first bound distinct same))
      | false ↦ λ _. refl
    ] refl

-- bound in turn, from nothing
pub all_bound-from_entries : (bound : List Bound) → IsDistinct same_name (keys_of bound) → all_bound empty bound ≡ from_entries bound
all_bound-from_entries bound distinct = same_map nat_list_cmp_total exact_bytes _ _ (λ name.
    get-all_bound empty bound name distinct
    ∙ ap (or_else (lookup (same_name name) bound)) (get-empty in_order name)
    ∙ or_else-None (lookup (same_name name) bound)
    ∙ get_named bound (from_entries bound) refl name)

first : (a b : Bool) → T (a && b) → T a
first true b p = tt
first false b p = p

second : (a b : Bool) → T (a && b) → T b
second true b p = p
second false b p = absurd p

apart_below : (r : Ordering) → T (is_lt r) → is_eq r ≡ false
apart_below Less p = refl
apart_below Equal p = absurd p
apart_below Greater p = absurd p

apart_from_below : (name : List ℕ) (bound : List Bound) → T (below_all in_order name bound) → AllByRecursion (λ other. eq_by_cmp in_order name other ≡ false) (keys_of bound)
apart_from_below name [] below = tt
apart_from_below name (next ∷ bound) below = (apart_below _ (first _ _ below), apart_from_below name bound (second _ _ below))

distinct_from_sorted : (bound : List Bound) → T (is_sorted in_order bound) → IsDistinct (eq_by_cmp in_order) (keys_of bound)
unfolding IsDistinct
distinct_from_sorted [] sorted = tt
distinct_from_sorted (next ∷ bound) sorted = (apart_from_below next.0 bound (first _ _ sorted), distinct_from_sorted bound (second _ _ sorted))

-- a map's own entries give the map again
pub all_bound-entries : (names : Directory) → all_bound empty (entries names) ≡ names
all_bound-entries names =
    let ties : same_name ≡ eq_by_cmp in_order = λ i name other. texts_ties name other i in
    all_bound-from_entries (entries names) (subst (λ eq. IsDistinct eq (keys_of (entries names))) (sym ties) (distinct_from_sorted (entries names) (entries_sorted names)))
    ∙ same_map nat_list_cmp_total exact_bytes _ _ (λ name. get-from_entries nat_list_cmp_total (entries names) name ∙ sym (get-entries names name))
