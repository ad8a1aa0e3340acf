-- Callers' lists that grow by one entry, or by one caller.
use Rattle.std.proofs.Common.{◌≡◌, ℕ, ◌<◌, ◌≤◌, List, [], ◌∷◌, ◌++◌, map, length, ◌∙◌, ⊎_elim, sym, subst, arith}
use Rattle.std.specs.Prelude.{Some, slice_get}
use Rattle.std.specs.List.{AllByRecursion}
use Rattle.std.proofs.lemmas.List.{map-append, length-map}
use Rattle.k42_kinds.specs.declared.entry.Entry.{Entry}
use Rattle.k42_places.proofs.Appended.{at_push}
use Rattle.k42_stamp.specs.Lists.{IsListOf, AreLists}
use Rattle.k42_stamp.proofs.Elements.{all_weaker, all_append}
use Rattle.k42_stamp.proofs.Ordering.{Ordered-append}

-- the caller's list, of which no stamp is above the last
pub record IsListUpTo {O R : Type 0} (caller last : ℕ) (list : List (Entry O R)) : Type 0 where
  pub is : IsListOf caller list
  pub few : AllByRecursion (λ entry. entry.stamp ≤ last) list

pub no_list : {O R : Type 0} (caller : ℕ) → IsListUpTo {O = O} {R = R} caller 0 []
no_list caller = record { is = record { rising = tt; own = tt }; few = tt }

pub list_push : {O R : Type 0} (caller last : ℕ) (list : List (Entry O R)) (entry : Entry O R) → IsListUpTo caller last list → entry.caller ≡ caller → last < entry.stamp → IsListUpTo caller entry.stamp (list ++ entry ∷ [])
list_push caller last list entry was own above = record {
  is = record {
    rising = Ordered-append (λ one other. one.stamp < other.stamp) list (entry ∷ []) was.is.rising (tt, tt) (all_weaker (λ e. e.stamp ≤ last) (λ e. AllByRecursion (λ f. e.stamp < f.stamp) (entry ∷ [])) (λ e le. (omega arith, tt)) list was.few);
    own = all_append (λ e. e.caller ≡ caller) list (entry ∷ []) was.is.own (own, tt);
  };
  few = all_append (λ e. e.stamp ≤ entry.stamp) list (entry ∷ []) (all_weaker (λ e. e.stamp ≤ last) (λ e. e.stamp ≤ entry.stamp) (λ e le. omega arith) list was.few) (omega arith, tt);
}

pub no_lists : {O R : Type 0} → AreLists {O = O} {R = R} []
no_lists place list there = absurd (cc)

lists_more : {O R : Type 0} (lists : List (List (Entry O R))) (list : List (Entry O R)) → AreLists lists → IsListOf (length lists) list → AreLists (lists ++ list ∷ [])
lists_more lists list are is place at there =
    ⊎_elim {C = IsListOf place at}
    (λ (t : (place < length lists) × (slice_get lists place ≡ Some at)). are place at t.1)
    (λ (t : (place ≡ length lists) × (list ≡ at)). subst (λ n. IsListOf n at) (sym t.0) (subst (IsListOf (length lists)) t.1 is))
    (at_push lists list place at there)

pub lists_push : {X O R : Type 0} (items : X → List (Entry O R)) (lists : List X) (list : X) (caller : ℕ) → AreLists (map items lists) → length lists ≡ caller → IsListOf caller (items list) → AreLists (map items (lists ++ list ∷ []))
lists_push items lists list caller are many is =
    let same : length (map items lists) ≡ caller = length-map lists items ∙ many in
    subst AreLists (sym (map-append items lists (list ∷ []))) (lists_more (map items lists) (items list) are (subst (λ n. IsListOf n (items list)) (sym same) is))
