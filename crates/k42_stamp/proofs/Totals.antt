-- How many entries lists have.
use Rattle.std.proofs.Common.{◌≡◌, ◌≢◌, ℕ, zero, suc, ◌<◌, List, [], ◌∷◌, length, map, refl, ap, arith}
use Rattle.std.specs.Prelude.{Some, slice_get}
use Rattle.std.proofs.lemmas.List.Sums.{sum_by-cons}
use Rattle.std.proofs.lemmas.Option.{same_Some}
use Rattle.k42_kinds.specs.declared.entry.Entry.{Entry}
use Rattle.k42_stamp.specs.Merging.{AreEmpty, IsAlone, entries_in}

pub total_empty : {O R : Type 0} (lists : List (List (Entry O R))) → AreEmpty lists → entries_in lists ≡ 0
total_empty [] empty = refl
total_empty (list ∷ lists) empty = omega (arith, sum_by-cons length list lists, total_empty lists empty.1, ap length empty.0)

all_empty : {O R : Type 0} (lists : List (List (Entry O R))) → ((place : ℕ) (list : List (Entry O R)) → slice_get lists place ≡ Some list → list ≡ []) → AreEmpty lists
all_empty [] each = tt
all_empty (list ∷ lists) each = (each 0 list refl, all_empty lists (λ place other at. each (suc place) other at))

-- the list that alone has entries has all of them
pub total_alone : {O R : Type 0} (lists : List (List (Entry O R))) (place : ℕ) (list : List (Entry O R)) → slice_get lists place ≡ Some list
    → ((p : ℕ) (other : List (Entry O R)) → slice_get lists p ≡ Some other → p ≢ place → other ≡ []) → entries_in lists ≡ length list
total_alone [] place list at others = absurd (cc)
total_alone (one ∷ lists) zero list at others =
    let none = total_empty lists (all_empty lists (λ p other there. others (suc p) other there (λ same. omega arith))) in
    omega (arith, sum_by-cons length one lists, none, ap length (same_Some one list at))
total_alone (one ∷ lists) (suc place) list at others =
    let none = others 0 one refl (λ same. omega arith) in
    let rest = total_alone lists place list at (λ p other there apart. others (suc p) other there (λ same. apart (omega arith))) in
    omega (arith, sum_by-cons length one lists, ap length none, rest)

seen_at : {X Y : Type 0} (f : X → Y) (xs : List X) (place : ℕ) (y : Y) → slice_get (map f xs) place ≡ Some y → (x : X) × (f x ≡ y)
seen_at f [] place y at = absurd (cc)
seen_at f (x ∷ xs) zero y at = (x, same_Some (f x) y at)
seen_at f (x ∷ xs) (suc place) y at = seen_at f xs place y at

-- and so they are no more than one list can have
pub few_alone : {X O R : Type 0} (items : X → List (Entry O R)) (limit : ℕ) (lists : List X) (place : ℕ) → ((x : X) → length (items x) < limit)
    → IsAlone (map items lists) place → entries_in (map items lists) < limit
few_alone items limit lists place few alone =
    let all = total_alone (map items lists) place alone.list alone.there alone.others in
    let list = seen_at items lists place alone.list alone.there in
    omega (arith, all, ap length list.1, few list.0)
