-- Elements that pass a test, and where they stand among all.
use Rattle.std.proofs.Common.{◌≡◌, ℕ, zero, suc, ◌<◌, Bool, true, false, cond, List, [], ◌∷◌, ◌++◌, length, get_or, take, drop, map, filter, refl, sym, ap, ◌∙◌, subst, arith}
use Rattle.std.specs.Prelude.{All, Some, slice_get}
use Rattle.std.proofs.lemmas.Bool.{eq-eqb}
use Rattle.std.proofs.lemmas.List.{take-append-drop}
use Rattle.std.proofs.lemmas.List.Elements.{filter-append}
use Rattle.std.proofs.lemmas.Option.{slice_get_within, get_or_from_slice_get}
use Rattle.std.proofs.Math.Seq.{drop-cons}
use Rattle.k42_kinds.specs.Histories.{entries_of}
use Rattle.k42_kinds.specs.declared.operation.Op.{Op}
use Rattle.k42_kinds.specs.declared.operation.Reply.{Reply}
use Rattle.k42_kinds.specs.declared.entry.Entry.{Entry}

cond-map : {X Y : Type 0} (f : X → Y) (x : X) (xs : List X) (ys : List Y) → ys ≡ map f xs → (passed : Bool) → cond passed (f x ∷ ys) ys ≡ map f (cond passed (x ∷ xs) xs)
cond-map f x xs ys same true = ap (λ (back : List _). f x ∷ back) same
cond-map f x xs ys same false = same

-- a test after a function, or of what it gives
pub filter-map : {X Y : Type 0} (p : Y → Bool) (f : X → Y) (xs : List X) → filter p (map f xs) ≡ map f (filter (λ x. p (f x)) xs)
filter-map p f [] = refl
filter-map p f (x ∷ xs) = cond-map f x (filter (λ x. p (f x)) xs) (filter p (map f xs)) (filter-map p f xs) (p (f x))

-- the list is what stands before a place, the element there, and what stands behind
pub split_at : {X : Type 0} (xs : List X) (place : ℕ) (x : X) → slice_get xs place ≡ Some x → xs ≡ take place xs ++ x ∷ drop (suc place) xs
split_at xs place x found =
    sym (take-append-drop place xs) ∙ ap (λ (back : List _). take place xs ++ back) (drop-cons xs place x (slice_get_within xs place x found) ∙ ap (λ (first : _). first ∷ drop (suc place) xs) (get_or_from_slice_get xs place x x found))

-- what holds of each split of a list holds of all its elements
pub each_all : {X : Type 0} (P : X → Type 0) (xs : List X) → ((before : List X) (x : X) (after : List X) → xs ≡ before ++ x ∷ after → P x) → All P xs
each_all P xs each = λ k d within. each (take k xs) (get_or xs k d) (drop (suc k) xs) (sym (take-append-drop k xs) ∙ ap (λ (back : List _). take k xs ++ back) (drop-cons xs k d within))

-- a place that is there has an element
pub found_at : {X : Type 0} (xs : List X) (n : ℕ) → n < length xs → (x : X) × (slice_get xs n ≡ Some x)
found_at [] n within = absurd (omega arith)
found_at (x ∷ xs) zero within = (x, refl)
found_at (x ∷ xs) (suc n) within = found_at xs n (omega arith)

-- what holds of all elements holds of the one that is found
pub All-found : {X : Type 0} (P : X → Type 0) (xs : List X) (n : ℕ) (x : X) → All P xs → slice_get xs n ≡ Some x → P x
All-found P xs n x all found = subst P (get_or_from_slice_get xs n x x found) (all n x (slice_get_within xs n x found))

-- the entries of a caller, where one of them stands between others
pub entries_of-split : (caller : ℕ) (before : List (Entry Op Reply)) (entry : Entry Op Reply) (after : List (Entry Op Reply)) → entry.caller ≡ caller → entries_of caller (before ++ entry ∷ after) ≡ entries_of caller before ++ entry ∷ entries_of caller after
entries_of-split caller before entry after own = filter-append _ before (entry ∷ after) ∙ rw (eq-eqb entry.caller caller own) refl
