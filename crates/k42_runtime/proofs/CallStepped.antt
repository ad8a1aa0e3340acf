-- Parts of a row, of which each goes back into its cell.
use Rattle.std.proofs.Common.{◌≡◌, ℕ, zero, suc, ◌+◌, ◌<◌, Bool, cond, List, [], ◌∷◌, ◌++◌, Option, Some, None, Result, Ok, Err, length, take, drop, refl, sym, ap, ◌∙◌, arith}
use Rattle.std.specs.Prelude.{is_some, IsSome, OnOk, OnErr}
use Rattle.std.specs.Option.{unwrap_or, option_to_list}
use Rattle.std.proofs.lemmas.List.{length-append}
use Rattle.k42_board.specs.declared.cell.Content.{Content}
use Rattle.k42_kinds.specs.Rows.{Ways}
use Rattle.k42_mediator.specs.Parts.{filled, parts_from}
use Rattle.k42_places.specs.Places.{EachPlace}

abbrev first_of : {A : Type 0} → A → List A → A
first_of none [] = none
first_of none (x ∷ xs) = x

abbrev rest_of : {A : Type 0} → List A → List A
rest_of [] = []
rest_of (x ∷ xs) = xs

-- what was popped is the last
pub last_popped : {A : Type 0} (all xs : List A) (x : Option A) → IsSome x → all ≡ xs ++ option_to_list x → (y : A) × (x ≡ Some y) × (all ≡ xs ++ y ∷ [])
last_popped all xs (Some y) some e = (y, refl, e)
last_popped all xs None some e = absurd (cc)

some_taken : {A : Type 0} (k : ℕ) (xs : List A) → k < length xs → 0 < length (take (suc k) xs)
some_taken k [] lt = absurd (omega (arith, lt))
some_taken k (x ∷ xs) lt = omega arith

-- the last of so many parts is that of the next cell
pub last_filled : {P O R : Type 0} (k : ℕ) (row xs : List P) (x : P) (cell : Content P O R) (cells : List (Content P O R)) → k < length row
    → take (suc k) row ≡ xs ++ x ∷ [] → record cell { part = Some x } ∷ filled (drop (suc k) row) cells ≡ filled (drop k row) (cell ∷ cells)
last_filled k [] xs x cell cells lt e = absurd (omega (arith, lt))
last_filled zero (y ∷ row) [] x cell cells lt e = ap (λ z. record cell { part = Some z } ∷ filled row cells) (sym (ap (first_of x) e))
last_filled zero (y ∷ row) (z ∷ xs) x cell cells lt e =
    let long = ap length e in let more = length-append xs (x ∷ []) in absurd (omega (arith, long, more))
last_filled (suc k) (y ∷ row) [] x cell cells lt e = absurd (some row k (omega (arith, lt)) (ap rest_of e)) where
  some : {A : Type 0} (ys : List A) (j : ℕ) → j < length ys → take (suc j) ys ≡ [] → ⊥
  some [] j lt' e' = omega (arith, lt')
  some (w ∷ ys) j lt' e' = cc
last_filled (suc k) (y ∷ row) (z ∷ xs) x cell cells lt e = last_filled k row xs x cell cells (omega (arith, lt)) (ap rest_of e)

-- the cells of a row, of which the last of so many parts was popped
pub set_behind : {P O R : Type 0} (k many len : ℕ) (row back xs : List P) (x : Option P) (cell new : Content P O R) (cells news : List (Content P O R))
    → k < length row → many ≡ k + 1 → back ≡ take many row → len ≡ length back → (0 < len → IsSome x) → back ≡ xs ++ option_to_list x
    → new ≡ record cell { part = x } → news ≡ filled (drop many row) cells → new ∷ news ≡ filled (drop k row) (cell ∷ cells)
set_behind k many len row back xs x cell new cells news lt long taken measured some items set rest =
    let count : many ≡ suc k = omega (arith, long) in
    let first : back ≡ take (suc k) row = taken ∙ ap (λ n. take n row) count in
    let there = some_taken k row lt in let size = ap length first in
    let last = last_popped back xs x (some (omega (arith, there, size, measured))) items in
    (λ j. (set ∙ ap (λ z. record cell { part = z }) last.1) j ∷ (rest ∙ ap (λ n. filled (drop n row) cells) count) j)
    ∙ last_filled k row xs last.0 cell cells lt (sym first ∙ last.2)

-- the last of a list and one more is that one
pub last_same : {A : Type 0} (xs ys : List A) (x y : A) → xs ++ x ∷ [] ≡ ys ++ y ∷ [] → x ≡ y
last_same [] [] x y e = ap (first_of x) e
last_same [] (z ∷ ys) x y e = let long = ap length e in let more = length-append ys (y ∷ []) in absurd (omega (arith, long, more))
last_same (z ∷ xs) [] x y e = let long = ap length e in let more = length-append xs (x ∷ []) in absurd (omega (arith, long, more))
last_same (z ∷ xs) (w ∷ ys) x y e = last_same xs ys x y (ap rest_of e)

-- and the others are those before it
fronts : {A : Type 0} (k : ℕ) (row xs : List A) (y : A) → k < length row → take (suc k) row ≡ xs ++ y ∷ [] → xs ≡ take k row
fronts k [] xs y lt e = absurd (omega (arith, lt))
fronts zero (z ∷ row) [] y lt e = refl
fronts zero (z ∷ row) (w ∷ xs) y lt e = let long = ap length e in let more = length-append xs (y ∷ []) in absurd (omega (arith, long, more))
fronts (suc k) (z ∷ row) [] y lt e = let long = ap length e in let some = some_taken k row (omega (arith, lt)) in absurd (omega (arith, long, some))
fronts (suc k) (z ∷ row) (w ∷ xs) y lt e =
    let first = sym (ap (first_of w) e) in let others = fronts k row xs y (omega (arith, lt)) (ap rest_of e) in λ j. first j ∷ others j

pub front_popped : {A : Type 0} (k many len : ℕ) (row back xs : List A) (x : Option A) → k < length row → many ≡ k + 1 → back ≡ take many row
    → len ≡ length back → (0 < len → IsSome x) → back ≡ xs ++ option_to_list x → xs ≡ take k row
front_popped k many len row back xs x lt long taken measured some items =
    let count : many ≡ suc k = omega (arith, long) in
    let first : back ≡ take (suc k) row = taken ∙ ap (λ n. take n row) count in
    let there = some_taken k row lt in let size = ap length first in
    let last = last_popped back xs x (some (omega (arith, there, size, measured))) items in
    fronts k row xs last.0 lt (sym first ∙ last.2)

-- where two lists have one more each, and are the same then, they were
front_same : {A : Type 0} (xs ys : List A) (x y : A) → xs ++ x ∷ [] ≡ ys ++ y ∷ [] → xs ≡ ys
front_same [] [] x y e = refl
front_same [] (z ∷ ys) x y e = let long = ap length e in let more = length-append ys (y ∷ []) in absurd (omega (arith, long, more))
front_same (z ∷ xs) [] x y e = let long = ap length e in let more = length-append xs (x ∷ []) in absurd (omega (arith, long, more))
front_same (z ∷ xs) (w ∷ ys) x y e =
    let first = ap (first_of z) e in let others = front_same xs ys x y (ap rest_of e) in λ j. first j ∷ others j

pub front_kept : {A : Type 0} (len : ℕ) (parts all back xs : List A) (y : A) (x : Option A) → all ≡ parts ++ y ∷ [] → back ≡ all
    → len ≡ length back → (0 < len → IsSome x) → back ≡ xs ++ option_to_list x → xs ≡ parts
front_kept len parts all back xs y x pushed kept measured some items =
    let size = ap length (kept ∙ pushed) in let more = length-append parts (y ∷ []) in
    let last = last_popped back xs x (some (omega (arith, size, more, measured))) items in
    front_same xs parts last.0 y (sym last.2 ∙ kept ∙ pushed)

-- a part that was the cell's own is so again, and one that was made is none
pub own_again : {P : Type 0} (own : Option P) (empty : P) (is_own : Bool) → is_own ≡ is_some own → cond is_own (Some (unwrap_or own empty)) None ≡ own
own_again (Some part) empty is_own e = ap (λ b. cond b (Some part) None) e
own_again None empty is_own e = ap (λ b. cond b (Some empty) None) e

-- and where it was its own or none, it is as it was
pub own_behind : {P O R : Type 0} (parts all back xs : List P) (own : Option P) (empty : P) (is_own : Bool) (x : Option P) (cell lifted new : Content P O R) (cells news : List (Content P O R)) (len : ℕ)
    → all ≡ parts ++ unwrap_or own empty ∷ [] → back ≡ all → len ≡ length back → (0 < len → IsSome x) → back ≡ xs ++ option_to_list x
    → is_own ≡ is_some own → own ≡ cell.part → lifted ≡ record cell { part = None } → new ≡ record lifted { part = cond is_own x None } → news ≡ cells
    → new ∷ news ≡ cell ∷ cells
own_behind parts all back xs own empty is_own x cell lifted new cells news len pushed same measured some items owns was lifts set rest =
    let long = ap length (same ∙ pushed) in let more = length-append parts (unwrap_or own empty ∷ []) in
    let last = last_popped back xs x (some (omega (arith, long, more, measured))) items in
    let is : last.0 ≡ unwrap_or own empty = last_same xs parts last.0 (unwrap_or own empty) (sym last.2 ∙ same ∙ pushed) in
    λ j. (
    set ∙ (λ i. record (lifts i) { part = cond is_own (last.1 i) None })
    ∙ ap (λ z. record cell { part = cond is_own (Some z) None }) is ∙ ap (λ z. record cell { part = z }) (own_again own empty is_own owns ∙ was)
    ) j ∷ rest j

-- what is so of three answers

pub on_ok_3 : {X E A B C D : Type 0} (r : Result X E) → (A → B → C → D) → OnOk r A → OnOk r B → OnOk r C → OnOk r D
on_ok_3 (Ok x) f a b c = f a b c
on_ok_3 (Err e) f a b c = tt

pub on_err_3 : {X E A B C D : Type 0} (r : Result X E) → (A → B → C → D) → OnErr r A → OnErr r B → OnErr r C → OnErr r D
on_err_3 (Ok x) f a b c = tt
on_err_3 (Err e) f a b c = f a b c

pub on_ok_1 : {X E A B : Type 0} (r : Result X E) → (A → B) → OnOk r A → OnOk r B
on_ok_1 (Ok x) f a = f a
on_ok_1 (Err e) f a = tt

pub on_err_1 : {X E A B : Type 0} (r : Result X E) → (A → B) → OnErr r A → OnErr r B
on_err_1 (Ok x) f a = tt
on_err_1 (Err e) f a = f a

-- cells behind those that a row fills have no part, and are as they were

none_filled : {P O R : Type 0} (cells : List (Content P O R)) → EachPlace (λ place (content : Content P O R). content.part ≡ None) cells → filled [] cells ≡ cells
none_filled [] none = refl
none_filled (cell ∷ cells) none =
    λ j. record cell { part = sym (none 0 cell refl) j } ∷ none_filled cells (λ k content at. none (suc k) content at) j

pub filled_front : {P O R : Type 0} (parts : List P) (own rest : List (Content P O R)) → length parts ≡ length own
    → EachPlace (λ place (content : Content P O R). content.part ≡ None) rest → filled parts own ++ rest ≡ filled parts (own ++ rest)
filled_front [] [] rest long none = sym (none_filled rest none)
filled_front [] (cell ∷ own) rest long none = absurd (omega (arith, long))
filled_front (part ∷ parts) [] rest long none = absurd (omega (arith, long))
filled_front (part ∷ parts) (cell ∷ own) rest long none =
    ap (λ cells. record cell { part = Some part } ∷ cells) (filled_front parts own rest (omega (arith, long)) none)

pub length-parts_from : {S P O R : Type 0} (ways : Ways S P O R) (procs place : ℕ) (cells : List (Content P O R)) → length (parts_from ways procs place cells) ≡ length cells
length-parts_from ways procs place [] = refl
length-parts_from ways procs place (cell ∷ cells) = ap suc (length-parts_from ways procs (place + 1) cells)
