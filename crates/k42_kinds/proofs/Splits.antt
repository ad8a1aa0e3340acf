-- What holds at each place of a list, told from the front and at one more at its end.
use Rattle.std.proofs.Common.{◌≡◌, List, [], ◌∷◌, ◌++◌, length, ◌⊎◌, inl, inr, refl, ◌∙◌, All, Any, arith}
use Rattle.std.specs.List.{AllByRecursion}
use Rattle.std.proofs.lemmas.List.Elements.{All-from_recursion}
use Rattle.std.proofs.lemmas.List.{append-nil, append_assoc, length-append, get_or_at, get_or_append_left}

-- P holds of each element between those before it and those after it
abbrev pub EachSplit : {X : Type 0} → (List X → X → List X → Type 0) → List X → Type 0
EachSplit {X} P xs = (before : List X) (x : X) (after : List X) → xs ≡ before ++ x ∷ after → P before x after

-- the same of the elements behind a front, one after the other
abbrev pub EachBehind : {X : Type 0} → (List X → X → List X → Type 0) → List X → List X → Type 0
EachBehind P front [] = Unit {0}
EachBehind P front (x ∷ xs) = P front x xs × EachBehind P (front ++ x ∷ []) xs

-- equal lists have equal heads and equal tails
pub record Heads {X : Type 0} (x y : X) (xs ys : List X) : Type 0 where
  pub head : x ≡ y
  pub tail : xs ≡ ys

pub heads : {X : Type 0} (x y : X) (xs ys : List X) → x ∷ xs ≡ y ∷ ys → Heads x y xs ys
heads x y xs ys e = record { head = cc; tail = cc }

-- an empty list has no split
pub no_split : {X : Type 0} (before : List X) (x : X) (after : List X) → [] ≡ before ++ x ∷ after → ⊥
no_split [] x after e = cc
no_split (b ∷ before) x after e = cc

-- the split is at the last element
pub record IsLastSplit {X : Type 0} (xs : List X) (x : X) (before : List X) (y : X) (after : List X) : Type 0 where
  pub front : before ≡ xs
  pub last : y ≡ x
  pub end : after ≡ []

-- the split is within the list before the last element
pub record IsInnerSplit {X : Type 0} (xs : List X) (x : X) (before : List X) (y : X) (after : List X) : Type 0 where
  pub rest : List X
  pub end : after ≡ rest ++ x ∷ []
  pub within : xs ≡ before ++ y ∷ rest

-- a split of a list and one more element is one of the two
pub split-push : {X : Type 0} (xs : List X) (x : X) (before : List X) (y : X) (after : List X) → xs ++ x ∷ [] ≡ before ++ y ∷ after → IsLastSplit xs x before y after ⊎ IsInnerSplit xs x before y after
split-push [] x [] y after e = inl (record { front = refl; last = cc; end = cc })
split-push [] x (b ∷ before) y after e = absurd (no_split before y after (heads x b [] (before ++ y ∷ after) e).tail)
split-push (a ∷ xs) x [] y after e = inr (record { rest = xs; end = cc; within = cc })
split-push (a ∷ xs) x (b ∷ before) y after e =
    let tails = (heads a b (xs ++ x ∷ []) (before ++ y ∷ after) e) in
    elim (split-push xs x before y after tails.tail) [
      | inl last ↦ inl (record { front = cc (last.front, tails.head); last = last.last; end = last.end })
      | inr inner ↦ inr (record { rest = inner.rest; end = inner.end; within = cc (inner.within, tails.head) })
    ]

-- what holds of each element behind a front holds of each split of the list
pub each_split : {X : Type 0} (P : List X → X → List X → Type 0) (front xs : List X) → EachBehind P front xs → EachSplit (λ before x after. P (front ++ before) x after) xs
each_split P front [] each before x after e = absurd (no_split before x after e)
each_split P front (y ∷ xs) each [] x after e =
    let same = (heads y x xs after e) in
    rw (append-nil, ← same.head, ← same.tail) each.0
each_split P front (y ∷ xs) each (b ∷ before) x after e =
    let same = (heads y b xs (before ++ x ∷ after) e) in
    rw (← same.head, ← append_assoc front (y ∷ []) before) (each_split P (front ++ y ∷ []) xs each.1 before x after same.tail)

-- What holds of each split of a list, and goes on to hold where one more element stands behind, holds of each split
-- of the longer list, if it holds of the last one.
pub each_split-push : {X : Type 0} (P : List X → X → List X → Type 0) (xs : List X) (x : X) → EachSplit (λ before y after. P before y (after ++ x ∷ [])) xs → P xs x [] → EachSplit P (xs ++ x ∷ [])
each_split-push P xs x each last before y after e =
    elim (split-push xs x before y after e) [
      | inl here ↦ rw (here.front, here.last, here.end) last
      | inr inner ↦ rw inner.end (each before y inner.rest inner.within)
    ]

-- what holds of all elements holds of the one at a split
pub All-at_split : {X : Type 0} (P : X → Type 0) (xs : List X) → All P xs → EachSplit (λ before x after. P x) xs
All-at_split P xs all before x after e =
    let there = rw e at all in
    rw (get_or_at before x after x (length before) refl) at (there (length before) x (omega (arith, length-append before (x ∷ after))))

-- an element of which P holds stays in a longer list
pub Any-append_left : {X : Type 0} (P : X → Type 0) (xs ys : List X) → Any P xs → Any P (xs ++ ys)
Any-append_left P xs ys any = (any.0, any.1, omega (arith, any.2, length-append xs ys), get_or_append_left xs ys any.1 any.0 any.2 ∙ any.3, any.4)

-- where P holds of no element, there is none of which it holds
pub none-Any : {X : Type 0} (P : X → Type 0) (xs : List X) → AllByRecursion (λ x. P x → ⊥) xs → Any P xs → ⊥
none-Any P xs none any = All-from_recursion (λ x. P x → ⊥) xs none any.0 any.1 any.2 (rw any.3 any.4)
