-- Callers' lists always merge.
use Rattle.std.proofs.Common.{◌≡◌, ℕ, zero, suc, ◌+◌, List, [], ◌∷◌, ◌++◌, refl, subst, inl, inr, ◌⊎◌, arith}
use Rattle.std.specs.Prelude.{Some, slice_get, slice_set}
use Rattle.k42_kinds.specs.declared.entry.Entry.{Entry}
use Rattle.k42_stamp.specs.Orders.{IsBelow, key_of, IsBefore}
use Rattle.k42_stamp.specs.Lists.{AreLists, IsTrace, IsMerged, numbered_from}
use Rattle.k42_stamp.specs.Merging.{IsNext, AreEmpty, entries_in}
use Rattle.k42_stamp.proofs.Ordering.{before-trans, before-irreflexive, below_or}
use Rattle.k42_stamp.proofs.NextEntries.{next_alone, next_stays, next_later, one_fewer, IsMerging, begins_merging, goes_on, all_merged}

before_or_not : {O R : Type 0} (one other : Entry O R) → IsBefore one other ⊎ (IsBefore one other → ⊥)
before_or_not one other = elim (below_or (key_of one) (key_of other) refl) [
  | inl before ↦ inl before
  | inr (inl same) ↦ inr (λ before. before-irreflexive other (subst (λ key. IsBelow key (key_of other)) same before))
  | inr (inr behind) ↦ inr (λ before. before-irreflexive one (before-trans one other one before behind))
]

-- an entry that the lists' heads let come next
abbrev HasNext : {O R : Type 0} → List (List (Entry O R)) → Type 0
HasNext {O} {R} lists = (place : ℕ) × (entry : Entry O R) × IsNext lists place entry

behind_empty : {O R : Type 0} (lists : List (List (Entry O R))) → HasNext lists → HasNext ([] ∷ lists)
behind_empty {O} {R} lists (place, entry, next) = (suc place, entry, record { others = next.others; there = next.there; first = first }) where
  first : (p : ℕ) (one : Entry O R) (more : List (Entry O R)) → slice_get ([] ∷ lists) p ≡ Some (one ∷ more) → IsBefore one entry → ⊥
  first zero one more at before = cc at
  first (suc p) one more at before = next.first p one more at before

head_or : {O R : Type 0} (entry : Entry O R) (others : List (Entry O R)) (lists : List (List (Entry O R))) → HasNext lists → HasNext ((entry ∷ others) ∷ lists)
head_or entry others lists (place, other, next) = elim (before_or_not other entry) [
  | inl before ↦ (place + 1, other, next_later entry other others lists place next before)
  | inr late ↦ (0, entry, next_stays entry other others lists place next late)
]

next_or_none : {O R : Type 0} (lists : List (List (Entry O R))) → HasNext lists ⊎ AreEmpty lists
next_or_none [] = inr tt
next_or_none ([] ∷ lists) = elim (next_or_none lists) [ inl next ↦ inl (behind_empty lists next) | inr empty ↦ inr (refl, empty) ]
next_or_none ((entry ∷ others) ∷ lists) = elim (next_or_none lists) [
  | inl next ↦ inl (head_or entry others lists next)
  | inr empty ↦ inl (0, entry, next_alone entry others lists empty)
]

-- moving the next entry, until none is left
trace_exists : {O R : Type 0} (n : ℕ) (lists rests : List (List (Entry O R))) (merged : List (Entry O R)) → entries_in rests ≡ n → IsMerging lists rests merged → (trace : List (Entry O R)) × IsTrace lists trace
trace_exists zero lists rests merged none so_far = elim (next_or_none rests) [
  | inl (place, entry, next) ↦ let fewer = one_fewer rests place entry next.others next.there in absurd (omega arith)
  | inr empty ↦ (merged, all_merged lists rests merged merged so_far empty refl)
]
trace_exists (suc n) lists rests merged many so_far = elim (next_or_none rests) [
  | inl (place, entry, next) ↦
      let fewer = one_fewer rests place entry next.others next.there in
      let grown = merged ++ entry ∷ [] in
      trace_exists n lists (slice_set rests place next.others) grown (omega arith) (goes_on lists rests merged so_far place entry next grown refl)
  | inr empty ↦ (merged, all_merged lists rests merged merged so_far empty refl)
]

pub merge_exists : {O R : Type 0} (lists : List (List (Entry O R))) → AreLists lists → (merged : List (Entry O R)) × IsMerged lists merged
merge_exists lists are =
    let is = trace_exists (entries_in lists) lists lists [] refl (begins_merging lists [] are refl) in
    (numbered_from 1 is.0, record { trace = is.0; just = is.1; numbered = refl })
