-- What lists merge to has as many entries as they have.
use Rattle.std.proofs.Common.{◌≡◌, ◌≢◌, ℕ, zero, suc, ◌+◌, ◌<◌, ◌≤◌, List, [], ◌∷◌, ◌++◌, length, refl, sym, ap, subst, inl, inr, arith}
use Rattle.std.specs.List.{slice_get, AllByRecursion}
use Rattle.std.specs.Prelude.{Some}
use Rattle.std.proofs.lemmas.List.{length-append}
use Rattle.std.proofs.lemmas.List.Sums.{sum_by-cons}
use Rattle.std.proofs.lemmas.Option.{same_Some}
use Rattle.k42_kinds.specs.declared.entry.Entry.{Entry}
use Rattle.k42_places.specs.Places.{EachPlace}
use Rattle.k42_stamp.specs.Lists.{IsListOf, AreLists, InSome, IsMergedFrom}
use Rattle.k42_stamp.specs.Merging.{entries_in}
use Rattle.k42_stamp.specs.Orders.{IsBefore, In, Ordered}
use Rattle.k42_stamp.proofs.Elements.{all_at, all_in, all_weaker, in_left, in_right, in-append}
use Rattle.k42_stamp.proofs.Numbering.{length-numbered_from}
use Rattle.k42_stamp.proofs.Ordering.{Ordered-append, before-irreflexive}

-- no entry stands twice
abbrev AreApart : {O R : Type 0} → List (Entry O R) → Type 0
AreApart entries = Ordered (λ one other. one ≢ other) entries

apart : {O R : Type 0} (before : Entry O R → Entry O R → Type 0) → ((e : Entry O R) → before e e → ⊥) → (entries : List (Entry O R)) → Ordered before entries → AreApart entries
apart before never [] ordered = tt
apart before never (entry ∷ entries) ordered = (
  all_weaker (before entry) (λ other. entry ≢ other) (λ other is same. never entry (subst (before entry) (sym same) is)) entries ordered.0,
  apart before never entries ordered.1,
)

-- a list at an entry of it
record Cut {O R : Type 0} (e : Entry O R) (entries : List (Entry O R)) : Type 0 where
  front : List (Entry O R)
  back : List (Entry O R)
  parts : entries ≡ front ++ e ∷ back

cut_at : {O R : Type 0} (e : Entry O R) (entries : List (Entry O R)) → In e entries → Cut e entries
cut_at e [] has = absurd has
cut_at e (entry ∷ entries) (inl same) = record { front = []; back = entries; parts = ap (λ x. x ∷ entries) (sym same) }
cut_at e (entry ∷ entries) (inr has) =
    let cut = cut_at e entries has in record { front = entry ∷ cut.front; back = cut.back; parts = ap (λ l. entry ∷ l) cut.parts }

still_in : {O R : Type 0} (e other : Entry O R) (front back : List (Entry O R)) → e ≢ other → In other (front ++ e ∷ back) → In other (front ++ back)
still_in e other front back not has = elim (in-append other front (e ∷ back) has) [
  | inl before ↦ in_left other front back before
  | inr (inl same) ↦ absurd (not (sym same))
  | inr (inr behind) ↦ in_right other front back behind
]

-- entries that all stand in another list are no more than that has
no_more : {O R : Type 0} (entries others : List (Entry O R)) → AreApart entries → ((e : Entry O R) → In e entries → In e others) → length entries ≤ length others
no_more [] others apart has = omega arith
no_more (entry ∷ entries) others apart has =
    let cut = cut_at entry others (has entry (inl refl)) in
    let fewer = no_more entries (cut.front ++ cut.back) apart.1
    (λ e is. still_in entry e cut.front cut.back (all_at (λ other. entry ≢ other) entries e apart.0 is) (subst (In e) cut.parts (has e (inr is)))) in
    omega (arith, fewer, ap length cut.parts, length-append cut.front (entry ∷ cut.back), length-append cut.front cut.back)

-- the lists one behind the other
abbrev gathered : {O R : Type 0} → List (List (Entry O R)) → List (Entry O R)
gathered [] = []
gathered (list ∷ lists) = list ++ gathered lists

many_gathered : {O R : Type 0} (lists : List (List (Entry O R))) → length (gathered lists) ≡ entries_in lists
many_gathered [] = refl
many_gathered (list ∷ lists) = omega (arith, length-append list (gathered lists), many_gathered lists, sum_by-cons length list lists)

in_gathered : {O R : Type 0} (e : Entry O R) (lists : List (List (Entry O R))) (place : ℕ) (list : List (Entry O R)) → slice_get lists place ≡ Some list → In e list → In e (gathered lists)
in_gathered e [] place list at has = absurd (cc)
in_gathered e (one ∷ lists) zero list at has = in_left e one (gathered lists) (subst (In e) (sym (same_Some one list at)) has)
in_gathered e (one ∷ lists) (suc place) list at has = in_right e one (gathered lists) (in_gathered e lists place list at has)

from_gathered : {O R : Type 0} (e : Entry O R) (lists : List (List (Entry O R))) → In e (gathered lists) → InSome lists e
from_gathered e [] has = absurd has
from_gathered e (list ∷ lists) has = elim (in-append e list (gathered lists) has) [
  | inl here ↦ record { place = 0; list = list; there = refl; has = here }
  | inr behind ↦
      let some = from_gathered e lists behind in record { place = suc some.place; list = some.list; there = some.there; has = some.has }
]

-- those of the callers from a first one on
abbrev AreListsFrom : {O R : Type 0} → ℕ → List (List (Entry O R)) → Type 0
AreListsFrom first lists = EachPlace (λ place list. IsListOf (first + place) list) lists

others_from : {O R : Type 0} (first : ℕ) (list : List (Entry O R)) (lists : List (List (Entry O R))) → AreListsFrom first (list ∷ lists) → AreListsFrom (suc first) lists
others_from first list lists are place other at =
    let next : first + suc place ≡ suc first + place = omega arith in subst (λ c. IsListOf c other) next (are (suc place) other at)

caller_from : {O R : Type 0} (first : ℕ) (lists : List (List (Entry O R))) → AreListsFrom first lists → (e : Entry O R) → In e (gathered lists) → first ≤ e.caller
caller_from {O = O} {R = R} first lists are e has =
    let some = from_gathered e lists has in
    let own = all_at (λ (f : Entry O R). f.caller ≡ first + some.place) some.list e (are some.place some.list some.there).own some.has in
    omega (arith, own)

all_apart : {O R : Type 0} (first : ℕ) (lists : List (List (Entry O R))) → AreListsFrom first lists → AreApart (gathered lists)
all_apart first [] are = tt
all_apart {O = O} {R = R} first (list ∷ lists) are =
    let here : IsListOf (first + 0) list = are 0 list refl in
    let behind = others_from first list lists are in
    Ordered-append (λ one other. one ≢ other) list (gathered lists)
    (apart (λ one other. one.stamp < other.stamp) (λ e less. omega (arith, less)) list here.rising)
    (all_apart (suc first) lists behind)
    (all_in (λ e. AllByRecursion (λ other. e ≢ other) (gathered lists)) list
    (λ e has. all_in (λ other. e ≢ other) (gathered lists)
    (λ other is same.
    let own = all_at (λ (f : Entry O R). f.caller ≡ first + 0) list e here.own has in
    let later = caller_from (suc first) lists behind other is in
    omega (arith, own, later, ap (λ (f : Entry O R). f.caller) same))))

pub merged_total : {O R : Type 0} (first : ℕ) (lists : List (List (Entry O R))) (merged : List (Entry O R)) → AreLists lists → IsMergedFrom first lists merged → length merged ≡ entries_in lists
merged_total first lists merged are is =
    let once : AreListsFrom 0 lists = λ place list at. let same : place ≡ 0 + place = omega arith in subst (λ c. IsListOf c list) same (are place list at) in
    let few = no_more is.trace (gathered lists) (apart IsBefore before-irreflexive is.trace is.just.ordered)
    (λ e has. let some = is.just.only e has in in_gathered e lists some.place some.list some.there some.has) in
    let many = no_more (gathered lists) is.trace (all_apart 0 lists once) (λ e has. is.just.all e (from_gathered e lists has)) in
    omega (arith, few, many, many_gathered lists, ap length is.numbered, length-numbered_from first is.trace)
