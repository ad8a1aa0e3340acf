-- What lists merge to is a merge of them, and how it goes on once the next entry is taken.
use Rattle.std.proofs.Common.{◌≡◌, ◌≢◌, ℕ, zero, suc, ◌+◌, ◌<◌, List, [], ◌∷◌, ◌++◌, length, refl, sym, ap, ◌∙◌, subst, inl, inr, arith}
use Rattle.std.specs.Prelude.{Some, slice_get, slice_set}
use Rattle.std.specs.List.{AllByRecursion}
use Rattle.std.proofs.lemmas.List.{length-append}
use Rattle.std.proofs.lemmas.List.Sums.{sum_by-cons}
use Rattle.std.proofs.lemmas.Option.{same_Some}
use Rattle.k42_kinds.specs.declared.entry.Entry.{Entry}
use Rattle.k42_stamp.specs.Orders.{IsBefore, In}
use Rattle.k42_stamp.specs.Lists.{IsListOf, AreLists, InSome, IsTrace, IsMergedFrom, numbered_from}
use Rattle.k42_stamp.specs.Merging.{AreEmpty, IsNext, entries_in}
use Rattle.k42_stamp.proofs.Elements.{all_weaker, all_at, all_in, in_left, in_right, in-append}
use Rattle.k42_stamp.proofs.Ordering.{Ordered-append, side_of}
use Rattle.k42_stamp.proofs.Numbering.{length-numbered_from}
use Rattle.k42_stamp.proofs.NextEntries.{IsMerging, begins_merging, goes_on, one_fewer}
use Rattle.k42_stamp.proofs.MergedSections.{one_merge}
use Rattle.k42_journal.specs.Merged.{in_order, all_of, merged_from}
use Rattle.k42_journal.specs.Logs.{MayMerge}
use Rattle.k42_journal.specs.Queues.{IsTaken}
use Rattle.k42_journal.proofs.Placing.{AreApart, AreAllApart, Ordered-in_order, in-in_order, in_order_in, length-in_order}

-- the entries of all lists

some_later : {O R : Type 0} (e : Entry O R) (list : List (Entry O R)) (lists : List (List (Entry O R))) → InSome lists e → InSome (list ∷ lists) e
some_later e list lists is = record { place = suc is.place; list = is.list; there = is.there; has = is.has }

pub in-all_of : {O R : Type 0} (e : Entry O R) (lists : List (List (Entry O R))) → In e (all_of lists) → InSome lists e
in-all_of e [] is = absurd is
in-all_of e (list ∷ lists) is = elim (in-append e list (all_of lists) is) [
  | inl here ↦ record { place = 0; list = list; there = refl; has = here }
  | inr there ↦ some_later e list lists (in-all_of e lists there)
]

at_in : {O R : Type 0} (e : Entry O R) (lists : List (List (Entry O R))) (place : ℕ) (list : List (Entry O R)) → slice_get lists place ≡ Some list → In e list → In e (all_of lists)
at_in e [] place list at has = absurd (cc)
at_in e (one ∷ lists) zero list at has = in_left e one (all_of lists) (subst (In e) (sym (same_Some one list at)) has)
at_in e (one ∷ lists) (suc place) list at has = in_right e one (all_of lists) (at_in e lists place list at has)

pub all_of_in : {O R : Type 0} (e : Entry O R) (lists : List (List (Entry O R))) → InSome lists e → In e (all_of lists)
all_of_in e lists is = at_in e lists is.place is.list is.there is.has

length-all_of : {O R : Type 0} (lists : List (List (Entry O R))) → length (all_of lists) ≡ entries_in lists
length-all_of [] = refl
length-all_of (list ∷ lists) = omega (arith, length-append list (all_of lists), length-all_of lists, sum_by-cons length list lists)

-- no two of them stand alike

-- the lists of callers from this one on
abbrev AreListsFrom : {O R : Type 0} → ℕ → List (List (Entry O R)) → Type 0
AreListsFrom {O} {R} caller lists = (place : ℕ) (list : List (Entry O R)) → slice_get lists place ≡ Some list → IsListOf (caller + place) list

later_from : {O R : Type 0} (caller : ℕ) (list : List (Entry O R)) (lists : List (List (Entry O R))) → AreListsFrom caller (list ∷ lists) → AreListsFrom (suc caller) lists
later_from caller list lists are place other at = let same : caller + suc place ≡ suc caller + place = omega arith in subst (λ c. IsListOf c other) same (are (suc place) other at)

apart_list : {O R : Type 0} (caller : ℕ) (list : List (Entry O R)) → IsListOf caller list → AreAllApart list
apart_list caller [] is = tt
apart_list caller (entry ∷ list) is = (
  all_weaker (λ e. entry.stamp < e.stamp) (AreApart entry) (λ e less. inr (inl less)) list is.rising.0,
  apart_list caller list (record { rising = is.rising.1; own = is.own.1 }),
)

apart_callers : {O R : Type 0} (one other : Entry O R) → one.caller ≢ other.caller → AreApart one other
apart_callers one other differ = side_of one other (λ same. absurd (differ (sym same)))

apart_all : {O R : Type 0} (caller : ℕ) (lists : List (List (Entry O R))) → AreListsFrom caller lists → AreAllApart (all_of lists)
apart_all caller [] are = tt
apart_all {O} {R} caller (list ∷ lists) are = Ordered-append AreApart list (all_of lists) (apart_list (caller + 0) list own) (apart_all (suc caller) lists later)
    (all_in (λ x. AllByRecursion (AreApart x) (all_of lists)) list (λ x has. all_in (AreApart x) (all_of lists) (λ e there. apart x e has there))) where
      own : IsListOf (caller + 0) list
      own = are 0 list refl

      later : AreListsFrom (suc caller) lists
      later = later_from caller list lists are

      apart : (x e : Entry O R) → In x list → In e (all_of lists) → AreApart x e
      apart x e has there =
          let is = in-all_of e lists there in
          let mine : x.caller ≡ caller + 0 = all_at (λ entry. entry.caller ≡ caller + 0) list x own.own has in
          let its : e.caller ≡ suc caller + is.place = all_at (λ entry. entry.caller ≡ suc caller + is.place) is.list e (later is.place is.list is.there).own is.has in
          apart_callers x e (λ same. omega (arith, mine, its, same))

-- and so they are in order

from_first : {O R : Type 0} (lists : List (List (Entry O R))) → AreLists lists → AreListsFrom 0 lists
from_first lists are place list at = let same : place ≡ 0 + place = omega arith in subst (λ c. IsListOf c list) same (are place list at)

pub all_in_order : {O R : Type 0} (lists : List (List (Entry O R))) → AreLists lists → IsTrace lists (in_order (all_of lists))
all_in_order lists are = record {
  ordered = Ordered-in_order (all_of lists) (apart_all 0 lists (from_first lists are));
  all = λ e is. in_order_in e (all_of lists) (all_of_in e lists is);
  only = λ e is. in-all_of e lists (in-in_order e (all_of lists) is);
}

pub merges : {O R : Type 0} (first : ℕ) (lists : List (List (Entry O R))) → AreLists lists → IsMergedFrom first lists (merged_from first lists)
merges first lists are = record { trace = in_order (all_of lists); just = all_in_order lists are; numbered = refl }

pub length-merged_from : {O R : Type 0} (first : ℕ) (lists : List (List (Entry O R))) → length (merged_from first lists) ≡ entries_in lists
length-merged_from first lists = length-numbered_from first (in_order (all_of lists)) ∙ (length-in_order (all_of lists) ∙ length-all_of lists)

-- what is merged so far of the lists, and behind it what is left of them
joined : {O R : Type 0} (lists rests : List (List (Entry O R))) (merged trace : List (Entry O R)) → IsMerging lists rests merged → IsTrace rests trace → IsTrace lists (merged ++ trace)
joined {O} {R} lists rests merged trace so_far is = record {
  ordered = Ordered-append IsBefore merged trace so_far.ordered is.ordered
      (all_in (λ one. AllByRecursion (IsBefore one) trace) merged (λ one has. all_in (IsBefore one) trace (λ e there. behind one e has (is.only e there))));
  all = λ e some. elim (so_far.all e some) [ inl done ↦ in_left e merged trace done | inr left ↦ in_right e merged trace (is.all e left) ];
  only = λ e has. elim (in-append e merged trace has) [ inl done ↦ so_far.merged_only e done | inr left ↦ so_far.rests_only e (is.only e left) ];
} where
  behind : (one e : Entry O R) → In one merged → InSome rests e → IsBefore one e
  behind one e has left = all_at (IsBefore one) left.list e (all_at (λ x. AllByRecursion (IsBefore x) left.list) merged one (so_far.later left.place left.list left.there) has) left.has

module _ {O R : Type 0} (lists : List (List (Entry O R))) (are : AreLists lists) (place : ℕ) (entry : Entry O R) (next : IsNext lists place entry) where
  begun : IsMerging lists (slice_set lists place next.others) (entry ∷ [])
  begun = goes_on lists lists [] (begins_merging lists [] are refl) place entry next (entry ∷ []) refl

  pub lists_left : AreLists (slice_set lists place next.others)
  lists_left = begun.are

  pub next_merged : (first : ℕ) → merged_from first lists ≡ record entry { stamp = first } ∷ merged_from (suc first) (slice_set lists place next.others)
  next_merged first =
      let rests = slice_set lists place next.others in
      let trace = in_order (all_of rests) in
      let is : IsMergedFrom first lists (record entry { stamp = first } ∷ merged_from (suc first) rests) =
      record { trace = entry ∷ trace; just = joined lists rests (entry ∷ []) trace begun (all_in_order rests lists_left); numbered = refl } in
      one_merge first lists (merged_from first lists) (record entry { stamp = first } ∷ merged_from (suc first) rests) (merges first lists are) is

empty_all : {O R : Type 0} (lists : List (List (Entry O R))) → AreEmpty lists → all_of lists ≡ []
empty_all [] empty = refl
empty_all (list ∷ lists) empty = ap (λ l. l ++ all_of lists) empty.0 ∙ empty_all lists empty.1

pub none_merged : {O R : Type 0} (first : ℕ) (lists : List (List (Entry O R))) → AreEmpty lists → merged_from first lists ≡ []
none_merged first lists empty = ap (λ entries. numbered_from first (in_order entries)) (empty_all lists empty)

-- once the next entry is taken

pub taken_merged : {O R : Type 0} (first : ℕ) (lists new : List (List (Entry O R))) (entry : Entry O R) → AreLists lists → IsTaken lists new entry
    → merged_from first lists ≡ record entry { stamp = first } ∷ merged_from (first + 1) new
taken_merged first lists new entry are is =
    let next : suc first ≡ first + 1 = omega arith in
    next_merged lists are is.place entry is.next first
    ∙ ap (λ rest. record entry { stamp = first } ∷ rest) (ap (λ n. merged_from n (slice_set lists is.place is.next.others)) next ∙ ap (merged_from (first + 1)) (sym is.left))

pub taken_left : {O R : Type 0} (first : ℕ) (lists new : List (List (Entry O R))) (entry : Entry O R) → MayMerge first lists → IsTaken lists new entry → MayMerge (first + 1) new
taken_left first lists new entry may is =
    let fewer = one_fewer lists is.place entry is.next.others is.next.there in
    rw is.left (record { are = lists_left lists may.are is.place entry is.next; fits = omega (arith, may.fits, fewer) })
