-- Two callers' lists that are merged in two sections, and cuts and merges that are refused.
use Rattle.std.proofs.Common.{◌≡◌, ℕ, zero, suc, ◌<◌, ◌≤◌, List, [], ◌∷◌, ◌++◌, Some, None, refl, sym, ap, subst, inl, inr, ◌⊎◌, arith}
use Rattle.std.specs.Prelude.{slice_get}
use Rattle.std.specs.List.{AllByRecursion}
use Rattle.std.proofs.lemmas.Option.{same_Some}
use Rattle.k42_kinds.specs.declared.operation.Op.{Op}
use Rattle.k42_kinds.specs.declared.operation.Op.TheVariants.{Get}
use Rattle.k42_kinds.specs.declared.operation.Reply.{Reply}
use Rattle.k42_kinds.specs.declared.operation.Reply.TheVariants.{Number}
use Rattle.k42_kinds.specs.declared.entry.Act.TheVariants.{Call}
use Rattle.k42_kinds.specs.declared.entry.Answer.TheVariants.{Replied}
use Rattle.k42_kinds.specs.declared.entry.Entry.{Entry}
use Rattle.k42_stamp.specs.Orders.{IsBefore, Ordered, In}
use Rattle.k42_stamp.specs.Lists.{InSome, IsTrace, IsMerged, IsMergedFrom}
use Rattle.k42_stamp.specs.Sections.{AreCutAt}
use Rattle.k42_stamp.proofs.Elements.{all_at}
use Rattle.k42_stamp.proofs.MergedSections.{one_merge, sections_merged}

abbrev drawn : ℕ → ℕ → Entry Op Reply
drawn stamp caller = record { stamp = stamp; caller = caller; index = 0; object = 0; incarnation = 0; cell = 0; act = Call Get; answer = Replied (Number 0); proc = 0; generation = None }

-- caller 0 drew at 1 and 7, and caller 1 at 2 and 5
abbrev fronts : List (List (Entry Op Reply))
fronts = (drawn 1 0 ∷ []) ∷ (drawn 2 1 ∷ []) ∷ []

abbrev rests : List (List (Entry Op Reply))
rests = (drawn 7 0 ∷ []) ∷ (drawn 5 1 ∷ []) ∷ []

abbrev lists : List (List (Entry Op Reply))
lists = (drawn 1 0 ∷ drawn 7 0 ∷ []) ∷ (drawn 2 1 ∷ drawn 5 1 ∷ []) ∷ []

abbrev before : List (Entry Op Reply)
before = drawn 1 0 ∷ drawn 2 1 ∷ []

-- caller 1 was the first of the second section
abbrev section : List (Entry Op Reply)
section = drawn 3 1 ∷ drawn 4 0 ∷ []

-- two lists of one entry each
pair_trace : (one other : Entry Op Reply) (trace : List (Entry Op Reply)) → Ordered IsBefore trace → In one trace → In other trace
    → AllByRecursion (λ e. (e ≡ one) ⊎ (e ≡ other)) trace → IsTrace ((one ∷ []) ∷ (other ∷ []) ∷ []) trace
pair_trace one other trace ordered first second only = record {
  ordered = ordered;
  all = λ e is. all_of e is.place is.list is.there is.has;
  only = λ e has. of e (all_at (λ f. (f ≡ one) ⊎ (f ≡ other)) trace e only has);
} where
  same : (e x : Entry Op Reply) (list : List (Entry Op Reply)) → Some (x ∷ []) ≡ Some list → In e list → In x trace → In e trace
  same e x list is has there = elim (subst (In e) (sym (same_Some (x ∷ []) list is)) has) [ inl at ↦ subst (λ y. In y trace) (sym at) there | inr none ↦ absurd none ]

  all_of : (e : Entry Op Reply) (place : ℕ) (list : List (Entry Op Reply)) → slice_get ((one ∷ []) ∷ (other ∷ []) ∷ []) place ≡ Some list → In e list → In e trace
  all_of e zero list at has = same e one list at has first
  all_of e (suc zero) list at has = same e other list at has second
  all_of e (suc (suc place)) list at has = absurd (cc)

  of : (e : Entry Op Reply) → (e ≡ one) ⊎ (e ≡ other) → InSome ((one ∷ []) ∷ (other ∷ []) ∷ []) e
  of e (inl is) = record { place = 0; list = one ∷ []; there = refl; has = inl is }
  of e (inr is) = record { place = 1; list = other ∷ []; there = refl; has = inl is }

fronts_trace : IsTrace fronts (drawn 1 0 ∷ drawn 2 1 ∷ [])
fronts_trace = pair_trace (drawn 1 0) (drawn 2 1) (drawn 1 0 ∷ drawn 2 1 ∷ []) ((inl (omega arith), tt), (tt, tt)) (inl refl) (inr (inl refl)) (inl refl, (inr refl, tt))

rests_trace : IsTrace rests (drawn 5 1 ∷ drawn 7 0 ∷ [])
rests_trace = pair_trace (drawn 7 0) (drawn 5 1) (drawn 5 1 ∷ drawn 7 0 ∷ []) ((inl (omega arith), tt), (tt, tt)) (inr (inl refl)) (inl refl) (inr refl, (inl refl, tt))

begun : IsMerged fronts before
begun = record { trace = drawn 1 0 ∷ drawn 2 1 ∷ []; just = fronts_trace; numbered = refl }

goes_on : IsMergedFrom 3 rests section
goes_on = record { trace = drawn 5 1 ∷ drawn 7 0 ∷ []; just = rests_trace; numbered = refl }

joined : (place : ℕ) (list front rest : List (Entry Op Reply)) → slice_get lists place ≡ Some list → slice_get fronts place ≡ Some front → slice_get rests place ≡ Some rest → list ≡ front ++ rest
joined zero list front rest at front_at rest_at = cc
joined (suc zero) list front rest at front_at rest_at = cc
joined (suc (suc place)) list front rest at front_at rest_at = absurd (cc)

-- the fronts end at 2, and the rests begin at 5
cut : AreCutAt 4 lists fronts rests
cut = record {
  many_fronts = refl;
  many_rests = refl;
  joined = joined;
  early = λ e some. all_at (λ f. f.stamp ≤ 4) (drawn 1 0 ∷ drawn 2 1 ∷ []) e (omega arith, (omega arith, tt)) (fronts_trace.all e some);
  late = λ e some. all_at (λ f. 4 < f.stamp) (drawn 5 1 ∷ drawn 7 0 ∷ []) e (omega arith, (omega arith, tt)) (rests_trace.all e some);
}

whole : IsMerged lists (drawn 1 0 ∷ drawn 2 1 ∷ drawn 3 1 ∷ drawn 4 0 ∷ [])
whole = sections_merged 4 lists fronts rests before section cut begun goes_on

-- a cut at a stamp of the rests is refused
cut_late : AreCutAt 5 lists fronts rests → ⊥
cut_late late = let above : 5 < 5 = late.late (drawn 5 1) (record { place = 1; list = drawn 5 1 ∷ []; there = refl; has = inl refl }) in omega arith

abbrev head_of : List (Entry Op Reply) → Entry Op Reply
head_of [] = drawn 0 0
head_of (entry ∷ entries) = entry

-- and so is a section that is numbered from 1
from_one : IsMergedFrom 3 rests (drawn 1 1 ∷ drawn 2 0 ∷ []) → ⊥
from_one is =
    let same = one_merge 3 rests (drawn 1 1 ∷ drawn 2 0 ∷ []) section is goes_on in
    let stamps : (head_of (drawn 1 1 ∷ drawn 2 0 ∷ [])).stamp ≡ (head_of section).stamp = ap (λ (es : List (Entry Op Reply)). (head_of es).stamp) same in
    omega (arith, stamps)

-- and the rests before their fronts
rests_first : IsMerged lists (drawn 1 1 ∷ drawn 2 0 ∷ drawn 3 0 ∷ drawn 4 1 ∷ []) → ⊥
rests_first is =
    let same = one_merge 1 lists (drawn 1 1 ∷ drawn 2 0 ∷ drawn 3 0 ∷ drawn 4 1 ∷ []) (before ++ section) is whole in
    let callers : (head_of (drawn 1 1 ∷ drawn 2 0 ∷ drawn 3 0 ∷ drawn 4 1 ∷ [])).caller ≡ (head_of (before ++ section)).caller = ap (λ (es : List (Entry Op Reply)). (head_of es).caller) same in
    omega (arith, callers)
