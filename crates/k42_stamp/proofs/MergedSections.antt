-- Lists have one merge alone, and are merged in sections too.
use Rattle.std.proofs.Common.{◌≡◌, ℕ, ◌+◌, List, [], ◌++◌, length, get_or, sym, ap, ◌∙◌, subst, inl, inr, ◌⊎◌, arith}
use Rattle.std.specs.Prelude.{Some, slice_get}
use Rattle.std.specs.List.{AllByRecursion}
use Rattle.std.proofs.lemmas.Option.{slice_get_within, slice_get-get_or}
use Rattle.k42_kinds.specs.declared.entry.Entry.{Entry}
use Rattle.k42_stamp.specs.Orders.{IsBefore, In}
use Rattle.k42_stamp.specs.Lists.{InSome, IsTrace, IsMerged, IsMergedFrom, numbered_from}
use Rattle.k42_stamp.specs.Sections.{AreCutAt}
use Rattle.k42_stamp.proofs.Elements.{all_in, in_left, in_right, in-append}
use Rattle.k42_stamp.proofs.Ordering.{Ordered-append, same_entries}
use Rattle.k42_stamp.proofs.Numbering.{length-numbered_from, numbered_from-append}

pub one_merge : {O R : Type 0} (first : ℕ) (lists : List (List (Entry O R))) (one other : List (Entry O R)) → IsMergedFrom first lists one → IsMergedFrom first lists other → one ≡ other
one_merge {O} {R} first lists one other this that =
    let there = λ (e : Entry O R) (has : In e this.trace). that.just.all e (this.just.only e has) in
    let back = λ (e : Entry O R) (has : In e that.trace). this.just.all e (that.just.only e has) in
    this.numbered ∙ (ap (numbered_from first) (same_entries this.trace that.trace this.just.ordered that.just.ordered there back) ∙ sym that.numbered)

module _ {O R : Type 0} (last : ℕ) (lists fronts rests : List (List (Entry O R))) (cut : AreCutAt last lists fronts rests) where
  -- an entry of a front or of a rest is one of the list, and the reverse
  of_front : (e : Entry O R) → InSome fronts e → InSome lists e
  of_front e is =
      let within = slice_get_within fronts is.place is.list is.there in
      let list = get_or lists is.place [] in
      let rest = get_or rests is.place [] in
      let at : slice_get lists is.place ≡ Some list = slice_get-get_or lists is.place [] (omega (arith, within, cut.many_fronts)) in
      let rest_at : slice_get rests is.place ≡ Some rest = slice_get-get_or rests is.place [] (omega (arith, within, cut.many_fronts, cut.many_rests)) in
      let joined = cut.joined is.place list is.list rest at is.there rest_at in
      record { place = is.place; list = list; there = at; has = subst (In e) (sym joined) (in_left e is.list rest is.has) }

  of_rest : (e : Entry O R) → InSome rests e → InSome lists e
  of_rest e is =
      let within = slice_get_within rests is.place is.list is.there in
      let list = get_or lists is.place [] in
      let front = get_or fronts is.place [] in
      let at : slice_get lists is.place ≡ Some list = slice_get-get_or lists is.place [] (omega (arith, within, cut.many_rests)) in
      let front_at : slice_get fronts is.place ≡ Some front = slice_get-get_or fronts is.place [] (omega (arith, within, cut.many_fronts, cut.many_rests)) in
      let joined = cut.joined is.place list front is.list at front_at is.there in
      record { place = is.place; list = list; there = at; has = subst (In e) (sym joined) (in_right e front is.list is.has) }

  in_either : (e : Entry O R) → InSome lists e → InSome fronts e ⊎ InSome rests e
  in_either e is =
      let within = slice_get_within lists is.place is.list is.there in
      let front = get_or fronts is.place [] in
      let rest = get_or rests is.place [] in
      let front_at : slice_get fronts is.place ≡ Some front = slice_get-get_or fronts is.place [] (omega (arith, within, cut.many_fronts)) in
      let rest_at : slice_get rests is.place ≡ Some rest = slice_get-get_or rests is.place [] (omega (arith, within, cut.many_rests)) in
      let joined = cut.joined is.place is.list front rest is.there front_at rest_at in
      elim (in-append e front rest (subst (In e) joined is.has)) [
        | inl early ↦ inl (record { place = is.place; list = front; there = front_at; has = early })
        | inr late ↦ inr (record { place = is.place; list = rest; there = rest_at; has = late })
      ]

  module _ (front rest : List (Entry O R)) (was : IsTrace fronts front) (is : IsTrace rests rest) where
    front_before : (e : Entry O R) → In e front → AllByRecursion (IsBefore e) rest
    front_before e has = all_in (IsBefore e) rest (λ f late. inl (omega (arith, cut.early e (was.only e has), cut.late f (is.only f late))))

    whole_trace : IsTrace lists (front ++ rest)
    whole_trace = record {
      ordered = Ordered-append IsBefore front rest was.ordered is.ordered (all_in (λ e. AllByRecursion (IsBefore e) rest) front front_before);
      all = λ e some. elim (in_either e some) [ inl early ↦ in_left e front rest (was.all e early) | inr late ↦ in_right e front rest (is.all e late) ];
      only = λ e has. elim (in-append e front rest has) [ inl early ↦ of_front e (was.only e early) | inr late ↦ of_rest e (is.only e late) ];
    }

pub sections_merged : {O R : Type 0} (last : ℕ) (lists fronts rests : List (List (Entry O R))) (before section : List (Entry O R)) → AreCutAt last lists fronts rests
    → IsMerged fronts before → IsMergedFrom (length before + 1) rests section → IsMerged lists (before ++ section)
sections_merged last lists fronts rests before section cut was is =
    let many : length before ≡ length was.trace = ap length was.numbered ∙ length-numbered_from 1 was.trace in
    let next : length before + 1 ≡ 1 + length was.trace = omega (arith, many) in
    let behind : section ≡ numbered_from (1 + length was.trace) is.trace = is.numbered ∙ ap (λ n. numbered_from n is.trace) next in
    record {
      trace = was.trace ++ is.trace;
      just = whole_trace last lists fronts rests cut was.trace is.trace was.just is.just;
      numbered =
          ap (λ l. l ++ section) was.numbered
          ∙ (ap (λ l. numbered_from 1 was.trace ++ l) behind ∙ sym (numbered_from-append 1 was.trace is.trace));
    }
