-- What sections make together: one history, in which each goes on where the last one ended.
use Rattle.std.proofs.Common.{◌≡◌, ℕ, suc, Bool, List, [], ◌∷◌, ◌++◌, length, map, take, refl, sym, ap, ◌∙◌, subst, arith}
use Rattle.std.proofs.Math.Seq.{take-append_seam}
use Rattle.std.proofs.lemmas.List.{take_all}
use Rattle.atomic_table.specs.Table.{State}
use Rattle.k42_kinds.specs.Legal.{IsLegalHistoryOf}
use Rattle.k42_kinds.specs.OneThread.{OneThread}
use Rattle.k42_stamp.specs.Layouts.{Layouts}
use Rattle.k42_kinds.specs.declared.entry.Entry.{Entry}
use Rattle.k42_places.specs.Places.{EachPlace}
use Rattle.k42_places.proofs.EachPlaces.{EachPlace-map}
use Rattle.k42_board.specs.Cells.{Slot}
use Rattle.k42_board.specs.Rule.{Ruled}
use Rattle.k42_board.specs.Seen.{PassSeen, Keeping}
use Rattle.k42_board.specs.Skipping.{greatest_clock}
use Rattle.k42_board.specs.declared.view.View.{View}
use Rattle.k42_rule.specs.Finishing.{lists_in, views_of}
use Rattle.k42_rule.specs.Sections.{fronts_in, given_all, skipped}
use Rattle.k42_rule.proofs.Ending.{last_seated}
use Rattle.k42_stamp.specs.Lists.{IsMerged, IsMergedFrom}
use Rattle.k42_stamp.specs.Orders.{In}
use Rattle.k42_runtime.specs.Histories.{HasHistory, IsClosed, MayEnd}
use Rattle.k42_runtime.specs.Plans.{PlanSeen}
use Rattle.k42_runtime.specs.Sections.{AreShown, HasDrawnOn, HaveDrawnOn, HaveGiven, IsSection, end_to_end}
use Rattle.k42_runtime.specs.Systems.{IsPlanned, SystemSeen}
use Rattle.k42_runtime.proofs.Closed.{TraceLaw, at_rest, closed}
use Rattle.k42_runtime.proofs.Traces.{homes_in}

-- what is needed of the law that a merge is one
abbrev pub OnceLaw : Type 0 → Type 0 → Type 0
OnceLaw O R = (first : ℕ) (lists : List (List (Entry O R))) (one other : List (Entry O R)) → IsMergedFrom first lists one → IsMergedFrom first lists other → one ≡ other

-- lists without entries merge to none
none_merged : {O R : Type 0} (lists : List (List (Entry O R))) → EachPlace (λ place list. list ≡ []) lists → IsMerged lists []
none_merged lists none = record {
  trace = [];
  just = record {
    ordered = tt;
    all = λ e some. subst (In e) (none some.place some.list some.there) some.has;
    only = λ e has. absurd has;
  };
  numbered = refl;
}

-- where a pass has only drawn on since a section, it has given what it had drawn until then
given_so_far : {P O R : Type 0} (pass then : PassSeen P O R) → HasDrawnOn (given_all pass) then → take then.keep.given then.view.taker.mine ≡ pass.view.taker.mine
given_so_far pass then on =
    ap (λ (keep : Keeping). take keep.given then.view.taker.mine) on.keep
    ∙ ap (take (length pass.view.taker.mine)) on.drawn
    ∙ take-append_seam pass.view.taker.mine on.more

fronts_since : {P O R : Type 0} (raised later : List (PassSeen P O R)) → HaveDrawnOn (map given_all raised) later → fronts_in later ≡ lists_in (map given_all raised)
fronts_since [] [] on = refl
fronts_since [] (then ∷ later) on = let many = on.many in absurd (omega (arith, many))
fronts_since (pass ∷ raised) [] on = let many = on.many in absurd (omega (arith, many))
fronts_since (pass ∷ raised) (then ∷ later) on =
    let here = given_so_far pass then (on.each 0 (given_all pass) then refl refl) in
    let many = on.many in
    let others = fronts_since raised later (record { many = omega (arith, many); each = λ c one other. on.each (suc c) one other }) in
    λ i. here i ∷ others i

pub laid_out : {P O R : Type 0} → OnceLaw O R → (sections : List (List (Entry O R))) (passes : List (PassSeen P O R)) → HaveGiven sections passes → IsMerged (fronts_in passes) (end_to_end sections)
laid_out {P = P} {O = O} {R = R} once [] passes none =
    none_merged (fronts_in passes)
    (EachPlace-map (λ c list. list ≡ []) (λ (pass : PassSeen P O R). take pass.keep.given pass.view.taker.mine) passes
    (λ c pass at. ap (λ n. take n pass.view.taker.mine) (none c pass at)))
laid_out {P = P} {O = O} {R = R} once (section ∷ sections) passes given =
    let old = given.0 in
    let new = given.1 in
    let is : IsSection old new section = given.3 in
    let on : HaveDrawnOn new passes = given.4 in
    let raised = map (skipped (greatest_clock (views_of old))) old in
    let fronts : fronts_in passes ≡ lists_in new =
    fronts_since raised passes (subst (λ (ps : List (PassSeen P O R)). HaveDrawnOn ps passes) is.passes on) ∙ ap (λ (ps : List (PassSeen P O R)). lists_in ps) (sym is.passes) in
    let same : is.before ≡ end_to_end sections = once 1 (fronts_in old) is.before (end_to_end sections) is.fronts (laid_out once sections old given.2) in
    subst (λ lists. IsMerged lists (end_to_end sections ++ section)) (sym fronts)
    (subst (λ (so_far : List (Entry O R)). IsMerged (lists_in new) (so_far ++ section)) same is.whole)

-- a pass that has given all has given all that it has drawn
all_given : {P O R : Type 0} (raised : List (PassSeen P O R)) → fronts_in (map given_all raised) ≡ lists_in (map given_all raised)
all_given [] = refl
all_given (pass ∷ raised) = λ i. take_all (length pass.view.taker.mine) pass.view.taker.mine (omega arith) i ∷ all_given raised i

pub none_left : {P O R : Type 0} (old new : List (PassSeen P O R)) (section : List (Entry O R)) → IsSection old new section → fronts_in new ≡ lists_in new
none_left {P = P} {O = O} {R = R} old new section is =
    ap (λ (ps : List (PassSeen P O R)). fronts_in ps) is.passes
    ∙ all_given (map (skipped (greatest_clock (views_of old))) old)
    ∙ ap (λ (ps : List (PassSeen P O R)). lists_in ps) (sym is.passes)

pub all_make_it : {S L P O R : Type 0} (object_of : L → OneThread S O R) → OnceLaw O R → (plan : PlanSeen L) (sections : List (List (Entry O R))) (old new : List (PassSeen P O R)) (section : List (Entry O R)) → HaveGiven sections old
    → IsSection old new section → HasHistory object_of plan (lists_in new) → IsClosed object_of plan (lists_in new) (record { entries = end_to_end sections ++ section; plan = plan })
all_make_it {O = O} {R = R} object_of once plan sections old new section given is has =
    let same : is.before ≡ end_to_end sections = once 1 (fronts_in old) is.before (end_to_end sections) is.fronts (laid_out once sections old given) in
    let whole : IsMerged (lists_in new) (end_to_end sections ++ section) = subst (λ (so_far : List (Entry O R)). IsMerged (lists_in new) (so_far ++ section)) same is.whole in
    let entries : has.0.entries ≡ end_to_end sections ++ section = once 1 (lists_in new) has.0.entries (end_to_end sections ++ section) has.1.merged whole in
    let history : has.0 ≡ record { entries = end_to_end sections ++ section; plan = plan } = λ i. record { entries = entries i; plan = has.1.plan_is i } in
    subst (IsClosed object_of plan (lists_in new)) history has.1

pub sections_legal : {S L P O R : Type 0} (F : (ℕ → ℕ) → Layouts S L P O R) (is_live : L → Bool) (system : SystemSeen L) → IsPlanned is_live system → TraceLaw F system.sys.procs
    → (old passes : List (PassSeen P O R)) (section : List (Entry O R)) (is : IsSection old passes section) → MayEnd system passes
    → (table : State (Slot P O R) (View P O R)) → Ruled (F (homes_in system)) system.sys.layouts (length system.sys.callers) table → AreShown table passes
    → IsLegalHistoryOf (F (homes_in system)).object_of system.plan.objects (is.before ++ section)
sections_legal F is_live system planned law old passes section is may table ruled shown =
    let last = last_seated (F (homes_in system)) system.sys.layouts system.sys passes (at_rest is_live system passes planned may) table ruled shown in
    (closed F is_live system planned law (lists_in passes) (is.before ++ section) last is.whole).legal
