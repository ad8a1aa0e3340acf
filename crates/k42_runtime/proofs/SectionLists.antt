-- A section of the passes' lists, and the passes after it.
use Rattle.std.proofs.Common.{◌≡◌, ℕ, ◌+◌, List, ◌++◌, length, map, sym, ap, ◌∙◌, subst}
use Rattle.std.proofs.lemmas.List.{length-map}
use Rattle.k42_kinds.specs.declared.entry.Entry.{Entry}
use Rattle.k42_places.proofs.EachPlaces.{EachPlace-map}
use Rattle.k42_board.specs.Skipping.{greatest_clock}
use Rattle.k42_board.specs.declared.keep.Keep.TheVariants.{Sections}
use Rattle.k42_rule.specs.Finishing.{IsPassAtRest, lists_in, views_of}
use Rattle.k42_rule.specs.Sections.{AreCut, fronts_in, given_all, last_section, rests_in, sectioned, skipped}
use Rattle.k42_rule.proofs.CutLists.{sectioned_lists, since_even}
use Rattle.k42_rule.proofs.RaisedClocks.{all_even}
use Rattle.k42_stamp.specs.Lists.{IsMerged, IsMergedFrom}
use Rattle.k42_stamp.specs.Merging.{entries_in}
use Rattle.k42_stamp.specs.Sections.{AreCutAt}
use Rattle.k42_board.specs.Seen.{PassSeen}
use Rattle.k42_runtime.specs.Sections.{IsSection, MaySection}
use Rattle.k42_runtime.specs.Systems.{SystemSeen}
use Rattle.k42_runtime.proofs.Closed.{MergeLaw}
use Rattle.k42_runtime.proofs.MergedTotals.{merged_total}

-- the next section may be given at once
pub may_again : {L P O R : Type 0} (system : SystemSeen L) (passes : List (PassSeen P O R)) → MaySection system passes → MaySection system (sectioned passes)
may_again {P = P} {O = O} {R = R} system passes may =
    let stamp = greatest_clock (views_of passes) in
    let raised = map (skipped stamp) passes in
    record {
      may_end = record {
        many = length-map raised given_all ∙ length-map passes (skipped stamp) ∙ may.may_end.many;
        each =
            EachPlace-map (IsPassAtRest system.sys) given_all raised
            (EachPlace-map (λ c (pass : PassSeen P O R). IsPassAtRest system.sys c (given_all pass)) (skipped stamp) passes
            (λ c pass at. let was = may.may_end.each c pass at in record { ours = was.ours; number = was.number; rests = was.rests }));
      };
      keeps =
          EachPlace-map (λ c (pass : PassSeen P O R). pass.keep.what ≡ Sections) given_all raised
          (EachPlace-map (λ c (pass : PassSeen P O R). pass.keep.what ≡ Sections) (skipped stamp) passes may.keeps);
      even = since_even stamp (sectioned passes) (EachPlace-map (λ c (pass : PassSeen P O R). pass.keep.since ≡ stamp) given_all raised (all_even passes));
    }

-- the law that sections merge to the whole
abbrev pub JoinLaw : Type 0 → Type 0 → Type 0
JoinLaw O R =
    (last : ℕ) (lists fronts rests : List (List (Entry O R))) (before section : List (Entry O R)) → AreCutAt last lists fronts rests → IsMerged fronts before
    → IsMergedFrom (length before + 1) rests section → IsMerged lists (before ++ section)

pub is_section : {P O R : Type 0} (passes new : List (PassSeen P O R)) (section : List (Entry O R)) (first : ℕ) → MergeLaw O R → JoinLaw O R → AreCut passes
    → first ≡ entries_in (fronts_in passes) + 1 → IsMergedFrom first (rests_in passes) section → new ≡ sectioned passes → IsSection passes new section
is_section {P = P} {O = O} {R = R} passes new section first merges joins cut numbered merged is =
    let merge = merges (fronts_in passes) cut.fronts in
    let many : first ≡ length merge.0 + 1 = numbered ∙ ap (λ n. n + 1) (sym (merged_total 1 (fronts_in passes) merge.0 cut.fronts merge.1)) in
    let later = subst (λ n. IsMergedFrom n (rests_in passes) section) many merged in
    let whole = joins (last_section passes) (lists_in passes) (fronts_in passes) (rests_in passes) merge.0 section cut.cut merge.1 later in
    let same : lists_in new ≡ lists_in passes =
    ap (λ (all : List (PassSeen P O R)). lists_in all) is ∙ sectioned_lists (greatest_clock (views_of passes)) passes in
    record {
      before = merge.0;
      fronts = merge.1;
      later = later;
      whole = subst (λ lists. IsMerged lists (merge.0 ++ section)) (sym same) whole;
      passes = is;
    }
