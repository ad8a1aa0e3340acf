-- The passes of a system that has started are free, and free passes in order may be closed.
use Rattle.std.proofs.Common.{◌≡◌, ◌↔◌, ◌==◌, ◌∙◌, ℕ, zero, suc, ◌+◌, Bool, ltb, true, get_or, List, [], ◌∷◌, ◌++◌, Option, Some, None, length, map, refl, sym, ap, subst, add-zero, zero-add, arith}
use Rattle.std.specs.List.{slice_get, list_all, range_with_len}
use Rattle.std.specs.Option.{option_to_list}
use Rattle.std.specs.Prelude.{IfSome}
use Rattle.std.proofs.lemmas.Bool.Decides.{nat_tests}
use Rattle.std.proofs.lemmas.List.{length-map}
use Rattle.std.proofs.lemmas.List.FromFn.{length-range_with_len}
use Rattle.std.proofs.lemmas.Option.{same_Some}
use Rattle.k42_board.specs.Plan.{LayoutWords}
use Rattle.k42_board.specs.Seen.{PassSeen, is_at_rest}
use Rattle.k42_board.specs.declared.keep.Keep.TheVariants.{All, Sections}
use Rattle.k42_board.specs.declared.view.PassView.{PassView}
use Rattle.k42_runtime.specs.Histories.{MayClose, MayEnd}
use Rattle.k42_runtime.specs.Plans.{PlanSeen}
use Rattle.k42_runtime.specs.Swaps.{SwapSeen, IsAtStage, is_over}
use Rattle.k42_runtime.specs.Systems.{SystemSeen, IsAtRest, IsPlanned, HasStarted}
use Rattle.k42_runtime.specs.declared.swaps.Stage.{Stage}
use Rattle.k42_runtime.specs.declared.swaps.Stage.TheVariants as stages
use Rattle.k42_board.specs.Skipping.{greatest_clock}
use Rattle.k42_kinds.specs.declared.entry.Entry.{Entry}
use Rattle.k42_places.specs.Places.{EachPlace}
use Rattle.k42_shapes.specs.declared.shape.Shape.{Shape}
use Rattle.k42_places.proofs.EachPlaces.{EachPlace-list_all}
use Rattle.k42_rule.specs.Finishing.{views_of}
use Rattle.k42_rule.specs.Sections.{AreEven, given_all, last_section, skipped}
use Rattle.k42_rule.proofs.RaisedClocks.{at_first}
use Rattle.k42_runtime.specs.Sections.{IsSection, MaySection}
use Rattle.k42_crews.specs.Ready.{IsFree, AreFree, AreAll, MayGive, callers_of}

-- those in front of the last one are free, and so is that
pub front_free : {L P O R : Type 0} (system : SystemSeen L) (front back : List (PassSeen P O R)) → AreFree system (front ++ back) → AreFree system front
front_free system [] back free = tt
front_free system (pass ∷ front) back free = (free.0, front_free system front back free.1)

back_free : {L P O R : Type 0} (system : SystemSeen L) (front back : List (PassSeen P O R)) → AreFree system (front ++ back) → AreFree system back
back_free system [] back free = free
back_free system (pass ∷ front) back free = back_free system front back free.1

some_free : {L P O R : Type 0} (system : SystemSeen L) (last : Option (PassSeen P O R)) → AreFree system (option_to_list last) → IfSome last (λ pass. IsFree system pass)
some_free system None free = tt
some_free system (Some pass) free = free.0

pub last_free : {L P O R : Type 0} (system : SystemSeen L) (front : List (PassSeen P O R)) (last : Option (PassSeen P O R)) → AreFree system (front ++ option_to_list last) → IfSome last (λ pass. IsFree system pass)
last_free system front last free = some_free system last (back_free system front (option_to_list last) free)

all_free : {L P O R : Type 0} (system : SystemSeen L) (passes : List (PassSeen P O R)) → ((i : ℕ) (pass : PassSeen P O R) → slice_get passes i ≡ Some pass → IsFree system pass) → AreFree system passes
all_free system [] each = tt
all_free system (pass ∷ passes) each = (each 0 pass refl, all_free system passes (λ i other at. each (suc i) other at))

pub started_free : {S L P O R : Type 0} (words : LayoutWords S L P O R) (plan : PlanSeen L) (system : SystemSeen L) (passes : List (PassSeen P O R)) → HasStarted words plan system passes → AreFree system passes
started_free words plan system passes is =
    all_free system passes (λ i pass at.
    let first = is.each i pass at in record { here = first.here; rests = ap (λ (v : PassView _ _ _). is_at_rest v) first.new })

-- passes that are counted up from a first one
counted_up : {P O R : Type 0} (first : ℕ) (passes : List (PassSeen P O R)) → ((i : ℕ) (pass : PassSeen P O R) → slice_get passes i ≡ Some pass → pass.view.number ≡ first + i)
    → callers_of passes ≡ range_with_len first (length passes)
counted_up first [] each = refl
counted_up first (pass ∷ passes) each =
    let here : pass.view.number ≡ first = each 0 pass refl ∙ add-zero first in
    let others : callers_of passes ≡ range_with_len (first + 1) (length passes) =
    counted_up (first + 1) passes (λ i other at. each (suc i) other at ∙ (let same : first + suc i ≡ first + 1 + i = omega arith in same)) in
    cc

pub started_all : {S L P O R : Type 0} (words : LayoutWords S L P O R) (plan : PlanSeen L) (system : SystemSeen L) (passes : List (PassSeen P O R)) → HasStarted words plan system passes → AreAll system passes
started_all words plan system passes is =
    let up = counted_up 0 passes (λ i pass at. ap (λ (v : PassView _ _ _). v.number) (is.each i pass at).new ∙ sym (zero-add i)) in
    let many : length passes ≡ length system.plan.callers = is.many ∙ sym (ap (λ (p : PlanSeen _). length p.callers) is.plan_is) in
    subst (λ n. callers_of passes ≡ range_with_len 0 n) many up

number_at : {P O R : Type 0} (first n : ℕ) (passes : List (PassSeen P O R)) → callers_of passes ≡ range_with_len first n → (i : ℕ) (pass : PassSeen P O R) → slice_get passes i ≡ Some pass
    → pass.view.number ≡ first + i
number_at first n [] all i pass at = absurd (cc)
number_at first zero (here ∷ passes) all i pass at = absurd (cc)
number_at first (suc n) (here ∷ passes) all zero pass at =
    let same : here ≡ pass = same_Some here pass at in let number : here.view.number ≡ first = cc in
    ap (λ (p : PassSeen _ _ _). p.view.number) (sym same) ∙ number ∙ sym (add-zero first)
number_at first (suc n) (here ∷ passes) all (suc i) pass at =
    let others : callers_of passes ≡ range_with_len (first + 1) n = cc in
    number_at (first + 1) n passes others i pass at ∙ (let same : first + 1 + i ≡ first + suc i = omega arith in same)

free_at : {L P O R : Type 0} (system : SystemSeen L) (passes : List (PassSeen P O R)) → AreFree system passes → (i : ℕ) (pass : PassSeen P O R) → slice_get passes i ≡ Some pass → IsFree system pass
free_at system [] free i pass at = absurd (cc)
free_at system (here ∷ passes) free zero pass at = subst (λ (p : PassSeen _ _ _). IsFree system p) (same_Some here pass at) free.0
free_at system (here ∷ passes) free (suc i) pass at = free_at system passes free.1 i pass at

pub many_all : {L P O R : Type 0} (system : SystemSeen L) (passes : List (PassSeen P O R)) → AreAll system passes → length passes ≡ length system.plan.callers
many_all system passes all =
    sym (length-map passes (λ (p : PassSeen _ _ _). p.view.number)) ∙ ap (λ (numbers : List ℕ). length numbers) all ∙ length-range_with_len 0 (length system.plan.callers)

pub may_end : {L P O R : Type 0} (system : SystemSeen L) (passes : List (PassSeen P O R)) → AreFree system passes → AreAll system passes → MayEnd system passes
may_end system passes free all = record {
  many = many_all system passes all;
  each = λ i pass at.
      let is = free_at system passes free i pass at in
      record {
        ours = is.here.ours.table;
        number = number_at 0 (length system.plan.callers) passes all i pass at ∙ zero-add i;
        rests = is.rests;
      };
}

pub may_close : {L P O R : Type 0} (is_live : L → Bool) (system : SystemSeen L) (passes : List (PassSeen P O R)) → IsPlanned is_live system → system.plan.keep ≡ All → AreFree system passes
    → AreAll system passes → MayClose system passes
may_close is_live system passes planned keeps free all = record {
  may_end = may_end system passes free all;
  all = λ i pass at. (free_at system passes free i pass at).here.ours.keep ∙ planned.keep ∙ keeps;
}

pub may_section : {L P O R : Type 0} (system : SystemSeen L) (passes : List (PassSeen P O R)) → system.sys.keep ≡ Sections → AreFree system passes → AreAll system passes → AreEven passes → MaySection system passes
may_section system passes keeps free all even = record {
  may_end = may_end system passes free all;
  keeps = λ i pass at. (free_at system passes free i pass at).here.ours.keep ∙ keeps;
  even = even;
}

-- once they have given a section
given_free : {L P O R : Type 0} (system : SystemSeen L) (stamp : ℕ) (passes : List (PassSeen P O R)) → AreFree system passes → AreFree system (map given_all (map (skipped stamp) passes))
given_free system stamp [] free = tt
given_free system stamp (pass ∷ passes) free =
    let here = free.0.here in (
      record {
        here = record {
          ours = record {
            table = here.ours.table;
            proc = here.ours.proc;
            waits = here.ours.waits;
            objects = here.ours.objects;
            shapes = here.ours.shapes;
            spans = here.ours.spans;
            queue = here.ours.queue;
            keep = here.ours.keep;
          };
          out = here.out;
          held = here.held;
          notes = here.notes;
        };
        rests = free.0.rests;
      },
      given_free system stamp passes free.1,
    )

given_callers : {P O R : Type 0} (stamp : ℕ) (passes : List (PassSeen P O R)) → callers_of (map given_all (map (skipped stamp) passes)) ≡ callers_of passes
given_callers stamp [] = refl
given_callers stamp (pass ∷ passes) = ap (λ numbers. pass.view.number ∷ numbers) (given_callers stamp passes)

-- of that only the clocks are others, and what is given
module _ {L P O R : Type 0} (system : SystemSeen L) (old new : List (PassSeen P O R)) (section : List (Entry O R)) (is : IsSection old new section) where
  pub section_free : AreFree system old → AreFree system new
  section_free free = subst (AreFree system) (sym is.passes) (given_free system (greatest_clock (views_of old)) old free)

  pub section_callers : callers_of new ≡ callers_of old
  section_callers = ap callers_of is.passes ∙ given_callers (greatest_clock (views_of old)) old

  pub give_again : MaySection system new → MayGive system old → MayGive system new
  give_again again may = record { all = section_callers ∙ may.all; keeps = may.keeps; even = again.even }

-- whether the last section was one of all, place by place
all_since : {P O R : Type 0} (passes : List (PassSeen P O R)) (since : ℕ) → EachPlace (λ c pass. pass.keep.since ≡ since) passes → list_all (λ pass. pass.keep.since == since) passes ≡ true
all_since [] since each = refl
all_since (pass ∷ passes) since each =
    let here = each 0 pass refl in let others = all_since passes since (λ i x at. each (suc i) x at) in grind (arith, nat_tests, here, others)

is_since : {P O R : Type 0} (pass : PassSeen P O R) (since : ℕ) → (pass.keep.since == since) ≡ true → pass.keep.since ≡ since
is_since pass since tested = grind (arith, nat_tests, tested)

pub even_tested : {P O R : Type 0} (passes : List (PassSeen P O R)) (first : PassSeen P O R) (since : ℕ) (even : Bool) → true ≡ ltb 0 (length passes) → first ≡ get_or passes 0 first → since ≡ first.keep.since
    → even ≡ list_all (λ pass. pass.keep.since == since) passes → (even ≡ true) ↔ AreEven passes
even_tested passes first since even some is same tests =
    let at = at_first passes first some is in
    let last : last_section passes ≡ since = ap last_section at.1 ∙ sym same in (
      λ yes i pass here. is_since pass since (EachPlace-list_all (λ x. x.keep.since == since) passes (sym tests ∙ yes) i pass here) ∙ sym last,
      λ each. tests ∙ all_since passes since (λ i pass here. each i pass here ∙ last),
    )

-- a swap that is over has left its pass with nothing under way
pub over_rests : {P O R : Type 0} (stage : Stage) (objects : List (List Shape)) (swap : SwapSeen) (pass : PassSeen P O R) → is_over stage ≡ true → IsAtStage stage objects swap pass → IsAtRest pass.view
over_rests stages.Over objects swap pass over at = at
over_rests stages.New objects swap pass over at = absurd (cc)
over_rests stages.Waiting objects swap pass over at = absurd (cc)
over_rests stages.Shut objects swap pass over at = absurd (cc)
over_rests stages.Marking objects swap pass over at = absurd (cc)
