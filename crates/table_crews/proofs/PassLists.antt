-- Lists of passes: those of a system that has started hold no cell, and passes in their places at rest may be finished.
use Rattle.std.proofs.Common.{◌≡◌, ◌∙◌, ℕ, zero, suc, ◌+◌, ◌==◌, leb, true, List, [], ◌∷◌, ◌++◌, Option, Some, None, length, take, drop, refl, sym, ap, subst, arith}
use Rattle.std.specs.List.{slice_get}
use Rattle.std.specs.Option.{option_to_list}
use Rattle.std.specs.Prelude.{IfSome}
use Rattle.std.proofs.lemmas.Bool.{le-leb, eqb-true, and_parts}
use Rattle.std.proofs.lemmas.List.{length-map}
use Rattle.std.proofs.lemmas.Option.{same_Some}
use Rattle.std.proofs.Math.Seq.{take-append_seam}
use Rattle.k42_shapes.specs.Shapes.{shared_and_spread}
use Rattle.co_any.specs.declared.layout.AnyLayout.{AnyLayout}
use Rattle.k42_board.specs.Seen.{SysSeen, PassSeen, is_at_rest}
use Rattle.k42_board.specs.Starting.{IsStarted}
use Rattle.k42_board.specs.declared.view.PassView.{PassView}
use Rattle.k42_rule.specs.Finishing.{AreAtRest, IsPassAtRest, with_none_kept}
use Rattle.k42_rule.proofs.GivenLists.{given_rest}
use Rattle.k42_rule.specs.Tags.{HaveTags}
use Rattle.table_crews.specs.Ready.{HoldsNoCell, HoldNoCells, rests_at, rest_from}

-- all layouts of this type have all tags
pub any_tags : (layouts : List AnyLayout) → HaveTags (λ (layout : AnyLayout). shared_and_spread) (λ (layout : AnyLayout) tag. leb tag 2) layouts
any_tags layouts o layout e tag few = le-leb tag 2 few

module _ {L P : Type 0} (sys : SysSeen L) where
  -- passes with another one behind them

  front_free : {O R : Type 0} (front back : List (PassSeen P O R)) → HoldNoCells sys (front ++ back) → HoldNoCells sys front
  front_free [] back free = tt
  front_free (pass ∷ front) back free = (free.0, front_free front back free.1)

  back_free : {O R : Type 0} (front back : List (PassSeen P O R)) → HoldNoCells sys (front ++ back) → HoldNoCells sys back
  back_free [] back free = free
  back_free (pass ∷ front) back free = back_free front back free.1

  some_free : {O R : Type 0} (out : Option (PassSeen P O R)) → HoldNoCells sys (option_to_list out) → IfSome out (λ pass. HoldsNoCell sys pass)
  some_free None free = tt
  some_free (Some pass) free = free.0

  pub others_free : {O R : Type 0} (passes front : List (PassSeen P O R)) (out : Option (PassSeen P O R)) → HoldNoCells sys passes → passes ≡ front ++ option_to_list out → HoldNoCells sys front
  others_free passes front out free e = front_free front (option_to_list out) (subst (HoldNoCells sys) e free)

  pub last_free : {O R : Type 0} (passes front : List (PassSeen P O R)) (out : Option (PassSeen P O R)) → HoldNoCells sys passes → passes ≡ front ++ option_to_list out
      → IfSome out (λ pass. HoldsNoCell sys pass)
  last_free passes front out free e = some_free out (back_free front (option_to_list out) (subst (HoldNoCells sys) e free))

  all_free : {O R : Type 0} (passes : List (PassSeen P O R)) → ((c : ℕ) (pass : PassSeen P O R) → slice_get passes c ≡ Some pass → HoldsNoCell sys pass) → HoldNoCells sys passes
  all_free [] each = tt
  all_free (pass ∷ passes) each = (each 0 pass refl, all_free passes (λ c other at. each (suc c) other at))

  -- the passes of a system that has started are new
  pub new_free : {O R : Type 0} (layouts : List L) (procs : ℕ) (callers : List ℕ) (passes : List (PassSeen P O R)) → IsStarted layouts procs callers sys passes → HoldNoCells sys passes
  new_free {O} {R} layouts procs callers passes is =
      all_free passes (λ c pass e. let new = (is.dealt.each c pass e).new in record {
        ours = is.passes_are c pass e;
        held = ap (λ (v : PassView P O R). v.taker.held) new;
        notes = ap (λ (v : PassView P O R). v.notes) new;
      })

  -- those in their places that rest may be finished
  each_rests : {O R : Type 0} (first : ℕ) (passes : List (PassSeen P O R)) → HoldNoCells sys passes → rest_from first passes ≡ true → (c : ℕ) (pass : PassSeen P O R) → slice_get passes c ≡ Some pass
      → IsPassAtRest sys (first + c) pass
  each_rests first [] free rest c pass at = absurd (cc)
  each_rests first (here ∷ passes) free rest zero pass at =
      let one = and_parts (here.view.number == first) (is_at_rest here.view) (and_parts (rests_at first here) (rest_from (first + 1) passes) rest).0 in
      let number : here.view.number ≡ first + 0 = eqb-true here.view.number first one.0 ∙ (let same : first ≡ first + 0 = omega arith in same) in
      subst (IsPassAtRest sys (first + 0)) (same_Some here pass at) (record { ours = free.0.ours.table; number = number; rests = one.1 })
  each_rests first (here ∷ passes) free rest (suc c) pass at =
      let others = (and_parts (rests_at first here) (rest_from (first + 1) passes) rest).1 in
      subst (λ n. IsPassAtRest sys n pass) (omega arith) (each_rests (first + 1) passes free.1 others c pass at)

  pub at_rest : {O R : Type 0} (passes : List (PassSeen P O R)) → length passes ≡ length sys.callers → HoldNoCells sys passes → rest_from 0 passes ≡ true → AreAtRest sys passes
  at_rest passes many free rest = record { many = many; each = λ c pass e. subst (λ n. IsPassAtRest sys n pass) (omega arith) (each_rests 0 passes free rest c pass e) }

  -- so may they once they have given away what they kept
  pub given_at_rest : {O R : Type 0} (n : ℕ) (passes given : List (PassSeen P O R)) → n ≡ length passes → given ≡ with_none_kept passes → AreAtRest sys passes
      → AreAtRest sys (take n (given ++ drop (length given) passes))
  given_at_rest n passes given long is rest =
      let same : length given ≡ length passes = ap length is ∙ length-map passes _ in
      let back : take n (given ++ drop (length given) passes) ≡ with_none_kept passes =
      ap (λ k. take k (given ++ drop (length given) passes)) (long ∙ sym same) ∙ take-append_seam given (drop (length given) passes) ∙ is in
      subst (AreAtRest sys) (sym back) (given_rest sys passes rest)
