-- The five numbers of a lawful history of a generated script.
use Rattle.std.proofs.Common.{◌≡◌, ℕ, zero, suc, ◌+◌, ◌-◌, ◌/◌, ◌%◌, ◌^◌, ◌<◌, ◌≤◌, Bool, true, false, cond, not, ◌&&◌, List, [], sum_by, count_by, ltb, refl, sym, ap, ◌∙◌, arith}
use Rattle.std.specs.Prelude.{◌==◌}
use Rattle.std.specs.List.{list_any, range_with_len}
use Rattle.std.specs.FinMap as finite
use Rattle.std.proofs.lemmas.List.Elements.{All-from_recursion}
use Rattle.std.proofs.lemmas.List.Sums.{sum_by-le}
use Rattle.load_totals.proofs.Shares.{everywhere}
use Rattle.std.proofs.lemmas.Bool.{cond_both, eqb-true, ne_eqb}
use Rattle.std.proofs.lemmas.List.FromFn.{length-range_with_len}
use Rattle.k42_limits.specs.declared.TheConstants.{PAGES}
use Rattle.k42_kinds.specs.Histories.{is_call}
use Rattle.k42_kinds.specs.Pages.{dirty_count}
use Rattle.k42_kinds.specs.declared.operation.Op.{Op}
use Rattle.k42_kinds.specs.declared.operation.Reply.{Reply}
use Rattle.k42_kinds.specs.declared.entry.Act.{Act}
use Rattle.k42_kinds.specs.declared.entry.Entry.{Entry}
use Rattle.script_text.specs.Generated.{drawn, value_at, generated}
use Rattle.script_text.specs.Lawful.{IsLawful}
use Rattle.load_totals.specs.Loads.{steps, is_swap, calls_object, swaps_due, amount_at, binds, writes, summary_due, no_tally, tallied, summary_of}
use Rattle.load_totals.proofs.Counts.{mark, count_all, sum_by_same, list_any_same, count_by_alike, sum_by_plus, any_by_count, count_over_range}
use Rattle.load_totals.proofs.StepActs.{asked, act_at, sum_over_steps}
use Rattle.load_totals.proofs.SwapsDone.{is_done, asks, each_is_done}
use Rattle.load_totals.proofs.Tallies.{amount_of, binds_name, writes_page, is_bound, is_marked, name_test, IsTallyOf, none, all_more}

-- what an act does, by whether it swaps, adds or binds
call_or_swap : (swaps adds binds : Bool) (k value : ℕ) → 1 ≡ mark (is_call (asked swaps adds binds k value)) + mark swaps
call_or_swap true adds binds k value = refl
call_or_swap false true binds k value = refl
call_or_swap false false true k value = refl
call_or_swap false false false k value = refl

amount_asked : (swaps adds binds : Bool) (k value : ℕ) → amount_of (asked swaps adds binds k value) ≡ cond (not swaps && adds) value 0
amount_asked true adds binds k value = refl
amount_asked false true binds k value = refl
amount_asked false false true k value = refl
amount_asked false false false k value = refl

name_asked : (name : ℕ) → name < 100 → (swaps adds binds : Bool) (k value : ℕ) → (adds ≡ true → binds ≡ false) → binds_name name (asked swaps adds binds k value) ≡ ((not swaps && binds) && (value % 100 == name))
name_asked name less true adds binds k value apart = refl
name_asked name less false true binds k value apart = ap (λ b. b && (value % 100 == name)) (sym (apart refl))
name_asked name less false false true k value apart = name_test (value % 100) name (value % 100 == name) refl (omega arith) less
name_asked name less false false false k value apart = refl

page_asked : (page : ℕ) (swaps adds binds : Bool) (k value : ℕ) → writes_page page (asked swaps adds binds k value) ≡ ((not swaps && (not adds && not binds)) && (value % PAGES == page))
page_asked page true adds binds k value = refl
page_asked page false true binds k value = refl
page_asked page false false true k value = refl
page_asked page false false false k value = refl

-- the turns
one_turn : (turn : ℕ) → (turn == 0) ≡ true → (turn == 1) ≡ false
one_turn turn is = ne_eqb turn 1 (λ one. omega (arith, one, eqb-true turn 0 is))

last_turn : (turn : ℕ) → turn < 3 → (not (turn == 0) && not (turn == 1)) ≡ (turn == 2)
last_turn zero less = refl
last_turn (suc zero) less = refl
last_turn (suc (suc zero)) less = refl
last_turn (suc (suc (suc turn))) less = absurd (omega (arith, less))

module _ (n : ℕ) where
  amount_of_step : (k : ℕ) → amount_of (act_at n k) ≡ amount_at n k
  amount_of_step k = amount_asked (is_swap k) (k / 4 % 3 == 0) (k / 4 % 3 == 1) k (value_at n k)

  drawn_fits : n ≤ 10000 → (k : ℕ) → drawn n k < 2 ^ 64
  drawn_fits small zero = omega (arith, small)
  drawn_fits small (suc k) = omega arith

  amount_fits : n ≤ 10000 → (k : ℕ) → amount_at n k ≤ 2 ^ 32
  amount_fits small k = cond_both (calls_object 0 k) (value_at n k) 0 (λ amount. amount ≤ 2 ^ 32) (λ adds. omega (arith, drawn_fits small k)) (λ other. omega arith)

  -- the sum of the amounts stays below the bound of the counter
  total_fits : n ≤ 10000 → sum_by (amount_at n) (steps n) < 2 ^ 64
  total_fits small =
      omega (arith, small, length-range_with_len 1 n, sum_by-le (amount_at n) (2 ^ 32) (steps n) (All-from_recursion (λ k. amount_at n k ≤ 2 ^ 32) (steps n) (everywhere (λ k. amount_at n k ≤ 2 ^ 32) (amount_fits small) (steps n))))

  name_of_step : (name : ℕ) → name < 100 → (k : ℕ) → binds_name name (act_at n k) ≡ binds n name k
  name_of_step name less k = name_asked name less (is_swap k) (k / 4 % 3 == 0) (k / 4 % 3 == 1) k (value_at n k) (one_turn (k / 4 % 3))

  page_of_step : (page k : ℕ) → writes_page page (act_at n k) ≡ writes n page k
  page_of_step page k =
      page_asked page (is_swap k) (k / 4 % 3 == 0) (k / 4 % 3 == 1) k (value_at n k)
      ∙ ap (λ b. (not (is_swap k) && b) && (value_at n k % PAGES == page)) (last_turn (k / 4 % 3) (omega arith))

  calls_of_steps : sum_by (λ k. mark (is_call (act_at n k))) (steps n) ≡ n - swaps_due n
  calls_of_steps =
      omega (
        arith,
        count_all (steps n),
        length-range_with_len 1 n,
        sum_by_plus (λ k. 1) (λ k. mark (is_call (act_at n k))) (λ k. mark (is_swap k)) (λ k. call_or_swap (is_swap k) (k / 4 % 3 == 0) (k / 4 % 3 == 1) k (value_at n k)) (steps n),
      )

  swap_marks : (k : ℕ) → mark (not (is_call (act_at n k))) ≡ mark (is_swap k)
  swap_marks k = opposite (is_call (act_at n k)) (is_swap k) (call_or_swap (is_swap k) (k / 4 % 3 == 0) (k / 4 % 3 == 1) k (value_at n k))
    where
      opposite : (a b : Bool) → 1 ≡ mark a + mark b → mark (not a) ≡ mark b
      opposite true true one = absurd (omega (arith, one))
      opposite true false one = refl
      opposite false true one = refl
      opposite false false one = absurd (omega (arith, one))

module _ (n : ℕ) (small : n ≤ 10000) (history : List (Entry Op Reply)) (lawful : IsLawful (generated n) history) where
  -- an act of the history that passes a test is that of a step
  any_step : (p : Act Op → Bool) → list_any (λ (entry : Entry Op Reply). p entry.act) history ≡ list_any (λ k. p (act_at n k)) (steps n)
  any_step p =
      any_by_count (λ (entry : Entry Op Reply). p entry.act) history ∙ ap (ltb 0) (sum_over_steps n history lawful (λ act. mark (p act)))
      ∙ sym (any_by_count (λ k. p (act_at n k)) (steps n))

  module _ (all : ℕ) (are : all ≡ PAGES) where
    counted : IsTallyOf all (tallied history) history
    counted = all_more all are no_tally [] history (none all are) (asks n small history lawful)

    calls_are : (tallied history).calls ≡ n - swaps_due n
    calls_are = counted.calls ∙ sum_over_steps n history lawful (λ act. mark (is_call act)) ∙ calls_of_steps n

    swaps_are : (tallied history).swaps ≡ swaps_due n
    swaps_are =
        counted.swaps
        ∙ count_by_alike is_done (λ (entry : Entry Op Reply). not (is_call entry.act)) history (each_is_done n small history lawful)
        ∙ sum_over_steps n history lawful (λ act. mark (not (is_call act)))
        ∙ sum_by_same (λ k. mark (not (is_call (act_at n k)))) (λ k. mark (is_swap k)) (swap_marks n) (steps n)

    hits_are : (tallied history).hits ≡ sum_by (amount_at n) (steps n)
    hits_are =
        counted.hits
        ∙ ap (λ sum. sum % 2 ^ 64) (sum_over_steps n history lawful amount_of ∙ sum_by_same (λ k. amount_of (act_at n k)) (amount_at n) (amount_of_step n) (steps n))
        ∙ omega (arith, total_fits n small)

    names_are : finite.len (tallied history).names ≡ count_by (λ name. list_any (binds n name) (steps n)) (range_with_len 0 100)
    names_are =
        counted.names
        ∙ count_over_range (is_bound (tallied history).names) (λ name. list_any (binds n name) (steps n)) 0 100
        (λ name low high.
        let less : name < 100 = omega arith in
        counted.bound name less ∙ any_step (binds_name name) ∙ list_any_same (λ k. binds_name name (act_at n k)) (binds n name) (name_of_step n name less) (steps n))

    dirty_is : dirty_count (tallied history).cache ≡ count_by (λ page. list_any (writes n page) (steps n)) (range_with_len 0 all)
    dirty_is =
        counted.dirty
        ∙ count_over_range (is_marked (tallied history).cache) (λ page. list_any (writes n page) (steps n)) 0 all
        (λ page low high. counted.marked page ∙ any_step (writes_page page) ∙ list_any_same (λ k. writes_page page (act_at n k)) (writes n page) (page_of_step n page) (steps n))

  pub due : summary_of (tallied history) ≡ summary_due n
  due = λ i. record {
    calls = calls_are PAGES refl i;
    total = hits_are PAGES refl i;
    names = names_are PAGES refl i;
    dirty = dirty_is PAGES refl i;
    swaps = swaps_are PAGES refl i;
  }
