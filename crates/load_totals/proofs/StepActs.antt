-- What the steps of a generated script ask, and that a lawful history asks the same.
use Rattle.std.proofs.Common.{◌≡◌, ℕ, zero, suc, ◌+◌, ◌/◌, ◌%◌, ◌<◌, Bool, true, false, ◌||◌, if◌then◌else◌, ◌==◌, List, [], ◌∷◌, ◌++◌, length, map, sum_by, codes, decimal, eqb, refl, sym, ap, ap₂, ◌∙◌, arith}
use Rattle.std.specs.Prelude.{Some, slice_get}
use Rattle.std.specs.List.{AllByRecursion}
use Rattle.std.proofs.lemmas.Bool.{eqb-true}
use Rattle.std.proofs.lemmas.List.FromFn.{length-range_with_len}
use Rattle.std.proofs.lemmas.List.Elements.{recursion_from_All, filter_passes}
use Rattle.std.proofs.lemmas.Simd.{map-map}
use Rattle.k42_limits.specs.declared.TheConstants.{PAGES}
use Rattle.k42_kinds.specs.Histories.{entries_of}
use Rattle.k42_kinds.specs.Operations.{layout_number}
use Rattle.k42_kinds.specs.declared.operation.Op.{Op}
use Rattle.k42_kinds.specs.declared.operation.Reply.{Reply}
use Rattle.k42_kinds.specs.declared.entry.Act.{Act}
use Rattle.k42_kinds.specs.declared.entry.Act.TheVariants.{Call, Swap}
use Rattle.k42_kinds.specs.declared.entry.To.TheVariants.{Layout}
use Rattle.k42_kinds.specs.declared.entry.Entry.{Entry}
use Rattle.k42_kinds.specs.declared.operation.Op.TheVariants.{Add, Bind, Write}
use Rattle.k42_kinds.proofs.Splits.{heads}
use Rattle.script_text.specs.Generated.{hits, names, cache, value_at, layout_at, swap_line, step_line, steps_of, step_items, worker_line, worker_lines, generated}
use Rattle.script_text.specs.Lawful.{Deed, deed_of, deeds_from, call_lines, IsLawful}
use Rattle.load_totals.specs.Loads.{steps, is_swap}
use Rattle.load_totals.proofs.Counts.{count_all}
use Rattle.load_totals.proofs.Shares.{everywhere, sum_by-map, four_shares, from_shares}

-- the name of this number
abbrev pub name_of : ℕ → List ℕ
name_of number = codes "n" ++ decimal number

-- what step k asks with this value, by whether it swaps, adds or binds
abbrev pub asked : Bool → Bool → Bool → ℕ → ℕ → Act Op
asked swaps adds binds k value =
    if swaps then Swap (Layout (layout_number (layout_at k)))
    else if adds then Call (Add value)
    else if binds then Call (Bind (name_of (value % 100)) k)
    else Call (Write (value % PAGES) (codes "v" ++ decimal k))

abbrev pub act_at : ℕ → ℕ → Act Op
act_at n k = asked (is_swap k) (k / 4 % 3 == 0) (k / 4 % 3 == 1) k (value_at n k)

act_chosen : (number k value : ℕ) (one two three adds binds : Bool)
    → (if one then swap_line number k hits
    else if two then swap_line number k cache
    else if three then swap_line number k names
    else if adds then record { line = number; object = hits; act = Call (Add value) }
    else if binds then record { line = number; object = names; act = Call (Bind (name_of (value % 100)) k) }
    else record { line = number; object = cache; act = Call (Write (value % PAGES) (codes "v" ++ decimal k)) }).act
    ≡ asked (one || two || three) adds binds k value
act_chosen number k value true two three adds binds = refl
act_chosen number k value false true three adds binds = refl
act_chosen number k value false false true adds binds = refl
act_chosen number k value false false false true binds = refl
act_chosen number k value false false false false true = refl
act_chosen number k value false false false false false = refl

act_of_line : (n number k : ℕ) → (step_line number k (value_at n k)).act ≡ act_at n k
act_of_line n number k = act_chosen number k (value_at n k) (k % 1000 == 0) (k % 1000 == 252) (k % 1000 == 500) (k / 4 % 3 == 0) (k / 4 % 3 == 1)

acts_of_deeds : (n index number : ℕ) (steps : List ℕ) → map (λ (deed : Deed). deed.act) (deeds_from index (call_lines (step_items n number steps))) ≡ map (act_at n) steps
acts_of_deeds n index number [] = refl
acts_of_deeds n index number (k ∷ steps) = ap₂ (λ (act : Act Op) (acts : List (Act Op)). act ∷ acts) (act_of_line n number k) (acts_of_deeds n (index + 1) (number + 1) steps)

-- the act is that of a step of the worker
pub record IsStepOf (n worker : ℕ) (act : Act Op) : Type 0 where
  pub step : ℕ
  pub own : step % 4 ≡ worker
  pub same : act ≡ act_at n step

are_steps : (n worker : ℕ) (entries : List (Entry Op Reply)) (steps : List ℕ) → map (λ (entry : Entry Op Reply). entry.act) entries ≡ map (act_at n) steps → AllByRecursion (λ k. eqb (k % 4) worker ≡ true) steps → AllByRecursion (λ (entry : Entry Op Reply). IsStepOf n worker entry.act) entries
are_steps n worker [] steps same own = tt
are_steps n worker (entry ∷ entries) [] same own = cc
are_steps n worker (entry ∷ entries) (k ∷ steps) same own =
    let parts = heads entry.act (act_at n k) (map (λ (entry : Entry Op Reply). entry.act) entries) (map (act_at n) steps) same in
    (record { step = k; own = eqb-true (k % 4) worker own.0; same = parts.head }, are_steps n worker entries steps parts.tail own.1)

module _ (n : ℕ) (history : List (Entry Op Reply)) (lawful : IsLawful (generated n) history) where
  within : AllByRecursion (λ (entry : Entry Op Reply). entry.caller < 4) history
  within = recursion_from_All (λ (entry : Entry Op Reply). entry.caller < 4) history lawful.no_stranger

  worker_acts : (w : ℕ) → slice_get (generated n).workers w ≡ Some (worker_lines n (worker_line n w) w) → map (λ (entry : Entry Op Reply). entry.act) (entries_of w history) ≡ map (act_at n) (steps_of w n)
  worker_acts w found =
      sym (map-map (λ (deed : Deed). deed.act) deed_of (entries_of w history))
      ∙ ap (map (λ (deed : Deed). deed.act)) (lawful.in_order w (worker_lines n (worker_line n w) w) found)
      ∙ acts_of_deeds n 0 (worker_line n w + 1) (steps_of w n)

  worker_sum : (f : Act Op → ℕ) (w : ℕ) → slice_get (generated n).workers w ≡ Some (worker_lines n (worker_line n w) w) → sum_by (λ (entry : Entry Op Reply). f entry.act) (entries_of w history) ≡ sum_by (λ k. f (act_at n k)) (steps_of w n)
  worker_sum f w found =
      sym (sum_by-map f (λ (entry : Entry Op Reply). entry.act) (entries_of w history)) ∙ ap (sum_by f) (worker_acts w found) ∙ sum_by-map f (act_at n) (steps_of w n)

  -- a sum over the acts of the history is a sum over the steps
  pub sum_over_steps : (f : Act Op → ℕ) → sum_by (λ (entry : Entry Op Reply). f entry.act) history ≡ sum_by (λ k. f (act_at n k)) (steps n)
  sum_over_steps f =
      omega (
        arith,
        four_shares (λ (entry : Entry Op Reply). entry.caller) (λ (entry : Entry Op Reply). f entry.act) history within,
        four_shares (λ k. k % 4) (λ k. f (act_at n k)) (steps n) (everywhere (λ k. k % 4 < 4) (λ k. omega arith) (steps n)),
        worker_sum f 0 refl,
        worker_sum f 1 refl,
        worker_sum f 2 refl,
        worker_sum f 3 refl,
      )

  -- there is an entry for each step
  pub length_is : length history ≡ n
  length_is = sym (count_all history) ∙ sum_over_steps (λ act. 1) ∙ count_all (steps n) ∙ length-range_with_len 1 n

  worker_steps : (w : ℕ) → slice_get (generated n).workers w ≡ Some (worker_lines n (worker_line n w) w) → AllByRecursion (λ (entry : Entry Op Reply). IsStepOf n w entry.act) (entries_of w history)
  worker_steps w found = are_steps n w (entries_of w history) (steps_of w n) (worker_acts w found) (recursion_from_All (λ k. eqb (k % 4) w ≡ true) (steps_of w n) (filter_passes (λ k. eqb (k % 4) w) (steps n)))

  of_four : (w : ℕ) → w < 4 → AllByRecursion (λ (entry : Entry Op Reply). IsStepOf n w entry.act) (entries_of w history)
  of_four zero less = worker_steps 0 refl
  of_four (suc zero) less = worker_steps 1 refl
  of_four (suc (suc zero)) less = worker_steps 2 refl
  of_four (suc (suc (suc zero))) less = worker_steps 3 refl
  of_four (suc (suc (suc (suc w)))) less = absurd (omega (arith, less))

  -- each entry asks what a step of its caller asks
  pub each_is_step : AllByRecursion (λ (entry : Entry Op Reply). IsStepOf n entry.caller entry.act) history
  each_is_step = from_shares (λ (entry : Entry Op Reply). entry.caller) (λ w (entry : Entry Op Reply). IsStepOf n w entry.act) history within of_four
