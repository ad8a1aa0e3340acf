-- The entries of the processors, changed one after the other.
use Rattle.std.proofs.Common.{◌≡◌, ℕ, zero, suc, ◌+◌, ◌<◌, false, cond, eqb, ltb, ◌∷◌, Some, None, length, refl, ap, ◌∙◌, arith}
use Rattle.std.proofs.lemmas.Bool.{lt-ltb}
use Rattle.std.proofs.lemmas.Bool.Decides.{nat_tests}
use Rattle.phase_core.specs.declared.caller.SwapAt.{SwapAt}
use Rattle.phase_core.specs.declared.caller.SwapAt.TheVariants.{Begun, Interposing, Interposed, Opening, Reopening, Opened}
use Rattle.k42_board.specs.Swapping.{next_entry, after_entry, changed_view, turned_view}
use Rattle.k42_board.specs.Log.{ComesTo, step_at, took, with_log}
use Rattle.k42_board.specs.declared.view.PassView.{PassView}
use Rattle.k42_board.specs.declared.view.StepName.TheVariants as steps
use Rattle.k42_board.proofs.Gained.{extends_one, extends_on}
use Rattle.k42_mediator.specs.Swaps.{staged, stage_changed, opened_view}
use Rattle.k42_mediator.proofs.Logs.{comes_by, comes_on}

-- the stage once so many entries were changed, of so many
abbrev pub stage_at : ℕ → SwapAt → ℕ → SwapAt
stage_at procs (Begun o) k = cond (eqb k 0) (Begun o) (cond (ltb k procs) (Interposing o k) (Interposed o))
stage_at procs (Interposing o p) k = cond (ltb k procs) (Interposing o k) (Interposed o)
stage_at procs (Opening o p) k = cond (ltb k procs) (Opening o k) (Opened o)
stage_at procs (Reopening o p) k = cond (ltb k procs) (Reopening o k) (Opened o)
stage_at procs swap k = swap

not_zero : (k : ℕ) → eqb (suc k) 0 ≡ false
not_zero k = grind (arith, nat_tests)

none_next : (k : ℕ) → None ≡ Some k → ⊥
none_next k e = cc

-- the next that is due
pub next_stage : (procs : ℕ) (swap : SwapAt) (k : ℕ) → k < procs → next_entry swap ≡ Some 0 → next_entry (stage_at procs swap k) ≡ Some k
next_stage procs (Begun o) zero lt e = refl
next_stage procs (Begun o) (suc k) lt e = let is = lt-ltb (suc k) procs lt in let more = not_zero k in rw (more, is) refl
next_stage procs (Opening o p) k lt e = let is = lt-ltb k procs lt in rw is refl
next_stage procs (Reopening o p) k lt e = let is = lt-ltb k procs lt in rw is refl
next_stage procs (Interposing o p) k lt e = let is = lt-ltb k procs lt in rw is refl
next_stage procs swap k lt e = absurd (none_next 0 e)

stage_after : (procs : ℕ) (swap : SwapAt) (k : ℕ) → k < procs → next_entry swap ≡ Some 0
    → after_entry procs (stage_at procs swap k) ≡ stage_at procs swap (k + 1)
stage_after procs (Begun o) zero lt e = refl
stage_after procs (Begun o) (suc k) lt e =
    let is = lt-ltb (suc k) procs lt in let now = not_zero k in let then' : eqb (suc k + 1) 0 ≡ false = grind (arith, nat_tests) in rw (now, is, then') refl
stage_after procs (Opening o p) k lt e = let is = lt-ltb k procs lt in rw is refl
stage_after procs (Reopening o p) k lt e = let is = lt-ltb k procs lt in rw is refl
stage_after procs (Interposing o p) k lt e = let is = lt-ltb k procs lt in rw is refl
stage_after procs swap k lt e = absurd (none_next 0 e)

-- what the pass knows after one more
pub entry_changed : {P O R : Type 0} (procs k word found : ℕ) (first old new : PassView P O R) → length first.turn.waits ≡ procs
    → k < procs → next_entry first.visitor.swap ≡ Some 0 → ComesTo first (staged (stage_at procs first.visitor.swap k) first) old
    → new ≡ took steps.ChangeEntry word found (changed_view old) → ComesTo first (staged (stage_at procs first.visitor.swap (k + 1)) first) new
entry_changed {O} {R} procs k word found first old new waits lt start comes knows =
    comes_by first (staged (stage_at procs first.visitor.swap (k + 1)) first) new (step_at steps.ChangeEntry word found ∷ old.log)
    (knows ∙ ap (λ (w : PassView _ O R). took steps.ChangeEntry word found (changed_view w)) comes.knows
    ∙ (λ i. with_log (step_at steps.ChangeEntry word found ∷ old.log) (staged (after_entry (waits i) (stage_at procs first.visitor.swap k)) first))
    ∙ ap (λ swap. with_log (step_at steps.ChangeEntry word found ∷ old.log) (staged swap first)) (stage_after procs first.visitor.swap k lt start))
    (extends_on comes.log (extends_one (step_at steps.ChangeEntry word found) old.log refl))

-- all of an object that was turned over
pub opens_all : {P O R : Type 0} (word found : ℕ) (v mid new : PassView P O R) → mid ≡ took steps.TurnOver word found (turned_view v)
    → ComesTo mid (staged (stage_changed mid.visitor.swap) mid) new → ComesTo v (opened_view v) new
opens_all {O} {R} word found v mid new knows changed =
    comes_on (λ (w : PassView _ O R). staged (stage_changed w.visitor.swap) w) v (turned_view v) mid new
    (comes_by v (turned_view v) mid (step_at steps.TurnOver word found ∷ v.log) knows (extends_one (step_at steps.TurnOver word found) v.log refl))
    changed (λ log w. refl)
