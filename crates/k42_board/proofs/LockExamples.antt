-- Computed tries of a lock: one that leaves a trace, and one that leaves none.
use Rattle.std.proofs.Common.{◌≡◌, ℕ, Bool, true, false, not, cond, eqb, [], ◌∷◌, refl, ap}
use Rattle.k42_board.specs.Log.{step_at, obstacles}
use Rattle.k42_board.specs.Protocol.{lock, lock_quietly}
use Rattle.k42_board.specs.Stepping.{WordStep}
use Rattle.k42_board.specs.Views.{new_pass}
use Rattle.k42_board.specs.Words.{lock_word}
use Rattle.k42_board.specs.declared.view.PassView.{PassView}
use Rattle.k42_board.specs.declared.view.StepName.TheVariants.{Lock}
use Rattle.k42_kinds.specs.declared.operation.Op.{Op}
use Rattle.k42_kinds.specs.declared.operation.Reply.{Reply}

-- the caller 3 tries the lock of the cell 5
abbrev first : PassView ℕ Op Reply
first = new_pass 1 ([] ∷ []) 3 0

abbrev loud : PassView ℕ Op Reply → WordStep ℕ ℕ ℕ Op Reply
loud = lock 5

abbrev quiet : PassView ℕ Op Reply → WordStep ℕ ℕ ℕ Op Reply
quiet = lock_quietly 5

-- it is free: both write the caller's word, and the pass holds it and keeps the step

written : (quiet first).changed 0 ≡ 4
written = refl

held : ((quiet first).after 0).taker.held ≡ 5 ∷ []
held = refl

kept : ((quiet first).after 0).log ≡ step_at Lock (lock_word 5) 0 ∷ []
kept = refl

-- the caller 7 has it: both leave the word, and the pass holds nothing

left : (quiet first).changed 8 ≡ 8
left = refl

unheld : ((quiet first).after 8).taker.held ≡ []
unheld = refl

loud_unheld : ((loud first).after 8).taker.held ≡ []
loud_unheld = refl

-- of which the one is an obstacle, and the other nothing

obstacle : obstacles ((loud first).after 8).log ≡ step_at Lock (lock_word 5) 8 ∷ []
obstacle = refl

no_trace : (quiet first).after 8 ≡ first
no_trace = refl

-- whatever it finds, and whatever the pass met before
no_obstacle : (found : ℕ) (v : PassView ℕ Op Reply) → obstacles ((quiet v).after found).log ≡ obstacles v.log
no_obstacle found v = by_test (eqb found 0) refl where
  by_test : (b : Bool) → eqb found 0 ≡ b → obstacles (cond b ((loud v).after found) v).log ≡ obstacles v.log
  by_test true free = ap (λ b. cond (not b) (step_at Lock (lock_word 5) found ∷ obstacles v.log) (obstacles v.log)) free
  by_test false another = refl

-- and where it takes the lock it is the same step
same_where_free : (v : PassView ℕ Op Reply) → (quiet v).after 0 ≡ (loud v).after 0
same_where_free v = refl
