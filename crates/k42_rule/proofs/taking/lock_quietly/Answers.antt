use Rattle.std.proofs.Common.{rules, ◌≡◌, ℕ, List, subst}
use Rattle.k42_stamp.specs.Layouts.{Layouts}
use Rattle.k42_board.specs.Protocol.{lock, lock_quietly}
use Rattle.k42_board.specs.Stepping.{Takes}
use Rattle.k42_board.specs.declared.view.PassView.{PassView}
use Rattle.k42_rule.proofs.taking.lock_quietly.Goals as goal

-- a try that took the lock is the other step
took_lock : {S L P O R : Type 0} (F : Layouts S L P O R) (declared : List L) (n id : ℕ) (v w : PassView P O R) (found : ℕ) → found ≡ 0
    → Takes F declared (lock_quietly n) id v found w → Takes F declared (lock n) id v 0 w
took_lock F declared n id v w found free taken =
    let at = subst (λ m. Takes F declared (lock_quietly n) id v m w) free taken in record { knows = at.knows; finds = at.finds; event = at.event }

pub returns-clause-stepped : goal.returns-clause-stepped
returns-clause-stepped g c = record {
  same = search rules;
  takes = rw (← c.pass.view_is, ← c.sys.view_is) c.lock_cell_quietly.ensures.takes;
}

pub returns-clause-free : goal.returns-clause-free
returns-clause-free g c = λ free. record {
  same = search rules;
  takes = rw (← c.pass.view_is, ← c.sys.view_is) (took_lock _ _ c.args.cell _ _ _ c.lock_cell_quietly.result free c.lock_cell_quietly.ensures.takes);
}
