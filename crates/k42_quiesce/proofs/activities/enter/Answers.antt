use Rattle.std.proofs.Common.{ap}
use Rattle.k42_board.specs.Log.{last_found}
use Rattle.k42_board.specs.declared.view.PassView.{PassView}
use Rattle.k42_quiesce.proofs.Entered.{has_entered, told_last}
use Rattle.k42_quiesce.proofs.activities.enter.Goals as goal

pub returns-clause-entered : goal.returns-clause-entered
returns-clause-entered g c = has_entered _ _ _ _ c.enter_step.ensures.takes.knows c.enter_step.ensures.takes.finds

pub returns-clause-stepped : goal.returns-clause-stepped
returns-clause-stepped g c = told_last (ap (λ (v : PassView _ _ _). last_found v.log) c.enter_step.ensures.takes.knows) c.enter_step.ensures
