use Rattle.std.proofs.Common.{ap}
use Rattle.k42_board.specs.Log.{last_found}
use Rattle.k42_board.specs.declared.view.PassView.{PassView}
use Rattle.k42_quiesce.proofs.Entered.{told_last, may_leave}
use Rattle.k42_quiesce.proofs.activities.leave.Goals as goal

pub leave_step-requires-after_bounds : goal.leave_step-requires-after_bounds
leave_step-requires-after_bounds g c κs within = record { ours = c.requires.ours; may = may_leave _ c.requires.may }

pub returns : goal.returns
returns g c = told_last (ap (λ (v : PassView _ _ _). last_found v.log) c.leave_step.ensures.takes.knows) c.leave_step.ensures
