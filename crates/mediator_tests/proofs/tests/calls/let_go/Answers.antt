use Rattle.std.proofs.Common.{ap, ◌∙◌}
use Rattle.std.specs.Prelude.{is_some}
use Rattle.gen_core.specs.Plain.{Caller}
use Rattle.phase_core.specs.Plain.{Visitor}
use Rattle.k42_board.specs.Phases.{is_served}
use Rattle.mediator_tests.proofs.GivenBack.{free_left, left_lock}
use Rattle.mediator_tests.proofs.tests.calls.let_go.Goals as goal

pub returns-clause-busy : goal.returns-clause-busy
returns-clause-busy g c =
    let old = c.args.pass.now in let new = c.unlock.new.pass in let is = c.unlock.ensures 0 in let held = c.requires.holding in
    let left = left_lock c.args.cell old.view new.view is.takes.knows held.held held.notes in
    record {
      free = free_left c.args.sys.now old new held.ours is.same.table is.same.queue is.same.keep left;
      active = ap (λ (turn : Caller). is_some turn.active) left.turn ∙ held.active;
    }

pub returns-clause-served : goal.returns-clause-served
returns-clause-served g c =
    let is = c.unlock.ensures 0 in let held = c.requires.holding in
    ap (λ (visitor : Visitor). is_served visitor.place) (left_lock c.args.cell c.args.pass.now.view c.unlock.new.pass.view is.takes.knows held.held held.notes).visitor ∙ held.served
