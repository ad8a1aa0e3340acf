use Rattle.std.proofs.Common.{rules}
use Rattle.turn_core.specs.Events.{cell_closed}
use Rattle.turn_core.proofs.Undone.{rest_there}
use Rattle.turn_core.proofs.state.TurnState.+close_all.Goals as goal

pub close_all-requires : goal.close_all-requires
close_all-requires g t c κs within =
    (search rules, (within.0, (within.1, rest_there cell_closed c.args.self.now c.set_closed.new.self c.args.cells.now c.in-Some.rest.now c.in-Some.first.now (search rules) (search rules) c.requires)))
