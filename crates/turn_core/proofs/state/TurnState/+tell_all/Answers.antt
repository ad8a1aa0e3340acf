use Rattle.std.proofs.Common.{rules}
use Rattle.turn_core.specs.Events.{cell_told}
use Rattle.turn_core.proofs.Undone.{rest_there}
use Rattle.turn_core.proofs.state.TurnState.+tell_all.Goals as goal

pub tell_all-told-requires : goal.tell_all-told-requires
tell_all-told-requires g t c κs within =
    (search rules, (within.0, (within.1, rest_there (cell_told c.args.entry.now) c.args.self.now c.tell.new.self c.args.cells.now c.in-Some.rest.now c.in-Some.first.now (search rules) (search rules) c.requires)))
