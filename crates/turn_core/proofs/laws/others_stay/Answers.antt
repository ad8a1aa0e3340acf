use Rattle.turn_core.proofs.Alone.{caller-happens, cell-happens}
use Rattle.turn_core.proofs.laws.others_stay.Goals as goal

pub returns-clause-callers : goal.returns-clause-callers
returns-clause-callers g c s event d apart = caller-happens s event d apart

pub returns-clause-cells : goal.returns-clause-cells
returns-clause-cells g c s event n unnamed = cell-happens s event n unnamed
