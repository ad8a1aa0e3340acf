use Rattle.k42_tables.proofs.ServedCells.{open_inside}
use Rattle.k42_tables.proofs.laws.cells_inside_are_open.Goals as goal

pub returns : goal.returns
returns g c id o i p v inside lt table r at = open_inside _ _ id o i p v table r at (c.shown_states_are_safe.ensures table r) inside lt
