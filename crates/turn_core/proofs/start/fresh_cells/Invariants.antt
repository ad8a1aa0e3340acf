use Rattle.std.proofs.Common.{◌≡◌, take}
use Rattle.turn_core.specs.State.{fresh_cells}
use Rattle.turn_core.proofs.start.fresh_cells.Given as goal

abbrev pub invariant-loop-life : goal.invariant-loop-life
invariant-loop-life g l = l.cells.items ≡ fresh_cells (take l.life-index l.lives)
