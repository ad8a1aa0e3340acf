use Rattle.std.proofs.Common.{◌≡◌, List, length}
use Rattle.k42_board.specs.Seen.{IsPassOf}
use Rattle.k42_board.specs.declared.view.Row.{Row}
use Rattle.k42_quiesce.specs.Collecting.{HasCollected}
use Rattle.k42_quiesce.proofs.collecting.collect.Given as goal

abbrev pub invariant-loop-pass : goal.invariant-loop-pass
invariant-loop-pass g l =
    IsPassOf l.sys l.pass
    × ((rows : List Row) × (l.count ≡ length rows) × HasCollected rows l.initial.pass l.pass)

abbrev pub decreases-loop-pass : goal.decreases-loop-pass
decreases-loop-pass g l = l.pass.row_room
