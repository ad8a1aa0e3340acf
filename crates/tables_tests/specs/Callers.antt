-- A caller of the tests, from one call to the next.
use Rattle.std.specs.Prelude.{◌≡◌, ◌<◌, true, is_some, length}
use Rattle.k42_board.specs.Seen.{SysSeen, PassSeen}
use Rattle.table_crews.specs.Ready.{HoldsNoCell}

-- it is in an activity, holds no cell, and there is an object
pub record IsBusy {L P O R : Type 0} (sys : SysSeen L) (pass : PassSeen P O R) : Type 0 where
  pub free : HoldsNoCell sys pass
  pub some : 0 < length sys.layouts
  pub active : is_some pass.view.turn.active ≡ true
