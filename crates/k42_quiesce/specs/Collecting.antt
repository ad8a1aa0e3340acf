-- Rows on their way through the queue, for the pass that hands them on or takes them in.
use Rattle.std.specs.Prelude.{◌≡◌, ◌+◌, ◌++◌, List, length, reverse, take}
use Rattle.k42_board.specs.Seen.{PassSeen}
use Rattle.k42_board.specs.declared.view.Row.{Row}

-- the pass has pushed the newest ones of its rows, the newest first
pub record HasHandedOver {P O R : Type 0} (old new : PassSeen P O R) : Type 0 where
  pub handed : List Row
  pub rows : old.view.rows ≡ new.view.rows ++ reverse handed
  pub pushed : new.pushed ≡ old.pushed ++ handed
  pub knows : new.view ≡ record old.view { rows = new.view.rows; granted = new.view.granted }
  -- of the rows that are left those are granted which were
  pub granted : take new.view.granted new.view.rows ≡ take old.view.granted new.view.rows
  pub row_room : new.row_room ≡ old.row_room + length handed
  pub table : new.table ≡ old.table
  pub seat : new.seat ≡ old.seat
  pub keep : new.keep ≡ old.keep
  pub room : new.room ≡ old.room
  pub queue : new.queue ≡ old.queue
  pub popped : new.popped ≡ old.popped

-- the pass has popped these rows, which it now holds as its newest
pub record HasCollected {P O R : Type 0} (rows : List Row) (old new : PassSeen P O R) : Type 0 where
  pub popped : new.popped ≡ old.popped ++ rows
  pub knows : new.view ≡ record old.view { rows = old.view.rows ++ rows }
  pub row_room : new.row_room + length rows ≡ old.row_room
  pub table : new.table ≡ old.table
  pub seat : new.seat ≡ old.seat
  pub keep : new.keep ≡ old.keep
  pub room : new.room ≡ old.room
  pub queue : new.queue ≡ old.queue
  pub pushed : new.pushed ≡ old.pushed
