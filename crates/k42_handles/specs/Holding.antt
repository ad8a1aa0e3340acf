-- What a handle owns.
use Rattle.std.specs.Prelude.{ℕ, zero, suc}
use mir.Syntax.{Ty}
use base.Fml.{Fml, ftrue}
use base.Stored.{Coded}
use Rattle.k42_handles.specs.contracts.seat.Seat.{the_row as seat_row}
use denote.RattleType.{RattleType}
use denote.RawPtr.{Ptr}
use Rattle.std_alloc.specs.Box.Ownership.{box_owns}

-- a full handle owns the block of its seat, an empty one nothing
abbrev pub seat_owned : (Ty → Ptr → Fml) → (R : RattleType) → ℕ → Ptr → R.Denot → Fml
seat_owned holds R zero p x = ftrue
seat_owned holds R (suc n) p x = box_owns holds R p x

abbrev pub seat_coded : Coded seat_row.Denot
seat_coded = seat_row.coded
