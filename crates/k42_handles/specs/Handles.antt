-- What a handle holds.
use Rattle.std.specs.Prelude.{◌==◌, Bool, if◌then◌else◌}
use Rattle.k42_handles.specs.declared.held.K42Pass.{K42Pass}
use Rattle.k42_handles.specs.declared.seat.Seat.{Seat}
use Rattle.k42_handles.specs.declared.seat.Seat.TheVariants.{Gone}

abbrev pub is_full : K42Pass → Bool
is_full handle = handle.full == 1

-- its seat, which is gone where the handle is empty
abbrev pub seat_of : K42Pass → Seat
seat_of handle = if is_full handle then handle.inner.seat else Gone
