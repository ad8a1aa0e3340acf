use Rattle.table_laws.proofs.ClockSeats.{clock_told_off}
use Rattle.table_laws.proofs.clocks.telling_a_clock_leaves_the_state.Goals as goal

pub returns : goal.returns
returns g c id v = clock_told_off _ _ id v
