use Rattle.table_laws.proofs.ClockSeats.{clock_taken_in}
use Rattle.table_laws.proofs.clocks.taking_a_clock_in_is_a_skip.Goals as goal

pub returns : goal.returns
returns g c id other stamp v = clock_taken_in _ _ id v c.layouts_are_lawful.ensures other stamp
