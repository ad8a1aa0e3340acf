use Rattle.phase_core.proofs.Reached.{same_callers, turn_there, freed_after_leaving}
use Rattle.phase_core.proofs.laws.freed_after_leaving.Goals as goal

pub returns : goal.returns
returns g = λ s events freeing c o i sound in_range there.
    freed_after_leaving events s freeing c o i sound (rw (← (same_callers s sound)) in_range) (turn_there s sound c there)
