use Rattle.std.proofs.Common.{refl}
use Rattle.k42_handles.specs.Seats.{HasEntered}
use Rattle.k42_c.specs.Exports.{done_code}
use Rattle.k42_c.proofs.EmptyHandles.{told_empty}
use Rattle.k42_c.proofs.exports.passes.k42_enter.Goals as goal

pub returns-in_default : goal.returns-in_default
returns-in_default c = told_empty done_code HasEntered _ _ c.in_default.ensures.taken c.in_default.ensures.empty (refl, refl)
