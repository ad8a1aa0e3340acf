use Rattle.std.proofs.Common.{refl}
use Rattle.k42_handles.specs.Codes.{resumed_code}
use Rattle.k42_handles.specs.Parking.{HasResumed}
use Rattle.k42_c.proofs.EmptyHandles.{told_empty}
use Rattle.k42_c.proofs.exports.sections.k42_resume.Goals as goal

pub returns-in_default : goal.returns-in_default
returns-in_default c = told_empty resumed_code HasResumed _ _ c.in_default.ensures.taken c.in_default.ensures.empty (refl, refl)
