use Rattle.std.proofs.Common.{refl}
use Rattle.std.specs.Prelude.{Err}
use Rattle.k42_handles.specs.Parking.{HasGivenSection}
use Rattle.k42_handles.specs.declared.refusal.Refusal.TheVariants.{Empty}
use Rattle.k42_c.proofs.EmptyHandles.{kept_empty}
use Rattle.k42_c.proofs.exports.sections.k42_section.Goals as goal

pub returns-in_default : goal.returns-in_default
returns-in_default c = record {
  told = Err Empty;
  given = kept_empty HasGivenSection _ _ c.in_default.ensures.taken c.in_default.ensures.empty (refl, refl);
  status_is = refl;
  missing_is = refl;
}
