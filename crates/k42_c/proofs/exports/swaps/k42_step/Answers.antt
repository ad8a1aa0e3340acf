use Rattle.std.proofs.Common.{refl}
use Rattle.std.specs.Prelude.{Err}
use Rattle.k42_handles.specs.Swapping.{HasGoneOn}
use Rattle.k42_handles.specs.declared.refusal.Refusal.TheVariants.{Empty}
use Rattle.k42_c.proofs.EmptyHandles.{kept_empty}
use Rattle.k42_c.proofs.exports.swaps.k42_step.Goals as goal

pub returns-in_default : goal.returns-in_default
returns-in_default c = record {
  told = Err Empty;
  is = kept_empty HasGoneOn _ _ c.in_default.ensures.taken c.in_default.ensures.empty (refl, refl);
  status_is = refl;
  swapping_is = refl;
}
