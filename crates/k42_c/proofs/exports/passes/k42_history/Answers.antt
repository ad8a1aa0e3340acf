use Rattle.std.proofs.Common.{refl, sym, subst}
use Rattle.std.specs.Prelude.{Err}
use Rattle.k42_handles.specs.Reading.{HasReadFrom}
use Rattle.k42_handles.specs.declared.refusal.Refusal.TheVariants.{Empty}
use Rattle.k42_handles.specs.declared.seat.Seat.{Seat}
use Rattle.k42_c.proofs.exports.passes.k42_history.Goals as goal

pub returns-in_default : goal.returns-in_default
returns-in_default c = record {
  told = Err Empty;
  is = subst (λ (seat : Seat). HasReadFrom seat c.args.from c.args.entries.now c.args.entries.now (Err Empty)) (sym c.in_default.ensures.taken) (refl, refl);
  status_is = refl;
  count_is = refl;
}
