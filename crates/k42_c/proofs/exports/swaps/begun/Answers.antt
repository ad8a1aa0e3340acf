use Rattle.std.proofs.Common.{◌≡◌, Option, Some, None, rules, refl, sym, subst, ◌∙◌}
use Rattle.std.specs.Prelude.{Err}
use Rattle.k42_handles.specs.Handles.{seat_of}
use Rattle.k42_handles.specs.Swapping.{HasSwapped}
use Rattle.k42_handles.specs.declared.refusal.Refusal.TheVariants.{Argument, Empty}
use Rattle.k42_kinds.specs.declared.entry.To.{To}
use Rattle.k42_c.proofs.EmptyHandles.{kept_empty}
use Rattle.k42_c.proofs.exports.swaps.begun.Goals as goal

pub returns-in-Some-to : goal.returns-in-Some-to
returns-in-Some-to c =
    let some : c.args.to ≡ Some _ = c.in-Some-to.is in
    record {
      told = Err Empty;
      is =
          subst (λ (to : Option To). HasSwapped c.args.object to (seat_of c.args.pass.now) (seat_of c.take.new.handle) (Err Empty)) (sym some)
          (kept_empty (HasSwapped c.args.object (Some _)) _ _ c.in_default.ensures.taken c.in_default.ensures.empty (refl, refl));
      status_is = refl;
      swapping_is = refl;
    }

pub returns-in-None : goal.returns-in-None
returns-in-None c =
    let none : c.args.to ≡ None = search rules in
    record {
      told = Err Argument;
      is =
          subst (λ (to : Option To). HasSwapped c.args.object to (seat_of c.args.pass.now) (seat_of c.take.new.handle) (Err Argument)) (sym none)
          (refl, c.in_default.ensures.empty ∙ sym c.in_default.ensures.taken);
      status_is = refl;
      swapping_is = refl;
    }
