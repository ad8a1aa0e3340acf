use Rattle.std.proofs.Common.{◌≡◌, ◌∙◌, rules, refl, sym, ap, subst}
use Rattle.std.specs.Prelude.{Ok}
use Rattle.k42_board.specs.declared.view.PassView.{PassView}
use Rattle.co_system.specs.Systems.{SystemPart, SystemPass}
use Rattle.k42_handles.specs.Seats.{HasEntered}
use Rattle.k42_handles.specs.declared.seat.Seat.{Seat}
use Rattle.k42_handles.specs.declared.seat.Seat.TheVariants.{Rests}
use Rattle.k42_handles.proofs.Stepped.{entered}
use Rattle.k42_handles.proofs.steps.enter.Goals as goal
use Rattle.k42_kinds.specs.declared.operation.Op.{Op}
use Rattle.k42_kinds.specs.declared.operation.Reply.{Reply}

pub returns : goal.returns
returns c =
    let was : c.args.seat.now ≡ Rests c.in-Rests-replace.rests = search rules in
    let lent : c.deref_mut.result.now ≡ c.in-Rests-replace.rests.pass.value = search rules in
    subst (λ (to : Seat). HasEntered c.args.seat.now to (Ok tt)) (sym c.fill_with_work.ensures)
    (entered _ _ _ was record { home = refl; same = search rules; entered = search rules; drawn = ap (λ (v : PassView SystemPart Op Reply). v.taker) c.enter.ensures.knows ∙ ap (λ (p : SystemPass). p.view.taker) lent })
