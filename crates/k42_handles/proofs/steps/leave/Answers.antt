use Rattle.std.proofs.Common.{◌≡◌, ◌∙◌, rules, refl, sym, ap, subst}
use Rattle.std.specs.Prelude.{Ok}
use Rattle.k42_board.specs.declared.view.PassView.{PassView}
use Rattle.co_system.specs.Systems.{SystemPart, SystemPass}
use Rattle.k42_handles.specs.Seats.{HasLeft}
use Rattle.k42_handles.specs.declared.seat.Seat.{Seat}
use Rattle.k42_handles.specs.declared.seat.Seat.TheVariants.{Works}
use Rattle.k42_handles.proofs.Stepped.{left}
use Rattle.k42_handles.proofs.steps.leave.Goals as goal
use Rattle.k42_kinds.specs.declared.operation.Op.{Op}
use Rattle.k42_kinds.specs.declared.operation.Reply.{Reply}

pub returns : goal.returns
returns c =
    let was : c.args.seat.now ≡ Works c.in-Works-replace.works = search rules in
    let lent : c.deref_mut.result.now ≡ c.in-Works-replace.works.pass.value = search rules in
    subst (λ (to : Seat). HasLeft c.args.seat.now to (Ok tt)) (sym c.fill_with_rest.ensures)
    (left _ _ _ was record { home = refl; same = search rules; drawn = ap (λ (v : PassView SystemPart Op Reply). v.taker) c.leave.ensures.knows ∙ ap (λ (p : SystemPass). p.view.taker) lent })
