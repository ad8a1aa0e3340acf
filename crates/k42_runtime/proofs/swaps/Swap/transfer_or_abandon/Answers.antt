use Rattle.std.proofs.Common.{rules, ◌≡◌, false, inr, refl, sym, ap, ◌∙◌}
use Rattle.k42_kinds.specs.declared.entry.Act.TheVariants.{Swap}
use Rattle.k42_board.proofs.Gained.{extends_on}
use Rattle.k42_board.specs.Log.{Extends, with_log}
use Rattle.k42_board.specs.Swapping.{object_swapped}
use Rattle.k42_board.specs.Views.{object_begun}
use Rattle.k42_mediator.specs.Swaps.{abandoned_view}
use Rattle.k42_mediator.specs.Transfers.{HasKept}
use Rattle.k42_runtime.specs.Swaps.{SwapSeen, graces_due}
use Rattle.k42_runtime.specs.Systems.{IsPassHere, IsAtRest}
use Rattle.k42_runtime.specs.declared.swaps.Stage.TheVariants.{New, Shut}
use Rattle.k42_runtime.proofs.SwapEnds.{cleared_log, on_done, on_error, gave_up, abandoned_caller, abandoned_graces, few}
use Rattle.k42_runtime.proofs.swaps.Swap.transfer_or_abandon.Goals as goal

never : Shut ≡ New → ⊥
never e = cc

pub returns-then-is_err : goal.returns-then-is_err
returns-then-is_err g c =
    let old = c.args.pass.now in let mid = c.transfer.new.pass in let new = c.abandon.new.pass in
    let is = c.self.view_is in let v = old.view in
    let kept : HasKept old mid = on_error c.transfer.result (sym c.is_err.ensures.value ∙ c.if-is_err.true) c.transfer.ensures.memory in
    let begun : object_begun v.last ≡ c.args.self.now.object = search rules in
    let knows : new.view ≡ with_log new.view.log (abandoned_view (Swap c.args.self.now.to) mid.view) = search rules in
    let unturned : v.turned ≡ false = search rules in
    let swapped : object_swapped mid.view ≡ c.args.self.now.object = search rules in
    let here : IsPassHere c.args.system.now new = search rules in
    let rests : IsAtRest new.view = search rules in
    record {
      here = here;
      stage = rests;
      begun = λ e. cc;
      object = ap (λ (x : SwapSeen). x.object) is;
      to = ap (λ (x : SwapSeen). x.to) is;
      over = refl;
      seat = c.abandon.ensures.same.seat ∙ kept.same.seat;
      keep = c.abandon.ensures.same.keep ∙ kept.same.keep;
      caller = abandoned_caller (Swap c.args.self.now.to) v mid.view new.view kept.comes.knows knows;
      graces = few new.view.graces old.view.graces (graces_due c.args.self.now.stage c.args.self.now.holder) (abandoned_graces (Swap c.args.self.now.to) v mid.view new.view kept.comes.knows knows);
      told = tt;
      worn = (λ e. absurd (cc), λ w. absurd (never (sym c.requires.stage ∙ w.0)));
      brought = inr (gave_up _ _ _ mid.seat c.args.self.now.object c.args.self.now.to v mid.view new.view kept.comes knows begun c.requires.found unturned swapped _ c.target-to.ensures.act c.abandon.ensures.later c.abandon.ensures.up);
    }

pub returns : goal.returns
returns g c =
    let old = c.args.pass.now in let new = c.end.new.pass in
    let done = on_done c.transfer.result (sym c.is_err.ensures.value ∙ c.if-is_err.false) c.transfer.ensures.done in
    let log : Extends old.view.log new.view.log =
    extends_on done.comes.log (extends_on c.open_entries.ensures.comes.log (cleared_log _ c.open_entries.new.pass.view new.view c.end.ensures.takes.knows)) in
    search rules
