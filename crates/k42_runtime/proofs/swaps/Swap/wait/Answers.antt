use Rattle.std.proofs.Common.{◌≡◌, ◌+◌, ◌≤◌, refl, sym, ap, ◌∙◌, subst, arith}
use Rattle.phase_core.specs.Stages.{is_out}
use Rattle.turn_core.specs.Plain as turns
use Rattle.k42_board.proofs.Gained.{extends_as, extends_on, extends_one}
use Rattle.k42_board.specs.Log.{Extends}
use Rattle.k42_board.specs.Seen.{IsPassOf}
use Rattle.k42_board.specs.declared.view.PassView.{PassView}
use Rattle.k42_quiesce.proofs.GoingOn.{role_extends}
use Rattle.k42_quiesce.specs.Gracing.{has_role}
use Rattle.k42_runtime.specs.Swaps.{SwapSeen, IsAtStage, HasStepped, is_over, graces_due}
use Rattle.k42_runtime.specs.Systems.{SystemSeen}
use Rattle.k42_runtime.specs.declared.swaps.Stage.TheVariants.{New, Waiting, Shut}
use Rattle.k42_runtime.specs.declared.swaps.Step.TheVariants.{Again}
use Rattle.k42_runtime.proofs.RowsReclaimed.{reclaims_alone}
use Rattle.k42_runtime.proofs.SwapGraces.{held_up, has_role_now}
use Rattle.k42_runtime.proofs.SwapSteps.{same_caller, stepped_before}
use Rattle.k42_runtime.proofs.swaps.Swap.wait.Goals as goal

later : Waiting ≡ New → ⊥
later e = cc

pub returns-in-Again : goal.returns-in-Again
returns-in-Again g c =
    let old = c.args.pass.now in let new = c.step.new.pass in let shapes = c.args.system.now.sys.shapes in
    let s : SwapSeen = record { object = c.self.inside.object; to = c.self.inside.to; stage = c.self.inside.stage; holder = c.self.inside.grace } in
    let t : SwapSeen = record { object = c.self.inside.object; to = c.self.inside.to; stage = c.self.inside.stage; holder = c.step.new.self } in
    let is : s ≡ c.args.self.now = c.self.view_is in
    let first : s.stage ≡ Waiting = ap (λ (x : SwapSeen). x.stage) is ∙ c.requires.stage in
    let waits = subst (λ s. IsAtStage Waiting shapes s old) (sym is) c.requires.waiting in
    let same = c.step.ensures.same in
    let up =
    held_up shapes s t old new same first refl refl waits.0 waits.1 waits.2 c.step.result c.in-Again.held c.in-Again.is c.step.ensures.left
    (λ holder e. let is = c.step.ensures.role_held holder e in (record { knows = is.0.knows; finds = is.0.finds }, is.1, is.2))
    c.step.ensures.goes in
    subst (λ s. HasStepped c.args.system.now (Again c.cause_of.result) s t old new) is
    (subst (λ cause. HasStepped c.args.system.now (Again cause) s t old new) (sym c.cause_of.ensures)
    (record {
      here = record {
        ours = subst (λ (z : SystemSeen _). IsPassOf z.sys new) c.system.view_is c.step.ensures.ours;
        out = ap is_out up.place ∙ c.requires.ours.out;
        held = ap (λ (x : turns.Caller _ _). x.held) up.taker ∙ c.requires.ours.held;
        notes = up.notes ∙ c.requires.ours.notes;
      };
      stage = up.stage;
      begun = λ e. later (sym first ∙ e);
      object = refl;
      to = refl;
      over = ap is_over first;
      seat = same.seat;
      keep = same.keep;
      caller = up.caller;
      graces = up.graces;
      told = up.told;
      worn = (λ e. absurd (cc), λ w. absurd (later (sym first ∙ w.0)));
      brought = (ap (λ (x : turns.Caller _ _). x.mine) up.taker, up.found);
    }))

pub returns-in-Quiet : goal.returns-in-Quiet
returns-in-Quiet g c =
    let old = c.args.pass.now in let mid = c.block.new.pass in let shapes = c.args.system.now.sys.shapes in
    let s : SwapSeen = record { object = c.self.inside.object; to = c.self.inside.to; stage = c.self.inside.stage; holder = c.self.inside.grace } in
    let m : SwapSeen = record { object = c.self.inside.object; to = c.self.inside.to; stage = Shut; holder = c.step.new.self } in
    let is : s ≡ c.args.self.now = c.self.view_is in
    let first : s.stage ≡ Waiting = ap (λ (x : SwapSeen). x.stage) is ∙ c.requires.stage in
    let waits = subst (λ s. IsAtStage Waiting shapes s old) (sym is) c.requires.waiting in
    let has = has_role_now s.object s.holder old.view c.step.new.pass.view waits.2 (c.step.ensures.goes (ap has_role c.in-Quiet.is)).0 in
    let reclaimed = c.reclaim.ensures.knows in let blocked = c.block.ensures.takes.knows in
    let goes = (c.step.ensures.goes (ap has_role c.in-Quiet.is)).0 in
    let log : Extends old.view.log mid.view.log =
    extends_on (role_extends s.holder old.view)
    (extends_on goes.log (extends_on (reclaims_alone c.reclaim.ensures.freed)
    (extends_as (ap (λ (v : PassView _ _ _). v.log) blocked) (extends_one _ c.reclaim.new.pass.view.log refl)))) in
    subst (λ s. HasStepped c.args.system.now c.shut.result s c.shut.new.self old c.shut.new.pass) is
    (stepped_before c.args.system.now s m c.shut.new.self old mid c.shut.new.pass
    (record {
      object = refl;
      to = refl;
      seat = c.block.ensures.same.seat ∙ c.reclaim.ensures.same.seat ∙ c.step.ensures.same.seat;
      keep = c.block.ensures.same.keep ∙ c.reclaim.ensures.same.keep ∙ c.step.ensures.same.keep;
      caller =
          same_caller old.view c.step.new.pass.view mid.view has.caller (record {
            number = ap (λ (v : PassView _ _ _). v.number) blocked ∙ ap (λ (v : PassView _ _ _). v.number) reclaimed;
            proc = ap (λ (v : PassView _ _ _). v.turn.proc) blocked ∙ ap (λ (v : PassView _ _ _). v.turn.proc) reclaimed;
          });
      drawn =
          ap (λ (v : PassView _ _ _). v.taker.mine) blocked ∙ ap (λ (v : PassView _ _ _). v.taker.mine) reclaimed
          ∙ ap (λ (x : turns.Caller _ _). x.mine) has.taker;
      log = log;
      graces =
          let n = ap (λ (v : PassView _ _ _). v.graces) blocked ∙ ap (λ (v : PassView _ _ _). v.graces) reclaimed ∙ has.graces in
          subst (λ stage. mid.view.graces + 0 ≤ old.view.graces + graces_due stage s.holder) (sym first) (omega (arith, n));
      waits = λ e. absurd (cc);
      worn = λ e w. absurd (later (sym first ∙ e));
    })
    c.shut.result
    c.shut.ensures)
