use Rattle.std.proofs.Common.{◌≡◌, ℕ, List, ◌+◌, Some, Option, length, take, rules, refl, ap, ◌∙◌, subst}
use Rattle.std.specs.Arc.{arc_value}
use Rattle.gen_core.specs.Events.{is_looking}
use Rattle.k42_board.specs.Gracing.{RoleFound}
use Rattle.k42_board.specs.Seen.{IsPassOf, IsSamePass, SysSeen}
use Rattle.k42_board.specs.Steps.{Always}
use Rattle.k42_board.specs.declared.view.PassView.{PassView}
use Rattle.k42_board.specs.declared.view.Row.{Row}
use Rattle.k42_quiesce.specs.Gracing.{GoesOn, IsLeft, has_role, with_role}
use Rattle.k42_quiesce.specs.Reclaiming.{Reclaims as Frees, AreRowsFreed, reclaimed_view}
use Rattle.k42_quiesce.specs.declared.steps.GraceStep.TheVariants.{Again, Quiet}
use Rattle.k42_quiesce.specs.declared.steps.Held.TheVariants.{Left, RoleHeld}
use Rattle.co_system.specs.Systems.{SystemLayout, SystemPart, SystemPass, any_layouts, layouts_in}
use Rattle.k42_handles.proofs.Reclaimed.{HasTried, found_role, freed_rests, goes_on, granted_all, has_role_now, none_left}
use Rattle.k42_handles.proofs.reclaiming.step.Goals as goal
use Rattle.k42_kinds.specs.declared.operation.Op.{Op}
use Rattle.k42_kinds.specs.declared.operation.Reply.{Reply}

pub invariant_of-result-in-Again-Left : goal.invariant_of-result-in-Again-Left
invariant_of-result-in-Again-Left c =
    let system = (arc_value c.args.reclaims.home).system in let grace = c.args.reclaims.grace in
    let old = c.args.reclaims.pass.value in let new = c.step.new.pass in
    let is : c.step.result ≡ Again (Left c.in-Again-Left.field-0-0 c.in-Again-Left.field-0-1) = search rules in
    let ours : IsPassOf system.sys new = search rules in
    let lent : c.deref_mut.result.now ≡ c.args.reclaims.pass.value = search rules in
    let went = subst (λ (p : SystemPass). GoesOn (with_role grace p.view) new.view × (c.step.new.self ≡ Some new.view.number)) lent (c.step.ensures.goes (ap has_role is)) in
    let left = subst (λ (p : SystemPass). IsLeft c.in-Again-Left.field-0-0 c.in-Again-Left.field-0-1 p.view new.view) lent (c.step.ensures.left _ _ is) in
    record {
      reclaims = goes_on system grace c.step.new.self old new c.args.reclaims.reclaims (has_role_now system grace old new.view c.args.reclaims.reclaims went.0) ours went.1 (ap is_looking left.at);
    }

pub invariant_of-result-in-Again-RoleHeld : goal.invariant_of-result-in-Again-RoleHeld
invariant_of-result-in-Again-RoleHeld c =
    let system = (arc_value c.args.reclaims.home).system in let new = c.step.new.pass in
    let is : c.step.result ≡ Again (RoleHeld c.in-Again-RoleHeld.field-0-0) = search rules in
    let ours : IsPassOf system.sys new = search rules in
    let held = c.step.ensures.role_held _ is in
    let lent : c.deref_mut.result.now ≡ c.args.reclaims.pass.value = search rules in
    record {
      free =
          freed_rests system c.args.reclaims.grace c.args.reclaims.pass.value new c.in-Again-RoleHeld.field-0-0 c.args.reclaims.reclaims held.1 ours
          (subst (λ (p : SystemPass). HasTried c.in-Again-RoleHeld.field-0-0 p.view new.view) lent held.0.knows);
    }

pub returns-in-Quiet : goal.returns-in-Quiet
returns-in-Quiet c =
    let system = (arc_value c.args.reclaims.home).system in let grace = c.args.reclaims.grace in
    let old = c.args.reclaims.pass.value in let mid = c.step.new.pass in let new = c.reclaim-rows.new.pass in
    let is : c.step.result ≡ Quiet = search rules in
    let lent : c.deref_mut.result.now ≡ c.args.reclaims.pass.value = search rules in
    let went = subst (λ (p : SystemPass). GoesOn (with_role grace p.view) mid.view × (c.step.new.self ≡ Some mid.view.number)) lent (c.step.ensures.goes (ap has_role is)) in
    let has = has_role_now system grace old mid.view c.args.reclaims.reclaims went.0 in
    let table : c.table-table.result.now ≡ system.sys = search rules in
    let again : c.deref_mut-in-Quiet.result.now ≡ mid = search rules in
    let knows = subst (λ (p : SystemPass). new.view ≡ reclaimed_view p.view new.view) again c.reclaim-rows.ensures.knows in
    let rows : take mid.view.granted mid.view.rows ≡ old.view.rows = granted_all grace old.view mid.view has in
    let freed : Frees system.sys.procs (length system.sys.layouts) mid.view.visitor.noted mid.view.log new.view.log c.reclaim-rows.result =
    subst (λ (z : SysSeen SystemLayout × SystemPass). Frees z.0.procs (length z.0.layouts) z.1.view.visitor.noted z.1.view.log new.view.log c.reclaim-rows.result)
    (λ j. (table j, again j)) c.reclaim-rows.ensures.freed in
    let swept : Always (layouts_in system) system.sys.layouts new.seat new.view (AreRowsFreed (take mid.view.granted mid.view.rows)) =
    subst (λ (z : SysSeen SystemLayout × SystemPass). Always (any_layouts z.0.procs z.0.callers) z.0.layouts new.seat new.view (AreRowsFreed (take z.1.view.granted z.1.view.rows)))
    (λ j. (table j, again j)) c.reclaim-rows.ensures.rows in
    record {
      pass = new;
      reclaimed = record {
        seat = c.reclaim-rows.ensures.same.seat ∙ ap (λ (p : SystemPass). p.seat) again ∙ c.step.ensures.same.seat ∙ ap (λ (p : SystemPass). p.seat) lent;
        keep = c.reclaim-rows.ensures.same.keep ∙ ap (λ (p : SystemPass). p.keep) again ∙ c.step.ensures.same.keep ∙ ap (λ (p : SystemPass). p.keep) lent;
        number = ap (λ (v : PassView SystemPart Op Reply). v.number) knows ∙ has.number;
        drawn = ap (λ (v : PassView SystemPart Op Reply). v.taker) knows ∙ has.taker;
        none = none_left grace old.view mid.view new.view has knows;
        log = mid.view.log;
        grows = has.grows;
        graces = ap (λ (v : PassView SystemPart Op Reply). v.graces) knows ∙ has.graces;
        freed = subst (λ (noted : List (Option ℕ)). Frees system.sys.procs (length system.sys.layouts) noted mid.view.log new.view.log c.reclaim-rows.result) has.noted freed;
        rows = subst (λ (rows : List Row). Always (layouts_in system) system.sys.layouts new.seat new.view (AreRowsFreed rows)) rows swept;
      };
      seat_is = (_, refl, refl, refl);
    }

pub returns-in-Again-Left : goal.returns-in-Again-Left
returns-in-Again-Left c =
    let system = (arc_value c.args.reclaims.home).system in let grace = c.args.reclaims.grace in
    let old = c.args.reclaims.pass.value in let new = c.step.new.pass in
    let is : c.step.result ≡ Again (Left c.in-Again-Left.field-0-0 c.in-Again-Left.field-0-1) = search rules in
    let lent : c.deref_mut.result.now ≡ c.args.reclaims.pass.value = search rules in
    let went = subst (λ (p : SystemPass). GoesOn (with_role grace p.view) new.view × (c.step.new.self ≡ Some new.view.number)) lent (c.step.ensures.goes (ap has_role is)) in
    let has = has_role_now system grace old new.view c.args.reclaims.reclaims went.0 in
    record {
      pass = new;
      reclaimed = record {
        same = subst (λ (p : SystemPass). IsSamePass p new) lent c.step.ensures.same;
        drawn = has.taker;
        rows = has.rows;
        noted = has.noted;
        grows = has.grows;
        graces = has.graces;
        proc = c.in-Again-Left.field-0-0;
        left = c.in-Again-Left.field-0-1;
        is_left = subst (λ (p : SystemPass). IsLeft c.in-Again-Left.field-0-0 c.in-Again-Left.field-0-1 p.view new.view) lent (c.step.ensures.left _ _ is);
      };
      seat_is = (_, refl, refl, refl);
    }

pub returns-in-Again-RoleHeld : goal.returns-in-Again-RoleHeld
returns-in-Again-RoleHeld c =
    let old = c.args.reclaims.pass.value in let new = c.step.new.pass in
    let is : c.step.result ≡ Again (RoleHeld c.in-Again-RoleHeld.field-0-0) = search rules in
    let held = c.step.ensures.role_held _ is in
    let lent : c.deref_mut.result.now ≡ c.args.reclaims.pass.value = search rules in
    record {
      pass = new;
      reclaimed = (
        held.1,
        found_role old new c.in-Again-RoleHeld.field-0-0 (subst (λ (p : SystemPass). IsSamePass p new) lent c.step.ensures.same)
            (subst (λ (p : SystemPass). HasTried c.in-Again-RoleHeld.field-0-0 p.view new.view) lent held.0.knows)
            (subst (λ (p : SystemPass). RoleFound p.view (c.in-Again-RoleHeld.field-0-0 + 1)) lent held.0.finds),
      );
      seat_is = (_, refl, refl, refl);
    }
