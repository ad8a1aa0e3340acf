use Rattle.std.proofs.Common.{◌<◌, ◌≤◌, ℕ, [], inl, ap, ◌∙◌, subst, arith}
use Rattle.turn_core.specs.Names.{names}
use Rattle.k42_mediator.proofs.SamePass.{draws_between, same_twice}
use Rattle.k42_board.specs.Plan.{layouts_on}
use Rattle.k42_runtime.specs.Serving.{object_inside, row_inside}
use Rattle.k42_runtime.proofs.CallAtCell.{can_reply, may_call, left_home, called_served, left_served, seat_drawn, seat_left, still_ours}
use Rattle.k42_runtime.proofs.CallMade.{served_inside}
use Rattle.k42_runtime.proofs.CallTaken.{cell_small, was_refused, refused_alone}
use Rattle.k42_runtime.proofs.serving.serve_one.Goals as goal

pub lock-found-requires-after_bounds : goal.lock-found-requires-after_bounds
lock-found-requires-after_bounds g c κs within =
    let v = c.args.pass.now.view in let place : ℕ = c.args.place in
    let few : c.procs-procs.result ≤ 8 = c.procs-procs.ensures.few in let is = c.procs-procs.ensures.is in let lt = c.requires.there in
    let there : place < 8 = omega (arith, few, is, lt) in
    record {
      ours = c.requires.ours;
      may = record {
        cell = cell_small (object_inside v) (row_inside v) place c.args.number c.requires.number there c.requires.call.few;
        unheld = ap (λ held. names held c.args.number) c.requires.held;
        touches = inl (record {
          object = object_inside v;
          row = row_inside v;
          place = place;
          cell = c.requires.number;
          there = c.requires.there;
          inside = served_inside v.visitor.place c.requires.call.served;
        });
      };
    }

pub returns-then-found-ne0-clause-served : goal.returns-then-found-ne0-clause-served
returns-then-found-ne0-clause-served g c =
    let F = layouts_on g.L.Kind.object g.L.Layout.shapes g.L.Layout.tag_of g.L.Layout.ways g.L.Layout.whole g.L.Layout.serves g.L.Layout.admitted g.L.Layout.act_of c.args.sys.now.procs c.args.sys.now.callers in let declared = c.args.sys.now.layouts in
    let v = c.args.pass.now.view in let place : ℕ = c.args.place in
    let few : c.procs-procs.result ≤ 8 = c.procs-procs.ensures.few in let is = c.procs-procs.ensures.is in let lt = c.requires.there in
    let there : place < 8 = omega (arith, few, is, lt) in
    refused_alone F declared (object_inside v) (row_inside v) place c.args.number _ v c.lock-found.new.pass.view c.requires.number there
    (was_refused F declared c.args.number c.lock-found.result v c.lock-found.new.pass.view [] c.if-found-ne0.true c.lock-found.ensures.takes.knows c.lock-found.ensures.takes.finds)

pub call_one-called-requires-clause-call : goal.call_one-called-requires-clause-call
call_one-called-requires-clause-call g c κs within =
    let F = layouts_on g.L.Kind.object g.L.Layout.shapes g.L.Layout.tag_of g.L.Layout.ways g.L.Layout.whole g.L.Layout.serves g.L.Layout.admitted g.L.Layout.act_of c.args.sys.now.procs c.args.sys.now.callers in
    let few : F.procs ≤ 8 = subst (λ k. k ≤ 8) c.procs-procs.ensures.is c.procs-procs.ensures.few in
    may_call F c.layouts_are_lawful.ensures c.args.sys.now.layouts (g.met.L.Layout g.world.𝓛 g.world.𝓜 g.world.𝓡 ((λ s x. x), (λ x. x), (λ x. x), λ x. x)).agrees c.args.layout.now c.args.place c.args.number c.lock-found.result c.args.op.now c.args.pass.now.view c.lock-found.new.pass.view
    few c.requires.number c.requires.call c.requires.held c.lock-found.ensures.takes.finds.unnoted c.requires.few c.if-found-ne0.false c.lock-found.ensures.takes.knows c.lock-found.new.pass.seat

pub unlock-requires-after_bounds : goal.unlock-requires-after_bounds
unlock-requires-after_bounds g c κs within =
    let F = layouts_on g.L.Kind.object g.L.Layout.shapes g.L.Layout.tag_of g.L.Layout.ways g.L.Layout.whole g.L.Layout.serves g.L.Layout.admitted g.L.Layout.act_of c.args.sys.now.procs c.args.sys.now.callers in let v = c.args.pass.now.view in let place : ℕ = c.args.place in
    let few : F.procs ≤ 8 = subst (λ k. k ≤ 8) c.procs-procs.ensures.is c.procs-procs.ensures.few in
    let lt = c.requires.there in let there : place < 8 = omega (arith, few, lt) in
    let small = cell_small (object_inside v) (row_inside v) place c.args.number c.requires.number there c.requires.call.few in
    let one = c.call_one-called in
    record {
      ours = still_ours c.args.sys.now.table one.result c.lock-found.new.pass one.new.pass one.ensures.drawer one.ensures.same (c.lock-found.ensures.same.table ∙ c.requires.ours);
      may =
          left_home F c.layouts_are_lawful.ensures c.args.sys.now.layouts (g.met.L.Layout g.world.𝓛 g.world.𝓜 g.world.𝓡 ((λ s x. x), (λ x. x), (λ x. x), λ x. x)).agrees c.args.layout.now c.args.place c.args.number c.lock-found.result c.args.op.now v c.lock-found.new.pass.view
          few c.requires.number c.requires.call c.requires.held c.lock-found.ensures.takes.finds.unnoted c.requires.few c.if-found-ne0.false c.lock-found.ensures.takes.knows c.lock-found.new.pass.seat
          one.new.pass.view small one.new.reply one.result one.ensures.called one.ensures.memory;
    }

pub returns-in-Ok-clause-same : goal.returns-in-Ok-clause-same
returns-in-Ok-clause-same g c =
    seat_drawn _ _ (draws_between c.args.pass.now c.lock-found.new.pass c.call_one-called.new.pass c.unlock.new.pass c.lock-found.ensures.same c.in-Ok.ensures.drawer (c.unlock.ensures 0).same)

pub returns-in-Ok-clause-served : goal.returns-in-Ok-clause-served
returns-in-Ok-clause-served g c =
    let F = layouts_on g.L.Kind.object g.L.Layout.shapes g.L.Layout.tag_of g.L.Layout.ways g.L.Layout.whole g.L.Layout.serves g.L.Layout.admitted g.L.Layout.act_of c.args.sys.now.procs c.args.sys.now.callers in
    let few : F.procs ≤ 8 = subst (λ k. k ≤ 8) c.procs-procs.ensures.is c.procs-procs.ensures.few in
    called_served F c.layouts_are_lawful.ensures c.args.sys.now.layouts (g.met.L.Layout g.world.𝓛 g.world.𝓜 g.world.𝓡 ((λ s x. x), (λ x. x), (λ x. x), λ x. x)).agrees c.args.layout.now c.args.place c.args.number c.lock-found.result c.args.op.now c.args.pass.now.view c.lock-found.new.pass.view
    few c.requires.number c.requires.call c.requires.held c.lock-found.ensures.takes.finds.unnoted c.requires.few c.if-found-ne0.false c.lock-found.ensures.takes.knows c.lock-found.new.pass.seat
    c.call_one-called.new.pass.view c.requires.settled.back c.requires.settled.told c.unlock.new.pass.view (c.unlock.ensures 0).takes.knows c.call_one-called.new.reply c.in-Ok.field-0 c.in-Ok.ensures.later
    c.in-Ok.ensures.called

pub returns-in-Err-clause-same : goal.returns-in-Err-clause-same
returns-in-Err-clause-same g c =
    seat_left _ _ (same_twice c.args.pass.now c.call_one-called.new.pass c.unlock.new.pass (same_twice c.args.pass.now c.lock-found.new.pass c.call_one-called.new.pass c.lock-found.ensures.same c.in-Err.ensures.same) (c.unlock.ensures 0).same)

pub returns-in-Err-clause-served : goal.returns-in-Err-clause-served
returns-in-Err-clause-served g c =
    let F = layouts_on g.L.Kind.object g.L.Layout.shapes g.L.Layout.tag_of g.L.Layout.ways g.L.Layout.whole g.L.Layout.serves g.L.Layout.admitted g.L.Layout.act_of c.args.sys.now.procs c.args.sys.now.callers in
    let few : F.procs ≤ 8 = subst (λ k. k ≤ 8) c.procs-procs.ensures.is c.procs-procs.ensures.few in
    left_served F c.layouts_are_lawful.ensures c.args.sys.now.layouts (g.met.L.Layout g.world.𝓛 g.world.𝓜 g.world.𝓡 ((λ s x. x), (λ x. x), (λ x. x), λ x. x)).agrees c.args.layout.now c.args.place c.args.number c.lock-found.result c.args.op.now c.args.pass.now.view c.lock-found.new.pass.view
    few c.requires.number c.requires.call c.requires.held c.lock-found.ensures.takes.finds.unnoted c.requires.few c.if-found-ne0.false c.lock-found.ensures.takes.knows c.lock-found.new.pass.seat
    c.call_one-called.new.pass.view c.requires.settled.back c.requires.settled.told c.unlock.new.pass.view (c.unlock.ensures 0).takes.knows c.in-Err.ensures.memory

pub returns-in-Ok-clause-can : goal.returns-in-Ok-clause-can
returns-in-Ok-clause-can g c =
    let F = layouts_on g.L.Kind.object g.L.Layout.shapes g.L.Layout.tag_of g.L.Layout.ways g.L.Layout.whole g.L.Layout.serves g.L.Layout.admitted g.L.Layout.act_of c.args.sys.now.procs c.args.sys.now.callers in
    let few : F.procs ≤ 8 = subst (λ k. k ≤ 8) c.procs-procs.ensures.is c.procs-procs.ensures.few in
    let laws = g.met.L.Layout g.world.𝓛 g.world.𝓜 g.world.𝓡 ((λ s x. x), (λ x. x), (λ x. x), λ x. x) in
    λ ended. can_reply F c.layouts_are_lawful.ensures c.args.sys.now.layouts laws.agrees c.args.layout.now c.args.place c.args.number c.lock-found.result c.args.op.now c.args.pass.now.view c.lock-found.new.pass.view
    few c.requires.number c.requires.call c.requires.held c.lock-found.ensures.takes.finds.unnoted c.requires.few c.if-found-ne0.false c.lock-found.ensures.takes.knows c.lock-found.new.pass.seat
    c.call_one-called.new.pass.view c.call_one-called.new.reply c.in-Ok.field-0
    (λ procs parts some whole. (laws.stands c.args.layout.now procs parts c.requires.call.known some whole).served)
    (λ procs proc parts there whole. laws.steps c.args.layout.now procs proc parts c.args.op.now c.requires.call.known there c.requires.call.takes whole) c.in-Ok.ensures.called
