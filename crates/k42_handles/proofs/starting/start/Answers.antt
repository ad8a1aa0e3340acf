use Rattle.std.proofs.Common.{◌≡◌, length, false, inr, rules, refl, sym, ap, ◌∙◌}
use Rattle.std.specs.Prelude.{Ok}
use Rattle.std.specs.List.{list_any}
use Rattle.k42_handles.specs.Handles.{is_full}
use Rattle.k42_handles.specs.Starting.{plan_coded}
use Rattle.k42_handles.proofs.Started.{gone_same, none_full, plan_callers}
use Rattle.k42_handles.proofs.starting.start.Goals as goal

pub start_planned-requires-clause-gone : goal.start_planned-requires-clause-gone
start_planned-requires-clause-gone c =
    let none : list_any is_full c.args.handles.now ≡ false = search rules in
    none_full c.args.handles.now none

pub start_planned-requires-clause-many : goal.start_planned-requires-clause-many
start_planned-requires-clause-many c =
    let spelled : plan_coded c.args.procs c.args.objects.now c.args.homes.now c.args.keep ≡ Ok c.in_ok-plan.plan = search rules in
    let as_many : length c.args.handles.now ≡ length c.args.homes.now = search rules in
    ap length (plan_callers c.args.procs c.args.objects.now c.args.homes.now c.args.keep c.in_ok-plan.plan spelled) ∙ sym as_many

pub returns-in-Err : goal.returns-in-Err
returns-in-Err c =
    let none : list_any is_full c.args.handles.now ≡ false = search rules in
    let many : length c.clear.new.handles ≡ length c.args.handles.now = search rules in
    (inr refl, gone_same c.clear.new.handles c.args.handles.now c.clear.ensures (none_full c.args.handles.now none) many)
