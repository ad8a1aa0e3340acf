use Rattle.std.proofs.Common.{◌+◌, refl, ap, ◌∙◌}
use Rattle.k42_board.specs.Log.{ComesTo}
use Rattle.k42_mediator.specs.Swaps.{given_up_view}
use Rattle.k42_mediator.proofs.GivenUp.{comes_up, later_up, rows_before, clears_up, never_turned, given_up, abandoned, room_stays}
use Rattle.k42_mediator.proofs.SamePass.{same_twice, same_of_room, draws_between}
use Rattle.k42_mediator.proofs.abandoning.abandon.Goals as goal

pub clear_step-requires-2-clause-may : goal.clear_step-requires-2-clause-may
clear_step-requires-2-clause-may g c κs within =
    let v = c.args.pass.now.view in let act = g.L.Layout.act_of c.args.to.now in
    let comes : ComesTo v (given_up_view act v) c.draw_alone.new.pass.view =
    comes_up act v c.requires.moved.moved _ _ _ _ _ _ _ c.act.ensures (ap (λ i. i + 1) c.moved_row-number.ensures.row) c.clear_step.ensures.takes.knows
    c.change_entries.ensures.comes (c.draw_alone.ensures.takes 0).knows in
    record {
      ours = c.draw_alone.ensures.drawer.table ∙ c.change_entries.ensures.same.table ∙ c.clear_step.ensures.same.table ∙ c.requires.ours.table;
      may = clears_up act v _ c.moved_row-number.ensures.unturned comes;
    }

pub clear_step-requires-2-clause-room : goal.clear_step-requires-2-clause-room
clear_step-requires-2-clause-room g c κs within =
    let v = c.args.pass.now.view in let act = g.L.Layout.act_of c.args.to.now in
    let comes : ComesTo v (given_up_view act v) c.draw_alone.new.pass.view =
    comes_up act v c.requires.moved.moved _ _ _ _ _ _ _ c.act.ensures (ap (λ i. i + 1) c.moved_row-number.ensures.row) c.clear_step.ensures.takes.knows
    c.change_entries.ensures.comes (c.draw_alone.ensures.takes 0).knows in
    never_turned act v _ c.moved_row-number.ensures.unturned comes

pub returns-clause-same : goal.returns-clause-same
returns-clause-same g c =
    let v = c.args.pass.now.view in let act = g.L.Layout.act_of c.args.to.now in
    let comes : ComesTo v (given_up_view act v) c.draw_alone.new.pass.view =
    comes_up act v c.requires.moved.moved _ _ _ _ _ _ _ c.act.ensures (ap (λ i. i + 1) c.moved_row-number.ensures.row) c.clear_step.ensures.takes.knows
    c.change_entries.ensures.comes (c.draw_alone.ensures.takes 0).knows in
    let opened = same_of_room _ _ c.clear_step.ensures.same (rows_before _ _ v _ c.requires.moved.moved c.clear_step.ensures.takes.knows) in
    let cleared = same_of_room _ _ c.clear_step-2.ensures.same
    (room_stays _ _ act _ _ v _ _ _ c.moved_row-number.ensures.unturned comes refl c.clear_step-2.ensures.takes) in
    draws_between _ _ _ _ (same_twice _ _ _ opened c.change_entries.ensures.same) c.draw_alone.ensures.drawer cleared

pub returns-clause-knows : goal.returns-clause-knows
returns-clause-knows g c =
    let v = c.args.pass.now.view in let act = g.L.Layout.act_of c.args.to.now in
    let comes : ComesTo v (given_up_view act v) c.draw_alone.new.pass.view =
    comes_up act v c.requires.moved.moved _ _ _ _ _ _ _ c.act.ensures (ap (λ i. i + 1) c.moved_row-number.ensures.row) c.clear_step.ensures.takes.knows
    c.change_entries.ensures.comes (c.draw_alone.ensures.takes 0).knows in
    abandoned _ _ act _ _ v _ _ _ c.moved_row-number.ensures.unturned comes refl c.clear_step-2.ensures.takes

pub returns-clause-later : goal.returns-clause-later
returns-clause-later g c =
    later_up (g.L.Layout.act_of c.args.to.now) c.args.pass.now.view c.requires.moved.moved _ _ c.draw_alone.result c.clear_step.new.pass.view c.change_entries.new.pass.view
    c.clear_step.ensures.takes.knows c.change_entries.ensures.comes c.draw_alone.ensures.stamp c.draw_alone.ensures.later

pub returns-clause-up : goal.returns-clause-up
returns-clause-up g c =
    let v = c.args.pass.now.view in let act = g.L.Layout.act_of c.args.to.now in
    let comes : ComesTo v (given_up_view act v) c.draw_alone.new.pass.view =
    comes_up act v c.requires.moved.moved _ _ _ _ _ _ _ c.act.ensures (ap (λ i. i + 1) c.moved_row-number.ensures.row) c.clear_step.ensures.takes.knows
    c.change_entries.ensures.comes (c.draw_alone.ensures.takes 0).knows in
    let seat = c.draw_alone.ensures.drawer.seat ∙ c.change_entries.ensures.same.seat ∙ c.clear_step.ensures.same.seat in
    given_up _ _ act _ _ v _ _ _ c.moved_row-number.ensures.unturned comes seat c.clear_step-2.ensures.takes
