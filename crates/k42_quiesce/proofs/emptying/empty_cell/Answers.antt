use Rattle.std.proofs.Common.{rules, ◌≡◌, ◌<◌, ℕ, subst}
use Rattle.k42_board.specs.Taking.{CELLS}
use Rattle.k42_quiesce.specs.Reclaiming.{emptied_view}
use Rattle.k42_quiesce.proofs.Emptied.{may_put_empty, holds_back, cell_back}
use Rattle.k42_quiesce.proofs.emptying.empty_cell.Goals as goal

pub put-requires-clause-may : goal.put-requires-clause-may
put-requires-clause-may g c κs within =
    let few : c.cell_number-cell.result < CELLS = search rules in
    may_put_empty _ c.requires.laws _ _ c.cell_number-cell.result c.args.object c.args.row c.args.place _ c.args.pass.now.view _ _ c.take-content.result _
    c.cell_number-cell.ensures c.take-content.ensures.number few c.requires.there.1 c.requires.freed c.lock.ensures.takes.knows
    c.take-content.ensures.moved.back.knows c.take_part.ensures.same

pub returns-clause-same : goal.returns-clause-same
returns-clause-same g c =
    let left = (c.unlock.ensures 0).same in let put = c.put.ensures.same in let taken = c.take-content.ensures.moved.same in let locked = c.lock.ensures.same in
    search rules

pub returns-clause-knows : goal.returns-clause-knows
returns-clause-knows g c =
    let free : c.lock.result ≡ 0 = search rules in
    subst (λ (n : ℕ). c.unlock.new.pass.view ≡ emptied_view n c.args.pass.now.view) c.cell_number-cell.ensures
    (cell_back c.cell_number-cell.result _ c.args.pass.now.view _ _ _ c.take-content.result c.take_part.new.self c.requires.free free c.lock.ensures.takes.finds.unnoted
    c.take-content.ensures.number c.lock.ensures.takes.knows c.take-content.ensures.moved.back.knows c.put.ensures.back.knows c.unlock.new.pass.view
    c.take_part.ensures.same (c.unlock.ensures 0).takes.knows)

pub unlock-requires-after_bounds : goal.unlock-requires-after_bounds
unlock-requires-after_bounds g c κs within =
    let few : c.cell_number-cell.result < CELLS = search rules in
    let free : c.lock.result ≡ 0 = search rules in
    record {
      ours = search rules;
      may =
          holds_back c.cell_number-cell.result _ c.args.pass.now.view _ _ _ c.take-content.result c.take_part.new.self c.requires.free free
          c.lock.ensures.takes.finds.unnoted c.take-content.ensures.number c.lock.ensures.takes.knows c.take-content.ensures.moved.back.knows
          c.put.ensures.back.knows few;
    }
