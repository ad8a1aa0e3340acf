use Rattle.std.proofs.Common.{ℕ, ap, ◌∙◌, arith, vec_len, vec_capacity}
use Rattle.turn_core.specs.Names.{names}
use Rattle.k42_board.specs.Drawing.{numbers_of}
use Rattle.k42_board.specs.Plan.{layouts_on}
use Rattle.k42_mediator.proofs.RowTaken.{next_apart, takes_next}
use Rattle.k42_mediator.proofs.rows.take_row.Goals as goal

pub take_next-requires-clause-another : goal.take_next-requires-clause-another
take_next-requires-clause-another g c κs within =
    let numbers = numbers_of c.loop-place.cells.items in let place : ℕ = c.loop-place.place in
    let lt = c.loop-place-test.true in let is = c.procs-procs.ensures.is in
    ap (names numbers) c.cell_number.ensures
    ∙ next_apart numbers (numbers_of c.args.cells.now.items) c.args.object c.args.row place c.loop-place.invariant.1.numbers
    (c.requires.others place (omega (arith, lt, is)))

pub loop-place-preserved : goal.loop-place-preserved
loop-place-preserved g c =
    let F = layouts_on g.L.Kind.object g.L.Layout.shapes g.L.Layout.tag_of g.L.Layout.ways g.L.Layout.whole g.L.Layout.serves g.L.Layout.admitted g.L.Layout.act_of c.args.sys.now.procs c.args.sys.now.callers in
    let next = c.take_next.ensures in let lt = c.loop-place-test.true in (
      omega (arith, lt),
      takes_next F c.args.sys.now.layouts c.args.object c.args.row c.args.pass.now c.args.cells.now.items (vec_len c.args.cells.now) (vec_capacity c.args.cells.now)
          c.loop-place.place c.loop-place.pass c.take_next.new.pass c.loop-place.cells.items c.take_next.new.cells.items
          (vec_len c.loop-place.cells) (vec_len c.take_next.new.cells) (vec_capacity c.loop-place.cells) (vec_capacity c.take_next.new.cells) c.cell_number.result
          c.loop-place.invariant.1 c.cell_number.ensures next.same next.capacity next.len next.numbers next.back next.held next.taken next.released next.log next.rows,
    )
