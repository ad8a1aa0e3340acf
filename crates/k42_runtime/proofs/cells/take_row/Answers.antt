use Rattle.std.proofs.Common.{◌≤◌, ◌<◌, ℕ, refl, ap, ◌∙◌, arith, vec_len, vec_capacity}
use Rattle.turn_core.specs.Names.{names}
use Rattle.k42_joined.specs.Numbers.{cell_of}
use Rattle.k42_board.specs.Drawing.{numbers_of}
use Rattle.k42_mediator.proofs.RowTaken.{row_apart}
use Rattle.k42_board.specs.Plan.{layouts_on}
use Rattle.k42_runtime.proofs.CallTaken.{cell_small, row_next, row_stopped, row_may_give, row_may}
use Rattle.k42_runtime.proofs.cells.take_row.Goals as goal

pub take_next-requires-clause-another : goal.take_next-requires-clause-another
take_next-requires-clause-another g c κs within =
    let o : ℕ = c.args.object in let i : ℕ = c.args.row in let place : ℕ = c.loop-place.place in
    ap (names (numbers_of c.loop-place.cells.items)) c.cell_number.ensures
    ∙ ap (λ ns. names ns (cell_of o i place)) c.loop-place.invariant.1.taking.numbers ∙ row_apart place o i

pub take_next-requires-clause-few : goal.take_next-requires-clause-few
take_next-requires-clause-few g c κs within =
    let few : c.procs-procs.result ≤ 8 = c.procs-procs.ensures.few in let lt = c.loop-place-test.true in
    cell_small c.args.object c.args.row c.loop-place.place c.cell_number.result c.cell_number.ensures (omega (arith, few, lt)) c.requires.few

pub returns-in-Some-clause-takes : goal.returns-in-Some-clause-takes
returns-in-Some-clause-takes g c =
    let F = layouts_on g.L.Kind.object g.L.Layout.shapes g.L.Layout.tag_of g.L.Layout.ways g.L.Layout.whole g.L.Layout.serves g.L.Layout.admitted g.L.Layout.act_of c.args.sys.now.procs c.args.sys.now.callers in let place : ℕ = c.loop-place.place in
    let few : c.procs-procs.result ≤ 8 = c.procs-procs.ensures.few in let lt = c.loop-place-test.true in
    let there : place < 8 = omega (arith, few, lt) in
    row_stopped F c.args.sys.now.layouts c.args.object c.args.row c.args.pass.now (vec_capacity c.args.cells.now) place c.loop-place.pass c.loop-place.cells.items
    (vec_len c.loop-place.cells) (vec_capacity c.loop-place.cells) c.loop-place.invariant.1 c.in-Some.holder c.cell_number.result c.take_next.new.pass c.take_next.new.cells.items
    c.cell_number.ensures there c.in-Some.ensures.takes

pub returns-in-Some-clause-may : goal.returns-in-Some-clause-may
returns-in-Some-clause-may g c =
    let F = layouts_on g.L.Kind.object g.L.Layout.shapes g.L.Layout.tag_of g.L.Layout.ways g.L.Layout.whole g.L.Layout.serves g.L.Layout.admitted g.L.Layout.act_of c.args.sys.now.procs c.args.sys.now.callers in let place : ℕ = c.loop-place.place in
    let few : c.procs-procs.result ≤ 8 = c.procs-procs.ensures.few in let within = c.loop-place.invariant.0 in
    row_may_give F c.args.sys.now.layouts c.args.object c.args.row c.args.pass.now (vec_capacity c.args.cells.now) place c.loop-place.pass c.loop-place.cells.items
    (vec_len c.loop-place.cells) (vec_capacity c.loop-place.cells) c.loop-place.invariant.1 c.layouts_are_lawful.ensures (omega (arith, few, within)) c.requires.few
    c.in-Some.holder c.cell_number.result c.take_next.new.pass.seat c.take_next.new.pass.view c.take_next.new.cells.items c.in-Some.ensures.takes.same c.in-Some.ensures.takes.knows

pub loop-place-preserved : goal.loop-place-preserved
loop-place-preserved g c =
    let F = layouts_on g.L.Kind.object g.L.Layout.shapes g.L.Layout.tag_of g.L.Layout.ways g.L.Layout.whole g.L.Layout.serves g.L.Layout.admitted g.L.Layout.act_of c.args.sys.now.procs c.args.sys.now.callers in let place : ℕ = c.loop-place.place in
    let lt = c.loop-place-test.true in (
      omega (arith, lt),
      row_next F c.args.sys.now.layouts c.args.object c.args.row c.args.pass.now (vec_capacity c.args.cells.now) place c.loop-place.pass c.loop-place.cells.items
          (vec_len c.loop-place.cells) (vec_capacity c.loop-place.cells) c.loop-place.invariant.1 c.take_next.new.pass c.take_next.new.cells.items
          (vec_len c.take_next.new.cells) (vec_capacity c.take_next.new.cells) c.cell_number.result c.cell_number.ensures c.take_next.ensures.same c.take_next.ensures.capacity
          (c.in_default.ensures.len refl) c.in_default.ensures.takes,
    )

pub returns-clause-may : goal.returns-clause-may
returns-clause-may g c =
    let F = layouts_on g.L.Kind.object g.L.Layout.shapes g.L.Layout.tag_of g.L.Layout.ways g.L.Layout.whole g.L.Layout.serves g.L.Layout.admitted g.L.Layout.act_of c.args.sys.now.procs c.args.sys.now.callers in let place : ℕ = c.loop-place.place in
    let few : c.procs-procs.result ≤ 8 = c.procs-procs.ensures.few in let within = c.loop-place.invariant.0 in
    row_may F c.args.sys.now.layouts c.args.object c.args.row c.args.pass.now (vec_capacity c.args.cells.now) place c.loop-place.pass c.loop-place.cells.items
    (vec_len c.loop-place.cells) (vec_capacity c.loop-place.cells) c.loop-place.invariant.1 c.layouts_are_lawful.ensures (omega (arith, few, within)) c.requires.few
    c.loop-place.pass.seat
