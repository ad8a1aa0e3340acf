use Rattle.std.proofs.Common.{◌≡◌, ◌≤◌, ℕ, ◌+◌, ◌++◌, List, [], inr, ap, ◌∙◌, subst, arith}
use Rattle.phase_core.specs.Plain.{Visitor}
use Rattle.turn_core.specs.Names.{names, names_once}
use Rattle.k42_joined.specs.Numbers.{cell_of, row_cells}
use Rattle.k42_joined.proofs.LocksHand.{apart_row}
use Rattle.k42_board.specs.Drawing.{numbers_of}
use Rattle.k42_board.specs.Log.{ComesTo, with_log}
use Rattle.k42_board.specs.Plan.{layouts_on}
use Rattle.k42_board.specs.Swapping.{object_swapped}
use Rattle.k42_board.specs.declared.cell.Content.{Content}
use Rattle.k42_board.proofs.Gained.{extends_on}
use Rattle.k42_mediator.specs.Taken.{released}
use Rattle.k42_mediator.proofs.RowHanded.{two_rows_once}
use Rattle.k42_mediator.proofs.SamePass.{same_twice}
use Rattle.k42_mediator.proofs.Transferred.{left_always, has_kept, has_done, on_ok, on_err}
use Rattle.k42_mediator.proofs.transferring.transfer.Goals as goal

pub returns-in_err-cells-clause-left : goal.returns-in_err-cells-clause-left
returns-in_err-cells-clause-left g c = λ v same.
    let F = layouts_on g.L.Kind.object g.L.Layout.shapes g.L.Layout.tag_of g.L.Layout.ways g.L.Layout.whole g.L.Layout.serves g.L.Layout.admitted g.L.Layout.act_of c.args.sys.now.procs c.args.sys.now.callers in
    left_always F c.args.sys.now.layouts c.args.pass.now.seat (object_swapped c.args.pass.now.view) v (ap (λ (x : Visitor). x.swap) same ∙ c.requires.moved.moved)

pub returns-clause-left : goal.returns-clause-left
returns-clause-left g c = λ v same.
    let F = layouts_on g.L.Kind.object g.L.Layout.shapes g.L.Layout.tag_of g.L.Layout.ways g.L.Layout.whole g.L.Layout.serves g.L.Layout.admitted g.L.Layout.act_of c.args.sys.now.procs c.args.sys.now.callers in
    left_always F c.args.sys.now.layouts c.args.pass.now.seat (object_swapped c.args.pass.now.view) v (ap (λ (x : Visitor). x.swap) same ∙ c.requires.moved.moved)

pub take_row-requires-2-clause-others : goal.take_row-requires-2-clause-others
take_row-requires-2-clause-others g c κs within = λ place lt.
    let o : ℕ = c.moved_row-row.result.object in let i : ℕ = c.moved_row-row.result.incarnation in let procs : ℕ = c.args.sys.now.procs in
    let few : procs ≤ 8 = subst (λ p. p ≤ 8) c.procs-procs.ensures.is c.procs-procs.ensures.few in
    let first : numbers_of c.take_row.new.cells.items ≡ row_cells procs o i =
    c.take_row.ensures.numbers ∙ ap (λ (xs : List (Content _ _ _)). numbers_of xs ++ row_cells procs o i) c.in_ok-cells.ensures.items in
    ap (λ ns. names ns (cell_of o (i + 1) place)) first ∙ apart_row procs o i o (i + 1) place few lt (inr (λ same. omega (arith, same)))

pub give_back-requires-clause-once : goal.give_back-requires-clause-once
give_back-requires-clause-once g c κs within =
    let o : ℕ = c.moved_row-row.result.object in let i : ℕ = c.moved_row-row.result.incarnation in let procs : ℕ = c.args.sys.now.procs in
    let few : procs ≤ 8 = subst (λ p. p ≤ 8) c.procs-procs.ensures.is c.procs-procs.ensures.few in
    let first : numbers_of c.take_row.new.cells.items ≡ row_cells procs o i =
    c.take_row.ensures.numbers ∙ ap (λ (xs : List (Content _ _ _)). numbers_of xs ++ row_cells procs o i) c.in_ok-cells.ensures.items in
    ap names_once (c.move_and_draw-done.ensures.numbers ∙ c.take_row-2.ensures.numbers ∙ ap (λ ns. ns ++ row_cells procs o (i + 1)) first) ∙ two_rows_once procs o i few

pub returns-clause-done : goal.returns-clause-done
returns-clause-done g c =
    let p0 = c.args.pass.now in let p1 = c.take_row.new.pass in let p2 = c.take_row-2.new.pass in let p3 = c.move_and_draw-done.new.pass in let p4 = c.give_back.new.pass in
    let ns = numbers_of c.take_row-2.new.cells.items in
    let took = same_twice p0 p1 p2 c.take_row.ensures.same c.take_row-2.ensures.same in
    let chain : released ns p2.view ≡ with_log p2.view.log (released [] p0.view) =
    c.take_row-2.ensures.released
    ∙ ap (with_log p2.view.log) (c.take_row.ensures.released ∙ ap (λ (xs : List (Content _ _ _)). with_log p1.view.log (released (numbers_of xs) p0.view)) c.in_ok-cells.ensures.items) in
    let since = extends_on c.take_row.ensures.log c.take_row-2.ensures.log in
    let back : ComesTo p3.view (released ns p3.view) p4.view =
    subst (λ ms. ComesTo p3.view (released ms p3.view) p4.view) c.move_and_draw-done.ensures.numbers c.give_back.ensures.comes in
    let settled = c.moved_row-row.ensures.settled in
    on_ok c.move_and_draw-done.result
    (has_done p0 p2 p3 p4 ns took chain since settled.back settled.told c.give_back.ensures.same back (g.L.Layout.act_of c.args.to.now) (g.L.Layout.tag_of c.args.to.now))
    c.move_and_draw-done.ensures.handed

pub returns-clause-memory : goal.returns-clause-memory
returns-clause-memory g c =
    let p0 = c.args.pass.now in let p1 = c.take_row.new.pass in let p2 = c.take_row-2.new.pass in let p3 = c.move_and_draw-done.new.pass in let p4 = c.give_back.new.pass in
    let ns = numbers_of c.take_row-2.new.cells.items in
    let took = same_twice p0 p1 p2 c.take_row.ensures.same c.take_row-2.ensures.same in
    let chain : released ns p2.view ≡ with_log p2.view.log (released [] p0.view) =
    c.take_row-2.ensures.released
    ∙ ap (with_log p2.view.log) (c.take_row.ensures.released ∙ ap (λ (xs : List (Content _ _ _)). with_log p1.view.log (released (numbers_of xs) p0.view)) c.in_ok-cells.ensures.items) in
    let since = extends_on c.take_row.ensures.log c.take_row-2.ensures.log in
    let back : ComesTo p3.view (released ns p3.view) p4.view =
    subst (λ ms. ComesTo p3.view (released ms p3.view) p4.view) c.move_and_draw-done.ensures.numbers c.give_back.ensures.comes in
    let settled = c.moved_row-row.ensures.settled in
    on_err c.move_and_draw-done.result (has_kept p0 p2 p3 p4 ns took chain since settled.back settled.told c.give_back.ensures.same back) c.move_and_draw-done.ensures.memory
