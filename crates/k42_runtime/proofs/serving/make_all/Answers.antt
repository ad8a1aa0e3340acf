use Rattle.std.proofs.Common.{◌≡◌, ◌≤◌, ℕ, ◌++◌, List, length, take, drop, sym, ap, ◌∙◌, subst}
use Rattle.k42_kinds.specs.declared.entry.Act.TheVariants.{Call}
use Rattle.k42_kinds.specs.declared.entry.Answer.TheVariants.{Replied}
use Rattle.k42_kinds.specs.declared.entry.Reach.TheVariants.{All}
use Rattle.k42_joined.specs.Drawing.{first_cell}
use Rattle.k42_board.specs.Drawing.{AreTold, MayDrawCall, numbers_of, entry_call, drawn_at, stamp_next}
use Rattle.k42_board.specs.Log.{took}
use Rattle.k42_board.specs.Words.{lock_word}
use Rattle.k42_board.specs.declared.cell.Content.{Content}
use Rattle.k42_board.specs.declared.view.PassView.{PassView}
use Rattle.k42_board.specs.declared.view.StepName.TheVariants as steps
use Rattle.k42_mediator.specs.Parts.{parts_from}
use Rattle.k42_mediator.proofs.AfterMark.{later_stamp}
use Rattle.k42_mediator.proofs.RowReady.{written_back, told_numbers}
use Rattle.k42_board.specs.Plan.{layouts_on}
use Rattle.k42_shapes.specs.Shapes.{cells_of, shape_at}
use Rattle.k42_runtime.specs.Reaching.{MayGiveBack}
use Rattle.k42_runtime.specs.Stepping.{AreRow, MayStepRow, HasSteppedCells}
use Rattle.k42_runtime.proofs.CallReplied.{replied_at_all}
use Rattle.k42_runtime.proofs.CallMade.{may_step, may_draw, numbers_stepped, long_stepped, may_give_taken, may_give_drawn, has_made}
use Rattle.k42_runtime.proofs.serving.make_all.Goals as goal

pub step_row-requires-clause-cells : goal.step_row-requires-clause-cells
step_row-requires-clause-cells g c κs within =
    let procs : ℕ = c.args.sys.now.procs in let F = layouts_on g.L.Kind.object g.L.Layout.shapes g.L.Layout.tag_of g.L.Layout.ways g.L.Layout.whole g.L.Layout.serves g.L.Layout.admitted g.L.Layout.act_of procs c.args.sys.now.callers in let declared = c.args.sys.now.layouts in let laws = c.layouts_are_lawful.ensures in
    let agrees = (g.met.L.Layout g.world.𝓛 g.world.𝓜 g.world.𝓡 ((λ s x. x), (λ x. x), (λ x. x), λ x. x)).agrees in
    let layout = c.args.layout.now in let v = c.args.pass.now.view in let op = c.args.op.now in let items = c.args.cells.now.items in
    let has = c.requires.has in let is = c.procs-procs.ensures.is in let few : procs ≤ 8 = subst (λ k. k ≤ 8) is c.procs-procs.ensures.few in
    subst (λ (z : ℕ × List (Content _ _ _)). AreRow z.0 (cells_of (shape_at (g.L.Layout.shapes layout) (g.L.Layout.tag_of layout)) z.0) z.1)
    (λ j. (sym is j, sym c.as_mut_slice.ensures.value j)) (may_step F laws declared agrees v layout All op items has few).0

pub step_row-requires-clause-row : goal.step_row-requires-clause-row
step_row-requires-clause-row g c κs within =
    let procs : ℕ = c.args.sys.now.procs in let F = layouts_on g.L.Kind.object g.L.Layout.shapes g.L.Layout.tag_of g.L.Layout.ways g.L.Layout.whole g.L.Layout.serves g.L.Layout.admitted g.L.Layout.act_of procs c.args.sys.now.callers in let declared = c.args.sys.now.layouts in let laws = c.layouts_are_lawful.ensures in
    let agrees = (g.met.L.Layout g.world.𝓛 g.world.𝓜 g.world.𝓡 ((λ s x. x), (λ x. x), (λ x. x), λ x. x)).agrees in
    let layout = c.args.layout.now in let v = c.args.pass.now.view in let op = c.args.op.now in let items = c.args.cells.now.items in
    let has = c.requires.has in let is = c.procs-procs.ensures.is in let few : procs ≤ 8 = subst (λ k. k ≤ 8) is c.procs-procs.ensures.few in
    subst (λ (z : ℕ × List (Content _ _ _)). MayStepRow (F.ways_of layout) z.0 (F.Whole layout) (parts_from (F.ways_of layout) z.0 0 (take (cells_of (shape_at (g.L.Layout.shapes layout) (g.L.Layout.tag_of layout)) z.0) z.1)) op)
    (λ j. (sym is j, sym c.as_mut_slice.ensures.value j)) (may_step F laws declared agrees v layout All op items has few).1

pub returns-in_default-clause-may : goal.returns-in_default-clause-may
returns-in_default-clause-may g c =
    let procs : ℕ = c.args.sys.now.procs in let F = layouts_on g.L.Kind.object g.L.Layout.shapes g.L.Layout.tag_of g.L.Layout.ways g.L.Layout.whole g.L.Layout.serves g.L.Layout.admitted g.L.Layout.act_of procs c.args.sys.now.callers in let declared = c.args.sys.now.layouts in let laws = c.layouts_are_lawful.ensures in
    let agrees = (g.met.L.Layout g.world.𝓛 g.world.𝓜 g.world.𝓡 ((λ s x. x), (λ x. x), (λ x. x), λ x. x)).agrees in
    let layout = c.args.layout.now in let v = c.args.pass.now.view in let op = c.args.op.now in let items = c.args.cells.now.items in
    let has = c.requires.has in let is = c.procs-procs.ensures.is in let few : procs ≤ 8 = subst (λ k. k ≤ 8) is c.procs-procs.ensures.few in
    let new = c.step_row.new.cells in
    let same : new ≡ items = c.in_default.ensures.memory ∙ c.as_mut_slice.ensures.value in
    let back : take c.args.cells.now.len (new ++ drop (length new) items) ≡ items = written_back new items c.args.cells.now.len (ap length same) c.args.cells.now.ok.0 ∙ same in
    subst (MayGiveBack F declared c.args.pass.now.seat v) (sym back) (may_give_taken F laws declared agrees v layout All op items has few c.args.pass.now.seat)

pub draw_call-requires-clause-may : goal.draw_call-requires-clause-may
draw_call-requires-clause-may g c κs within =
    let procs : ℕ = c.args.sys.now.procs in let F = layouts_on g.L.Kind.object g.L.Layout.shapes g.L.Layout.tag_of g.L.Layout.ways g.L.Layout.whole g.L.Layout.serves g.L.Layout.admitted g.L.Layout.act_of procs c.args.sys.now.callers in let declared = c.args.sys.now.layouts in let laws = c.layouts_are_lawful.ensures in
    let agrees = (g.met.L.Layout g.world.𝓛 g.world.𝓜 g.world.𝓡 ((λ s x. x), (λ x. x), (λ x. x), λ x. x)).agrees in
    let layout = c.args.layout.now in let v = c.args.pass.now.view in let op = c.args.op.now in let items = c.args.cells.now.items in
    let has = c.requires.has in let is = c.procs-procs.ensures.is in let few : procs ≤ 8 = subst (λ k. k ≤ 8) is c.procs-procs.ensures.few in
    let reply = c.in-Ok.replied in let new = c.step_row.new.cells in
    let made : HasSteppedCells (F.ways_of layout) procs (cells_of (shape_at (g.L.Layout.shapes layout) (g.L.Layout.tag_of layout)) procs) op All reply items new =
    subst (λ (z : ℕ × List (Content _ _ _)). HasSteppedCells (F.ways_of layout) z.0 (cells_of (shape_at (g.L.Layout.shapes layout) (g.L.Layout.tag_of layout)) z.0) op All reply z.1 new) (λ j. (is j, c.as_mut_slice.ensures.value j)) (c.in-Ok.ensures.replied, c.in-Ok.ensures.moved) in
    let cells = take c.args.cells.now.len (new ++ drop (length new) items) in
    let back : cells ≡ new =
    written_back new items c.args.cells.now.len (long_stepped F laws declared agrees v layout All op items has few reply new made) c.args.cells.now.ok.0 in
    subst (λ xs. MayDrawCall F declared xs op reply v) (sym back) (may_draw F laws declared agrees v layout All op items has few reply new made c.requires.few)

pub returns-clause-numbers : goal.returns-clause-numbers
returns-clause-numbers g c =
    let procs : ℕ = c.args.sys.now.procs in let F = layouts_on g.L.Kind.object g.L.Layout.shapes g.L.Layout.tag_of g.L.Layout.ways g.L.Layout.whole g.L.Layout.serves g.L.Layout.admitted g.L.Layout.act_of procs c.args.sys.now.callers in let declared = c.args.sys.now.layouts in let laws = c.layouts_are_lawful.ensures in
    let agrees = (g.met.L.Layout g.world.𝓛 g.world.𝓜 g.world.𝓡 ((λ s x. x), (λ x. x), (λ x. x), λ x. x)).agrees in
    let layout = c.args.layout.now in let v = c.args.pass.now.view in let op = c.args.op.now in let items = c.args.cells.now.items in
    let has = c.requires.has in let is = c.procs-procs.ensures.is in let few : procs ≤ 8 = subst (λ k. k ≤ 8) is c.procs-procs.ensures.few in
    let reply = c.in-Ok.replied in let new = c.step_row.new.cells in
    let made : HasSteppedCells (F.ways_of layout) procs (cells_of (shape_at (g.L.Layout.shapes layout) (g.L.Layout.tag_of layout)) procs) op All reply items new =
    subst (λ (z : ℕ × List (Content _ _ _)). HasSteppedCells (F.ways_of layout) z.0 (cells_of (shape_at (g.L.Layout.shapes layout) (g.L.Layout.tag_of layout)) z.0) op All reply z.1 new) (λ j. (is j, c.as_mut_slice.ensures.value j)) (c.in-Ok.ensures.replied, c.in-Ok.ensures.moved) in
    let cells = take c.args.cells.now.len (new ++ drop (length new) items) in
    let back : cells ≡ new =
    written_back new items c.args.cells.now.len (long_stepped F laws declared agrees v layout All op items has few reply new made) c.args.cells.now.ok.0 in
    told_numbers c.draw_call.new.pass.view.notes cells c.draw_call.new.cells.items c.draw_call.ensures.told ∙ ap numbers_of back
    ∙ numbers_stepped F laws declared agrees v layout All op items has few reply new made

pub returns-clause-may : goal.returns-clause-may
returns-clause-may g c =
    let procs : ℕ = c.args.sys.now.procs in let F = layouts_on g.L.Kind.object g.L.Layout.shapes g.L.Layout.tag_of g.L.Layout.ways g.L.Layout.whole g.L.Layout.serves g.L.Layout.admitted g.L.Layout.act_of procs c.args.sys.now.callers in let declared = c.args.sys.now.layouts in let laws = c.layouts_are_lawful.ensures in
    let agrees = (g.met.L.Layout g.world.𝓛 g.world.𝓜 g.world.𝓡 ((λ s x. x), (λ x. x), (λ x. x), λ x. x)).agrees in
    let layout = c.args.layout.now in let v = c.args.pass.now.view in let op = c.args.op.now in let items = c.args.cells.now.items in
    let has = c.requires.has in let is = c.procs-procs.ensures.is in let few : procs ≤ 8 = subst (λ k. k ≤ 8) is c.procs-procs.ensures.few in
    let reply = c.in-Ok.replied in let new = c.step_row.new.cells in
    let made : HasSteppedCells (F.ways_of layout) procs (cells_of (shape_at (g.L.Layout.shapes layout) (g.L.Layout.tag_of layout)) procs) op All reply items new =
    subst (λ (z : ℕ × List (Content _ _ _)). HasSteppedCells (F.ways_of layout) z.0 (cells_of (shape_at (g.L.Layout.shapes layout) (g.L.Layout.tag_of layout)) z.0) op All reply z.1 new) (λ j. (is j, c.as_mut_slice.ensures.value j)) (c.in-Ok.ensures.replied, c.in-Ok.ensures.moved) in
    let cells = take c.args.cells.now.len (new ++ drop (length new) items) in
    let back : cells ≡ new =
    written_back new items c.args.cells.now.len (long_stepped F laws declared agrees v layout All op items has few reply new made) c.args.cells.now.ok.0 in
    let view = c.draw_call.new.pass.view in
    let w = took steps.Draw (lock_word (first_cell (numbers_of new))) 0 (drawn_at new (entry_call v (numbers_of new) (Call op) (Replied reply)) v) in
    let knows : view ≡ w =
    c.draw_call.ensures.drawn.knows
    ∙ ap (λ (xs : List (Content _ _ _)). took steps.Draw (lock_word (first_cell (numbers_of xs))) 0 (drawn_at xs (entry_call v (numbers_of xs) (Call op) (Replied reply)) v)) back in
    let told : AreTold w.notes new c.draw_call.new.cells.items =
    subst (λ (z : PassView _ _ _ × List (Content _ _ _)). AreTold z.0.notes z.1 c.draw_call.new.cells.items) (λ j. (knows j, back j)) c.draw_call.ensures.told in
    subst (λ x. MayGiveBack F declared c.draw_call.new.pass.seat x c.draw_call.new.cells.items) (sym knows)
    (may_give_drawn F laws declared agrees v layout All op items has few reply new made c.draw_call.new.pass.seat w.log c.draw_call.new.cells.items told)

pub returns-clause-makes : goal.returns-clause-makes
returns-clause-makes g c =
    let procs : ℕ = c.args.sys.now.procs in let F = layouts_on g.L.Kind.object g.L.Layout.shapes g.L.Layout.tag_of g.L.Layout.ways g.L.Layout.whole g.L.Layout.serves g.L.Layout.admitted g.L.Layout.act_of procs c.args.sys.now.callers in let declared = c.args.sys.now.layouts in let laws = c.layouts_are_lawful.ensures in
    let agrees = (g.met.L.Layout g.world.𝓛 g.world.𝓜 g.world.𝓡 ((λ s x. x), (λ x. x), (λ x. x), λ x. x)).agrees in
    let layout = c.args.layout.now in let v = c.args.pass.now.view in let op = c.args.op.now in let items = c.args.cells.now.items in
    let has = c.requires.has in let is = c.procs-procs.ensures.is in let few : procs ≤ 8 = subst (λ k. k ≤ 8) is c.procs-procs.ensures.few in
    let reply = c.in-Ok.replied in let new = c.step_row.new.cells in
    let made : HasSteppedCells (F.ways_of layout) procs (cells_of (shape_at (g.L.Layout.shapes layout) (g.L.Layout.tag_of layout)) procs) op All reply items new =
    subst (λ (z : ℕ × List (Content _ _ _)). HasSteppedCells (F.ways_of layout) z.0 (cells_of (shape_at (g.L.Layout.shapes layout) (g.L.Layout.tag_of layout)) z.0) op All reply z.1 new) (λ j. (is j, c.as_mut_slice.ensures.value j)) (c.in-Ok.ensures.replied, c.in-Ok.ensures.moved) in
    let cells = take c.args.cells.now.len (new ++ drop (length new) items) in
    let back : cells ≡ new =
    written_back new items c.args.cells.now.len (long_stepped F laws declared agrees v layout All op items has few reply new made) c.args.cells.now.ok.0 in
    let view = c.draw_call.new.pass.view in
    let w = took steps.Draw (lock_word (first_cell (numbers_of new))) 0 (drawn_at new (entry_call v (numbers_of new) (Call op) (Replied reply)) v) in
    let knows : view ≡ w =
    c.draw_call.ensures.drawn.knows
    ∙ ap (λ (xs : List (Content _ _ _)). took steps.Draw (lock_word (first_cell (numbers_of xs))) 0 (drawn_at xs (entry_call v (numbers_of xs) (Call op) (Replied reply)) v)) back in
    has_made F laws declared agrees v layout All op items has few reply new made (lock_word (first_cell (numbers_of new))) view
    (later_stamp v (numbers_of new) c.draw_call.result (c.draw_call.ensures.stamp ∙ ap (λ (xs : List (Content _ _ _)). stamp_next v (numbers_of xs)) back) c.draw_call.ensures.later) knows

pub returns-clause-can : goal.returns-clause-can
returns-clause-can g c =
    let procs : ℕ = c.args.sys.now.procs in let F = layouts_on g.L.Kind.object g.L.Layout.shapes g.L.Layout.tag_of g.L.Layout.ways g.L.Layout.whole g.L.Layout.serves g.L.Layout.admitted g.L.Layout.act_of procs c.args.sys.now.callers in
    let met = g.met.L.Layout g.world.𝓛 g.world.𝓜 g.world.𝓡 ((λ s x. x), (λ x. x), (λ x. x), λ x. x) in
    let layout = c.args.layout.now in let op = c.args.op.now in let items = c.args.cells.now.items in
    let is = c.procs-procs.ensures.is in let few : procs ≤ 8 = subst (λ k. k ≤ 8) is c.procs-procs.ensures.few in
    let call = c.requires.has.call in let many = cells_of (shape_at (g.L.Layout.shapes layout) (g.L.Layout.tag_of layout)) procs in
    let may = (may_step F c.layouts_are_lawful.ensures c.args.sys.now.layouts met.agrees c.args.pass.now.view layout All op items c.requires.has few).1 in
    let row = parts_from (F.ways_of layout) procs 0 (take many items) in
    let replied : c.in-Ok.replied ≡ (F.ways_of layout).row_reply row op =
    subst (λ (z : ℕ × List (Content _ _ _)). c.in-Ok.replied ≡ (F.ways_of layout).row_reply (parts_from (F.ways_of layout) z.0 0 (take (cells_of (shape_at (g.L.Layout.shapes layout) (g.L.Layout.tag_of layout)) z.0) z.1)) op)
    (λ j. (is j, c.as_mut_slice.ensures.value j)) c.in-Ok.ensures.replied in
    λ ended. replied_at_all F.object_of F.Serves layout (F.ways_of layout) (F.Whole layout) op call.takes c.in-Ok.replied
    (λ many parts some whole. (met.stands layout many parts call.known some whole).served) procs row may.some may.whole
    (met.steps_all layout procs row op call.known may.some call.takes may.whole) replied
