use Rattle.std.proofs.Common.{◌≡◌, ◌<◌, ℕ, ◌+◌, ◌++◌, List, ◌∷◌, length, take, drop, refl, sym, ap, ◌∙◌, subst, arith}
use Rattle.std.proofs.lemmas.Option.{same_Some}
use Rattle.k42_shapes.specs.Shapes.{cells_of}
use Rattle.k42_stamp.specs.Layouts.{shape_of}
use Rattle.k42_kinds.specs.declared.entry.Answer.TheVariants.{Swapped}
use Rattle.k42_board.specs.Drawing.{AreTold, numbers_of, entry_hand}
use Rattle.k42_board.specs.Handing.{handed_at}
use Rattle.k42_board.specs.Log.{step_at, with_log}
use Rattle.k42_board.specs.Plan.{layouts_on}
use Rattle.k42_board.specs.Words.{lock_word}
use Rattle.k42_joined.specs.Drawing.{first_cell}
use Rattle.k42_board.specs.declared.cell.Content.{Content}
use Rattle.k42_board.specs.declared.view.PassView.{PassView}
use Rattle.k42_board.specs.declared.view.StepName.TheVariants as steps
use Rattle.k42_board.proofs.Gained.{extends_as, extends_one}
use Rattle.k42_mediator.specs.Parts.{parts_from, AreKept, filled}
use Rattle.k42_mediator.specs.Taken.{MayPutAllBack}
use Rattle.k42_mediator.proofs.DeclaredLive.{told_of}
use Rattle.k42_mediator.proofs.RowHanded.{ready_handed, done_later, done_next, has_handed}
use Rattle.k42_mediator.proofs.RowMoved.{filled_numbers}
use Rattle.k42_mediator.proofs.RowReady.{HasRows, has_rows, live, long, whole, from_numbers, old_numbers, new_numbers, numbers_same, ready_again, may_hand, written_back, told_numbers}
use Rattle.k42_mediator.proofs.transferring.move_and_draw.Goals as goal

pub with_tag-layout-requires : goal.with_tag-layout-requires
with_tag-layout-requires g c =
    let v = c.args.pass.now.view in let o : ℕ = c.args.row.object in
    let live = (c.requires.rows.moved o c.requires.moved c.requires.unhanded).1 in let tag = c.begun_layout.ensures.is in
    let many = ap length (told_of c.args.row.object c.requires.ours.shapes c.declared.ensures.shapes) in
    c.declared.ensures.tags c.begun_layout.result (omega (arith, live, tag, many))

pub move_state-requires-clause-known : goal.move_state-requires-clause-known
move_state-requires-clause-known g c κs within =
    let F = layouts_on g.L.Kind.object g.L.Layout.shapes g.L.Layout.tag_of g.L.Layout.ways g.L.Layout.whole g.L.Layout.serves g.L.Layout.admitted g.L.Layout.act_of c.args.sys.now.procs c.args.sys.now.callers in let declared = c.args.sys.now.layouts in let laws = c.layouts_are_lawful.ensures in
    let agrees = (g.met.L.Layout g.world.𝓛 g.world.𝓜 g.world.𝓡 ((λ s x. x), (λ x. x), (λ x. x), λ x. x)).agrees in
    let v = c.args.pass.now.view in let o : ℕ = c.args.row.object in let i : ℕ = c.args.row.incarnation in
    let items = c.args.cells.now.items in let layout = c.with_tag-layout.result in let is = c.procs.ensures.is in
    let has : HasRows F declared v o i items layout =
    has_rows F declared v o i items layout c.declared.result c.requires.moved c.requires.row c.requires.unhanded c.procs.result is c.procs.ensures.few c.requires.object
    c.requires.numbers c.requires.held c.requires.taken c.requires.rows c.declared.ensures.is c.with_tag-layout.ensures.same
    (told_of c.args.row.object c.requires.ours.shapes c.declared.ensures.shapes) c.begun_layout.result c.with_tag-layout.ensures.tagged c.begun_layout.ensures.is in
    (live F laws declared agrees v o i items layout has, c.requires.known, subst (λ p. 0 < p) (sym is) laws.some, c.procs.ensures.few)

pub move_state-requires-clause-many : goal.move_state-requires-clause-many
move_state-requires-clause-many g c κs within =
    let F = layouts_on g.L.Kind.object g.L.Layout.shapes g.L.Layout.tag_of g.L.Layout.ways g.L.Layout.whole g.L.Layout.serves g.L.Layout.admitted g.L.Layout.act_of c.args.sys.now.procs c.args.sys.now.callers in let declared = c.args.sys.now.layouts in let laws = c.layouts_are_lawful.ensures in
    let agrees = (g.met.L.Layout g.world.𝓛 g.world.𝓜 g.world.𝓡 ((λ s x. x), (λ x. x), (λ x. x), λ x. x)).agrees in
    let v = c.args.pass.now.view in let o : ℕ = c.args.row.object in let i : ℕ = c.args.row.incarnation in
    let items = c.args.cells.now.items in let layout = c.with_tag-layout.result in let is = c.procs.ensures.is in
    let has : HasRows F declared v o i items layout =
    has_rows F declared v o i items layout c.declared.result c.requires.moved c.requires.row c.requires.unhanded c.procs.result is c.procs.ensures.few c.requires.object
    c.requires.numbers c.requires.held c.requires.taken c.requires.rows c.declared.ensures.is c.with_tag-layout.ensures.same
    (told_of c.args.row.object c.requires.ours.shapes c.declared.ensures.shapes) c.begun_layout.result c.with_tag-layout.ensures.tagged c.begun_layout.ensures.is in
    let value = c.as_mut_slice.ensures.value in
    ap length value ∙ long F laws declared agrees v o i items layout has ∙ (λ j. sym is j + sym is j)

pub move_state-requires-clause-whole : goal.move_state-requires-clause-whole
move_state-requires-clause-whole g c κs within =
    let F = layouts_on g.L.Kind.object g.L.Layout.shapes g.L.Layout.tag_of g.L.Layout.ways g.L.Layout.whole g.L.Layout.serves g.L.Layout.admitted g.L.Layout.act_of c.args.sys.now.procs c.args.sys.now.callers in let declared = c.args.sys.now.layouts in let laws = c.layouts_are_lawful.ensures in
    let agrees = (g.met.L.Layout g.world.𝓛 g.world.𝓜 g.world.𝓡 ((λ s x. x), (λ x. x), (λ x. x), λ x. x)).agrees in
    let v = c.args.pass.now.view in let o : ℕ = c.args.row.object in let i : ℕ = c.args.row.incarnation in
    let items = c.args.cells.now.items in let layout = c.with_tag-layout.result in let is = c.procs.ensures.is in
    let has : HasRows F declared v o i items layout =
    has_rows F declared v o i items layout c.declared.result c.requires.moved c.requires.row c.requires.unhanded c.procs.result is c.procs.ensures.few c.requires.object
    c.requires.numbers c.requires.held c.requires.taken c.requires.rows c.declared.ensures.is c.with_tag-layout.ensures.same
    (told_of c.args.row.object c.requires.ours.shapes c.declared.ensures.shapes) c.begun_layout.result c.with_tag-layout.ensures.tagged c.begun_layout.ensures.is in
    let value = c.as_mut_slice.ensures.value in
    subst (λ (z : ℕ × List (Content _ _ _)). F.Whole layout z.0 (parts_from (F.ways_of layout) z.0 0 (take (cells_of (shape_of F layout) z.0) z.1)))
    (λ j. (sym is j, sym value j)) (whole F laws declared agrees v o i items layout has)

pub returns-in_err-move_state-clause-numbers : goal.returns-in_err-move_state-clause-numbers
returns-in_err-move_state-clause-numbers g c =
    let F = layouts_on g.L.Kind.object g.L.Layout.shapes g.L.Layout.tag_of g.L.Layout.ways g.L.Layout.whole g.L.Layout.serves g.L.Layout.admitted g.L.Layout.act_of c.args.sys.now.procs c.args.sys.now.callers in let declared = c.args.sys.now.layouts in let laws = c.layouts_are_lawful.ensures in
    let agrees = (g.met.L.Layout g.world.𝓛 g.world.𝓜 g.world.𝓡 ((λ s x. x), (λ x. x), (λ x. x), λ x. x)).agrees in
    let v = c.args.pass.now.view in let o : ℕ = c.args.row.object in let i : ℕ = c.args.row.incarnation in
    let items = c.args.cells.now.items in let layout = c.with_tag-layout.result in let is = c.procs.ensures.is in
    let has : HasRows F declared v o i items layout =
    has_rows F declared v o i items layout c.declared.result c.requires.moved c.requires.row c.requires.unhanded c.procs.result is c.procs.ensures.few c.requires.object
    c.requires.numbers c.requires.held c.requires.taken c.requires.rows c.declared.ensures.is c.with_tag-layout.ensures.same
    (told_of c.args.row.object c.requires.ours.shapes c.declared.ensures.shapes) c.begun_layout.result c.with_tag-layout.ensures.tagged c.begun_layout.ensures.is in
    let value = c.as_mut_slice.ensures.value in let new = c.move_state.new.cells in
    let cells = take c.args.cells.now.len (new ++ drop (length new) items) in
    let back : cells ≡ new = written_back new items c.args.cells.now.len (c.move_state.ensures.many ∙ ap length value) c.args.cells.now.ok.0 in
    let kept : AreKept (F.ways_of layout) F.procs (cells_of (shape_of F layout) F.procs) 0 (take F.procs items) (take F.procs cells) =
    subst (λ (z : ℕ × List (Content _ _ _) × List (Content _ _ _)). AreKept (F.ways_of layout) z.0 (cells_of (shape_of F layout) z.0) 0 (take z.0 z.1) (take z.0 z.2))
    (λ j. (is j, value j, sym back j)) c.move_state.ensures.kept in
    let front = from_numbers F laws declared agrees v o i items layout has cells kept ∙ sym (old_numbers F laws declared agrees v o i items layout has) in
    let again : drop F.procs cells ≡ drop F.procs items =
    subst (λ (z : ℕ × List (Content _ _ _) × List (Content _ _ _)). drop z.0 z.2 ≡ drop z.0 z.1) (λ j. (is j, value j, sym back j)) c.in_err-move_state.ensures.memory in
    numbers_same F.procs items cells front (ap numbers_of again)

pub returns-in_err-move_state-clause-ready : goal.returns-in_err-move_state-clause-ready
returns-in_err-move_state-clause-ready g c =
    let F = layouts_on g.L.Kind.object g.L.Layout.shapes g.L.Layout.tag_of g.L.Layout.ways g.L.Layout.whole g.L.Layout.serves g.L.Layout.admitted g.L.Layout.act_of c.args.sys.now.procs c.args.sys.now.callers in let declared = c.args.sys.now.layouts in let laws = c.layouts_are_lawful.ensures in
    let agrees = (g.met.L.Layout g.world.𝓛 g.world.𝓜 g.world.𝓡 ((λ s x. x), (λ x. x), (λ x. x), λ x. x)).agrees in
    let v = c.args.pass.now.view in let o : ℕ = c.args.row.object in let i : ℕ = c.args.row.incarnation in
    let items = c.args.cells.now.items in let layout = c.with_tag-layout.result in let is = c.procs.ensures.is in
    let has : HasRows F declared v o i items layout =
    has_rows F declared v o i items layout c.declared.result c.requires.moved c.requires.row c.requires.unhanded c.procs.result is c.procs.ensures.few c.requires.object
    c.requires.numbers c.requires.held c.requires.taken c.requires.rows c.declared.ensures.is c.with_tag-layout.ensures.same
    (told_of c.args.row.object c.requires.ours.shapes c.declared.ensures.shapes) c.begun_layout.result c.with_tag-layout.ensures.tagged c.begun_layout.ensures.is in
    let value = c.as_mut_slice.ensures.value in let new = c.move_state.new.cells in
    let cells = take c.args.cells.now.len (new ++ drop (length new) items) in
    let back : cells ≡ new = written_back new items c.args.cells.now.len (c.move_state.ensures.many ∙ ap length value) c.args.cells.now.ok.0 in
    let kept : AreKept (F.ways_of layout) F.procs (cells_of (shape_of F layout) F.procs) 0 (take F.procs items) (take F.procs cells) =
    subst (λ (z : ℕ × List (Content _ _ _) × List (Content _ _ _)). AreKept (F.ways_of layout) z.0 (cells_of (shape_of F layout) z.0) 0 (take z.0 z.1) (take z.0 z.2))
    (λ j. (is j, value j, sym back j)) c.move_state.ensures.kept in
    let front = from_numbers F laws declared agrees v o i items layout has cells kept ∙ sym (old_numbers F laws declared agrees v o i items layout has) in
    let again : drop F.procs cells ≡ drop F.procs items =
    subst (λ (z : ℕ × List (Content _ _ _) × List (Content _ _ _)). drop z.0 z.2 ≡ drop z.0 z.1) (λ j. (is j, value j, sym back j)) c.in_err-move_state.ensures.memory in
    ready_again F laws declared agrees v o i items layout has cells kept c.args.pass.now.seat again

pub draw_done-requires-clause-may : goal.draw_done-requires-clause-may
draw_done-requires-clause-may g c κs within =
    let F = layouts_on g.L.Kind.object g.L.Layout.shapes g.L.Layout.tag_of g.L.Layout.ways g.L.Layout.whole g.L.Layout.serves g.L.Layout.admitted g.L.Layout.act_of c.args.sys.now.procs c.args.sys.now.callers in let declared = c.args.sys.now.layouts in let laws = c.layouts_are_lawful.ensures in
    let agrees = (g.met.L.Layout g.world.𝓛 g.world.𝓜 g.world.𝓡 ((λ s x. x), (λ x. x), (λ x. x), λ x. x)).agrees in
    let v = c.args.pass.now.view in let o : ℕ = c.args.row.object in let i : ℕ = c.args.row.incarnation in
    let items = c.args.cells.now.items in let layout = c.with_tag-layout.result in let is = c.procs.ensures.is in
    let has : HasRows F declared v o i items layout =
    has_rows F declared v o i items layout c.declared.result c.requires.moved c.requires.row c.requires.unhanded c.procs.result is c.procs.ensures.few c.requires.object
    c.requires.numbers c.requires.held c.requires.taken c.requires.rows c.declared.ensures.is c.with_tag-layout.ensures.same
    (told_of c.args.row.object c.requires.ours.shapes c.declared.ensures.shapes) c.begun_layout.result c.with_tag-layout.ensures.tagged c.begun_layout.ensures.is in
    let value = c.as_mut_slice.ensures.value in let new = c.move_state.new.cells in
    let cells = take c.args.cells.now.len (new ++ drop (length new) items) in
    let back : cells ≡ new = written_back new items c.args.cells.now.len (c.move_state.ensures.many ∙ ap length value) c.args.cells.now.ok.0 in
    let kept : AreKept (F.ways_of layout) F.procs (cells_of (shape_of F layout) F.procs) 0 (take F.procs items) (take F.procs cells) =
    subst (λ (z : ℕ × List (Content _ _ _) × List (Content _ _ _)). AreKept (F.ways_of layout) z.0 (cells_of (shape_of F layout) z.0) 0 (take z.0 z.1) (take z.0 z.2))
    (λ j. (is j, value j, sym back j)) c.move_state.ensures.kept in
    let front = from_numbers F laws declared agrees v o i items layout has cells kept ∙ sym (old_numbers F laws declared agrees v o i items layout has) in
    let full : drop F.procs cells
    ≡ filled ((F.ways_of c.args.to.now).imported F.procs (F.admitted c.args.to.now ((F.ways_of layout).combine (parts_from (F.ways_of layout) F.procs 0 (take (cells_of (shape_of F layout) F.procs) items)))))
    (drop F.procs items) =
    subst (λ (z : ℕ × List (Content _ _ _) × List (Content _ _ _)). drop z.0 z.2
    ≡ filled ((F.ways_of c.args.to.now).imported z.0 (F.admitted c.args.to.now ((F.ways_of layout).combine (parts_from (F.ways_of layout) z.0 0 (take (cells_of (shape_of F layout) z.0) z.1)))))
    (drop z.0 z.1)) (λ j. (is j, value j, sym back j)) c.in_ok-move_state.ensures.filled in
    let numbers : numbers_of cells ≡ numbers_of items = numbers_same F.procs items cells front (ap numbers_of full ∙ filled_numbers _ (drop F.procs items)) in
    let kind = c.requires.kind.same ∙ ap F.object_of (same_Some c.requires.kind.declaration has.declaration (sym c.requires.kind.declares ∙ has.declares)) in
    may_hand F laws declared agrees v o i items layout has cells kept c.args.to.now kind c.requires.known c.requires.few full

pub returns-clause-numbers : goal.returns-clause-numbers
returns-clause-numbers g c =
    let F = layouts_on g.L.Kind.object g.L.Layout.shapes g.L.Layout.tag_of g.L.Layout.ways g.L.Layout.whole g.L.Layout.serves g.L.Layout.admitted g.L.Layout.act_of c.args.sys.now.procs c.args.sys.now.callers in let declared = c.args.sys.now.layouts in let laws = c.layouts_are_lawful.ensures in
    let agrees = (g.met.L.Layout g.world.𝓛 g.world.𝓜 g.world.𝓡 ((λ s x. x), (λ x. x), (λ x. x), λ x. x)).agrees in
    let v = c.args.pass.now.view in let o : ℕ = c.args.row.object in let i : ℕ = c.args.row.incarnation in
    let items = c.args.cells.now.items in let layout = c.with_tag-layout.result in let is = c.procs.ensures.is in
    let has : HasRows F declared v o i items layout =
    has_rows F declared v o i items layout c.declared.result c.requires.moved c.requires.row c.requires.unhanded c.procs.result is c.procs.ensures.few c.requires.object
    c.requires.numbers c.requires.held c.requires.taken c.requires.rows c.declared.ensures.is c.with_tag-layout.ensures.same
    (told_of c.args.row.object c.requires.ours.shapes c.declared.ensures.shapes) c.begun_layout.result c.with_tag-layout.ensures.tagged c.begun_layout.ensures.is in
    let value = c.as_mut_slice.ensures.value in let new = c.move_state.new.cells in
    let cells = take c.args.cells.now.len (new ++ drop (length new) items) in
    let back : cells ≡ new = written_back new items c.args.cells.now.len (c.move_state.ensures.many ∙ ap length value) c.args.cells.now.ok.0 in
    let kept : AreKept (F.ways_of layout) F.procs (cells_of (shape_of F layout) F.procs) 0 (take F.procs items) (take F.procs cells) =
    subst (λ (z : ℕ × List (Content _ _ _) × List (Content _ _ _)). AreKept (F.ways_of layout) z.0 (cells_of (shape_of F layout) z.0) 0 (take z.0 z.1) (take z.0 z.2))
    (λ j. (is j, value j, sym back j)) c.move_state.ensures.kept in
    let front = from_numbers F laws declared agrees v o i items layout has cells kept ∙ sym (old_numbers F laws declared agrees v o i items layout has) in
    let full : drop F.procs cells
    ≡ filled ((F.ways_of c.args.to.now).imported F.procs (F.admitted c.args.to.now ((F.ways_of layout).combine (parts_from (F.ways_of layout) F.procs 0 (take (cells_of (shape_of F layout) F.procs) items)))))
    (drop F.procs items) =
    subst (λ (z : ℕ × List (Content _ _ _) × List (Content _ _ _)). drop z.0 z.2
    ≡ filled ((F.ways_of c.args.to.now).imported z.0 (F.admitted c.args.to.now ((F.ways_of layout).combine (parts_from (F.ways_of layout) z.0 0 (take (cells_of (shape_of F layout) z.0) z.1)))))
    (drop z.0 z.1)) (λ j. (is j, value j, sym back j)) c.in_ok-move_state.ensures.filled in
    let numbers : numbers_of cells ≡ numbers_of items = numbers_same F.procs items cells front (ap numbers_of full ∙ filled_numbers _ (drop F.procs items)) in
    told_numbers c.draw_done.new.pass.view.notes cells c.draw_done.new.cells.items c.draw_done.ensures.told ∙ numbers

pub returns-clause-ready : goal.returns-clause-ready
returns-clause-ready g c =
    let F = layouts_on g.L.Kind.object g.L.Layout.shapes g.L.Layout.tag_of g.L.Layout.ways g.L.Layout.whole g.L.Layout.serves g.L.Layout.admitted g.L.Layout.act_of c.args.sys.now.procs c.args.sys.now.callers in let declared = c.args.sys.now.layouts in let laws = c.layouts_are_lawful.ensures in
    let agrees = (g.met.L.Layout g.world.𝓛 g.world.𝓜 g.world.𝓡 ((λ s x. x), (λ x. x), (λ x. x), λ x. x)).agrees in
    let v = c.args.pass.now.view in let o : ℕ = c.args.row.object in let i : ℕ = c.args.row.incarnation in
    let items = c.args.cells.now.items in let layout = c.with_tag-layout.result in let is = c.procs.ensures.is in
    let has : HasRows F declared v o i items layout =
    has_rows F declared v o i items layout c.declared.result c.requires.moved c.requires.row c.requires.unhanded c.procs.result is c.procs.ensures.few c.requires.object
    c.requires.numbers c.requires.held c.requires.taken c.requires.rows c.declared.ensures.is c.with_tag-layout.ensures.same
    (told_of c.args.row.object c.requires.ours.shapes c.declared.ensures.shapes) c.begun_layout.result c.with_tag-layout.ensures.tagged c.begun_layout.ensures.is in
    let value = c.as_mut_slice.ensures.value in let new = c.move_state.new.cells in
    let cells = take c.args.cells.now.len (new ++ drop (length new) items) in
    let back : cells ≡ new = written_back new items c.args.cells.now.len (c.move_state.ensures.many ∙ ap length value) c.args.cells.now.ok.0 in
    let kept : AreKept (F.ways_of layout) F.procs (cells_of (shape_of F layout) F.procs) 0 (take F.procs items) (take F.procs cells) =
    subst (λ (z : ℕ × List (Content _ _ _) × List (Content _ _ _)). AreKept (F.ways_of layout) z.0 (cells_of (shape_of F layout) z.0) 0 (take z.0 z.1) (take z.0 z.2))
    (λ j. (is j, value j, sym back j)) c.move_state.ensures.kept in
    let front = from_numbers F laws declared agrees v o i items layout has cells kept ∙ sym (old_numbers F laws declared agrees v o i items layout has) in
    let full : drop F.procs cells
    ≡ filled ((F.ways_of c.args.to.now).imported F.procs (F.admitted c.args.to.now ((F.ways_of layout).combine (parts_from (F.ways_of layout) F.procs 0 (take (cells_of (shape_of F layout) F.procs) items)))))
    (drop F.procs items) =
    subst (λ (z : ℕ × List (Content _ _ _) × List (Content _ _ _)). drop z.0 z.2
    ≡ filled ((F.ways_of c.args.to.now).imported z.0 (F.admitted c.args.to.now ((F.ways_of layout).combine (parts_from (F.ways_of layout) z.0 0 (take (cells_of (shape_of F layout) z.0) z.1)))))
    (drop z.0 z.1)) (λ j. (is j, value j, sym back j)) c.in_ok-move_state.ensures.filled in
    let numbers : numbers_of cells ≡ numbers_of items = numbers_same F.procs items cells front (ap numbers_of full ∙ filled_numbers _ (drop F.procs items)) in
    let to = c.args.to.now in let act = g.L.Layout.act_of to in let tag : ℕ = g.L.Layout.tag_of to in
    let entry = entry_hand v (numbers_of (take F.procs cells)) (numbers_of (drop F.procs cells)) act (Swapped (i + 1)) in
    let log = step_at steps.Draw (lock_word (first_cell (numbers_of cells))) 0 ∷ v.log in
    let knows : c.draw_done.new.pass.view ≡ with_log log (handed_at (take F.procs cells) (drop F.procs cells) entry tag v) =
    c.draw_done.ensures.drawn.knows in
    subst (λ (w : PassView _ _ _). MayPutAllBack F declared c.draw_done.new.pass.seat w c.draw_done.new.cells.items) (sym knows)
    (ready_handed F laws declared agrees v o i items layout has cells numbers entry tag log c.draw_done.new.pass.seat c.draw_done.new.cells.items
    (subst (λ (w : PassView _ _ _). AreTold w.notes cells c.draw_done.new.cells.items) knows c.draw_done.ensures.told))

pub returns-clause-handed : goal.returns-clause-handed
returns-clause-handed g c =
    let F = layouts_on g.L.Kind.object g.L.Layout.shapes g.L.Layout.tag_of g.L.Layout.ways g.L.Layout.whole g.L.Layout.serves g.L.Layout.admitted g.L.Layout.act_of c.args.sys.now.procs c.args.sys.now.callers in let declared = c.args.sys.now.layouts in let laws = c.layouts_are_lawful.ensures in
    let agrees = (g.met.L.Layout g.world.𝓛 g.world.𝓜 g.world.𝓡 ((λ s x. x), (λ x. x), (λ x. x), λ x. x)).agrees in
    let v = c.args.pass.now.view in let o : ℕ = c.args.row.object in let i : ℕ = c.args.row.incarnation in
    let items = c.args.cells.now.items in let layout = c.with_tag-layout.result in let is = c.procs.ensures.is in
    let has : HasRows F declared v o i items layout =
    has_rows F declared v o i items layout c.declared.result c.requires.moved c.requires.row c.requires.unhanded c.procs.result is c.procs.ensures.few c.requires.object
    c.requires.numbers c.requires.held c.requires.taken c.requires.rows c.declared.ensures.is c.with_tag-layout.ensures.same
    (told_of c.args.row.object c.requires.ours.shapes c.declared.ensures.shapes) c.begun_layout.result c.with_tag-layout.ensures.tagged c.begun_layout.ensures.is in
    let value = c.as_mut_slice.ensures.value in let new = c.move_state.new.cells in
    let cells = take c.args.cells.now.len (new ++ drop (length new) items) in
    let back : cells ≡ new = written_back new items c.args.cells.now.len (c.move_state.ensures.many ∙ ap length value) c.args.cells.now.ok.0 in
    let kept : AreKept (F.ways_of layout) F.procs (cells_of (shape_of F layout) F.procs) 0 (take F.procs items) (take F.procs cells) =
    subst (λ (z : ℕ × List (Content _ _ _) × List (Content _ _ _)). AreKept (F.ways_of layout) z.0 (cells_of (shape_of F layout) z.0) 0 (take z.0 z.1) (take z.0 z.2))
    (λ j. (is j, value j, sym back j)) c.move_state.ensures.kept in
    let front = from_numbers F laws declared agrees v o i items layout has cells kept ∙ sym (old_numbers F laws declared agrees v o i items layout has) in
    let full : drop F.procs cells
    ≡ filled ((F.ways_of c.args.to.now).imported F.procs (F.admitted c.args.to.now ((F.ways_of layout).combine (parts_from (F.ways_of layout) F.procs 0 (take (cells_of (shape_of F layout) F.procs) items)))))
    (drop F.procs items) =
    subst (λ (z : ℕ × List (Content _ _ _) × List (Content _ _ _)). drop z.0 z.2
    ≡ filled ((F.ways_of c.args.to.now).imported z.0 (F.admitted c.args.to.now ((F.ways_of layout).combine (parts_from (F.ways_of layout) z.0 0 (take (cells_of (shape_of F layout) z.0) z.1)))))
    (drop z.0 z.1)) (λ j. (is j, value j, sym back j)) c.in_ok-move_state.ensures.filled in
    let numbers : numbers_of cells ≡ numbers_of items = numbers_same F.procs items cells front (ap numbers_of full ∙ filled_numbers _ (drop F.procs items)) in
    let to = c.args.to.now in let act = g.L.Layout.act_of to in let tag : ℕ = g.L.Layout.tag_of to in
    let entry = entry_hand v (numbers_of (take F.procs cells)) (numbers_of (drop F.procs cells)) act (Swapped (i + 1)) in
    let onto = ap numbers_of full ∙ filled_numbers _ (drop F.procs items) ∙ new_numbers F laws declared agrees v o i items layout has in
    let log = step_at steps.Draw (lock_word (first_cell (numbers_of cells))) 0 ∷ v.log in
    let knows : c.draw_done.new.pass.view ≡ with_log log (handed_at (take F.procs cells) (drop F.procs cells) entry tag v) = c.draw_done.ensures.drawn.knows in
    has_handed F laws declared agrees v o i items layout has cells numbers entry tag log act c.args.pass.now c.draw_done.new.pass refl knows
    (extends_as (ap (λ (w : PassView _ _ _). w.log) knows) (extends_one (step_at steps.Draw (lock_word (first_cell (numbers_of cells))) 0) v.log refl))
    c.draw_done.ensures.drawn.drawer
    (done_next F laws declared agrees v o i items layout has cells numbers entry tag log act
    (done_later F laws declared agrees v o i items layout has cells numbers entry tag log c.draw_done.result c.draw_done.ensures.stamp c.draw_done.ensures.later)
    (laws.asks to) laws.some onto)
