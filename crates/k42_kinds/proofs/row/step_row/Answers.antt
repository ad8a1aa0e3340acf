use Rattle.std.proofs.Common.{◌≡◌, ℕ, ◌<◌, ◌≤◌, IsTrue, List, sym, ◌∙◌, subst, arith, Some}
use Rattle.std.specs.Prelude.{slice_index_or}
use Rattle.k42_kinds.specs.declared.entry.Reach.{Reach}
use Rattle.k42_kinds.specs.declared.entry.Reach.TheVariants.{One}
use Rattle.k42_kinds.specs.Rows.{part_at}
use Rattle.k42_shapes.specs.Shapes.{IsKnownTag, cells_of, shape_at}
use Rattle.k42_kinds.specs.LayoutLaws.{StepsRow}
use Rattle.k42_kinds.proofs.RowSteps.{cell_there, part_there, whole_after_one, steps_after_one, steps_after_all}
use Rattle.k42_kinds.proofs.row.step_row.Given as given
use Rattle.k42_kinds.proofs.row.step_row.Goals as goal

module _ (g : given.Over) (layout : g.row.L.Denot) (procs proc : ℕ) (parts : List g.row.L-Part.Denot) (op : g.row.L-Op.Denot) (cell : ℕ)
    (reach : (g.L.Layout.ways layout).reach procs op proc ≡ One cell) (known : IsKnownTag (g.L.Layout.shapes layout) (g.L.Layout.tag_of layout)) (in_range : proc < procs)
    (takes : IsTrue ((g.L.Kind.object layout).takes op)) (whole : g.L.Layout.whole layout procs parts) where
  -- the part that is stepped is the one at the cell
  there : (part : g.row.L-Part.Denot) → part ≡ slice_index_or parts cell part → part_at parts cell ≡ Some part
  there part value =
      let laws = g.met.L.Layout g.world.𝓛 g.world.𝓜 g.world.𝓡 ((λ s x. x), (λ x. x), (λ x. x), λ x. x) in
      part_there parts cell part
      (cell_there (cells_of (shape_at (g.L.Layout.shapes layout) (g.L.Layout.tag_of layout)) procs) cell ((g.L.Layout.ways layout).reach procs op proc) parts (laws.reaches layout procs proc op known in_range takes) reach (laws.stands layout procs parts known (omega (arith, in_range)) whole).sized)
      value

  -- the step at the cell is the object's
  steps : StepsRow (g.L.Kind.object layout) (g.L.Layout.ways layout) (g.L.Layout.whole layout procs) parts op (One cell)
  steps =
      let laws = g.met.L.Layout g.world.𝓛 g.world.𝓜 g.world.𝓡 ((λ s x. x), (λ x. x), (λ x. x), λ x. x) in
      subst (λ (r : Reach). StepsRow (g.L.Kind.object layout) (g.L.Layout.ways layout) (g.L.Layout.whole layout procs) parts op r) reach (laws.steps layout procs proc parts op known in_range takes whole)

pub step_one-requires-clause-reached : goal.step_one-requires-clause-reached
step_one-requires-clause-reached g c =
    let reach = sym c.reach.ensures ∙ c.in-One.is in
    record {
      procs = c.args.procs;
      proc = c.args.proc;
      parts = c.args.parts.now.items;
      cell = c.in-One.cell;
      known = c.requires.known.1;
      whole = c.requires.row;
      needed = reach;
      there = there g c.args.layout.now c.args.procs c.args.proc c.args.parts.now.items c.args.op.now c.in-One.cell reach c.requires.known.0 c.requires.known.1 c.requires.takes c.requires.row c.index_mut.result.now c.index_mut.ensures.value;
    }

pub returns-in-One-clause-row : goal.returns-in-One-clause-row
returns-in-One-clause-row g c =
    let reach = sym c.reach.ensures ∙ c.in-One.is in
    let is = there g c.args.layout.now c.args.procs c.args.proc c.args.parts.now.items c.args.op.now c.in-One.cell reach c.requires.known.0 c.requires.known.1 c.requires.takes c.requires.row c.index_mut.result.now c.index_mut.ensures.value in
    let stepped = steps g c.args.layout.now c.args.procs c.args.proc c.args.parts.now.items c.args.op.now c.in-One.cell reach c.requires.known.0 c.requires.known.1 c.requires.takes c.requires.row in
    whole_after_one (g.L.Kind.object c.args.layout.now) (g.L.Layout.ways c.args.layout.now) (g.L.Layout.whole c.args.layout.now c.args.procs) c.args.parts.now.items c.args.op.now c.in-One.cell c.index_mut.result.now c.step_one.new.part is stepped
    c.step_one.result c.requires.row c.step_one.ensures.moved c.step_one.ensures.memory

pub returns-in-One-clause-step : goal.returns-in-One-clause-step
returns-in-One-clause-step g c =
    let reach = sym c.reach.ensures ∙ c.in-One.is in
    let is = there g c.args.layout.now c.args.procs c.args.proc c.args.parts.now.items c.args.op.now c.in-One.cell reach c.requires.known.0 c.requires.known.1 c.requires.takes c.requires.row c.index_mut.result.now c.index_mut.ensures.value in
    let stepped = steps g c.args.layout.now c.args.procs c.args.proc c.args.parts.now.items c.args.op.now c.in-One.cell reach c.requires.known.0 c.requires.known.1 c.requires.takes c.requires.row in
    steps_after_one (g.L.Kind.object c.args.layout.now) (g.L.Layout.ways c.args.layout.now) (g.L.Layout.whole c.args.layout.now c.args.procs) c.args.parts.now.items c.args.op.now c.in-One.cell c.index_mut.result.now c.step_one.new.part is stepped
    c.step_one.result c.step_one.ensures.replied c.step_one.ensures.moved

pub returns-in-All-clause-step : goal.returns-in-All-clause-step
returns-in-All-clause-step g c =
    let laws = g.met.L.Layout g.world.𝓛 g.world.𝓜 g.world.𝓡 ((λ s x. x), (λ x. x), (λ x. x), λ x. x) in
    steps_after_all (g.L.Kind.object c.args.layout.now) (g.L.Layout.ways c.args.layout.now) (g.L.Layout.whole c.args.layout.now c.args.procs) c.args.parts.now.items c.args.op.now c.step_all.new.parts.items
    c.step_all.result
    (laws.steps_all c.args.layout.now c.args.procs c.args.parts.now.items c.args.op.now c.requires.known.0 (omega (arith, c.requires.known.1)) c.requires.takes c.requires.row)
    c.step_all.ensures.replied c.step_all.ensures.moved
