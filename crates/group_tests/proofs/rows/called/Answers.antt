use Rattle.std.proofs.Common.{◌≡◌, ℕ, ◌<◌, IsTrue, List, sym, ◌∙◌, subst, arith, Some}
use Rattle.std.specs.Prelude.{slice_index_or}
use Rattle.k42_kinds.specs.declared.entry.Reach.{Reach}
use Rattle.k42_kinds.specs.declared.entry.Reach.TheVariants.{One}
use Rattle.k42_kinds.specs.Rows.{part_at}
use Rattle.k42_kinds.specs.LayoutLaws.{StepsRow}
use Rattle.k42_kinds.proofs.RowSteps.{cell_there, part_there, whole_after_one}
use Rattle.k42_shapes.specs.Shapes.{cells_of}
use Rattle.group_tests.proofs.rows.called.Given as given
use Rattle.group_tests.proofs.rows.called.Goals as goal

module _ (g : given.Over) (way : g.row.W.Denot) (procs proc : ℕ) (row : List g.row.W-Part.Denot) (op : g.row.W-Op.Denot) (cell : ℕ)
    (reach : (g.W.Way.ways way).reach procs op proc ≡ One cell) (in_range : proc < procs)
    (takes : IsTrue ((g.W.Kind.object way).takes op)) (whole : g.W.Way.whole way procs row) where
  -- the part that is stepped is the one at the cell
  there : (part : g.row.W-Part.Denot) → part ≡ slice_index_or row cell part → part_at row cell ≡ Some part
  there part value =
      let laws = g.met.W.Way g.world.𝓛 g.world.𝓜 g.world.𝓡 ((λ s x. x), (λ x. x), (λ x. x), λ x. x) in
      part_there row cell part
      (cell_there (cells_of (g.W.Way.shape_of way) procs) cell ((g.W.Way.ways way).reach procs op proc) row
      (laws.reaches way procs proc op in_range takes) reach (laws.stands way procs row (omega (arith, in_range)) whole).sized)
      value

  -- the step at the cell is the object's
  steps : StepsRow (g.W.Kind.object way) (g.W.Way.ways way) (g.W.Way.whole way procs) row op (One cell)
  steps =
      let laws = g.met.W.Way g.world.𝓛 g.world.𝓜 g.world.𝓡 ((λ s x. x), (λ x. x), (λ x. x), λ x. x) in
      subst (λ (r : Reach). StepsRow (g.W.Kind.object way) (g.W.Way.ways way) (g.W.Way.whole way procs) row op r) reach (laws.steps way procs proc row op in_range takes whole)

pub step_one-requires-clause-reached : goal.step_one-requires-clause-reached
step_one-requires-clause-reached g c =
    let reach = sym c.reach.ensures ∙ c.in-One.is in
    record {
      procs = c.args.procs;
      proc = c.args.proc;
      parts = c.args.row.now.items;
      cell = c.in-One.cell;
      known = c.requires.known.0;
      whole = c.requires.row;
      needed = reach;
      there = there g c.args.way.now c.args.procs c.args.proc c.args.row.now.items c.args.op.now c.in-One.cell
          reach c.requires.known.0 c.requires.takes c.requires.row c.index_mut.result.now c.index_mut.ensures.value;
    }

pub returns-in-One : goal.returns-in-One
returns-in-One g c =
    let reach = sym c.reach.ensures ∙ c.in-One.is in
    let is = there g c.args.way.now c.args.procs c.args.proc c.args.row.now.items c.args.op.now c.in-One.cell
    reach c.requires.known.0 c.requires.takes c.requires.row c.index_mut.result.now c.index_mut.ensures.value in
    let stepped = steps g c.args.way.now c.args.procs c.args.proc c.args.row.now.items c.args.op.now c.in-One.cell reach c.requires.known.0 c.requires.takes c.requires.row in
    whole_after_one (g.W.Kind.object c.args.way.now) (g.W.Way.ways c.args.way.now) (g.W.Way.whole c.args.way.now c.args.procs) c.args.row.now.items c.args.op.now
    c.in-One.cell c.index_mut.result.now c.step_one.new.part is stepped c.step_one.result c.requires.row c.step_one.ensures.moved c.step_one.ensures.memory
