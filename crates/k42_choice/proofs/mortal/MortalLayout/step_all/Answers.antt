use Rattle.std.proofs.Common.{length, arith, sym, ap, ◌∙◌, subst}
use Rattle.k42_shapes.specs.Shapes.{cells_of, shape_at}
use Rattle.k42_choice.specs.Mortals.{alive_parts}
use Rattle.k42_choice.proofs.OwnRows.{still_long, own_length, alive_row}
use Rattle.k42_choice.proofs.mortal.MortalLayout.step_all.Goals as goal

pub put_back-requires : goal.put_back-requires
put_back-requires g c =
    let laws = g.met.L.Living in
    let layout = c.args.self.now.layout in
    let Whole = g.L.Living.whole layout in
    let row = alive_row c.args.self.now.dead Whole c.args.parts.now.items c.if-self.false c.requires.whole in
    let whole = subst (Whole row.procs) (sym c.in_ok-own.ensures.taken) row.whole.whole in
    let long = still_long (g.L.Kind.object layout) (g.L.Living.ways layout) (Whole row.procs) (cells_of (shape_at (g.L.Living.shapes layout) (g.L.Living.tag_of layout)) row.procs)
    c.in_ok-own.own.items c.step_all-replied.new.parts.items c.args.op.now c.step_all-replied.result
    (λ parts lawful. (laws.stands layout row.procs parts row.some lawful).sized)
    whole
    (laws.steps_all layout row.procs c.in_ok-own.own.items c.args.op.now row.some c.requires.takes whole)
    c.step_all-replied.ensures.moved c.step_all-replied.ensures.memory in
    let taken = ap length c.in_ok-own.ensures.taken ∙ own_length alive_parts Whole row.procs c.args.parts.now.items row.whole in
    let empty = ap length c.in_ok-own.ensures.empty in
    omega (arith, c.in_ok-own.ensures.room, c.args.parts.now.ok.0, c.taken.new.parts.ok.0, c.step_all-replied.new.parts.ok.0, long, taken, empty)
