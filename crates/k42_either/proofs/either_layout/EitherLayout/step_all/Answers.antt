use Rattle.std.proofs.Common.{length, arith, ap, ◌∙◌}
use Rattle.k42_shapes.specs.Shapes.{cells_of, shape_at}
use Rattle.k42_choice.proofs.OwnRows.{still_long, own_length}
use Rattle.k42_choice.proofs.ChosenRows.{back_again}
use Rattle.k42_either.specs.EitherRows.{first_parts, second_parts}
use Rattle.k42_either.specs.declared.either.Either.TheVariants.{First}
use Rattle.k42_either.proofs.EitherParts.{first_row, second_row, first_takes, second_takes, first_known, second_known, own_whole, on_any_err}
use Rattle.k42_either.proofs.either_layout.EitherLayout.step_all.Goals as goal

pub step_all-replied-requires-clause-whole : goal.step_all-replied-requires-clause-whole
step_all-replied-requires-clause-whole g c =
    let here = c.in-First-First in
    let Whole = g.A.Layout.whole here.layout in
    let row = first_row g.A.Layout.whole g.B.Layout.whole c.args.self.now c.args.parts.now.items c.requires.whole here.layout here.is-0 in
    let own = c.in_ok-own-in-First-First in
    own_whole first_parts Whole c.args.parts.now.items own.own.items row own.ensures.taken

pub put_back-requires : goal.put_back-requires
put_back-requires g c =
    let here = c.in-First-First in
    let Whole = g.A.Layout.whole here.layout in
    let row = first_row g.A.Layout.whole g.B.Layout.whole c.args.self.now c.args.parts.now.items c.requires.whole here.layout here.is-0 in
    let own = c.in_ok-own-in-First-First in
    let laws = g.met.A.Layout in
    let stepped = c.step_all-replied in
    let whole = own_whole first_parts Whole c.args.parts.now.items own.own.items row own.ensures.taken in
    let known = first_known g.A.Layout.shapes g.B.Layout.shapes g.A.Layout.tag_of g.B.Layout.tag_of c.args.self.now c.requires.known here.layout here.is-0 in
    let takes = first_takes (First g.A.Reply.Gone.gone) g.A.Kind.object g.B.Kind.object c.args.self.now c.args.op.now c.requires.takes here.layout here.op here.is-0 here.is-1 in
    let cells = cells_of (shape_at (g.A.Layout.shapes here.layout) (g.A.Layout.tag_of here.layout)) whole.procs in
    let long = still_long (g.A.Kind.object here.layout) (g.A.Layout.ways here.layout) (Whole whole.procs) cells own.own.items stepped.new.parts.items here.op stepped.result
    (λ parts lawful. (laws.stands here.layout whole.procs parts known whole.some lawful).sized)
    whole.whole
    (laws.steps_all here.layout whole.procs own.own.items here.op known whole.some takes whole.whole)
    stepped.ensures.moved stepped.ensures.memory in
    let taken = ap length own.ensures.taken ∙ own_length first_parts Whole row.procs c.args.parts.now.items row.whole in
    let empty = ap length own.ensures.empty in
    omega (arith, own.ensures.room, c.args.parts.now.ok.0, c.taken.new.parts.ok.0, stepped.new.parts.ok.0, long, taken, empty)

pub returns-in_err-replied-in-First-First-clause-memory : goal.returns-in_err-replied-in-First-First-clause-memory
returns-in_err-replied-in-First-First-clause-memory g c =
    let here = c.in-First-First in
    let Whole = g.A.Layout.whole here.layout in
    let row = first_row g.A.Layout.whole g.B.Layout.whole c.args.self.now c.args.parts.now.items c.requires.whole here.layout here.is-0 in
    let own = c.in_ok-own-in-First-First in
    on_any_err c.from_residual-in_err-replied-in-First-First.result
    (back_again first_parts Whole row.procs c.args.parts.now.items c.taken.new.parts.items c.put_back.new.parts.items own.own.items
    c.step_all-replied.new.parts.items row.whole own.ensures.taken own.ensures.empty c.put_back.ensures c.in_err-replied-in-First-First.ensures.memory)

pub step_all-replied-requires-in-Second-Second-clause-whole : goal.step_all-replied-requires-in-Second-Second-clause-whole
step_all-replied-requires-in-Second-Second-clause-whole g c =
    let here = c.in-Second-Second in
    let Whole = g.B.Layout.whole here.layout in
    let row = second_row g.A.Layout.whole g.B.Layout.whole c.args.self.now c.args.parts.now.items c.requires.whole here.layout here.is-0 in
    let own = c.in_ok-own-in-Second-Second in
    own_whole second_parts Whole c.args.parts.now.items own.own.items row own.ensures.taken

pub put_back-requires-in-Second-Second : goal.put_back-requires-in-Second-Second
put_back-requires-in-Second-Second g c =
    let here = c.in-Second-Second in
    let Whole = g.B.Layout.whole here.layout in
    let row = second_row g.A.Layout.whole g.B.Layout.whole c.args.self.now c.args.parts.now.items c.requires.whole here.layout here.is-0 in
    let own = c.in_ok-own-in-Second-Second in
    let laws = g.met.B.Layout in
    let stepped = c.step_all-replied-in-Second-Second in
    let whole = own_whole second_parts Whole c.args.parts.now.items own.own.items row own.ensures.taken in
    let known = second_known g.A.Layout.shapes g.B.Layout.shapes g.A.Layout.tag_of g.B.Layout.tag_of c.args.self.now c.requires.known here.layout here.is-0 in
    let takes = second_takes (First g.A.Reply.Gone.gone) g.A.Kind.object g.B.Kind.object c.args.self.now c.args.op.now c.requires.takes here.layout here.op here.is-0 here.is-1 in
    let cells = cells_of (shape_at (g.B.Layout.shapes here.layout) (g.B.Layout.tag_of here.layout)) whole.procs in
    let long = still_long (g.B.Kind.object here.layout) (g.B.Layout.ways here.layout) (Whole whole.procs) cells own.own.items stepped.new.parts.items here.op stepped.result
    (λ parts lawful. (laws.stands here.layout whole.procs parts known whole.some lawful).sized)
    whole.whole
    (laws.steps_all here.layout whole.procs own.own.items here.op known whole.some takes whole.whole)
    stepped.ensures.moved stepped.ensures.memory in
    let taken = ap length own.ensures.taken ∙ own_length second_parts Whole row.procs c.args.parts.now.items row.whole in
    let empty = ap length own.ensures.empty in
    omega (arith, own.ensures.room, c.args.parts.now.ok.0, c.taken-in-Second-Second.new.parts.ok.0, stepped.new.parts.ok.0, long, taken, empty)

pub returns-in_err-replied-in-Second-Second-clause-memory : goal.returns-in_err-replied-in-Second-Second-clause-memory
returns-in_err-replied-in-Second-Second-clause-memory g c =
    let here = c.in-Second-Second in
    let Whole = g.B.Layout.whole here.layout in
    let row = second_row g.A.Layout.whole g.B.Layout.whole c.args.self.now c.args.parts.now.items c.requires.whole here.layout here.is-0 in
    let own = c.in_ok-own-in-Second-Second in
    on_any_err c.from_residual-in_err-replied-in-Second-Second.result
    (back_again second_parts Whole row.procs c.args.parts.now.items c.taken-in-Second-Second.new.parts.items c.put_back-in-Second-Second.new.parts.items own.own.items
    c.step_all-replied-in-Second-Second.new.parts.items row.whole own.ensures.taken own.ensures.empty c.put_back-in-Second-Second.ensures c.in_err-replied-in-Second-Second.ensures.memory)
