use Rattle.std.proofs.Common.{length, arith, ap, ◌∙◌}
use Rattle.k42_shapes.specs.Shapes.{cells_of, shape_at}
use Rattle.k42_choice.specs.Choices.{first_parts, second_parts, IsServedRow}
use Rattle.k42_choice.specs.ChoiceLaws.{one_object, takes_too}
use Rattle.k42_choice.proofs.OwnRows.{still_long, own_length}
use Rattle.k42_choice.proofs.ChosenRows.{first_row, second_row, own_whole, back_again, on_err}
use Rattle.k42_choice.proofs.choice.ChoiceLiving.step_all.Goals as goal

pub step_all-replied-requires-clause-whole : goal.step_all-replied-requires-clause-whole
step_all-replied-requires-clause-whole g c =
    let row = second_row g.A.Living.gone (g.A.Living.ways c.args.self.now.first) (g.A.Living.whole c.args.self.now.first) (g.A.Living.serves c.args.self.now.first) (g.B.Living.ways c.args.self.now.second) (g.B.Living.whole c.args.self.now.second) (g.B.Living.serves c.args.self.now.second) c.args.self.now.at_second c.args.parts.now.items c.if-self.true c.requires.whole in
    own_whole second_parts (g.B.Living.ways c.args.self.now.second) (g.B.Living.whole c.args.self.now.second) (g.A.Living.serves c.args.self.now.first) c.args.parts.now.items c.in_ok-own.own.items row c.in_ok-own.ensures.taken

pub put_back-requires : goal.put_back-requires
put_back-requires g c =
    let row = second_row g.A.Living.gone (g.A.Living.ways c.args.self.now.first) (g.A.Living.whole c.args.self.now.first) (g.A.Living.serves c.args.self.now.first) (g.B.Living.ways c.args.self.now.second) (g.B.Living.whole c.args.self.now.second) (g.B.Living.serves c.args.self.now.second) c.args.self.now.at_second c.args.parts.now.items c.if-self.true c.requires.whole in
    let same = one_object (g.A.Kind.object c.args.self.now.first) (g.B.Kind.object c.args.self.now.second) c.args.self.now.one (g.met.A.Living.endless c.args.self.now.first) (g.met.A.Living.stays c.args.self.now.first) (g.met.B.Living.endless c.args.self.now.second) (g.met.B.Living.stays c.args.self.now.second) in
    let whole = own_whole second_parts (g.B.Living.ways c.args.self.now.second) (g.B.Living.whole c.args.self.now.second) (g.A.Living.serves c.args.self.now.first) c.args.parts.now.items c.in_ok-own.own.items row c.in_ok-own.ensures.taken in
    let layout = c.args.self.now.second in
    let long = still_long (g.B.Kind.object layout) (g.B.Living.ways layout) (g.B.Living.whole layout whole.procs) (cells_of (shape_at (g.B.Living.shapes layout) (g.B.Living.tag_of layout)) whole.procs)
    c.in_ok-own.own.items c.step_all-replied.new.parts.items c.args.op.now c.step_all-replied.result
    (λ parts lawful. (g.met.B.Living.stands layout whole.procs parts whole.some lawful).sized)
    whole.whole
    (g.met.B.Living.steps_all layout whole.procs c.in_ok-own.own.items c.args.op.now whole.some (takes_too (g.A.Kind.object c.args.self.now.first) (g.B.Kind.object c.args.self.now.second) same c.args.op.now c.requires.takes) whole.whole)
    c.step_all-replied.ensures.moved c.step_all-replied.ensures.memory in
    let taken = ap length c.in_ok-own.ensures.taken ∙ own_length second_parts (IsServedRow (g.B.Living.ways c.args.self.now.second) (g.B.Living.whole c.args.self.now.second) (g.A.Living.serves c.args.self.now.first)) row.procs c.args.parts.now.items row.whole in
    let empty = ap length c.in_ok-own.ensures.empty in
    omega (arith, c.in_ok-own.ensures.room, c.args.parts.now.ok.0, c.taken.new.parts.ok.0, c.step_all-replied.new.parts.ok.0, long, taken, empty)

pub returns-then-self-clause-memory : goal.returns-then-self-clause-memory
returns-then-self-clause-memory g c =
    let row = second_row g.A.Living.gone (g.A.Living.ways c.args.self.now.first) (g.A.Living.whole c.args.self.now.first) (g.A.Living.serves c.args.self.now.first) (g.B.Living.ways c.args.self.now.second) (g.B.Living.whole c.args.self.now.second) (g.B.Living.serves c.args.self.now.second) c.args.self.now.at_second c.args.parts.now.items c.if-self.true c.requires.whole in
    on_err c.step_all-replied.result (λ stayed. back_again second_parts (IsServedRow (g.B.Living.ways c.args.self.now.second) (g.B.Living.whole c.args.self.now.second) (g.A.Living.serves c.args.self.now.first)) row.procs c.args.parts.now.items c.taken.new.parts.items c.put_back.new.parts.items c.in_ok-own.own.items c.step_all-replied.new.parts.items
    row.whole c.in_ok-own.ensures.taken c.in_ok-own.ensures.empty c.put_back.ensures stayed) c.step_all-replied.ensures.memory

pub step_all-replied-requires-2-clause-whole : goal.step_all-replied-requires-2-clause-whole
step_all-replied-requires-2-clause-whole g c =
    let row = first_row g.A.Living.gone (g.A.Living.ways c.args.self.now.first) (g.A.Living.whole c.args.self.now.first) (g.A.Living.serves c.args.self.now.first) (g.B.Living.ways c.args.self.now.second) (g.B.Living.whole c.args.self.now.second) (g.B.Living.serves c.args.self.now.second) c.args.self.now.at_second c.args.parts.now.items c.if-self.false c.requires.whole in
    own_whole first_parts (g.A.Living.ways c.args.self.now.first) (g.A.Living.whole c.args.self.now.first) (g.B.Living.serves c.args.self.now.second) c.args.parts.now.items c.in_ok-own-2.own.items row c.in_ok-own-2.ensures.taken

pub put_back-requires-2 : goal.put_back-requires-2
put_back-requires-2 g c =
    let row = first_row g.A.Living.gone (g.A.Living.ways c.args.self.now.first) (g.A.Living.whole c.args.self.now.first) (g.A.Living.serves c.args.self.now.first) (g.B.Living.ways c.args.self.now.second) (g.B.Living.whole c.args.self.now.second) (g.B.Living.serves c.args.self.now.second) c.args.self.now.at_second c.args.parts.now.items c.if-self.false c.requires.whole in
    let whole = own_whole first_parts (g.A.Living.ways c.args.self.now.first) (g.A.Living.whole c.args.self.now.first) (g.B.Living.serves c.args.self.now.second) c.args.parts.now.items c.in_ok-own-2.own.items row c.in_ok-own-2.ensures.taken in
    let layout = c.args.self.now.first in
    let long = still_long (g.A.Kind.object layout) (g.A.Living.ways layout) (g.A.Living.whole layout whole.procs) (cells_of (shape_at (g.A.Living.shapes layout) (g.A.Living.tag_of layout)) whole.procs)
    c.in_ok-own-2.own.items c.step_all-replied-2.new.parts.items c.args.op.now c.step_all-replied-2.result
    (λ parts lawful. (g.met.A.Living.stands layout whole.procs parts whole.some lawful).sized)
    whole.whole
    (g.met.A.Living.steps_all layout whole.procs c.in_ok-own-2.own.items c.args.op.now whole.some c.requires.takes whole.whole)
    c.step_all-replied-2.ensures.moved c.step_all-replied-2.ensures.memory in
    let taken = ap length c.in_ok-own-2.ensures.taken ∙ own_length first_parts (IsServedRow (g.A.Living.ways c.args.self.now.first) (g.A.Living.whole c.args.self.now.first) (g.B.Living.serves c.args.self.now.second)) row.procs c.args.parts.now.items row.whole in
    let empty = ap length c.in_ok-own-2.ensures.empty in
    omega (arith, c.in_ok-own-2.ensures.room, c.args.parts.now.ok.0, c.taken-2.new.parts.ok.0, c.step_all-replied-2.new.parts.ok.0, long, taken, empty)

pub returns-clause-memory : goal.returns-clause-memory
returns-clause-memory g c =
    let row = first_row g.A.Living.gone (g.A.Living.ways c.args.self.now.first) (g.A.Living.whole c.args.self.now.first) (g.A.Living.serves c.args.self.now.first) (g.B.Living.ways c.args.self.now.second) (g.B.Living.whole c.args.self.now.second) (g.B.Living.serves c.args.self.now.second) c.args.self.now.at_second c.args.parts.now.items c.if-self.false c.requires.whole in
    on_err c.step_all-replied-2.result (λ stayed. back_again first_parts (IsServedRow (g.A.Living.ways c.args.self.now.first) (g.A.Living.whole c.args.self.now.first) (g.B.Living.serves c.args.self.now.second)) row.procs c.args.parts.now.items c.taken-2.new.parts.items c.put_back-2.new.parts.items c.in_ok-own-2.own.items c.step_all-replied-2.new.parts.items
    row.whole c.in_ok-own-2.ensures.taken c.in_ok-own-2.ensures.empty c.put_back-2.ensures stayed) c.step_all-replied-2.ensures.memory
