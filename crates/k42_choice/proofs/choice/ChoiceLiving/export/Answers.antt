use Rattle.std.proofs.Common.{length, arith, ap, ◌∙◌}
use Rattle.k42_choice.specs.Choices.{first_parts, second_parts, IsServedRow}
use Rattle.k42_choice.proofs.OwnRows.{own_length}
use Rattle.k42_choice.proofs.ChosenRows.{first_row, second_row, own_whole, back_again}
use Rattle.k42_choice.proofs.choice.ChoiceLiving.export.Goals as goal

pub export-state-requires : goal.export-state-requires
export-state-requires g c =
    let row = second_row g.A.Living.gone (g.A.Living.ways c.args.self.now.first) (g.A.Living.whole c.args.self.now.first) (g.A.Living.serves c.args.self.now.first) (g.B.Living.ways c.args.self.now.second) (g.B.Living.whole c.args.self.now.second) (g.B.Living.serves c.args.self.now.second) c.args.self.now.at_second c.args.parts.now.items c.if-self.true c.requires.whole in
    record { whole = own_whole second_parts (g.B.Living.ways c.args.self.now.second) (g.B.Living.whole c.args.self.now.second) (g.A.Living.serves c.args.self.now.first) c.args.parts.now.items c.in_ok-own.own.items row c.in_ok-own.ensures.taken }

pub put_back-requires : goal.put_back-requires
put_back-requires g c =
    let row = second_row g.A.Living.gone (g.A.Living.ways c.args.self.now.first) (g.A.Living.whole c.args.self.now.first) (g.A.Living.serves c.args.self.now.first) (g.B.Living.ways c.args.self.now.second) (g.B.Living.whole c.args.self.now.second) (g.B.Living.serves c.args.self.now.second) c.args.self.now.at_second c.args.parts.now.items c.if-self.true c.requires.whole in
    let long = ap length c.export-state.ensures.kept in
    let taken = ap length c.in_ok-own.ensures.taken ∙ own_length second_parts (IsServedRow (g.B.Living.ways c.args.self.now.second) (g.B.Living.whole c.args.self.now.second) (g.A.Living.serves c.args.self.now.first)) row.procs c.args.parts.now.items row.whole in
    let empty = ap length c.in_ok-own.ensures.empty in
    omega (arith, c.in_ok-own.ensures.room, c.args.parts.now.ok.0, c.taken.new.parts.ok.0, c.export-state.new.parts.ok.0, long, taken, empty)

pub returns-then-self-clause-kept : goal.returns-then-self-clause-kept
returns-then-self-clause-kept g c =
    let row = second_row g.A.Living.gone (g.A.Living.ways c.args.self.now.first) (g.A.Living.whole c.args.self.now.first) (g.A.Living.serves c.args.self.now.first) (g.B.Living.ways c.args.self.now.second) (g.B.Living.whole c.args.self.now.second) (g.B.Living.serves c.args.self.now.second) c.args.self.now.at_second c.args.parts.now.items c.if-self.true c.requires.whole in
    back_again second_parts (IsServedRow (g.B.Living.ways c.args.self.now.second) (g.B.Living.whole c.args.self.now.second) (g.A.Living.serves c.args.self.now.first)) row.procs c.args.parts.now.items c.taken.new.parts.items c.put_back.new.parts.items c.in_ok-own.own.items c.export-state.new.parts.items
    row.whole c.in_ok-own.ensures.taken c.in_ok-own.ensures.empty c.put_back.ensures c.export-state.ensures.kept

pub export-state-requires-2 : goal.export-state-requires-2
export-state-requires-2 g c =
    let row = first_row g.A.Living.gone (g.A.Living.ways c.args.self.now.first) (g.A.Living.whole c.args.self.now.first) (g.A.Living.serves c.args.self.now.first) (g.B.Living.ways c.args.self.now.second) (g.B.Living.whole c.args.self.now.second) (g.B.Living.serves c.args.self.now.second) c.args.self.now.at_second c.args.parts.now.items c.if-self.false c.requires.whole in
    record { whole = own_whole first_parts (g.A.Living.ways c.args.self.now.first) (g.A.Living.whole c.args.self.now.first) (g.B.Living.serves c.args.self.now.second) c.args.parts.now.items c.in_ok-own-2.own.items row c.in_ok-own-2.ensures.taken }

pub put_back-requires-2 : goal.put_back-requires-2
put_back-requires-2 g c =
    let row = first_row g.A.Living.gone (g.A.Living.ways c.args.self.now.first) (g.A.Living.whole c.args.self.now.first) (g.A.Living.serves c.args.self.now.first) (g.B.Living.ways c.args.self.now.second) (g.B.Living.whole c.args.self.now.second) (g.B.Living.serves c.args.self.now.second) c.args.self.now.at_second c.args.parts.now.items c.if-self.false c.requires.whole in
    let long = ap length c.export-state-2.ensures.kept in
    let taken = ap length c.in_ok-own-2.ensures.taken ∙ own_length first_parts (IsServedRow (g.A.Living.ways c.args.self.now.first) (g.A.Living.whole c.args.self.now.first) (g.B.Living.serves c.args.self.now.second)) row.procs c.args.parts.now.items row.whole in
    let empty = ap length c.in_ok-own-2.ensures.empty in
    omega (arith, c.in_ok-own-2.ensures.room, c.args.parts.now.ok.0, c.taken-2.new.parts.ok.0, c.export-state-2.new.parts.ok.0, long, taken, empty)

pub returns-clause-kept : goal.returns-clause-kept
returns-clause-kept g c =
    let row = first_row g.A.Living.gone (g.A.Living.ways c.args.self.now.first) (g.A.Living.whole c.args.self.now.first) (g.A.Living.serves c.args.self.now.first) (g.B.Living.ways c.args.self.now.second) (g.B.Living.whole c.args.self.now.second) (g.B.Living.serves c.args.self.now.second) c.args.self.now.at_second c.args.parts.now.items c.if-self.false c.requires.whole in
    back_again first_parts (IsServedRow (g.A.Living.ways c.args.self.now.first) (g.A.Living.whole c.args.self.now.first) (g.B.Living.serves c.args.self.now.second)) row.procs c.args.parts.now.items c.taken-2.new.parts.items c.put_back-2.new.parts.items c.in_ok-own-2.own.items c.export-state-2.new.parts.items
    row.whole c.in_ok-own-2.ensures.taken c.in_ok-own-2.ensures.empty c.put_back-2.ensures c.export-state-2.ensures.kept
