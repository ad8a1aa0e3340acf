use Rattle.std.proofs.Common.{rules, arith}
use Rattle.k42_stamp.specs.Merging.{IsNext}
use Rattle.k42_stamp.proofs.NextEntries.{taken_there, one_fewer, has_moved}
use Rattle.k42_stamp.proofs.merging.move_next.Goals as goal

pub push_reserved-requires : goal.push_reserved-requires
push_reserved-requires g c =
    let lists = c.args.rests.now.items in
    let place = c.in-Some.place in
    let next : IsNext lists place c.in-Some.field-0-1.now = search rules in
    let there = taken_there lists place c.in-Some.field-0-1.now c.pop.result c.index_mut.result.now c.pop.new.self next (search rules) c.pop.ensures in
    omega (arith, one_fewer lists place c.pop.result c.pop.new.self there, c.requires.room)

pub returns-clause-room : goal.returns-clause-room
returns-clause-room g c =
    let lists = c.args.rests.now.items in
    let place = c.in-Some.place in
    let next : IsNext lists place c.in-Some.field-0-1.now = search rules in
    let there = taken_there lists place c.in-Some.field-0-1.now c.pop.result c.index_mut.result.now c.pop.new.self next (search rules) c.pop.ensures in
    omega (arith, one_fewer lists place c.pop.result c.pop.new.self there, c.push_reserved.ensures.len)

pub returns-clause-fewer : goal.returns-clause-fewer
returns-clause-fewer g c = λ yes.
    let lists = c.args.rests.now.items in
    let place = c.in-Some.place in
    let next : IsNext lists place c.in-Some.field-0-1.now = search rules in
    let there = taken_there lists place c.in-Some.field-0-1.now c.pop.result c.index_mut.result.now c.pop.new.self next (search rules) c.pop.ensures in
    one_fewer lists place c.pop.result c.pop.new.self there

pub returns-clause-moved : goal.returns-clause-moved
returns-clause-moved g c = λ yes.
    let lists = c.args.rests.now.items in
    let place = c.in-Some.place in
    let next : IsNext lists place c.in-Some.field-0-1.now = search rules in
    has_moved lists place c.in-Some.field-0-1.now c.pop.result c.index_mut.result.now c.pop.new.self c.args.entries.now.items c.push_reserved.new.self.items next (search rules) c.pop.ensures c.push_reserved.ensures.items
