use Rattle.std.proofs.Common.{rules, ap, ◌∙◌, length, arith}
use Rattle.k42_stamp.specs.Merging.{HasMoved}
use Rattle.k42_stamp.proofs.NextEntries.{merges_on, all_merged}
use Rattle.k42_stamp.proofs.Totals.{total_empty}
use Rattle.k42_stamp.proofs.merging.move_all.Goals as goal

pub loop-preserved : goal.loop-preserved
loop-preserved g c =
    let old = c.loop.rests.items in
    let new = c.move_next.new.rests.items in
    let moved : HasMoved old new c.loop.entries.items c.move_next.new.entries.items = search rules in
    record {
      merging = merges_on c.args.rests.now.items old new c.loop.entries.items c.move_next.new.entries.items c.loop.invariant.merging moved;
      all = c.move_next.ensures.room ∙ c.loop.invariant.all;
      room = rw (c.move_next.ensures.capacity, c.move_next.ensures.room) c.loop.invariant.room;
    }

pub returns-clause-trace : goal.returns-clause-trace
returns-clause-trace g c =
    let all = c.move_next.ensures.all (search rules) in
    all_merged c.args.rests.now.items c.loop.rests.items c.loop.entries.items c.move_next.new.entries.items c.loop.invariant.merging all.0 all.1

pub returns-clause-all : goal.returns-clause-all
returns-clause-all g c =
    let all = c.move_next.ensures.all (search rules) in
    let none = total_empty c.loop.rests.items all.0 in
    omega (arith, ap length all.1, c.loop.entries.ok.0, c.loop.invariant.all, none)
