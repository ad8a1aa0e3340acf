use Rattle.std.proofs.Common.{rules, vec_items, map, length, ap, arith}
use Rattle.k42_stamp.proofs.NextEntries.{read_map, alone_merged}
use Rattle.k42_stamp.proofs.Totals.{total_alone}
use Rattle.k42_stamp.proofs.merging.take_alone_from.Goals as goal

pub number-requires : goal.number-requires
number-requires g c =
    let alone = c.requires.alone in
    let all = total_alone (map vec_items c.args.lists.items) c.args.place alone.list alone.there alone.others in
    let is = read_map vec_items c.args.lists.items c.args.place c.swap_remove-list.result alone.list alone.there (search rules) in
    omega (arith, all, ap length is, c.requires.fits)

pub returns : goal.returns
returns g c = record {
  trace = c.swap_remove-list.result.items;
  just = alone_merged vec_items c.args.lists.items c.args.place c.swap_remove-list.result c.requires.lists c.requires.alone (search rules);
  numbered = search rules;
}
