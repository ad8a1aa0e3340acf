use Rattle.std.proofs.Common.{◌^◌, vec_items, arith}
use Rattle.k42_stamp.proofs.Totals.{few_alone}
use Rattle.k42_stamp.proofs.merging.take_alone.Goals as goal

pub take_alone_from-requires-clause-fits : goal.take_alone_from-requires-clause-fits
take_alone_from-requires-clause-fits g c =
    let few = few_alone vec_items (2 ^ 63) c.args.lists.items c.args.place (λ v. omega (arith, v.ok.0, v.ok.1, v.small)) c.requires.alone in
    omega (arith, few)
