use Rattle.std.proofs.Common.{◌%◌, length, ap, ◌∙◌}
use Rattle.co_pages.proofs.RowLemmas.{page_of-there}
use Rattle.co_pages.proofs.spread.get.Goals as goal

pub returns : goal.returns
returns c =
    let own = ap (λ n. n % length c.args.parts.now) c.from.ensures in
    c.get.ensures ∙ page_of-there c.requires.procs c.args.number (c.from.result % length c.args.parts.now) c.args.parts.now c.requires.some c.requires.whole own c.index-parts-cell.result c.index-parts-cell.is
