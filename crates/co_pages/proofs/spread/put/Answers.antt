use Rattle.std.proofs.Common.{◌%◌, ap₂, ◌∙◌}
use Rattle.co_pages.proofs.RowLemmas.{own_cell, put_moved}
use Rattle.co_pages.proofs.spread.put.Goals as goal

pub insert-requires : goal.insert-requires
insert-requires c =
    let own = ap₂ (λ a b. a % b) c.from.ensures (c.len.ensures ∙ c.args.parts.now.ok.0) in
    own_cell c.requires.procs c.args.number (c.from.result % c.len.result) c.args.parts.now.items c.requires.some c.requires.whole own c.index_mut.result.now c.index_mut.ensures.value

pub returns-clause-ok : goal.returns-clause-ok
returns-clause-ok c =
    let own = ap₂ (λ a b. a % b) c.from.ensures (c.len.ensures ∙ c.args.parts.now.ok.0) in
    put_moved c.requires.procs c.args.number (c.from.result % c.len.result) c.args.parts.now.items c.requires.some c.requires.whole own c.index_mut.result.now c.index_mut.ensures.value c.args.page.now c.insert.new.self c.insert.result c.insert.ensures.ok
