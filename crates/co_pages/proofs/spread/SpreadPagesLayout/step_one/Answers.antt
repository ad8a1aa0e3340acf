use Rattle.std.proofs.Common.{subst}
use Rattle.k42_kinds.specs.declared.operation.Op.{Op}
use Rattle.k42_kinds.specs.LayoutLaws.{IsReached}
use Rattle.co_pages.specs.SpreadRows.{IsSpread, spread}
use Rattle.co_pages.proofs.RowLemmas.{reached_own}
use Rattle.co_pages.proofs.spread.SpreadPagesLayout.step_one.Goals as goal

pub insert-requires : goal.insert-requires
insert-requires c = reached_own c.args.part.now c.in-Write.number c.in-Write.text (subst (λ (op : Op). IsReached spread IsSpread c.args.part.now op) c.in-Write.is c.requires.reached)
