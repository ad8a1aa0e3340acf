use Rattle.std.proofs.Common.{rules, ◌∙◌}
use Rattle.co_pages.proofs.RowLemmas.{known_size}
use Rattle.co_pages.proofs.spread.dirty.Goals as goal

pub loop-cell-init : goal.loop-cell-init
loop-cell-init c = record {
  sized = known_size c.requires.procs c.args.parts.now c.index-parts-0.result c.requires.some c.requires.whole c.index-parts-0.is ∙ search rules;
  counted = search rules;
  few = search rules;
}
