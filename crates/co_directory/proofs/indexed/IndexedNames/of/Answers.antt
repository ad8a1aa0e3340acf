use Rattle.std.proofs.Common.{◌∙◌}
use Rattle.co_directory.proofs.SeenNames.{all_bound, all_bound-entries}
use Rattle.co_directory.proofs.indexed.IndexedNames.of.Goals as goal

pub loop-name-init : goal.loop-name-init
loop-name-init c = (λ i. all_bound (c.new-names.ensures i) ((c.into_iter-name-iterator.ensures.into_iter_gives ∙ c.iter-name-items.ensures) i)) ∙ all_bound-entries c.args.state.now
