use Rattle.std.proofs.Common.{◌∙◌}
use Rattle.co_directory.proofs.SeenNames.{all_bound, all_bound-from_entries, seen_there}
use Rattle.co_directory.proofs.indexed.IndexedNames.state.Goals as goal

pub loop-name-init : goal.loop-name-init
loop-name-init c =
    (λ i. all_bound (c.new-state.ensures i) ((c.into_iter-name-iterator.ensures.into_iter_gives ∙ c.iter-name-items.ensures.rest) i))
    ∙ all_bound-from_entries _ c.iter-name-items.ensures.unique
    ∙ seen_there _ c.in-Some.is (λ i. (c.deref.ensures i).entries) c.self.view_is
