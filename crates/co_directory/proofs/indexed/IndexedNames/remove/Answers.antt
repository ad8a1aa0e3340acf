use Rattle.std.proofs.Common.{[], ◌∙◌}
use Rattle.co_directory.proofs.SeenNames.{get_named, remove_from_none, remove_named, seen_of_none, seen_there}
use Rattle.co_directory.proofs.indexed.IndexedNames.remove.Goals as goal

pub returns-in_default-clause-found : goal.returns-in_default-clause-found
returns-in_default-clause-found c = get_named [] _ (seen_of_none _ c.in_default.is c.self.view_is) c.args.name.now

pub returns-in_default-clause-gone : goal.returns-in_default-clause-gone
returns-in_default-clause-gone c = c.self.view_is ∙ remove_from_none _ (seen_of_none _ c.in_default.is c.self.view_is) c.args.name.now

pub returns-clause-found : goal.returns-clause-found
returns-clause-found c = c.swap_remove.ensures.value ∙ get_named _ _ (seen_there _ c.in-Some.is (λ i. (c.deref_mut.ensures.value i).entries) c.self.view_is) c.args.name.now

pub returns-clause-gone : goal.returns-clause-gone
returns-clause-gone c = remove_named _ _ _ (seen_there _ c.in-Some.is (λ i. (c.deref_mut.ensures.value i).entries) c.self.view_is) c.args.name.now c.swap_remove.ensures.updates.0
