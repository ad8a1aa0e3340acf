use Rattle.std.proofs.Common.{[], ◌∙◌}
use Rattle.co_directory.proofs.SeenNames.{get_named, seen_of_none, seen_there}
use Rattle.co_directory.proofs.indexed.IndexedNames.get.Goals as goal

pub returns-in_default : goal.returns-in_default
returns-in_default c = get_named [] _ (seen_of_none _ c.in_default.is c.self.view_is) c.args.name.now

pub returns : goal.returns
returns c = c.copied.ensures ∙ c.get.ensures.value ∙ get_named _ _ (seen_there _ c.in-Some.is (λ i. (c.deref.ensures i).entries) c.self.view_is) c.args.name.now
