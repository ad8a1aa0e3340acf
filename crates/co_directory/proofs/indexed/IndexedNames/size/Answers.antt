use Rattle.std.proofs.Common.{ℕ, ◌∙◌, ap, sym}
use Rattle.std.specs.FinMap.{len, len-empty}
use Rattle.co_directory.proofs.SeenNames.{in_order, len_named, seen_of_none, seen_there}
use Rattle.co_directory.proofs.indexed.IndexedNames.size.Goals as goal

pub returns-in_default : goal.returns-in_default
returns-in_default c = sym (len-empty in_order ℕ) ∙ ap len (seen_of_none _ c.in_default.is c.self.view_is)

pub returns : goal.returns
returns c = c.len.ensures.len ∙ len_named _ c.len.ensures.unique ∙ ap len (seen_there _ c.in-Some.is (λ i. (c.deref.ensures i).entries) c.self.view_is)
