use Rattle.co_directory.proofs.SeenNames.{insert_named, seen_there}
use Rattle.co_directory.proofs.indexed.IndexedNames.insert.Goals as goal

pub returns-in-Some-clause-ok : goal.returns-in-Some-clause-ok
returns-in-Some-clause-ok c = insert_named _ _ _ (seen_there _ c.in-Some.is (λ i. (c.deref_mut.ensures.value i).entries) c.self.view_is) c.args.name.now c.args.number c.in_ok-insert.ensures.updates.0
