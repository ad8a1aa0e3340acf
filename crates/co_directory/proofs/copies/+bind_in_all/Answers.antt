use Rattle.co_directory.proofs.CopyLemmas.{undone}
use Rattle.co_directory.proofs.copies.+bind_in_all.Goals as goal

pub returns-in-Err-clause-memory : goal.returns-in-Err-clause-memory
returns-in-Err-clause-memory t c = undone c.args.name.now c.args.number c.args.copies.now c.in-Some.first.now c.in-Some.rest.now _ _ _ c.in-Some.ensures.cases.0 c.requires.unbound c.in_ok-insert.ensures.ok c.remove.ensures.gone c.in-Err.ensures.memory
