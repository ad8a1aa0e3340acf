use Rattle.k42_rule.proofs.swapping.clear_step.Goals as goal

pub returns-then-moves-clause-takes : goal.returns-then-moves-clause-takes
returns-then-moves-clause-takes g c = rw (← c.pass.view_is, ← c.sys.view_is) c.clear_word-found.ensures.takes

pub returns-clause-takes : goal.returns-clause-takes
returns-clause-takes g c = rw (← c.pass.view_is, ← c.sys.view_is) c.clear_word-found-2.ensures.takes
