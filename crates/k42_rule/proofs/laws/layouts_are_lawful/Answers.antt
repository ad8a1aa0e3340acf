use Rattle.k42_rule.proofs.laws.layouts_are_lawful.Goals as goal

pub returns : goal.returns
returns g c = rw (← c.sys.view_is) c.sys.invariant.5
