use Rattle.std.proofs.Common.{sym, subst}
use Rattle.table_crews.specs.Ready.{HoldsNoCell}
use Rattle.rule_tests.proofs.Stays.{free_freed, free_given}
use Rattle.rule_tests.proofs.tests.graces.give.Goals as goal
use Rattle.rule_tests.proofs.tests.graces.give.Goals.{in-Some, in-None}

pub returns : goal.returns
returns g c =
    let sys = c.args.sys.now in let given = c.give_role.ensures in let new = c.give_role.new.pass in
    let before : HoldsNoCell sys c.match-noted.pass = elim c.match-noted.branch [
      | in-Some w ↦
          subst (HoldsNoCell sys) (sym w.pass-is)
          (free_freed sys c.args.pass.now w.free.new.pass c.args.object w.free.result c.requires.free w.free.ensures.same w.free.ensures.takes.knows)
      | in-None w ↦ subst (HoldsNoCell sys) (sym w.pass-is) c.requires.free
    ] in record { free = free_given sys c.match-noted.pass new before given.given (given.takes 0).knows }
