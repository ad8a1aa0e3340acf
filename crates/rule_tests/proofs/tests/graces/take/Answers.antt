use Rattle.rule_tests.proofs.Stays.{free_taken}
use Rattle.rule_tests.proofs.tests.graces.take.Goals as goal

pub returns : goal.returns
returns g c = record {
  free = free_taken c.args.sys.now c.args.pass.now c.take_role.new.pass c.take_role.result c.requires.free c.take_role.ensures.same c.take_role.ensures.takes.knows;
}
