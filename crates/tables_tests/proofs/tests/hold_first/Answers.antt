use Rattle.std.proofs.Common.{◌∙◌, rules}
use Rattle.tables_tests.proofs.FirstCell.{may_lock_first}
use Rattle.tables_tests.proofs.tests.hold_first.Goals as goal

pub lock-requires-after_bounds : goal.lock-requires-after_bounds
lock-requires-after_bounds g c κs within = record {
  ours = c.root_step-word.ensures.same.table ∙ c.requires.busy.free.ours.table;
  may =
      may_lock_first c.args.sys.now.procs _ c.root_step-word.result c.args.pass.now.view c.root_step-word.new.pass.view c.requires.busy.free.ours.proc c.requires.missed c.requires.busy.free.held
      c.root_step-word.ensures.takes.knows c.root_step-word.ensures.takes.finds (search rules);
}
