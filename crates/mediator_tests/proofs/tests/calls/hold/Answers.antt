use Rattle.std.proofs.Common.{refl}
use Rattle.mediator_tests.proofs.FirstCell.{may_lock_first}
use Rattle.mediator_tests.proofs.tests.calls.hold.Goals as goal

pub lock-requires-after_bounds : goal.lock-requires-after_bounds
lock-requires-after_bounds g c κs within = record {
  ours = c.requires.busy.free.ours.table;
  may =
      may_lock_first c.args.sys.now.procs _ c.args.pass.now.view c.inside-inside.result c.requires.busy.free.ours.proc c.requires.served c.requires.busy.free.held c.inside-inside.ensures.is
      c.inside-inside.ensures.bounds.0 refl;
}
