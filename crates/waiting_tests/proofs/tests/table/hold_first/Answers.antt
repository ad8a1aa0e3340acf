use Rattle.std.proofs.Common.{ℕ, ◌+◌, ◌*◌, ◌%◌, refl, sym, subst}
use Rattle.k42_board.specs.Seen.{SysSeen, IsOf}
use Rattle.k42_board.specs.Taking.{MayLock}
use Rattle.waiting_tests.proofs.Held.{may_lock_first}
use Rattle.waiting_tests.proofs.tests.table.hold_first.Goals as goal
use Rattle.co_system.specs.Systems.{SystemLayout}

pub lock-requires-after_bounds : goal.lock-requires-after_bounds
lock-requires-after_bounds g c κs =
    let pass = c.args.pass.now in let inside = c.inside-inside.result in
    let first : ℕ = (inside.object * 2 + inside.incarnation % 2) * 8 in
    record {
      ours = subst (λ (sys : SysSeen SystemLayout). IsOf sys pass) (sym c.table.ensures) c.requires.served.ours.table;
      may =
          subst (λ (sys : SysSeen SystemLayout). MayLock sys.procs first pass.view) (sym c.table.ensures)
          (may_lock_first c.args.system.now.sys.procs first pass.view inside c.requires.served.ours.proc c.requires.served.served c.requires.served.held c.inside-inside.ensures.is
          c.inside-inside.ensures.bounds.0 refl);
    }
