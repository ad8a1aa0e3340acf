use Rattle.std.proofs.Common.{sym, ap, subst}
use Rattle.phase_core.specs.declared.caller.SwapAt.{SwapAt}
use Rattle.k42_mediator.specs.Swaps.{LeavesOpen, staged}
use Rattle.k42_mediator.proofs.LeftOpen.{leaves_open}
use Rattle.k42_board.specs.Plan.{layouts_on}
use Rattle.k42_runtime.proofs.laws.the_end_of_a_swap_given_up_leaves_its_object_open.Goals as goal

pub returns : goal.returns
returns g c id object v opened unturned =
    let system = c.args.system.now in
    let F = layouts_on g.L.Kind.object g.L.Layout.shapes g.L.Layout.tag_of g.L.Layout.ways g.L.Layout.whole g.L.Layout.serves g.L.Layout.admitted g.L.Layout.act_of system.sys.procs system.sys.callers in
    subst (LeavesOpen F system.sys.layouts id) (sym (ap (λ (swap : SwapAt). staged swap v) opened))
    (leaves_open F system.sys.layouts id object v unturned)
