use Rattle.std.proofs.Common.{subst}
use Rattle.k42_runtime.specs.Swaps.{HasEnded}
use Rattle.k42_runtime.proofs.SwapRows.{has_collected, has_handed, handed_here, ended_still}
use Rattle.k42_runtime.proofs.system.System.swap_to.Goals as goal

pub returns : goal.returns
returns g c =
    let system = c.args.self.now in let old = c.args.pass.now in let first = c.collect.new.pass in let last = c.carry_out-end.new.pass in let new = c.hand_over.new.pass in
    let result = c.carry_out-end.result in
    let ended : HasEnded system c.args.object c.args.to result first last =
    subst (λ s. HasEnded system s.object s.to result first last) c.new-swap.ensures c.carry_out-end.ensures in
    ended_still system c.args.object c.args.to result old first last new
    (has_collected c.collect.ensures.collected.0 old first c.collect.ensures.collected.2) (has_handed last new c.hand_over.ensures.handed)
    (handed_here system last new c.hand_over.ensures.handed ended.here)
    ended
