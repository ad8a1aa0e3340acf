use Rattle.std.proofs.Common.{rules, arith, sym, subst}
use Rattle.std.proofs.lemmas.Grind.{common_steps}
use Rattle.k42_board.specs.Views.{pass_in}
use Rattle.phase_core.specs.declared.caller.SwapAt.{SwapAt}
use Rattle.k42_board.specs.Swapping.{FitsSwap}
use Rattle.k42_rule.proofs.Fitting.{fits_drained}
use Rattle.k42_rule.proofs.gracing.look.Goals as goal

pub invariant_of-pass-then-exits_in-index : goal.invariant_of-pass-then-exits_in-index
invariant_of-pass-then-exits_in-index g c =
    let pass = c.pass.inside in
    let fits =
    subst (λ (swap : SwapAt). FitsSwap (pass_in pass.seat.me.0).shapes swap pass.turned pass.handed pass.last) (sym c.drained-pass-inside.ensures)
    (fits_drained (pass_in pass.seat.me.0).shapes pass.swap pass.turned pass.handed pass.last c.pass.invariant.15 _) in
    grind (arith, common_steps, fits)

pub returns-in-Flipping : goal.returns-in-Flipping
returns-in-Flipping g c = record {
  same = search rules;
  takes = rw (← c.pass.view_is, ← c.sys.view_is) c.look_word-found.ensures.takes;
}

pub returns-then-exits_in-index : goal.returns-then-exits_in-index
returns-then-exits_in-index g c = record {
  same = search rules;
  takes = rw (← c.pass.view_is, ← c.sys.view_is) c.look_word-found.ensures.takes;
}

pub returns-else-exits_in-index : goal.returns-else-exits_in-index
returns-else-exits_in-index g c = record {
  same = search rules;
  takes = rw (← c.pass.view_is, ← c.sys.view_is) c.look_word-found.ensures.takes;
}
