use Rattle.std.proofs.Common.{rules, sym, subst}
use Rattle.k42_board.specs.Views.{pass_in}
use Rattle.phase_core.specs.declared.caller.SwapAt.{SwapAt}
use Rattle.k42_board.specs.Swapping.{FitsSwap}
use Rattle.k42_rule.proofs.Fitting.{fits_entry}
use Rattle.k42_rule.proofs.swapping.entry_step.Goals as goal

pub invariant_of-pass : goal.invariant_of-pass
invariant_of-pass g c =
    let pass = c.pass.inside in
    let fits : FitsSwap (pass_in pass.seat.me.0).shapes c.stage_after-pass-inside.result pass.turned pass.handed pass.last =
    subst (λ (swap : SwapAt). FitsSwap (pass_in pass.seat.me.0).shapes swap pass.turned pass.handed pass.last) (sym c.stage_after-pass-inside.ensures)
    (fits_entry (pass_in pass.seat.me.0).shapes pass.swap pass.turned pass.handed pass.last c.pass.invariant.15 _) in
    search (rules, fits)

pub returns : goal.returns
returns g c = record {
  same = search rules;
  takes = rw (← c.pass.view_is, ← c.sys.view_is) c.change_entry_word-found.ensures.takes;
}
