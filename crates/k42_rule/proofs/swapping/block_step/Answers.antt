use Rattle.std.proofs.Common.{rules, sym, ap, ◌∙◌, subst}
use Rattle.k42_board.specs.Views.{pass_in}
use Rattle.phase_core.specs.Stages.{is_drained}
use Rattle.phase_core.specs.declared.caller.SwapAt.TheVariants.{Blocking}
use Rattle.k42_board.specs.Seen.{Own, PassSeen}
use Rattle.k42_board.specs.Swapping.{FitsSwap}
use Rattle.k42_rule.proofs.Fitting.{fits_blocked}
use Rattle.k42_rule.proofs.swapping.block_step.Goals as goal

pub invariant_of-pass : goal.invariant_of-pass
invariant_of-pass g c =
    let pass = c.pass.inside in
    let drained = ap (λ (o : Own). is_drained o.swap) c.pass.invariant.0.own_is ∙ ap (λ (p : PassSeen _ _ _). is_drained p.view.visitor.swap) c.pass.view_is ∙ c.requires.may.drained in
    let fits = subst (λ o. FitsSwap (pass_in pass.seat.me.0).shapes (Blocking o) pass.turned pass.handed pass.last) (sym c.object_at-object.ensures) (fits_blocked (pass_in pass.seat.me.0).shapes pass.swap pass.turned pass.handed pass.last c.pass.invariant.15 drained) in
    search (rules, fits)

pub returns : goal.returns
returns g c = record {
  same = search rules;
  takes = rw (← c.pass.view_is, ← c.sys.view_is) c.block_word-found.ensures.takes;
}
