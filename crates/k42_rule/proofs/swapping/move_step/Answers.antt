use Rattle.std.proofs.Common.{rules, sym, ap, ◌∙◌, subst}
use Rattle.k42_board.specs.Views.{pass_in}
use Rattle.phase_core.specs.Stages.{is_blocking}
use Rattle.phase_core.specs.declared.caller.SwapAt.TheVariants.{Moved}
use Rattle.k42_board.specs.Seen.{Own, PassSeen}
use Rattle.k42_board.specs.Swapping.{FitsSwap}
use Rattle.k42_rule.proofs.Fitting.{fits_moved}
use Rattle.k42_rule.proofs.swapping.move_step.Goals as goal

pub invariant_of-pass : goal.invariant_of-pass
invariant_of-pass g c =
    let pass = c.pass.inside in
    let blocks = ap (λ (o : Own). is_blocking o.swap) c.pass.invariant.0.own_is ∙ ap (λ (p : PassSeen _ _ _). is_blocking p.view.visitor.swap) c.pass.view_is ∙ c.requires.may in
    let fits = subst (λ o. FitsSwap (pass_in pass.seat.me.0).shapes (Moved o) pass.turned pass.handed pass.last) (sym c.object_at-object.ensures) (fits_moved (pass_in pass.seat.me.0).shapes pass.swap pass.turned pass.handed pass.last c.pass.invariant.15 blocks) in
    search (rules, fits)

pub returns-then-found-old : goal.returns-then-found-old
returns-then-found-old g c = record {
  same = search rules;
  takes = rw (← c.pass.view_is, ← c.sys.view_is) c.move_word-found.ensures.takes;
}

pub returns-else-found-old : goal.returns-else-found-old
returns-else-found-old g c = record {
  same = search rules;
  takes = rw (← c.pass.view_is, ← c.sys.view_is) c.move_word-found.ensures.takes;
}
