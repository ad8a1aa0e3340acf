use Rattle.std.proofs.Common.{rules, ◌≡◌, ◌∙◌, Option, ℕ, sym, ap}
use Rattle.k42_board.specs.Generating.{active_in}
use Rattle.k42_board.specs.Seen.{Own}
use Rattle.k42_board.specs.Views.{pass_in}
use Rattle.std.specs.Option.{unwrap_or}
use Rattle.k42_rule.proofs.generating.leave_step.Goals as goal

pub returns : goal.returns
returns g c =
    let active : active_in (pass_in c.pass.inside.seat.me.0) ≡ c.in-Some.generation =
    sym (ap (λ (o : Own). unwrap_or o.turn.active 0) c.pass.invariant.0.own_is) ∙ ap (λ (a : Option ℕ). unwrap_or a 0) c.in-Some.is in record {
      same = search rules;
      takes = rw (← c.pass.view_is, ← c.sys.view_is, active) c.leave_word-found.ensures.takes;
    }
