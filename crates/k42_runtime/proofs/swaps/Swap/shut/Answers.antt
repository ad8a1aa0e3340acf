use Rattle.std.proofs.Common.{rules, ◌≡◌, ℕ, refl, sym, ◌∙◌}
use Rattle.k42_board.specs.Log.{last_found, took}
use Rattle.k42_board.specs.Swapping.{object_swapped}
use Rattle.k42_board.specs.Words.{object_word}
use Rattle.k42_board.specs.declared.view.StepName.TheVariants as names
use Rattle.k42_runtime.specs.declared.swaps.Stage.TheVariants.{New, Shut}
use Rattle.k42_runtime.proofs.SwapMoves.{in_flight, moves_on}
use Rattle.k42_runtime.proofs.SwapSteps.{stepped_before}
use Rattle.k42_runtime.proofs.swaps.Swap.shut.Goals as goal

pub returns-in-Moved : goal.returns-in-Moved
returns-in-Moved g c =
    let moved = c.try_move.ensures.stepped in
    stepped_before c.args.system.now c.args.self.now c.args.self.now c.transfer_or_abandon.new.self c.args.pass.now c.try_move.new.pass c.transfer_or_abandon.new.pass
    (moves_on c.args.self.now c.args.pass.now c.try_move.new.pass (last_found c.try_move.new.pass.view.log) c.requires.stage moved.same moved.takes.knows
    (sym c.try_move.ensures.answer ∙ c.in-Moved.is) moved.takes.finds)
    c.transfer_or_abandon.result c.transfer_or_abandon.ensures

never : Shut ≡ New → ⊥
never e = cc

pub returns-in-InFlight : goal.returns-in-InFlight
returns-in-InFlight g c =
    let old = c.args.pass.now in let new = c.try_move.new.pass in let is = c.try_move.ensures in let moved = is.stepped in
    let found : ℕ = last_found new.view.log in
    let counted = in_flight found c.in-InFlight.count old.view new.view moved.takes.knows (sym is.answer ∙ c.in-InFlight.is) (is.in_flight c.in-InFlight.count c.in-InFlight.is) in
    let knows : new.view ≡ took names.Move (object_word (object_swapped old.view)) found old.view = counted.0 in
    record {
      here = search rules;
      stage = search rules;
      begun = λ e. never (sym c.requires.stage ∙ e);
      over = search rules;
      object = refl;
      to = refl;
      seat = moved.same.seat;
      keep = moved.same.keep;
      caller = search rules;
      graces = search rules;
      told = search rules;
      worn = (λ e. absurd (cc), λ w. absurd (never (sym c.requires.stage ∙ w.0)));
      brought = (search rules, counted.1);
    }
