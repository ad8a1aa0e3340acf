use Rattle.std.proofs.Common.{◌≡◌, rules, refl}
use Rattle.k42_board.specs.declared.keep.Keep.TheVariants.{All}
use Rattle.k42_crews.proofs.FreePasses.{may_close, may_end}
use Rattle.co_system.specs.Systems.{IsPlanned, is_live}
use Rattle.k42_handles.proofs.closing.finish.Goals as goal

pub end-requires-after_bounds : goal.end-requires-after_bounds
end-requires-after_bounds c κs =
    may_end c.args.whole.system c.args.whole.passes.items c.args.whole.free c.args.whole.all

pub close-requires-after_bounds : goal.close-requires-after_bounds
close-requires-after_bounds c κs =
    let planned : IsPlanned c.args.whole.system = search rules in
    let keeps : c.args.whole.system.plan.keep ≡ All = search rules in
    may_close is_live c.args.whole.system c.args.whole.passes.items planned keeps c.args.whole.free c.args.whole.all

pub returns-in-Err : goal.returns-in-Err
returns-in-Err c = record {
  finished = (_, refl, c.in-Err.ensures.err.0, c.in-Err.ensures.err.1);
  waits_for_nobody = λ e. absurd (cc);
}
