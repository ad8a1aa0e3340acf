use Rattle.std.proofs.Common.{subst}
use Rattle.k42_tables.specs.Entries.{IfHeld}
use Rattle.k42_tables.specs.Missing.{IsHeldUp}
use Rattle.k42_tables.proofs.Waited.{on_err_any, same_on, may_still, ours_still, waits_from, given_up, filled_at_last, waits_on}
use Rattle.k42_tables.proofs.missing.miss.Goals as goal

pub loop-init : goal.loop-init
loop-init g c = waits_from c.args.object c.args.pass.now

pub try_fill-requires-clause-ours : goal.try_fill-requires-clause-ours
try_fill-requires-clause-ours g c κs within = ours_still c.args.sys.now c.args.object c.args.pass.now c.loop.pass c.loop.invariant c.requires.ours

pub try_fill-requires-clause-may : goal.try_fill-requires-clause-may
try_fill-requires-clause-may g c κs within = may_still _ c.args.object c.args.pass.now c.loop.pass c.loop.invariant c.requires.may

pub returns-in_err-answer-clause-same : goal.returns-in_err-answer-clause-same
returns-in_err-answer-clause-same g c = same_on c.loop.invariant.same c.try_fill.ensures.same

pub returns-in_err-answer-clause-memory : goal.returns-in_err-answer-clause-memory
returns-in_err-answer-clause-memory g c =
    on_err_any c.from_residual.result (given_up c.args.object c.args.pass.now c.loop.pass c.loop.invariant c.try_fill.new.pass.view c.in_err-answer.ensures.memory)

pub returns-in-Filled-clause-same : goal.returns-in-Filled-clause-same
returns-in-Filled-clause-same g c = same_on c.loop.invariant.same c.try_fill.ensures.same

pub returns-in-Filled-clause-filled : goal.returns-in-Filled-clause-filled
returns-in-Filled-clause-filled g c =
    filled_at_last c.args.object c.args.pass.now c.loop.pass c.loop.invariant _ _ c.try_fill.new.pass.view c.in-Filled.answer _ c.in-Filled.is c.in_ok-answer.ensures.filled

pub loop-preserved : goal.loop-preserved
loop-preserved g c =
    let now = c.loop.pass in let new = c.try_fill.new.pass in
    waits_on c.args.object c.args.pass.now now c.loop.invariant c.in-Held.holder new c.try_fill.ensures.same
    (subst (λ tried. IfHeld tried (IsHeldUp c.args.object now.view new.view)) c.in-Held.is c.in_ok-answer.ensures.held)
