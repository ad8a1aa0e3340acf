use Rattle.std.proofs.Common.{rules, ◌≡◌, ◌<◌, cond, arith, sym, ap, ◌∙◌}
use Rattle.std.specs.Prelude.{is_some}
use Rattle.std.proofs.lemmas.Bool.{lt-ltb}
use Rattle.gen_core.specs.Events.{is_quiet, after_flip}
use Rattle.gen_core.specs.declared.state.GraceAt.TheVariants.{Flipping, Looking}
use Rattle.k42_board.specs.Seen.{IsSamePass}
use Rattle.k42_board.specs.declared.view.PassView.{PassView}
use Rattle.k42_quiesce.proofs.GoingOn.{goes_asked, goes_nowhere, goes_through, still_of}
use Rattle.k42_quiesce.proofs.flipping.flip_all.Goals as goal

pub loop-proc-init : goal.loop-proc-init
loop-proc-init g c =
    let asked = c.generation_step.ensures in
    let goes = goes_asked _ c.generation_step.new.pass.view _ c.requires.unasked (ap is_quiet c.requires.grace) asked.takes.knows in
    let some : 0 < c.args.sys.now.procs = (let proc = c.requires.ours.proc in omega (arith, proc)) in
    let at : c.generation_step.new.pass.view.turn.grace ≡ Flipping 0 = ap (λ (v : PassView _ _ _). v.turn.grace) asked.takes.knows ∙ c.requires.grace in (
      still_of _ _ _ c.requires.ours asked.same goes,
      search rules,
      goes_nowhere _ (ap is_quiet at),
      ap (λ (v : PassView _ _ _). is_some v.base) asked.takes.knows,
      at ∙ sym (ap (λ b. cond b (Flipping 0) (Looking 0)) (lt-ltb 0 c.args.sys.now.procs some)),
    )

pub loop-proc-preserved : goal.loop-proc-preserved
loop-proc-preserved g c =
    let before = c.loop-proc.invariant in
    let same : IsSamePass c.generation_step.new.pass c.flip_next.new.pass = search rules in
    let lt : c.loop-proc.proc < c.args.sys.now.procs = (let below = c.loop-proc-test.true in let procs = c.procs-proc-end.ensures.is in omega (arith, below, procs)) in
    let at : c.loop-proc.pass.view.turn.grace ≡ Flipping c.loop-proc.proc =
    before.4 ∙ ap (λ b. cond b (Flipping c.loop-proc.proc) (Looking 0)) (lt-ltb c.loop-proc.proc c.args.sys.now.procs lt) in (
      still_of _ _ _ before.0 c.flip_next.ensures.same c.flip_next.ensures.goes,
      same,
      goes_through _ _ _ before.2 (ap is_quiet at) c.flip_next.ensures.goes,
      ap is_some (c.flip_next.ensures.goes.base before.3) ∙ before.3,
      c.flip_next.ensures.grace ∙ ap (after_flip c.loop-proc.proc) before.0.waits,
    )

pub returns-clause-goes : goal.returns-clause-goes
returns-clause-goes g c =
    let asked = c.generation_step.ensures in
    let at : c.generation_step.new.pass.view.turn.grace ≡ Flipping 0 = ap (λ (v : PassView _ _ _). v.turn.grace) asked.takes.knows ∙ c.requires.grace in
    goes_through _ _ _ (goes_asked _ c.generation_step.new.pass.view _ c.requires.unasked (ap is_quiet c.requires.grace) asked.takes.knows) (ap is_quiet at)
    c.loop-proc.invariant.2
