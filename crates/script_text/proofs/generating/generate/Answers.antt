use Rattle.std.proofs.Common.{◌≡◌, ◌+◌, length, ap, ◌∙◌, arith}
use Rattle.script_text.specs.Generated as trial
use Rattle.script_text.proofs.GeneratedSteps.{HasWorkers-next}
use Rattle.script_text.proofs.SoundTrials.{sound_generated}
use Rattle.script_text.proofs.generating.generate.Goals as goal

pub loop-worker-preserved : goal.loop-worker-preserved
loop-worker-preserved c =
    let lines : c.in_ok-lines.lines ≡ trial.worker_lines c.args.steps c.loop-worker.line c.loop-worker.worker = c.in_ok-lines.ensures.lines in
    let behind : c.loop-worker.line + (1 + c.len.result) ≡ c.loop-worker.line + (1 + length (trial.worker_lines c.args.steps c.loop-worker.line c.loop-worker.worker).items) =
    ap (λ count. c.loop-worker.line + (1 + count)) (c.len.ensures ∙ ap (λ worker. length worker.items) lines) in
    rw (c.in_ok-push.ensures.ok, lines) (HasWorkers-next c.args.steps c.loop-worker.worker c.loop-worker.line (c.loop-worker.line + (1 + c.len.result)) c.loop-worker.workers c.requires.1 c.loop-worker.invariant behind)

pub returns-clause-sound : goal.returns-clause-sound
returns-clause-sound c =
    let four : c.loop-worker.worker ≡ 4 = omega (arith, c.loop-worker-test.false, c.loop-worker.auto.worker-end) in
    rw (c.in_ok-objects.ensures, c.loop-worker.invariant.placed, four) (sound_generated c.args.steps c.requires.1)
