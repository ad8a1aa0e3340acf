use Rattle.std.proofs.Common.{◌≡◌, length, refl, arith}
use Rattle.std.specs.Prelude.{Some, slice_get}
use Rattle.std.proofs.lemmas.Option.{slice_get_read}
use Rattle.std.proofs.lemmas.Result.{IfOk-weaker}
use Rattle.record_text.proofs.Referee.Verdicts.{legal_decided, kept_more}
use Rattle.record_text.proofs.judging.tells.Goals.{After-index_mut-object}
use Rattle.record_text.proofs.judging.tells.Goals as goal

found_of : (c : After-index_mut-object) → slice_get c.args.objects.now.items c.args.line.now.object ≡ Some c.index_mut-object.result.now
found_of c =
    let objects = c.args.objects.now in
    slice_get_read objects.items (length objects.items) c.args.line.now.object c.index_mut-object.result.now refl (omega (arith, c.requires.there, objects.ok.0)) c.index_mut-object.ensures.value

pub returns-clause-legal : goal.returns-clause-legal
returns-clause-legal c =
    let found = found_of (goal.at.returns-clause-legal c).After-index_mut-object in
    IfOk-weaker c.judge.result _ _ (λ legal decides kinds before after all form refusal. legal_decided kinds before c.args.line.now after c.args.objects.now.items c.index_mut-object.result.now c.args.refusable legal all found form refusal decides) c.judge.ensures.legal

pub returns-clause-kept : goal.returns-clause-kept
returns-clause-kept c =
    let found = found_of (goal.at.returns-clause-kept c).After-index_mut-object in
    IfOk-weaker c.judge.result _ _ (λ legal moved kinds before yes all. rw (moved yes) (kept_more kinds before c.args.line.now c.args.objects.now.items c.index_mut-object.result.now all found)) c.judge.ensures.moved
