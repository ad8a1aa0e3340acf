use Rattle.std.proofs.Common.{◌<◌, ◌≤◌, length, arith, refl}
use Rattle.std.proofs.lemmas.List.{take_all}
use Rattle.std.proofs.lemmas.List.Elements.{All-more}
use Rattle.record_text.specs.Spelling.{IsOfVersion}
use Rattle.record_tests.proofs.tests.conditions.all_of_version.Goals as goal

pub loop-line-preserved : goal.loop-line-preserved
loop-line-preserved c =
    let within : c.loop-line.line-index < length c.args.lines.now = omega arith in
    All-more (IsOfVersion c.args.version) c.args.lines.now c.loop-line.line-index c.line-item.result within c.loop-line.invariant (rw (← c.line-item.is) (c.if-not-is_of_version.ensures refl))

pub returns : goal.returns
returns c =
    let past : length c.args.lines.now ≤ c.loop-line.line-index = omega arith in
    λ _. rw take_all at c.loop-line.invariant
