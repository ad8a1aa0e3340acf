use Rattle.std.proofs.Common.{◌≡◌, take, arith}
use Rattle.std.proofs.lemmas.List.{take_all}
use Rattle.record_text.proofs.Referee.Verdicts.{fresh_kept}
use Rattle.record_text.proofs.judging.new_objects.Goals as goal

pub returns : goal.returns
returns c =
    let declared = c.args.declared.now in
    let whole : take c.loop-object.object-index declared ≡ declared = take_all c.loop-object.object-index declared (omega (arith, c.loop-object-test.false)) in
    rw (c.loop-object.invariant, whole) (fresh_kept declared)
