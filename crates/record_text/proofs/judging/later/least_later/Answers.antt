use Rattle.std.proofs.Common.{◌≡◌, ◌-◌, ◌<◌, length, refl, arith}
use Rattle.std.specs.Prelude.{Some, slice_get}
use Rattle.std.proofs.lemmas.Option.{slice_get_read}
use Rattle.record_text.proofs.Referee.Sight.{behind_at_end, behind_more}
use Rattle.record_text.specs.Referee.Seen.{least_of}
use Rattle.std.proofs.Common.{drop}
use Rattle.record_text.proofs.judging.later.least_later.Goals as goal

pub loop-place-init : goal.loop-place-init
loop-place-init c =
    let size : length c.in_ok-later.later.items ≡ length c.args.lines.now = omega (arith, c.in_ok-later.ensures.len, c.in_ok-later.later.ok.0) in
    behind_at_end c.args.lines.now _ c.new-marks.result c.in_ok-later.later.items refl size c.new-marks.ensures

pub loop-place-preserved : goal.loop-place-preserved
loop-place-preserved c =
    let place = c.loop-place.place - 1 in
    let line = c.index-lines-place.result in
    let within : place < length c.args.lines.now = omega (arith, c.loop-place.auto.place, c.loop-place-test.true) in
    let there : slice_get c.args.lines.now place ≡ Some line = slice_get_read c.args.lines.now (length c.args.lines.now) place line refl within c.index-lines-place.is in
    behind_more c.args.lines.now c.loop-place.place place c.get-mark.result line c.loop-place.marks c.set.new.self c.loop-place.later.items (omega arith) c.loop-place.invariant there (c.get-mark.ensures _ c.loop-place.invariant.shows)
    (rw (← c.least.ensures) (c.set.ensures (λ worker object. least_of worker object (drop c.loop-place.place c.args.lines.now)) c.loop-place.invariant.shows))
