use Rattle.std.proofs.Common.{◌+◌, ◌-◌, ◌<◌, length, arith}
use Rattle.script_text.specs.Language.{byte_limit}
use Rattle.script_text.specs.Reading.{script_so_far}
use Rattle.script_text.proofs.Underway.{taken, refused, refused_for_form, underway_on}
use Rattle.script_text.proofs.parsing.read_lines.Goals as goal

pub loop-rest-preserved : goal.loop-rest-preserved
loop-rest-preserved c =
    let u = c.loop-rest.invariant in
    let cut = c.next_line-cut in
    let short : length c.args.bytes.now - length cut.result.rest.now < byte_limit = omega (arith, c.if-bytes-rest-gt-SCRIPT_BYTES.false) in
    let takes = taken (script_so_far c.loop-rest.reading) (c.loop-rest.line + 1) cut.result.text.now c.in_ok-cause.field-0 c.take.new.self c.in_ok-cause.ensures c.in_default.is in
    underway_on c.args.bytes.now c.loop-rest.rest.now cut.result.text.now cut.result.rest.now c.loop-rest.line c.loop-rest.reading u cut.ensures.cuts c.take.new.self short takes.0 takes.1

pub returns-in-Some-clause-answer : goal.returns-in-Some-clause-answer
returns-in-Some-clause-answer c =
    let u = c.loop-rest.invariant in
    let cut = c.next_line-cut in
    let short : length c.args.bytes.now - length cut.result.rest.now < byte_limit = omega (arith, c.if-bytes-rest-gt-SCRIPT_BYTES.false) in
    rw c.refused-in-Some.ensures
    (refused_for_form c.args.bytes.now c.loop-rest.rest.now cut.result.text.now cut.result.rest.now c.loop-rest.line c.loop-rest.reading u cut.ensures.cuts c.in-Some.cause short
    (refused (script_so_far c.loop-rest.reading) (c.loop-rest.line + 1) cut.result.text.now c.in_ok-cause.field-0 c.in-Some.cause c.take.new.self c.in_ok-cause.ensures c.in-Some.is))
