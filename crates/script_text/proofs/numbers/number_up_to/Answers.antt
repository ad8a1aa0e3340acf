use Rattle.std.proofs.Common.{◌+◌, ◌*◌, ◌≤◌, take, get_or, sym, ◌∙◌, ap, arith}
use Rattle.std.specs.Char.{digit_value}
use Rattle.std.specs.Str.Parse.{digits_value}
use Rattle.std.proofs.lemmas.Int.Digits.{digits_value_more}
use Rattle.script_text.proofs.NumberSteps.{past_bound}
use Rattle.script_text.proofs.numbers.number_up_to.Goals as goal

pub returns-in_default : goal.returns-in_default
returns-in_default c =
    let i = c.loop-digit.digit-index in
    let past : digits_value 10 (take i c.args.bytes.now) * 10 + digit_value (get_or c.args.bytes.now i 0) ≤ c.args.most → ⊥ = rw (← c.loop-digit.invariant.so_far) c.in_default.ensures in
    sym (past_bound c.args.bytes.now i c.args.most c.loop-digit-test.true past)

pub loop-digit-preserved : goal.loop-digit-preserved
loop-digit-preserved c =
    let i = c.loop-digit.digit-index in
    record {
      spelled = c.loop-digit.invariant.spelled;
      so_far = c.in-Some.ensures.1 ∙ ap (λ n. n * 10 + digit_value (get_or c.args.bytes.now i 0)) c.loop-digit.invariant.so_far ∙ sym (digits_value_more 10 c.args.bytes.now i c.loop-digit-test.true);
      within = omega (arith, c.in-Some.ensures.0, c.in-Some.ensures.1);
    }
