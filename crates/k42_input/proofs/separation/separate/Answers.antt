use Rattle.std.proofs.Common.{◌≡◌, take, drop, true, false, sym, ◌∙◌, arith}
use Rattle.std.proofs.Math.Nat.{add-sub_cancel_left}
use Rattle.std.proofs.lemmas.List.{take_rest}
use Rattle.k42_input.specs.Separation as separation
use Rattle.k42_input.proofs.Separating.{passed_on, script_before, text_behind, script_all, text_none}
use Rattle.k42_input.proofs.Parted.{separated}
use Rattle.k42_input.proofs.separation.separate.Goals as goal

pub returns-then-is_separator-clause-text : goal.returns-then-is_separator-clause-text
returns-then-is_separator-clause-text c =
    let l = c.loop-start in
    let input = c.args.input.now in
    let n = c.first_line_len.result in
    let first = rw take_rest at c.first_line_len.ensures.line in
    let here : separation.is_separator (take n (drop l.start input)) ≡ true = rw add-sub_cancel_left at (sym c.is_separator.ensures ∙ c.if-is_separator.true) in
    rw take_rest (text_behind input l.start n l.invariant first here)

pub loop-start-preserved : goal.loop-start-preserved
loop-start-preserved c =
    let l = c.loop-start in
    let input = c.args.input.now in
    let n = c.first_line_len.result in
    let first = rw take_rest at c.first_line_len.ensures.line in
    let other : separation.is_separator (take n (drop l.start input)) ≡ false = rw add-sub_cancel_left at (sym c.is_separator.ensures ∙ c.if-is_separator.false) in
    passed_on input l.start n l.invariant first (omega (arith, c.first_line_len.ensures.within)) other

pub returns-then-is_separator-clause-apart : goal.returns-then-is_separator-clause-apart
returns-then-is_separator-clause-apart c =
    let l = c.loop-start in
    let input = c.args.input.now in
    let n = c.first_line_len.result in
    let first = rw take_rest at c.first_line_len.ensures.line in
    let here : separation.is_separator (take n (drop l.start input)) ≡ true = rw add-sub_cancel_left at (sym c.is_separator.ensures ∙ c.if-is_separator.true) in
    separated input _ _ (script_before input l.start n l.invariant first here) (rw take_rest (text_behind input l.start n l.invariant first here))

pub returns-clause-apart : goal.returns-clause-apart
returns-clause-apart c =
    let l = c.loop-start in
    let input = c.args.input.now in
    separated input _ _ (script_all input l.start (omega (arith, c.loop-start-test.false)) l.invariant) (text_none input l.start (omega (arith, c.loop-start-test.false)) l.invariant)
