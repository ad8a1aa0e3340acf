use Rattle.std.proofs.Common.{◌∷◌}
use Rattle.std.specs.Prelude.{codes}
use Rattle.std.specs.Fmt.{decimal}
use Rattle.record_text.specs.Acts.{act_tokens}
use Rattle.record_text.specs.Answers.{answer_tokens}
use Rattle.record_text.specs.Texts.{worker_name, object_name, extra_tokens}
use Rattle.record_text.proofs.Printer.LineParts.{line_of_parts}
use Rattle.record_text.proofs.printing.put_line.Goals as goal

pub returns : goal.returns
returns c =
    let script = c.args.script.now in
    let line = c.args.line.now in
    rw (c.in_ok-push.ensures.items, c.in_ok-put_extra.ensures, c.in_ok-put_marked.ensures, c.in_ok-put_answer.ensures, c.in_ok-put_token-2.ensures, c.in_ok-put_act.ensures, c.in_ok-put_number.ensures, c.in_ok-put_token.ensures, c.in_ok-put_digits.ensures, c.worker_name.ensures, c.object_name.ensures, c.from.ensures)
    (line_of_parts c.args.out.now.items (decimal line.stamp) (worker_name script line.worker) (decimal line.line) (codes "=") (64 ∷ decimal line.incarnation) (act_tokens (object_name script line.object) line.act) (answer_tokens line.answer) (extra_tokens line.extra))
