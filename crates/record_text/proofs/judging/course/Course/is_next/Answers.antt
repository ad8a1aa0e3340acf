use Rattle.std.proofs.Common.{◌≡◌, length, refl, sym, ◌∙◌, ap, arith}
use Rattle.std.specs.Prelude.{Some, slice_get}
use Rattle.std.proofs.lemmas.Option.{slice_get_read, same_Some}
use Rattle.script_text.specs.declared.script.Item.{Item}
use Rattle.script_text.specs.declared.script.Item.TheVariants.{Line}
use Rattle.record_text.specs.Told.{answered}
use Rattle.record_text.proofs.Referee.Walking.{decides_next, no_next}
use Rattle.record_text.proofs.judging.course.Course.is_next.Goals as goal

pub returns-then-self-items-clause-next : goal.returns-then-self-items-clause-next
returns-then-self-items-clause-next c = λ told walked at_line. no_next c.args.items.now told c.args.self.now walked (answered c.args.line.now) c.if-self-items.true

pub returns-in-Line : goal.returns-in-Line
returns-in-Line c =
    let read : slice_get c.args.items.now c.args.self.now.at ≡ Some c.index-items-self.result = slice_get_read c.args.items.now (length c.args.items.now) c.args.self.now.at c.index-items-self.result refl c.if-self-items.false c.index-items-self.is in
    let here : slice_get c.args.items.now c.args.self.now.at ≡ Some (Line c.in-Line.call) = read ∙ ap (λ (item : Item). Some item) c.in-Line.is in
    record {
      next = λ told walked at_line. decides_next c.args.items.now told c.args.self.now walked c.in-Line.call (answered c.args.line.now) c.answers.result here c.answers.ensures;
      here = λ yes. record { line = c.in-Line.call; here = here; bounded = omega (arith, c.if-self-items.false) };
    }

pub returns-in_default-clause-next : goal.returns-in_default-clause-next
returns-in_default-clause-next c = λ told walked at_line.
    let read : slice_get c.args.items.now c.args.self.now.at ≡ Some c.index-items-self.result = slice_get_read c.args.items.now (length c.args.items.now) c.args.self.now.at c.index-items-self.result refl c.if-self-items.false c.index-items-self.is in
    let standing = at_line c.if-self-items.false in
    absurd (c.in_default.not-Line standing.line (same_Some c.index-items-self.result (Line standing.line) (sym read ∙ standing.here)))
