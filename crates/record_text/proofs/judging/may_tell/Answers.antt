use Rattle.record_text.proofs.judging.may_tell.Goals as goal

pub returns-in-Some-generation : goal.returns-in-Some-generation
returns-in-Some-generation c = λ items earlier walked standing.
    let allows = c.allows.ensures items earlier walked standing in (
      λ yes. record {
        processor = rw c.in-Some.is c.if-extra-proc.true;
        generation = rw (c.in-Some.is, c.in-Some-generation.is) (allows.0 yes);
      },
      λ may. allows.1 (rw (c.in-Some.is, c.in-Some-generation.is) at may.generation),
    )
