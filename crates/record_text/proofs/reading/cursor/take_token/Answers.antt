use Rattle.std.proofs.Common.{refl, arith}
use Rattle.std.proofs.lemmas.List.{take_rest}
use Rattle.record_text.proofs.Reader.ByteCuts.{IsCut, pieces_of-cut, pieces_of-uncut}
use Rattle.record_text.proofs.reading.cursor.take_token.Goals as goal

pub returns-then-len-rest : goal.returns-then-len-rest
returns-then-len-rest c =
    let token = c.len_before-len.ensures in
    let cut : IsCut 32 c.in_ok-rest.rest.now c.len_before-len.result = record { within = token.within; before = token.before; found = token.found } in
    rw (c.in_ok-rest.was, pieces_of-uncut c.in_ok-rest.rest.now c.len_before-len.result cut (omega arith)) refl

pub returns : goal.returns
returns c =
    let token = c.len_before-len.ensures in
    let cut : IsCut 32 c.in_ok-rest.rest.now c.len_before-len.result = record { within = token.within; before = token.before; found = token.found } in
    rw (c.in_ok-rest.was, take_rest, pieces_of-cut c.in_ok-rest.rest.now c.len_before-len.result cut (omega arith)) refl
