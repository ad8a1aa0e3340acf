use Rattle.std.proofs.Common.{◌+◌, [], ◌∷◌, ◌++◌, take, refl, arith}
use Rattle.std.proofs.lemmas.List.{take_rest, length-drop}
use Rattle.record_text.proofs.Reader.ByteCuts.{IsCut, lines_of-cut, lines_of-uncut, tokens_on-ended}
use Rattle.record_text.proofs.reading.cursor.next_line.Goals as goal

pub returns-then-len-bytes : goal.returns-then-len-bytes
returns-then-len-bytes c =
    let line = c.len_before-len.ensures in
    let bytes = c.args.bytes.now in
    let cut : IsCut 10 bytes c.len_before-len.result = record { within = line.within; before = line.before; found = line.found } in
    let one = lines_of-uncut bytes c.len_before-len.result c.requires cut (omega arith) in
    record { line = bytes; first = one.0; tokens = rw one.1 refl; shorter = omega (arith, c.requires) }

pub returns : goal.returns
returns c =
    let line = c.len_before-len.ensures in
    let bytes = c.args.bytes.now in
    let n = c.len_before-len.result in
    let cut : IsCut 10 bytes n = record { within = line.within; before = line.before; found = line.found } in
    rw take_rest (record {
      line = take n bytes ++ 10 ∷ [];
      first = lines_of-cut bytes n cut (omega arith);
      tokens = rw (tokens_on-ended (take n bytes)) refl;
      shorter = omega (arith, length-drop (n + 1) bytes);
    })
