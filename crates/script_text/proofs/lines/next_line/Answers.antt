use Rattle.std.proofs.Common.{◌≡◌, ◌+◌, [], length, drop, suc, add-one, arith}
use Rattle.std.proofs.lemmas.List.{take_rest}
use Rattle.std.proofs.Math.Seq.{take-length}
use Rattle.std.proofs.Math.ListN.{drop_of_length-le}
use Rattle.script_text.proofs.LineCuts.{cuts_line}
use Rattle.script_text.proofs.PrintableLines.{ends_at, prints_where}
use Rattle.script_text.proofs.lines.next_line.Goals as goal

pub returns-then-len-bytes-clause-cuts : goal.returns-then-len-bytes-clause-cuts
returns-then-len-bytes-clause-cuts c =
    let bytes = c.args.bytes.now in
    let n = c.printable_len-printable.result in
    let k = c.text_len-others.result in
    let front = c.printable_len-printable.ensures in
    let rest = c.text_len-others.ensures in
    let cut = cuts_line bytes (n + k) c.requires
    (ends_at bytes n k (record { within = front.within; before = front.before; found = front.found }) (record { within = rest.within; before = rest.before; found = rest.found })) in
    let all : n + k ≡ length bytes = omega arith in
    let none : drop (suc (length bytes)) bytes ≡ [] = drop_of_length-le bytes {i = suc (length bytes)} (omega arith) in
    rw (all, take-length, none) at cut

pub returns-then-len-bytes-clause-printable : goal.returns-then-len-bytes-clause-printable
returns-then-len-bytes-clause-printable c =
    let bytes = c.args.bytes.now in
    let n = c.printable_len-printable.result in
    let k = c.text_len-others.result in
    let front = c.printable_len-printable.ensures in
    let all : n + k ≡ length bytes = omega arith in
    rw (all, take-length) at (prints_where bytes n k (record { within = front.within; before = front.before; found = front.found }) (omega arith))

pub returns-clause-cuts : goal.returns-clause-cuts
returns-clause-cuts c =
    let bytes = c.args.bytes.now in
    let n = c.printable_len-printable.result in
    let k = c.text_len-others.result in
    let front = c.printable_len-printable.ensures in
    let rest = c.text_len-others.ensures in
    rw (take_rest, add-one)
    (cuts_line bytes (n + k) c.requires
    (ends_at bytes n k (record { within = front.within; before = front.before; found = front.found }) (record { within = rest.within; before = rest.before; found = rest.found })))

pub returns-clause-printable : goal.returns-clause-printable
returns-clause-printable c =
    let bytes = c.args.bytes.now in
    let front = c.printable_len-printable.ensures in
    prints_where bytes c.printable_len-printable.result c.text_len-others.result (record { within = front.within; before = front.before; found = front.found }) (omega arith)
