use Rattle.std.proofs.Common.{◌≡◌, ◌≤◌, [], length, drop, suc, add-one, arith}
use Rattle.std.proofs.Math.ListN.{drop_of_length-le}
use Rattle.std.proofs.lemmas.List.{take_all}
use Rattle.k42_input.proofs.Separating.{first_line}
use Rattle.k42_input.proofs.separation.first_line_len.Goals as goal

pub returns-then-byte-eq-LINE_FEED-clause-line : goal.returns-then-byte-eq-LINE_FEED-clause-line
returns-then-byte-eq-LINE_FEED-clause-line c =
    let l = c.loop-i in
    rw add-one (first_line c.args.bytes.now l.i c.requires (record { within = omega (arith, c.loop-i-test.true); before = l.invariant; found = λ within. c.if-byte-eq-LINE_FEED.true }))

pub returns-clause-line : goal.returns-clause-line
returns-clause-line c =
    let bytes = c.args.bytes.now in
    let all : length bytes ≤ suc c.loop-i.i = omega (arith, c.loop-i-test.false) in
    let none : drop (length bytes) bytes ≡ [] = drop_of_length-le bytes {i = length bytes} (omega arith) in
    rw (none, take_all (length bytes) bytes (omega arith)) (rw (take_all (suc c.loop-i.i) bytes all, drop_of_length-le bytes {i = suc c.loop-i.i} all) at (first_line bytes c.loop-i.i c.requires (record { within = c.loop-i.auto.i-end; before = c.loop-i.invariant; found = λ within. absurd (omega (arith, within, c.loop-i-test.false)) })))
