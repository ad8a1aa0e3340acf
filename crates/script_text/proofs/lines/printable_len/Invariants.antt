use Rattle.std.proofs.Common.{◌≡◌, ℕ, ◌<◌, true, get_or}
use Rattle.script_text.specs.Lines.{is_printable}
use Rattle.script_text.proofs.lines.printable_len.Given as goal

abbrev pub invariant-loop-i : goal.invariant-loop-i
invariant-loop-i l = (k : ℕ) → k < l.i → is_printable (get_or l.bytes k 0) ≡ true
