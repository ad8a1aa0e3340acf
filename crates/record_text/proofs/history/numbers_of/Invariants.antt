use Rattle.std.proofs.Common.{◌≡◌, ◌++◌, drop}
use Rattle.record_text.specs.Printer.LineNumbers.{line_numbers}
use Rattle.record_text.proofs.history.numbers_of.Given as goal

abbrev pub invariant-loop-item : goal.invariant-loop-item
invariant-loop-item l = l.numbers ++ line_numbers (drop l.item-index l.items) ≡ line_numbers l.items
