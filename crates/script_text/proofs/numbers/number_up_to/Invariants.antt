use Rattle.std.proofs.Common.{◌≡◌, ◌≤◌, true, take}
use Rattle.std.specs.Str.Parse.{digits_value}
use Rattle.script_text.specs.Numbers as spelling
use Rattle.script_text.proofs.numbers.number_up_to.Given as goal

abbrev pub invariant-loop-digit : goal.invariant-loop-digit
invariant-loop-digit l = record {
  spelled : spelling.is_number l.bytes ≡ true;
  so_far : l.number ≡ digits_value 10 (take l.digit-index l.bytes);
  within : l.number ≤ l.most;
}
