use Rattle.std.proofs.Common.{◌≡◌}
use Rattle.co_directory.proofs.SeenNames.{all_bound}
use Rattle.co_directory.proofs.copies.copied.Given as goal

abbrev pub invariant-loop-name : goal.invariant-loop-name
invariant-loop-name l = all_bound l.copy l.name-iterator ≡ l.names
