use Rattle.std.proofs.Common.{◌≡◌, ◌++◌, length}
use Rattle.k42_journal.proofs.reader.Reader.collect.Given as goal

abbrev pub invariant-loop-entry : goal.invariant-loop-entry
invariant-loop-entry g l = l.list.items ++ l.self ≡ l.initial.self

abbrev pub decreases-loop-entry : goal.decreases-loop-entry
decreases-loop-entry g l = length l.self
