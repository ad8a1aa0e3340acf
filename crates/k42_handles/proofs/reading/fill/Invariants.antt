use Rattle.std.proofs.Common.{length, ◌-◌}
use Rattle.k42_handles.proofs.ReadEntries.{IsReading}
use Rattle.k42_handles.proofs.reading.fill.Given as goal

abbrev pub invariant-loop-read : goal.invariant-loop-read
invariant-loop-read l = IsReading l.read l.initial.reader l.reader l.initial.entries l.entries

abbrev pub decreases-loop-read : goal.decreases-loop-read
decreases-loop-read l = length l.initial.entries - l.read
