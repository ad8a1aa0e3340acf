use Rattle.std.proofs.Common.{◌≡◌, ◌≤◌, ◌+◌, length, fold}
use Rattle.load_totals.specs.Loads as loads
use Rattle.load_totals.proofs.summing.tallied.Given as goal

-- with the entries that are left the tally comes to that of all
abbrev pub invariant-loop-entry : goal.invariant-loop-entry
invariant-loop-entry g l =
    (fold loads.tally_with l.tally (g.E.Entries.left l.entries) ≡ loads.tallied (g.E.Entries.left l.fn.entries))
    × (l.tally.calls + l.tally.swaps + length (g.E.Entries.left l.entries) ≤ length (g.E.Entries.left l.fn.entries))

abbrev pub decreases-loop-entry : goal.decreases-loop-entry
decreases-loop-entry g l = length (g.E.Entries.left l.entries)
