use Rattle.std.proofs.Common.{◌≤◌}
use Rattle.k42_board.specs.Log.{ComesTo}
use Rattle.k42_board.specs.Seen.{IsSamePass}
use Rattle.k42_mediator.specs.Swaps.{staged}
use Rattle.k42_mediator.proofs.EntriesChanged.{stage_at}
use Rattle.k42_mediator.proofs.interposing.change_entries.Given as goal

abbrev pub invariant-loop-proc : goal.invariant-loop-proc
invariant-loop-proc g l =
    IsSamePass l.initial.pass l.pass × (l.proc ≤ l.procs)
    × ComesTo l.initial.pass.view (staged (stage_at l.procs l.initial.pass.view.visitor.swap l.proc) l.initial.pass.view) l.pass.view
