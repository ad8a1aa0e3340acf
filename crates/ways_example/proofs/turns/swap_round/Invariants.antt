use Rattle.std.proofs.Common.{◌<◌}
use Rattle.k42_crews.specs.Ready.{StaysFree}
use Rattle.ways_example.proofs.turns.swap_round.Given as goal

abbrev pub invariant-loop : goal.invariant-loop
invariant-loop g l = StaysFree l.system l.initial.pass l.pass × (l.way < l.turns.ways)
