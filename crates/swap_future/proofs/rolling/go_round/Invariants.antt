use Rattle.std.proofs.Common.{ℕ}
use Rattle.swap_future.specs.Rolling.{IsRolling, HasGotOn, seen}
use Rattle.swap_future.specs.Rounds.{HasGoneRounds}
use Rattle.swap_future.proofs.rolling.go_round.Given as goal

abbrev pub invariant-loop-rolling : goal.invariant-loop-rolling
invariant-loop-rolling l =
    IsRolling l.system (seen l.rolling) × HasGotOn l.system (seen l.initial.rolling) (seen l.rolling)
    × (rounds : ℕ) × HasGoneRounds l.system rounds (seen l.initial.rolling) (seen l.rolling)

abbrev pub decreases-loop-rolling : goal.decreases-loop-rolling
decreases-loop-rolling l = l.rolling.left
