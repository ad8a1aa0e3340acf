use Rattle.swap_future.specs.Rolling.{seen}
use Rattle.swap_future.proofs.RoundLemmas.{IsRoundTo}
use Rattle.swap_future.proofs.rolling.round.Given as goal

abbrev pub invariant-loop-place : goal.invariant-loop-place
invariant-loop-place l = IsRoundTo l.system l.place (seen l.initial.rolling) (seen l.rolling)
