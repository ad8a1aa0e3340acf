use Rattle.std.proofs.Common.{◌≡◌, ◌++◌, map, take, drop}
use Rattle.co_pages.specs.Places.{all_clean}
use Rattle.co_pages.proofs.spread.clean.Given as goal

abbrev pub invariant-loop-part : goal.invariant-loop-part
invariant-loop-part l = l.parts ≡ map all_clean (take l.part-index l.initial.parts) ++ drop l.part-index l.initial.parts
