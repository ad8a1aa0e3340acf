use Rattle.std.proofs.Common.{◌≡◌, ◌++◌, map, take, drop, option_map}
use Rattle.k42_kinds.specs.Pages.{cleaned}
use Rattle.co_pages.proofs.places.clean.Given as goal

abbrev pub invariant-loop-place : goal.invariant-loop-place
invariant-loop-place l = l.places ≡ map (option_map cleaned) (take l.place-index l.initial.places) ++ drop l.place-index l.initial.places
