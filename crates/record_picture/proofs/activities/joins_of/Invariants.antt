use Rattle.std.proofs.Common.{◌≡◌, ◌++◌, drop}
use Rattle.record_picture.specs.Activities.{joins, joins_from}
use Rattle.record_picture.proofs.activities.joins_of.Given as goal

abbrev pub invariant-loop-item : goal.invariant-loop-item
invariant-loop-item l = l.all ++ joins_from l.block l.joined (drop l.item-index l.items) ≡ joins l.items
