use Rattle.std.proofs.Common.{length}
use Rattle.kind_tests.proofs.tests.merges.+only_place.Given as goal

abbrev pub decreases-only_place : goal.decreases-only_place
decreases-only_place l = length l.lists.now
