use Rattle.std.proofs.Common.{length}
use Rattle.table_crews.proofs.crews.+rest.Given as goal

abbrev pub decreases-rest : goal.decreases-rest
decreases-rest g l = length l.passes.now
