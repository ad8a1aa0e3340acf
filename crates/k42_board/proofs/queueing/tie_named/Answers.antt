use Rattle.k42_board.proofs.Carrying.{ties_keep}
use Rattle.k42_board.proofs.queueing.tie_named.Goals as goal

pub another-requires-clause-rule : goal.another-requires-clause-rule
another-requires-clause-rule g c = ties_keep _ _ _ c.requires.first
