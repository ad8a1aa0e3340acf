use Rattle.std.proofs.Common.{rules}
use Rattle.k42_board.proofs.Carrying.{pops_keep, learns_rule}
use Rattle.k42_rule.proofs.retiring.pop_row.Goals as goal

pub pop_as-requires-clause-rule : goal.pop_as-requires-clause-rule
pop_as-requires-clause-rule g c = (pops_keep _ _ (search rules), learns_rule _ _)
