use Rattle.k42_shapes.proofs.ShapeLaws.{cell_within, together_called, called_together, cell_is_called}
use Rattle.k42_shapes.proofs.laws.shapes_share_cells_out.Goals as goal

pub returns-clause-within : goal.returns-clause-within
returns-clause-within c = cell_within

pub returns-clause-together : goal.returns-clause-together
returns-clause-together c = λ shape one other. (called_together shape one other, together_called shape one other)

pub returns-clause-called : goal.returns-clause-called
returns-clause-called c = cell_is_called
