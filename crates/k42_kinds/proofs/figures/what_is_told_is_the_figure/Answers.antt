use Rattle.k42_kinds.proofs.FiguresTold.{figures_told}
use Rattle.k42_kinds.proofs.figures.what_is_told_is_the_figure.Goals as goal

pub returns : goal.returns
returns c = figures_told
