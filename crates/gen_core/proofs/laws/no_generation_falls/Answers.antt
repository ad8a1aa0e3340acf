use Rattle.gen_core.proofs.Alone.{no_generation_falls}
use Rattle.gen_core.proofs.laws.no_generation_falls.Goals as goal

pub returns : goal.returns
returns c = λ s events p. no_generation_falls events s p
