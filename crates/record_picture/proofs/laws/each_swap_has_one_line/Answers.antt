use Rattle.record_picture.specs.Swaps.{swap_text}
use Rattle.record_picture.proofs.OneEach.{one-each}
use Rattle.record_picture.proofs.laws.each_swap_has_one_line.Goals as goal

pub returns : goal.returns
returns c script lines line = one-each (swap_text script) lines line
