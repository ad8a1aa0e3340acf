use Rattle.record_picture.specs.Swaps.{swap_text}
use Rattle.record_picture.proofs.PlacedTexts.{IsUnderway}
use Rattle.record_picture.proofs.swaps.put_swaps.Given as goal

abbrev pub invariant-loop-line : goal.invariant-loop-line
invariant-loop-line l = IsUnderway (swap_text l.script) l.lines l.initial.out.items l.out.items l.line-index l.column
