use Rattle.std.proofs.Common.{◌≡◌, length}
use Rattle.k42_board.specs.Starting.{AreFirstSlots}
use Rattle.k42_board.proofs.first.first_slots.Given as goal

abbrev pub invariant-loop-slot : goal.invariant-loop-slot
invariant-loop-slot g l = (length l.slots.items ≡ l.slot) × AreFirstSlots l.slots.items
