use Rattle.std.proofs.Common.{length, sym, refl, ap, ◌∙◌, subst, arith, length-append}
use Rattle.k42_board.specs.Seats.{told_by}
use Rattle.k42_board.specs.Starting.{AreFirstSlots}
use Rattle.k42_board.proofs.Starting.{slots_more}
use Rattle.k42_board.proofs.first.first_slots.Goals as goal

pub loop-slot-preserved : goal.loop-slot-preserved
loop-slot-preserved g c =
    let items = c.in_ok-push.ensures.items in let many = c.loop-slot.invariant.0 in (
      ap length items ∙ length-append c.loop-slot.slots.items _ ∙ (omega (arith, many)),
      subst AreFirstSlots (sym items)
          (slots_more c.loop-slot.slots.items c.loop-slot.slot _ many (record { number = refl; told = ap told_by c.blank.ensures; part = refl }) c.loop-slot.invariant.1),
    )
