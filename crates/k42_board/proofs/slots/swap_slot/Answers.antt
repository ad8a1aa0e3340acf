use Rattle.k42_board.proofs.slots.swap_slot.Goals as goal

pub slot_mut-requires : goal.slot_mut-requires
slot_mut-requires g c = (c.requires.ours, c.requires.out)
