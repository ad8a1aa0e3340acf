use Rattle.k42_stamp.proofs.merging.merge_from.Goals as goal

pub move_all-requires-clause-lists : goal.move_all-requires-clause-lists
move_all-requires-clause-lists g c = rw (c.rests_of-rests.ensures) c.requires.lists
