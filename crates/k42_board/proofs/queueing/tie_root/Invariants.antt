use Rattle.k42_board.proofs.queueing.tie_root.Given as goal

abbrev pub ghosts-tie_named : goal.ghosts-tie_named
ghosts-tie_named g a = record { table = a.seat.now.table_id }
