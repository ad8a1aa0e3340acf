use Rattle.k42_board.specs.Drawing.{alone_view}
use Rattle.k42_rule.proofs.drawing.draw_alone.Given as goal

abbrev pub ghosts-alone_word : goal.ghosts-alone_word
ghosts-alone_word g a = record { becomes = alone_view a.entry.now }
