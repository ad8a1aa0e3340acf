use Rattle.std.specs.Prelude.{[], ◌∷◌}
use Rattle.k42_board.specs.Drawing.{draws_at}
use Rattle.k42_rule.proofs.drawing.draw_mark.Given as goal

abbrev pub ghosts-mark_word : goal.ghosts-mark_word
ghosts-mark_word g a = record { becomes = draws_at (a.cell.now ∷ []) a.entry.now }
