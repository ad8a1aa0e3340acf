use Rattle.k42_board.specs.Drawing.{draws_at, entry_at}
use Rattle.k42_board.specs.Views.{pass_in}
use Rattle.k42_rule.proofs.drawing.draw_at.Given as goal

abbrev pub ghosts-call_word : goal.ghosts-call_word
ghosts-call_word g a = record { becomes = draws_at a.cells.now (entry_at a.cells.now a.op.now a.reply.now (pass_in a.seat.now.me.0)) }
