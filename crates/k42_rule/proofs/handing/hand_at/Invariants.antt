use Rattle.std.specs.Prelude.{take, drop}
use Rattle.k42_board.specs.Handing.{hands_at}
use Rattle.k42_rule.proofs.handing.hand_at.Given as goal

abbrev pub ghosts-hand_word : goal.ghosts-hand_word
ghosts-hand_word g a = record {
  becomes =
      hands_at (take a.board.now.shared.key.procs a.cells.now) (drop a.board.now.shared.key.procs a.cells.now) a.entry.now (g.L.Layout.tag_of a.to.now);
}
