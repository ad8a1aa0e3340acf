use Rattle.k42_board.specs.Starting.{AreFirstWords}
use Rattle.k42_board.proofs.first.first_words.Given as goal

abbrev pub invariant-loop-object : goal.invariant-loop-object
invariant-loop-object g l = AreFirstWords g.L.Layout.tag_of l.layouts l.object l.words.items
