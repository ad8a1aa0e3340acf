use Rattle.std.proofs.Common.{◌≡◌, ◌++◌, drop}
use Rattle.k42_kinds.specs.Rows.{made_from}
use Rattle.k42_board.specs.Noting.{due_of}
use Rattle.k42_rule.proofs.noting.note_all.Given as goal

abbrev pub invariant-loop-object : goal.invariant-loop-object
invariant-loop-object l = l.noted ≡ made_from (due_of l.swap l.last l.rows) 0 l.object ++ drop l.object l.initial.noted
