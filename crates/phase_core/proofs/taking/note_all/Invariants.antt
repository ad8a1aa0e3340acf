use Rattle.std.proofs.Common.{◌≡◌, ◌++◌, drop}
use Rattle.phase_core.specs.Notes.{numbers_of}
use Rattle.phase_core.proofs.taking.note_all.Given as goal

abbrev pub invariant-loop-object : goal.invariant-loop-object
invariant-loop-object l = l.noted ≡ numbers_of l.notes l.object ++ drop l.object l.initial.noted
