use Rattle.std.proofs.Common.{◌≡◌, drop}
use Rattle.phase_core.specs.Notes.{note_of}
use Rattle.phase_core.proofs.taking.note_of.Given as goal

abbrev pub invariant-loop-note : goal.invariant-loop-note
invariant-loop-note l = note_of (drop l.note-index l.notes) l.object ≡ note_of l.notes l.object
