use Rattle.std.proofs.Common.{◌≡◌, drop}
use Rattle.phase_core.specs.Notes.{fit_notes}
use Rattle.phase_core.proofs.taking.fit_notes.Given as goal

abbrev pub invariant-loop-note : goal.invariant-loop-note
invariant-loop-note l = fit_notes l.objects (drop l.note-index l.notes) ≡ fit_notes l.objects l.notes
