use Rattle.std.proofs.Common.{◌≡◌, drop}
use Rattle.std.specs.Prelude.{◌==◌}
use Rattle.std.specs.List.{list_all}
use Rattle.phase_core.specs.Notes.{times_named, name_each_once}
use Rattle.phase_core.proofs.taking.name_each_once.Given as goal

abbrev pub invariant-loop-note : goal.invariant-loop-note
invariant-loop-note l =
    list_all (λ note. times_named l.notes note.0 == 1) (drop l.note-index l.notes) ≡ name_each_once l.notes
