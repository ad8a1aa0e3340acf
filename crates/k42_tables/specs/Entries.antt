-- What a look-up answers by the entry that it found, and what is so of an answer.
use Rattle.std.specs.Prelude.{◌≡◌, ℕ, ◌==◌, true, if◌then◌else◌, ⊤}
use Rattle.phase_core.specs.Stages.{is_out, is_missed, is_at_mediator, object_of}
use Rattle.phase_core.specs.declared.caller.Place.{Place}
use Rattle.phase_core.specs.declared.object.LocalEntry.{LocalEntry}
use Rattle.k42_board.specs.Phases.{is_served}
use Rattle.k42_tables.specs.declared.answers.Entered.{Entered}
use Rattle.k42_tables.specs.declared.answers.Entered.TheVariants.{Direct, Missed, Mediated}
use Rattle.k42_tables.specs.declared.answers.Filled.{Filled}
use Rattle.k42_tables.specs.declared.answers.Filled.TheVariants.{Installed, Elsewhere}
use Rattle.k42_tables.specs.declared.answers.Tried as tries
use Rattle.k42_tables.specs.declared.answers.Tried.TheVariants as tried

-- the tag of the entry decides
abbrev pub entered_by : LocalEntry → Entered
entered_by e = if e.tag == 0 then Missed else if e.tag == 1 then Direct e.cell else Mediated

-- where a pass is after an answer of a look-up, and after one of the handler
abbrev pub LeadsTo : Entered → ℕ → Place → Type 0
LeadsTo (Direct cell) o place = (is_served place ≡ true) × (object_of place ≡ o)
LeadsTo Missed o place = is_missed place o ≡ true
LeadsTo Mediated o place = is_at_mediator place o ≡ true

abbrev pub EndsAt : Filled → ℕ → Place → Type 0
EndsAt (Installed cell) o place = (is_served place ≡ true) × (object_of place ≡ o)
EndsAt (Elsewhere word) o place = is_out place ≡ true

abbrev pub IfDirect : Entered → (ℕ → Type 0) → Type 0
IfDirect (Direct cell) Q = Q cell
IfDirect answer Q = ⊤

abbrev pub IfInstalled : Filled → (ℕ → Type 0) → Type 0
IfInstalled (Installed cell) Q = Q cell
IfInstalled (Elsewhere word) Q = ⊤

abbrev pub IfFilled : tries.Tried → (Filled → Type 0) → Type 0
IfFilled (tried.Filled answer) Q = Q answer
IfFilled (tried.Held holder) Q = ⊤

abbrev pub IfHeld : tries.Tried → (ℕ → Type 0) → Type 0
IfHeld (tried.Filled answer) Q = ⊤
IfHeld (tried.Held holder) Q = Q holder
