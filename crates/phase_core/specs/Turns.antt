-- The generations of a state, and their events.
use Rattle.std.specs.Prelude.{ℕ, Bool}
use Rattle.gen_core.specs.declared.event.GenEvent.{GenEvent}
use Rattle.gen_core.specs.Plain.{Generations}
use Rattle.gen_core.specs.Events as turns
use Rattle.gen_core.specs.Sound as sound
use Rattle.phase_core.specs.Plain.{Phases}

abbrev pub AreTurnsSound : Phases → Type 0
AreTurnsSound s = sound.IsSound s.turns

abbrev pub turning : GenEvent → ℕ
turning event = turns.caller_of event

abbrev pub can_turn : Phases → GenEvent → Bool
can_turn s event = turns.is_possible s.turns event

abbrev pub turns_happened : Phases → GenEvent → Generations
turns_happened s event = turns.happens s.turns event

abbrev pub put_turns : Phases → Generations → Phases
put_turns s t = record s { turns = t }
