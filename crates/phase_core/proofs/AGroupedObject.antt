-- An object with three live layouts, the last of them in pairs: where an entry leads, and which numbers it has.
use Rattle.std.proofs.Common.{◌≡◌, true, false, [], ◌∷◌, refl}
use Rattle.k42_shapes.specs.declared.shape.Shape.TheVariants.{One, Each, Groups}
use Rattle.gen_core.specs.declared.event.GenEvent.TheVariants.{Enter}
use Rattle.phase_core.specs.declared.caller.SwapAt.TheVariants.{Moved}
use Rattle.phase_core.specs.Effects.{is_over}
use Rattle.phase_core.specs.Event.{Turn, LookUp, RootLoad, Install, TurnOver}
use Rattle.phase_core.specs.Events.{is_possible}
use Rattle.phase_core.specs.Plain.{ObjectPlan, Phases}
use Rattle.phase_core.specs.Runs.{run}
use Rattle.phase_core.specs.State.{object_at, entry_at, new_object, new_phases, new_visitor}

abbrev in_pairs : ObjectPlan
in_pairs = record { shapes = One ∷ Each ∷ Groups 2 ∷ []; layout = 2 }

-- one caller, on the last of four processors
abbrev new : Phases
new = new_phases 4 (in_pairs ∷ []) (3 ∷ [])

led : entry_at (object_at (run (Turn (Enter 0) ∷ LookUp 0 0 ∷ RootLoad 0 0 ∷ Install 0 0 ∷ []) new) 0) 3
    ≡ record { tag = 1; layout = 2; cell = 1; incarnation = 0 }
led = refl

-- the third layout is live, and the number behind it is dead
live : is_over (new_object 4 in_pairs) ≡ false
live = refl

dead : is_over (new_object 4 (record in_pairs { layout = 3 })) ≡ true
dead = refl

-- a swap that moves the object may turn it over to each of these, and to no further number
abbrev moving : Phases
moving = record new { callers = record (new_visitor 1) { swap = Moved 0 } ∷ [] }

to_the_dead : is_possible moving (TurnOver 0 3) ≡ true
to_the_dead = refl

to_none : is_possible moving (TurnOver 0 4) ≡ false
to_none = refl
