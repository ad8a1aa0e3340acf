-- A swap from its beginning to its end, computed: one processor, one object, two callers.
use Rattle.std.proofs.Common.{◌≡◌, refl}
use Rattle.std.specs.Prelude.{true, false, List, [], ◌∷◌, ◌++◌}
use Rattle.gen_core.specs.declared.event.GenEvent.TheVariants.{Enter, Leave, LookAhead, Flip, Look, GiveRole}
use Rattle.phase_core.specs.declared.caller.Place.TheVariants.{Direct, Blocked}
use Rattle.phase_core.specs.declared.caller.SwapAt.TheVariants.{Draining, Drained}
use Rattle.phase_core.specs.Event.{Event, Turn, TakeRoleWith, LookUp, Install, Knock, StepOut, EndCall, Begin, Interpose, Block, Move, TurnOver, Open, Clear, Free}
use Rattle.phase_core.specs.Plain.{Phases}
use Rattle.phase_core.specs.Runs.{run}
use Rattle.phase_core.specs.State.{object_at, visitor_at, empty_entry, of_two, new_phases}

abbrev new : Phases
new = new_phases 1 (of_two 0 ∷ []) (0 ∷ 0 ∷ [])

-- caller 1 is inside a row that it found by its processor's entry
abbrev call : List Event
call = Turn (Enter 1) ∷ LookUp 1 0 ∷ Install 1 0 ∷ []

abbrev drain : List Event
drain = Begin 0 0 ∷ Interpose 0 ∷ TakeRoleWith 0 ((0, 0) ∷ []) ∷ Turn (LookAhead 0) ∷ Turn (Flip 0) ∷ Turn (Look 0) ∷ []

called : (visitor_at (run call new) 1).place ≡ Direct 0 0
called = refl

waits : (visitor_at (run (call ++ drain) new) 0).swap ≡ Draining 0
waits = refl

abbrev drained : List Event
drained = call ++ drain ++ EndCall 1 ∷ Turn (Leave 1) ∷ Turn (Look 0) ∷ []

has_drained : (visitor_at (run drained new) 0).swap ≡ Drained 0
has_drained = refl

-- another caller knocks as the object is blocked, and before
abbrev counted : List Event
counted = drained ++ Turn (Enter 1) ∷ LookUp 1 0 ∷ Knock 1 0 ∷ Turn (GiveRole 0) ∷ Block 0 ∷ Move 0 ∷ []

not_yet_moved : (object_at (run counted new) 0).moving ≡ false
not_yet_moved = refl

abbrev over : List Event
over = counted ++ StepOut 1 ∷ Move 0 ∷ LookUp 1 0 ∷ Knock 1 0 ∷ []

moving : (object_at (run over new) 0).moving ≡ true
moving = refl

blocked : (visitor_at (run over new) 1).place ≡ Blocked 0
blocked = refl

abbrev ended : List Event
ended = over ++ StepOut 1 ∷ TurnOver 0 1 ∷ Open 0 ∷ Clear 0 ∷ []

opened : (object_at (run ended new) 0).entries ≡ empty_entry 1 ∷ []
opened = refl

-- the row of the incarnation before is freed once its readers have left
abbrev freed : List Event
freed = ended ++ TakeRoleWith 0 ((0, 1) ∷ []) ∷ Turn (LookAhead 0) ∷ Turn (Flip 0) ∷ Turn (Look 0) ∷ Free 0 0 ∷ []

not_yet_freed : (object_at (run freed new) 0).freed ≡ 0
not_yet_freed = refl

has_freed : (object_at (run (freed ++ Turn (Leave 1) ∷ Turn (Look 0) ∷ Free 0 0 ∷ []) new) 0).freed ≡ 1
has_freed = refl
