-- A list of events with their answers, from an independent reading of the machine: three swaps of one counter that
-- are begun, two of them given up, under callers that are refused, wait, and call.
use Rattle.std.proofs.Common.{◌≡◌, ℕ, Bool, true, false, ◌&&◌, cond, ltb, List, [], ◌∷◌, Option, Some, None, map, refl}
use Rattle.gen_core.specs.declared.event.GenEvent.TheVariants.{Enter, Flip, GiveRole, Leave, Look, LookAhead}
use Rattle.k42_kinds.specs.declared.operation.Op.{Op}
use Rattle.k42_kinds.specs.declared.operation.Reply.{Reply}
use Rattle.k42_kinds.specs.declared.entry.Act.{Act}
use Rattle.k42_kinds.specs.declared.entry.Act.TheVariants.{Call, Swap}
use Rattle.k42_kinds.specs.declared.entry.To.TheVariants.{Layout, Dead}
use Rattle.k42_kinds.specs.declared.entry.Answer.{Answer}
use Rattle.k42_kinds.specs.declared.entry.Answer.TheVariants.{Replied, Busy, Abandoned}
use Rattle.k42_kinds.specs.declared.entry.Entry.{Entry}
use Rattle.k42_kinds.specs.declared.operation.Op.TheVariants.{Add}
use Rattle.k42_kinds.specs.declared.operation.Reply.TheVariants.{Done}
use Rattle.phase_core.specs.Event.{Begin, Block, Clear, EndCall, Free, Install, Interpose, Knock, LookUp, Move, Open, StepOut, TakeRoleWith, Turn, Unblock}
use Rattle.phase_core.specs.Events as phases
use Rattle.phase_core.specs.State.{new_phases, of_two, object_at, visitor_at}
use Rattle.phase_core.specs.declared.caller.Place.TheVariants.{AtMediator, Tracked, Blocked}
use Rattle.phase_core.specs.declared.caller.SwapAt.TheVariants.{Blocking}
use Rattle.turn_core.specs.Events as turns
use Rattle.turn_core.specs.State as cells
use Rattle.turn_core.specs.declared.event.TurnEvent.{TurnEvent}
use Rattle.turn_core.specs.declared.event.TurnEvent.TheVariants.{Lock, Take, Draw, Alone, Put}
use Rattle.k42_joined.specs.Plain.{Joined}
use Rattle.k42_joined.specs.Event.{Event, AtPhases, AtCells, HandWith}
use Rattle.k42_joined.specs.Effects.{effect}
use Rattle.k42_joined.specs.Fresh.{first_lives}
use Rattle.k42_joined.specs.Numbers.{object_of, place_of}
use Rattle.k42_joined.specs.State.{nothing_kept, many_procs, many_objects, cell}
use Rattle.k42_joined.specs.Swapping.{may_at_phases}
use Rattle.k42_joined.specs.Touching.{may_touch}

-- a layout is its tag here: one object, spread, on one processor, and four callers
abbrev begin : Joined ℕ Op Reply
begin = record {
  phases = new_phases 1 (of_two 1 ∷ []) (0 ∷ 0 ∷ 0 ∷ 0 ∷ []);
  turns = cells.fresh (first_lives 1) 4;
  hands = [] ∷ [];
  kept = nothing_kept ∷ nothing_kept ∷ nothing_kept ∷ nothing_kept ∷ [];
}

abbrev may_lock : Joined ℕ Op Reply → ℕ → ℕ → Bool
may_lock s c n = ltb (object_of n) (many_objects s) && (ltb (place_of n) (many_procs s) && may_touch s.phases c (object_of n) (cell s n).life)

abbrev may_beside : Joined ℕ Op Reply → TurnEvent Op Reply → Bool
may_beside s (Lock c n) = may_lock s c n
may_beside s (Take c n) = may_lock s c n
may_beside s (Put c n) = may_lock s c n
may_beside s event = true

-- what an event is answered, as far as the two machines, locks and swaps decide it
abbrev answer : Joined ℕ Op Reply → Event ℕ Op Reply → Bool
answer s (AtPhases event) = phases.is_possible s.phases event && may_at_phases s (λ tag. tag) event
answer s (AtCells event) = turns.is_possible s.turns event && may_beside s event
answer s (HandWith c from onto layout entry) = false

-- what each is answered, one after the other
abbrev answers : List (Event ℕ Op Reply × Bool) → Joined ℕ Op Reply → List Bool
answers [] s = []
answers (one ∷ more) s = answer s one.0 ∷ answers more (cond one.1 (effect s one.0) s)

abbrev run : List (Event ℕ Op Reply × Bool) → Joined ℕ Op Reply → Joined ℕ Op Reply
run [] s = s
run (one ∷ more) s = run more (cond one.1 (effect s one.0) s)

abbrev entry : ℕ → ℕ → ℕ → ℕ → ℕ → Act Op → Answer Reply → Option ℕ → Entry Op Reply
entry stamp caller index incarnation cell act answer generation = record {
  stamp = stamp;
  caller = caller;
  index = index;
  object = 0;
  incarnation = incarnation;
  cell = cell;
  act = act;
  answer = answer;
  proc = 0;
  generation = generation;
}

abbrev events : List (Event ℕ Op Reply × Bool)
events =
    (AtPhases (Turn (Enter 2)), true) ∷
    (AtPhases (Begin 1 0), true) ∷
    (AtPhases (Interpose 1), true) ∷
    (AtPhases (TakeRoleWith 1 ((0, 0) ∷ [])), true) ∷
    (AtPhases (Turn (LookAhead 1)), true) ∷
    (AtPhases (Turn (Flip 1)), true) ∷
    (AtPhases (Turn (Leave 2)), true) ∷
    (AtPhases (Turn (Look 1)), true) ∷
    (AtPhases (Turn (GiveRole 1)), true) ∷
    (AtPhases (Block 1), true) ∷
    (AtPhases (Move 1), true) ∷
    (AtPhases (Turn (Enter 3)), true) ∷
    (AtPhases (Unblock 1), true) ∷
    (AtPhases (Begin 0 0), true) ∷
    (AtCells (Alone 1 (entry 1 1 0 0 0 (Swap Dead) (Abandoned 1) None)), true) ∷
    (AtCells (Alone 0 (entry 1 0 0 0 0 (Swap (Layout 1)) (Busy 1) None)), true) ∷
    (AtPhases (Open 1), true) ∷
    (AtCells (Lock 1 8), false) ∷
    (AtPhases (Clear 1), true) ∷
    (AtPhases (Begin 1 0), true) ∷
    (AtPhases (Interpose 1), true) ∷
    (AtPhases (TakeRoleWith 1 ((0, 0) ∷ [])), true) ∷
    (AtPhases (Free 1 0), false) ∷
    (AtPhases (Turn (LookAhead 1)), true) ∷
    (AtPhases (Turn (Flip 1)), true) ∷
    (AtPhases (EndCall 1), false) ∷
    (AtPhases (Turn (Leave 3)), true) ∷
    (AtPhases (Turn (Look 1)), true) ∷
    (AtPhases (Turn (GiveRole 1)), true) ∷
    (AtPhases (Block 1), true) ∷
    (AtPhases (Move 1), true) ∷
    (AtPhases (TakeRoleWith 2 []), true) ∷
    (AtPhases (Turn (LookAhead 2)), true) ∷
    (AtPhases (Unblock 1), true) ∷
    (AtCells (Alone 1 (entry 2 1 1 0 0 (Swap (Layout 1)) (Abandoned 1) None)), true) ∷
    (AtCells (Lock 1 0), false) ∷
    (AtPhases (Open 1), true) ∷
    (AtPhases (Clear 1), true) ∷
    (AtPhases (Turn (Flip 2)), true) ∷
    (AtPhases (Turn (Look 2)), true) ∷
    (AtPhases (Turn (GiveRole 2)), true) ∷
    (AtPhases (Begin 1 0), true) ∷
    (AtPhases (Interpose 1), true) ∷
    (AtPhases (TakeRoleWith 1 ((0, 0) ∷ [])), true) ∷
    (AtPhases (Turn (LookAhead 1)), true) ∷
    (AtPhases (Turn (Flip 1)), true) ∷
    (AtPhases (Begin 3 0), true) ∷
    (AtPhases (TakeRoleWith 2 []), true) ∷
    (AtPhases (Turn (Look 1)), true) ∷
    (AtPhases (Free 1 0), true) ∷
    (AtPhases (Begin 0 0), true) ∷
    (AtPhases (Turn (Enter 0)), true) ∷
    (AtPhases (Begin 3 0), true) ∷
    (AtPhases (Begin 2 0), true) ∷
    (AtCells (Alone 0 (entry 2 0 1 0 0 (Swap (Layout 1)) (Busy 1) None)), true) ∷
    (AtPhases (Turn (Enter 2)), true) ∷
    (AtPhases (Free 1 0), true) ∷
    (AtPhases (Turn (Enter 3)), true) ∷
    (AtPhases (LookUp 2 0), true) ∷
    (AtPhases (Knock 2 0), true) ∷
    (AtPhases (Turn (GiveRole 1)), true) ∷
    (AtPhases (LookUp 3 0), true) ∷
    (AtPhases (Block 3), false) ∷
    (AtPhases (Block 1), true) ∷
    (AtCells (Alone 2 (entry 1 2 0 0 0 (Swap (Layout 1)) (Busy 1) None)), true) ∷
    (AtCells (Alone 3 (entry 1 3 0 0 0 (Swap (Layout 0)) (Busy 1) None)), true) ∷
    (AtPhases (Knock 3 0), true) ∷
    (AtCells (Lock 2 0), true) ∷
    (AtPhases (LookUp 0 0), true) ∷
    (AtPhases (Knock 0 0), true) ∷
    (AtCells (Take 2 0), true) ∷
    (AtPhases (StepOut 3), true) ∷
    (AtPhases (Move 1), true) ∷
    (AtPhases (Move 1), true) ∷
    (AtPhases (StepOut 2), false) ∷
    (AtCells (Draw 2 (0 ∷ []) (entry 2 2 1 0 0 (Call (Add 3)) (Replied Done) (Some 4))), true) ∷
    (AtPhases (LookUp 3 0), true) ∷
    (AtPhases (StepOut 2), false) ∷
    (AtPhases (Knock 3 0), true) ∷
    (AtPhases (Move 1), true) ∷
    (AtPhases (StepOut 0), true) ∷
    (AtPhases (Install 3 0), false) ∷
    (AtPhases (StepOut 3), true) ∷
    (AtPhases (LookUp 0 0), true) ∷
    (AtPhases (Block 1), false) ∷
    (AtCells (Draw 2 (0 ∷ []) (entry 3 2 2 0 0 (Call (Add 4294967295)) (Replied Done) (Some 4))), true) ∷
    (AtPhases (StepOut 2), false) ∷
    (AtPhases (LookUp 3 0), true) ∷
    (AtPhases (StepOut 2), false) ∷
    (AtPhases (Move 1), true) ∷
    (AtPhases (Knock 3 0), true) ∷
    []

each_answer : answers events begin ≡ map (λ one. one.1) events
each_answer = refl

-- the last state
abbrev last : Joined ℕ Op Reply
last = run events begin

still_blocking : (visitor_at last.phases 1).swap ≡ Blocking 0
still_blocking = refl

places : map (λ x. x.place) last.phases.callers ≡ AtMediator 0 ∷ (visitor_at begin.phases 1).place ∷ Tracked 0 0 ∷ Blocked 0 ∷ []
places = refl

two_counted : (object_at last.phases 0).count ≡ 2
two_counted = refl

stamps_at_the_cell : map (λ (e : Entry Op Reply). e.stamp) (cell last 0).history ≡ 2 ∷ 3 ∷ []
stamps_at_the_cell = refl

stamps_of_callers : map (λ x. map (λ (e : Entry Op Reply). e.stamp) x.mine) last.turns.callers ≡ (1 ∷ 2 ∷ []) ∷ (1 ∷ 2 ∷ []) ∷ (1 ∷ 2 ∷ 3 ∷ []) ∷ (1 ∷ []) ∷ []
stamps_of_callers = refl

abandoned_once : map (λ k. k.abandoned) last.kept ≡ false ∷ true ∷ false ∷ false ∷ []
abandoned_once = refl

nothing_found : map (λ k. k.found) last.kept ≡ None ∷ None ∷ None ∷ None ∷ []
nothing_found = refl
