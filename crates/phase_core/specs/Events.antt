-- For each event where it is possible and what its effect is.
use Rattle.std.specs.Prelude.{ℕ, Bool, List, Option, false, ◌&&◌, ◌==◌, if◌then◌else◌, None, slice_set, true, nat_lt, nat_le, Some, length, unwrap_or, is_some, ◌≡◌}
use Rattle.gen_core.specs.Events as turns
use Rattle.gen_core.specs.State.{caller_at}
use Rattle.gen_core.specs.declared.event.GenEvent.{GenEvent}
use Rattle.gen_core.specs.declared.event.GenEvent.TheVariants.{Enter, Leave, TakeRole, GiveRole}
use Rattle.phase_core.specs.Effects.{at_place, at_stage, looked_up, is_empty_at, direct_entry, knocked, counted_in, counted_out, is_over, begun_as, after_interpose, after_open, after_reopen, turned_over, unblocked, cleared, visitor_turned, role_taken_with}
use Rattle.phase_core.specs.Event.{Event, Turn, TakeRoleWith, LookUp, RootLoad, Install, Knock, StepOut, EndCall, Begin, Interpose, Block, Move, TurnOver, Unblock, Open, Clear, Free}
use Rattle.phase_core.specs.Notes.{numbers_of, name_each_once, fit_notes, notes_own}
use Rattle.phase_core.specs.Plain.{Object, Phases}
use Rattle.phase_core.specs.Stages.{is_out, is_missed, is_at_mediator, is_uncounted, is_counted, object_of, row_of, object_named, is_idle, may_take, is_interposing, is_drained, is_blocking, is_moved, is_opening, is_ended}
use Rattle.phase_core.specs.State.{empty_entry, mediator_entry, object_at, visitor_at, entry_at, proc_of, put_object, put_visitor, put_entry, note_at}
use Rattle.phase_core.specs.declared.caller.Place.TheVariants.{Out, Direct}
use Rattle.phase_core.specs.declared.caller.SwapAt.{SwapAt}
use Rattle.phase_core.specs.declared.caller.SwapAt.TheVariants.{Idle, Begun, Interposing, Drained, Blocking, Moved, Opening, Reopening}

-- the state after an event of the caller

abbrev pub turned : Phases → GenEvent → Phases
turned s event =
    let t = turns.effect s.turns event in
    let c = turns.caller_of event in
    let x = visitor_turned event (caller_at t c).grace (visitor_at s c) in
    record s { turns = t; callers = slice_set s.callers c x }

abbrev pub taken_with : Phases → ℕ → List (ℕ × ℕ) → Option ℕ → Phases
taken_with s c notes None =
    let x = role_taken_with (visitor_at s c) (numbers_of notes (length s.objects)) in
    record s { turns = turns.taken s.turns c None; callers = slice_set s.callers c x }
taken_with s c notes (Some holder) = s

abbrev pub installed : Phases → ℕ → ℕ → Phases
installed s c o =
    let x = visitor_at s c in
    let k = object_at s o in
    let p = proc_of s c in
    let i = row_of x.place in
    if is_empty_at (entry_at k p) i
    then put_object (put_visitor s c (at_place x (Direct o i))) o (put_entry k p (direct_entry k.shapes k.layout p i))
    else put_visitor s c (at_place x Out)

abbrev pub begun : Phases → ℕ → ℕ → Phases
begun s c o =
    let k = object_at s o in
    let x = at_stage (visitor_at s c) (begun_as o (is_over k)) in
    if k.swap then s else put_object (put_visitor s c x) o (record k { swap = true })

-- the swapper goes to a stage of its object, which changes too
abbrev pub staged : Phases → ℕ → ℕ → SwapAt → Object → Phases
staged s c o swap k = put_object (put_visitor s c (at_stage (visitor_at s c) swap)) o k

abbrev pub interposed_at : Phases → ℕ → ℕ → ℕ → Phases
interposed_at s c o p =
    let k = object_at s o in
    staged s c o (after_interpose o p (length s.turns.procs)) (put_entry k p (mediator_entry k.incarnation))

abbrev pub interposed : Phases → ℕ → SwapAt → Phases
interposed s c (Begun o) = interposed_at s c o 0
interposed s c (Interposing o p) = interposed_at s c o p
interposed s c swap = s

abbrev pub moved : Phases → ℕ → ℕ → Phases
moved s c o =
    let k = object_at s o in
    if k.count == 0 then staged s c o (Moved o) (record k { moving = true }) else s

abbrev pub opened : Phases → ℕ → SwapAt → Phases
opened s c (Opening o p) =
    let k = object_at s o in
    staged s c o (after_open o p (length s.turns.procs)) (put_entry k p (empty_entry k.incarnation))
opened s c (Reopening o p) =
    let k = object_at s o in
    staged s c o (after_reopen o p (length s.turns.procs)) (put_entry k p (empty_entry k.incarnation))
opened s c swap = s

abbrev pub freed_to : Phases → ℕ → ℕ → ℕ → Phases
freed_to s c o n =
    let k = object_at s o in
    let spans = slice_set (visitor_at s c).freeing o (k.freed, n) in
    let x = record (visitor_at s c) { freeing = spans } in
    if nat_lt k.freed n then put_object (put_visitor s c x) o (record k { freed = n }) else s

abbrev pub effect : Phases → Event → Phases
effect s (Turn event) = turned s event
effect s (TakeRoleWith c notes) = taken_with s c notes s.turns.role
effect s (LookUp c o) = put_visitor s c (looked_up (visitor_at s c) o (entry_at (object_at s o) (proc_of s c)))
effect s (RootLoad c o) = s
effect s (Install c o) = installed s c o
effect s (Knock c o) =
    let k = object_at s o in
    put_object (put_visitor s c (knocked (visitor_at s c) o k.incarnation k.block)) o (counted_in k)
effect s (StepOut c) =
    let x = visitor_at s c in
    let o = object_of x.place in
    put_object (put_visitor s c (at_place x Out)) o (counted_out (object_at s o))
effect s (EndCall c) = put_visitor s c (at_place (visitor_at s c) Out)
effect s (Begin c o) = begun s c o
effect s (Interpose c) = interposed s c (visitor_at s c).swap
effect s (Block c) =
    let o = object_named (visitor_at s c).swap in
    staged s c o (Blocking o) (record (object_at s o) { block = true })
effect s (Move c) = moved s c (object_named (visitor_at s c).swap)
effect s (TurnOver c layout) =
    let o = object_named (visitor_at s c).swap in
    staged s c o (Opening o 0) (turned_over (object_at s o) layout)
effect s (Unblock c) =
    let o = object_named (visitor_at s c).swap in
    staged s c o (Reopening o 0) (unblocked (object_at s o))
effect s (Open c) = opened s c (visitor_at s c).swap
effect s (Clear c) =
    let o = object_named (visitor_at s c).swap in staged s c o Idle (cleared (object_at s o))
effect s (Free c o) = freed_to s c o (unwrap_or (note_at (visitor_at s c).noted o) 0)

-- whether an event is possible

-- where the swap is drained, all rows below the incarnation are freed
abbrev pub may_give : Phases → SwapAt → Bool
may_give s (Drained o) = let k = object_at s o in nat_le k.incarnation k.freed
may_give s swap = true

abbrev pub may_turn : Phases → GenEvent → Bool
may_turn s (Enter c) = is_idle (visitor_at s c).swap
may_turn s (Leave c) = is_out (visitor_at s c).place
may_turn s (TakeRole c) = false
may_turn s (GiveRole c) = may_give s (visitor_at s c).swap
may_turn s event = true

abbrev pub is_possible : Phases → Event → Bool
is_possible s (Turn event) = turns.is_possible s.turns event && may_turn s event
is_possible s (TakeRoleWith c notes) =
    turns.is_possible s.turns (TakeRole c) && (may_take (visitor_at s c).swap
    && (name_each_once notes && (fit_notes s.objects notes && notes_own s notes (visitor_at s c).swap)))
is_possible s (LookUp c o) = is_some (caller_at s.turns c).active && is_out (visitor_at s c).place
is_possible s (RootLoad c o) = is_missed (visitor_at s c).place o
is_possible s (Install c o) = is_missed (visitor_at s c).place o
is_possible s (Knock c o) = is_at_mediator (visitor_at s c).place o
is_possible s (StepOut c) = is_counted (visitor_at s c).place
is_possible s (EndCall c) = is_uncounted (visitor_at s c).place
is_possible s (Begin c o) = turns.is_free (caller_at s.turns c) && is_idle (visitor_at s c).swap
is_possible s (Interpose c) = is_interposing (visitor_at s c).swap
is_possible s (Block c) = turns.is_idle (caller_at s.turns c).grace && is_drained (visitor_at s c).swap
is_possible s (Move c) = is_blocking (visitor_at s c).swap
is_possible s (TurnOver c layout) =
    is_moved (visitor_at s c).swap
    && nat_le layout (length (object_at s (object_named (visitor_at s c).swap)).shapes)
is_possible s (Unblock c) = is_moved (visitor_at s c).swap
is_possible s (Open c) = is_opening (visitor_at s c).swap
is_possible s (Clear c) = is_ended (visitor_at s c).swap
is_possible s (Free c o) =
    turns.is_quiet (caller_at s.turns c).grace && is_some (note_at (visitor_at s c).noted o)

-- the state after any event; one that is not possible changes nothing
abbrev pub happens : Phases → Event → Phases
happens s event = if is_possible s event then effect s event else s

-- an event is answered by whether it was possible, and has happened
pub record Applies (result : Bool) (old new : Phases) (event : Event) : Type 0 where
  pub answer : result ≡ is_possible old event
  pub state : new ≡ happens old event
