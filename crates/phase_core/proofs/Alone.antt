-- What an event leaves alone, for those who cite an event and not its parts.
use Rattle.std.proofs.Common.{◌≡◌, ℕ, ◌<◌, ◌≢◌, Bool, true, false, cond, ltb, eqb, List, Option, Some, None, length, set, length-set, refl}
use Rattle.std.specs.List.{slice_get}
use Rattle.std.specs.Option.{unwrap_or}
use Rattle.std.proofs.lemmas.List.{get_or-set_same}
use Rattle.gen_core.specs.declared.event.GenEvent.{GenEvent}
use Rattle.gen_core.specs.declared.event.GenEvent.TheVariants.{Enter, Leave, TakeRole, LookAhead, Flip, Look, GiveRole}
use Rattle.gen_core.specs.Plain.{Generations}
use Rattle.gen_core.specs.Events as turns
use Rattle.k42_places.proofs.Written.{slice_get-set_else}
use Rattle.gen_core.proofs.Alone.{only_caller}
use Rattle.phase_core.specs.declared.caller.SwapAt.{SwapAt}
use Rattle.phase_core.specs.declared.caller.SwapAt.TheVariants.{Begun, Interposing, Opening, Reopening}
use Rattle.phase_core.specs.declared.caller.Place.TheVariants.{Out, Direct}
use Rattle.phase_core.specs.Effects.{at_place, at_stage, looked_up, is_empty_at, knocked, counted_in, role_taken_with}
use Rattle.phase_core.specs.Event.{Event, Turn, TakeRoleWith, LookUp, RootLoad, Install, Knock, StepOut, EndCall, Begin, Interpose, Block, Move, TurnOver, Unblock, Open, Clear, Free, caller_of}
use Rattle.phase_core.specs.Events.{turned, taken_with, interposed, opened, staged, effect}
use Rattle.phase_core.specs.Notes.{numbers_of}
use Rattle.phase_core.specs.Plain.{Object, Visitor, Phases}
use Rattle.phase_core.specs.Stages.{row_of, object_of, object_named}
use Rattle.phase_core.specs.State.{object_at, visitor_at, entry_at, proc_of, has_row, put_object, put_visitor, note_at}
use Rattle.phase_core.proofs.Rows.{with_row_old}

abbrev pub is_leave : Event → Bool
is_leave (Turn (Leave c)) = true
is_leave event = false

-- but for one caller the callers are the same, and the rows that it has read stay until it leaves
pub record ChangesOnly (s t : Phases) (c : ℕ) (leaves : Bool) : Type 0 where
  pub many_objects : length t.objects ≡ length s.objects
  pub many_callers : length t.callers ≡ length s.callers
  pub many_turns : length t.turns.callers ≡ length s.turns.callers
  pub many_procs : length t.turns.procs ≡ length s.turns.procs
  pub other_callers : (i : ℕ) → i ≢ c → slice_get t.callers i ≡ slice_get s.callers i
  pub other_turns : (i : ℕ) → i ≢ c → slice_get t.turns.callers i ≡ slice_get s.turns.callers i
  pub rows : leaves ≡ false → (o i : ℕ) → has_row (visitor_at s c).read o i ≡ true → has_row (visitor_at t c).read o i ≡ true

pub ChangesOnly-refl : (s : Phases) (c : ℕ) (leaves : Bool) → ChangesOnly s s c leaves
ChangesOnly-refl s c leaves = record {
  many_objects = refl;
  many_callers = refl;
  many_turns = refl;
  many_procs = refl;
  other_callers = λ i other. refl;
  other_turns = λ i other. refl;
  rows = λ stays o i has. has;
}

module _ (s : Phases) (c : ℕ) (there : c < length s.callers) where
  abbrev x : Visitor
  x = visitor_at s c

  -- one caller and the generations change
  with_turns : (leaves : Bool) (t : Generations) (x' : Visitor) → length t.procs ≡ length s.turns.procs → length t.callers ≡ length s.turns.callers
      → ((i : ℕ) → i ≢ c → slice_get t.callers i ≡ slice_get s.turns.callers i)
      → (leaves ≡ false → (o i : ℕ) → has_row x.read o i ≡ true → has_row x'.read o i ≡ true)
      → ChangesOnly s (record s { turns = t; callers = set s.callers c x' }) c leaves
  with_turns leaves t x' procs many else rows = record {
    many_objects = refl;
    many_callers = length-set s.callers c x';
    many_turns = many;
    many_procs = procs;
    other_callers = λ i other. slice_get-set_else s.callers c i x' other;
    other_turns = else;
    rows = λ stays o i has. rw (get_or-set_same s.callers c x' _ there) (rows stays o i has);
  }

  one_caller : (x' : Visitor) → ((o i : ℕ) → has_row x.read o i ≡ true → has_row x'.read o i ≡ true)
      → ChangesOnly s (put_visitor s c x') c false
  one_caller x' rows = with_turns false s.turns x' refl refl (λ i other. refl) (λ stays. rows)

  with_object : (x' : Visitor) (o : ℕ) (k : Object) → ((o i : ℕ) → has_row x.read o i ≡ true → has_row x'.read o i ≡ true)
      → ChangesOnly s (put_object (put_visitor s c x') o k) c false
  with_object x' o k rows = record {
    many_objects = length-set s.objects o k;
    many_callers = length-set s.callers c x';
    many_turns = refl;
    many_procs = refl;
    other_callers = λ i other. slice_get-set_else s.callers c i x' other;
    other_turns = λ i other. refl;
    rows = λ stays q i has. rw (get_or-set_same s.callers c x' _ there) (rows q i has);
  }

  either : (b : Bool) (t u : Phases) → ChangesOnly s t c false → ChangesOnly s u c false → ChangesOnly s (cond b t u) c false
  either true t u first second = first
  either false t u first second = second

  knocked_rows : (o i : ℕ) (b : Bool) (q j : ℕ) → has_row x.read q j ≡ true → has_row (knocked x o i b).read q j ≡ true
  knocked_rows o i true q j has = has
  knocked_rows o i false q j has = with_row_old x.read o i q j has

  interposed_only : (swap : SwapAt) → ChangesOnly s (interposed s c swap) c false
  interposed_only (Begun o) = with_object (at_stage x _) o _ (λ q i has. has)
  interposed_only (Interposing o p) = with_object (at_stage x _) o _ (λ q i has. has)
  interposed_only swap = ChangesOnly-refl s c false

  opened_only : (swap : SwapAt) → ChangesOnly s (opened s c swap) c false
  opened_only (Opening o p) = with_object (at_stage x _) o _ (λ q i has. has)
  opened_only (Reopening o p) = with_object (at_stage x _) o _ (λ q i has. has)
  opened_only swap = ChangesOnly-refl s c false

  staged_only : (o : ℕ) (swap : SwapAt) (k : Object) → ChangesOnly s (staged s c o swap k) c false
  staged_only o swap k = with_object (at_stage x swap) o k (λ q i has. has)

  taken_only : (notes : List (ℕ × ℕ)) → c < length s.turns.callers → (role : Option ℕ) → ChangesOnly s (taken_with s c notes role) c false
  taken_only notes there' None =
      with_turns false (turns.taken s.turns c None) (role_taken_with x (numbers_of notes (length s.objects))) refl (length-set s.turns.callers c _)
      (λ i other. slice_get-set_else s.turns.callers c i _ other) (λ stays o i has. has)
  taken_only notes there' (Some holder) = ChangesOnly-refl s c false

turned_only : (s : Phases) (event : GenEvent) → turns.caller_of event < length s.callers
    → turns.caller_of event < length s.turns.callers
    → ChangesOnly s (turned s event) (turns.caller_of event) (is_leave (Turn event))
turned_only s event there there' = by_event event there (only_caller s.turns event there').many_procs (only_caller s.turns event there').many_callers (only_caller s.turns event there').other_callers where
  by_event : (event : GenEvent) → turns.caller_of event < length s.callers
      → length (turns.effect s.turns event).procs ≡ length s.turns.procs
      → length (turns.effect s.turns event).callers ≡ length s.turns.callers
      → ((i : ℕ) → i ≢ turns.caller_of event → slice_get (turns.effect s.turns event).callers i ≡ slice_get s.turns.callers i)
      → ChangesOnly s (turned s event) (turns.caller_of event) (is_leave (Turn event))
  by_event (Enter c) there procs many else = with_turns s c there false (turns.effect s.turns (Enter c)) _ procs many else (λ stays o i has. has)
  by_event (Leave c) there procs many else = with_turns s c there true (turns.effect s.turns (Leave c)) _ procs many else (λ stays. absurd (cc))
  by_event (TakeRole c) there procs many else = with_turns s c there false (turns.effect s.turns (TakeRole c)) _ procs many else (λ stays o i has. has)
  by_event (LookAhead c) there procs many else = with_turns s c there false (turns.effect s.turns (LookAhead c)) _ procs many else (λ stays o i has. has)
  by_event (Flip c) there procs many else = with_turns s c there false (turns.effect s.turns (Flip c)) _ procs many else (λ stays o i has. has)
  by_event (Look c) there procs many else = with_turns s c there false (turns.effect s.turns (Look c)) _ procs many else (λ stays o i has. has)
  by_event (GiveRole c) there procs many else = with_turns s c there false (turns.effect s.turns (GiveRole c)) _ procs many else (λ stays o i has. has)

-- an effect changes the event's caller alone
pub only_who : (s : Phases) (event : Event) → length s.callers ≡ length s.turns.callers → caller_of event < length s.turns.callers
    → ChangesOnly s (effect s event) (caller_of event) (is_leave event)
only_who s (Turn event) same there = turned_only s event (rw same there) there
only_who s (TakeRoleWith c notes) same there = taken_only s c (rw same there) notes there s.turns.role
only_who s (LookUp c o) same there =
    one_caller s c (rw same there) (looked_up (visitor_at s c) o (entry_at (object_at s o) (proc_of s c)))
    (λ q i has. with_row_old (visitor_at s c).read o (entry_at (object_at s o) (proc_of s c)).incarnation q i has)
only_who s (RootLoad c o) same there = ChangesOnly-refl s c false
only_who s (Install c o) same there =
    either s c (rw same there) (is_empty_at (entry_at (object_at s o) (proc_of s c)) (row_of (visitor_at s c).place)) _ _
    (with_object s c (rw same there) (at_place (visitor_at s c) (Direct o (row_of (visitor_at s c).place))) o _ (λ q i has. has))
    (one_caller s c (rw same there) (at_place (visitor_at s c) Out) (λ q i has. has))
only_who s (Knock c o) same there =
    with_object s c (rw same there) (knocked (visitor_at s c) o (object_at s o).incarnation (object_at s o).block) o (counted_in (object_at s o))
    (knocked_rows s c (rw same there) o (object_at s o).incarnation (object_at s o).block)
only_who s (StepOut c) same there =
    with_object s c (rw same there) (at_place (visitor_at s c) Out) (object_of (visitor_at s c).place) _ (λ q i has. has)
only_who s (EndCall c) same there = one_caller s c (rw same there) (at_place (visitor_at s c) Out) (λ q i has. has)
only_who s (Begin c o) same there =
    either s c (rw same there) (object_at s o).swap _ _ (ChangesOnly-refl s c false) (staged_only s c (rw same there) o _ _)
only_who s (Interpose c) same there = interposed_only s c (rw same there) (visitor_at s c).swap
only_who s (Block c) same there = staged_only s c (rw same there) (object_named (visitor_at s c).swap) _ _
only_who s (Move c) same there =
    either s c (rw same there) (eqb (object_at s (object_named (visitor_at s c).swap)).count 0) _ _
    (staged_only s c (rw same there) (object_named (visitor_at s c).swap) _ _) (ChangesOnly-refl s c false)
only_who s (TurnOver c layout) same there = staged_only s c (rw same there) (object_named (visitor_at s c).swap) _ _
only_who s (Unblock c) same there = staged_only s c (rw same there) (object_named (visitor_at s c).swap) _ _
only_who s (Open c) same there = opened_only s c (rw same there) (visitor_at s c).swap
only_who s (Clear c) same there = staged_only s c (rw same there) (object_named (visitor_at s c).swap) _ _
only_who s (Free c o) same there =
    either s c (rw same there) (ltb (object_at s o).freed (unwrap_or (note_at (visitor_at s c).noted o) 0)) _ _
    (with_object s c (rw same there) _ o _ (λ q i has. has)) (ChangesOnly-refl s c false)
