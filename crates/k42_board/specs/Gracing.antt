-- The steps of a grace, for one pass: where each may be taken, and what the pass knows after it.
use Rattle.std.specs.Prelude.{◌≡◌, ◌≢◌, ◌⊎◌, ℕ, ◌+◌, ◌-◌, ◌*◌, ◌/◌, ◌%◌, ◌<◌, ◌≤◌, ◌^◌, ◌==◌, if◌then◌else◌, true, ⊤, Option, Some, None, drop, is_some, length, replicate, take, slice_index, slice_set, unwrap_or}
use Rattle.k42_limits.specs.declared.TheConstants.{CALLERS, OBJECTS, LAST_INCARNATION, PASS_GRACES}
use Rattle.k42_places.specs.Places.{EachPlace}
use Rattle.gen_core.specs.Events.{is_free, is_flipping, is_looking, place_of, role_taken, role_given, after_flip, caller_passed}
use Rattle.gen_core.specs.Plain.{Caller}
use Rattle.gen_core.specs.declared.event.GenEvent.{GenEvent}
use Rattle.gen_core.specs.declared.event.GenEvent.TheVariants.{LookAhead, Look}
use Rattle.gen_core.specs.declared.state.GraceAt.{GraceAt}
use Rattle.gen_core.specs.declared.state.GraceAt.TheVariants.{Idle, Flipping, Looking, Quiet}
use Rattle.phase_core.specs.Effects.{drained_at, role_taken_with}
use Rattle.phase_core.specs.Stages.{may_take}
use Rattle.phase_core.specs.State.{note_at}
use Rattle.phase_core.specs.declared.caller.SwapAt.TheVariants.{Drained}
use Rattle.k42_joined.specs.Swapping.{holds_none}
use Rattle.k42_board.specs.Log.{has_swept}
use Rattle.k42_board.specs.Noting.{notes_due}
use Rattle.k42_board.specs.Phases.{IsGranted}
use Rattle.k42_board.specs.Seen.{PassSeen}
use Rattle.k42_board.specs.Values.{generation_in}
use Rattle.k42_board.specs.declared.view.PassView.{PassView}

-- it has no activity and no grace under way, its swap is none or has interposed the mediator, and it has begun few graces
pub record MayTakeRole {P O R : Type 0} (v : PassView P O R) : Type 0 where
  pub free : is_free v.turn ≡ true
  pub swap : may_take v.visitor.swap ≡ true
  pub few : v.graces < PASS_GRACES

-- the role of nobody is taken, with what is noted then
abbrev pub role_view : {P O R : Type 0} → ℕ → PassView P O R → PassView P O R
role_view found v = if found == 0 then record v {
  turn = role_taken v.turn;
  visitor = role_taken_with v.visitor (notes_due v);
  graces = v.graces + 1;
  base = None;
  granted = length v.rows;
} else v

-- While a grace is under way, the processor that it comes to next is one of so many; it has asked for the generation
-- before it flips a second one.
abbrev pub FitsGrace : GraceAt → Option ℕ → ℕ → Type 0
FitsGrace Idle base procs = ⊤
FitsGrace (Flipping p) base procs = (p < procs) × (0 < p → is_some base ≡ true)
FitsGrace (Looking p) base procs = (p < procs) × (is_some base ≡ true)
FitsGrace Quiet base procs = is_some base ≡ true

-- the word found is that of nobody, or of another caller
pub record RoleFound {P O R : Type 0} (v : PassView P O R) (found : ℕ) : Type 0 where
  pub another : found ≢ v.number + 1
  pub small : found ≤ CALLERS
  -- a grace may begin, and what it notes fits its fields
  pub procs : 0 < length v.turn.waits
  pub notes : length v.visitor.noted ≤ OBJECTS
  pub rows : EachPlace (λ place row. row.incarnation < LAST_INCARNATION) v.rows
  -- what is noted then is above the rows that it holds
  pub granted : EachPlace (λ place row. IsGranted (notes_due v) row) v.rows

-- it is about to flip the first processor
abbrev pub MayAskGeneration : {P O R : Type 0} → PassView P O R → Type 0
MayAskGeneration v = v.turn.grace ≡ Flipping 0

abbrev pub asked_view : {P O R : Type 0} → ℕ → PassView P O R → PassView P O R
asked_view found v = record v { base = Some (generation_in found) }

-- a generation is left
abbrev pub GenerationFound : {P O R : Type 0} → PassView P O R → ℕ → Type 0
GenerationFound v found = generation_in found + 1 < 2 ^ 32

-- before it flips the processor it asks for the exits of the generation to come, of which nothing is known yet
pub record LooksAhead {P O R : Type 0} (p parity : ℕ) (v : PassView P O R) : Type 0 where
  pub base : ℕ
  pub asked : v.base ≡ Some base
  pub grace : v.turn.grace ≡ Flipping p
  pub unknown : v.turn.coming ≡ None
  pub next : parity ≡ (base + 1) % 2

-- and later for those of the generation that it has ended
pub record LooksBack {P O R : Type 0} (p parity : ℕ) (v : PassView P O R) : Type 0 where
  pub base : ℕ
  pub asked : v.base ≡ Some base
  pub grace : v.turn.grace ≡ Looking p
  pub former : parity ≡ base % 2

abbrev pub MayLook : {P O R : Type 0} → ℕ → ℕ → PassView P O R → Type 0
MayLook p parity v = LooksAhead p parity v ⊎ LooksBack p parity v

abbrev pub look_event : ℕ → GraceAt → GenEvent
look_event c grace = if is_flipping grace then LookAhead c else Look c

-- all activities of the former generation have left the processor
abbrev pub passed_view : {P O R : Type 0} → PassView P O R → PassView P O R
passed_view v =
    let turn = caller_passed v.turn (length v.turn.waits) in
    record v { turn = turn; visitor = record v.visitor { swap = drained_at turn.grace v.visitor.swap } }

-- the lower 32 bits of exits
abbrev pub exits_in : ℕ → ℕ
exits_in word = word % 2 ^ 32

abbrev pub looked_at : {P O R : Type 0} → GraceAt → ℕ → PassView P O R → PassView P O R
looked_at (Flipping p) found v = record v { turn = record v.turn { coming = Some (exits_in found) } }
looked_at (Looking p) found v = if exits_in found == slice_index v.turn.waits p then passed_view v else v
looked_at grace found v = v

abbrev pub looked_view : {P O R : Type 0} → ℕ → PassView P O R → PassView P O R
looked_view found v = looked_at v.turn.grace found v

-- how many have not left, where so many had entered; both are counted modulo 2 ^ 32
abbrev pub short_of : ℕ → ℕ → ℕ
short_of entered found = (entered + 2 ^ 32 - exits_in found) % 2 ^ 32

-- at most as many as there are callers have not left
pub record ExitsFound {P O R : Type 0} (v : PassView P O R) (found : ℕ) : Type 0 where
  pub few : is_looking v.turn.grace ≡ true → short_of (slice_index v.turn.waits (place_of v.turn.grace)) found ≤ CALLERS

-- it knows what the processor's next generation counts on from
pub record MayFlip {P O R : Type 0} (p : ℕ) (v : PassView P O R) : Type 0 where
  pub base : ℕ
  pub asked : v.base ≡ Some base
  pub exits : ℕ
  pub coming : v.turn.coming ≡ Some exits
  pub grace : v.turn.grace ≡ Flipping p

-- the next generation, with so many entries
abbrev pub flip_word : {P O R : Type 0} → PassView P O R → ℕ
flip_word v = unwrap_or v.base 0 + 1 + 2 ^ 32 * unwrap_or v.turn.coming 0

abbrev pub entries_in : ℕ → ℕ
entries_in word = word / 2 ^ 32

abbrev pub turn_flipped : Caller → ℕ → Caller
turn_flipped x entered = record x {
  waits = slice_set x.waits (place_of x.grace) entered;
  coming = None;
  grace = after_flip (place_of x.grace) (length x.waits);
}

abbrev pub flipped_view : {P O R : Type 0} → ℕ → PassView P O R → PassView P O R
flipped_view found v = record v { turn = turn_flipped v.turn (entries_in found) }

-- it is quiet and holds no cell; where its swap is drained it has freed the former rows of the object, which it noted
pub record MayGiveRole {P O R : Type 0} (v : PassView P O R) : Type 0 where
  pub quiet : v.turn.grace ≡ Quiet
  pub free : holds_none v.taker.held ≡ true
  pub swept :
      (o n : ℕ) → v.visitor.swap ≡ Drained o → note_at v.visitor.noted o ≡ Some n → has_swept v.log o ≡ true

-- it no longer has the rows that it held as it took the role
abbrev pub given_view : {P O R : Type 0} → PassView P O R → PassView P O R
given_view v = record v {
  turn = role_given v.turn;
  visitor = record v.visitor { freeing = replicate (length v.visitor.freeing) (0, 0) };
  rows = drop v.granted v.rows;
  granted = 0;
}

-- its grace has noted more than the rows that are taken from it
abbrev pub RowsGiven : {P O R : Type 0} → PassView P O R → ℕ → Type 0
RowsGiven v stored = EachPlace (λ place row. IsGranted v.visitor.noted row) (take v.granted v.rows)

-- it has the same seat, and the room of these rows
pub record HasGiven {P O R : Type 0} (old new : PassSeen P O R) : Type 0 where
  pub table : new.table ≡ old.table
  pub seat : new.seat ≡ old.seat
  pub keep : new.keep ≡ old.keep
  pub room : new.room ≡ old.room
  pub row_room : new.row_room ≡ old.row_room + old.view.granted
  pub queue : new.queue ≡ old.queue
  pub pushed : new.pushed ≡ old.pushed
  pub popped : new.popped ≡ old.popped
