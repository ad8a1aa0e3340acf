-- What follows in every sound state, and of each event.
use Rattle.std.specs.Prelude.{ℕ, ◌≡◌, ◌≢◌, ◌<◌, ◌≤◌, true, Option, Some, None, length}
use Rattle.k42_limits.specs.declared.TheConstants.{LAST_INCARNATION}
use Rattle.k42_shapes.specs.Shapes.{IsLiveTag}
use Rattle.gen_core.specs.State.{proc_at, caller_at}
use Rattle.phase_core.specs.Event.{Event, LookUp, Install, Knock, StepOut, Begin, Interpose, Block, Move, TurnOver, Unblock, Open, Clear, Free}
use Rattle.phase_core.specs.Plain.{Object, Phases}
use Rattle.phase_core.specs.Stages.{object_of, named_by}
use Rattle.phase_core.specs.State.{object_at, visitor_at}
use Rattle.phase_core.specs.declared.caller.SwapAt.TheVariants.{Moved}

-- the object that an event may change
abbrev pub object_changed : Phases → Event → Option ℕ
object_changed s (Install c o) = Some o
object_changed s (Knock c o) = Some o
object_changed s (StepOut c) = Some (object_of (visitor_at s c).place)
object_changed s (Begin c o) = Some o
object_changed s (Interpose c) = named_by (visitor_at s c).swap
object_changed s (Block c) = named_by (visitor_at s c).swap
object_changed s (Move c) = named_by (visitor_at s c).swap
object_changed s (TurnOver c layout) = named_by (visitor_at s c).swap
object_changed s (Unblock c) = named_by (visitor_at s c).swap
object_changed s (Open c) = named_by (visitor_at s c).swap
object_changed s (Clear c) = named_by (visitor_at s c).swap
object_changed s (Free c o) = Some o
object_changed s event = None

-- but for one caller and one object at most, callers and objects are as they were
pub record LeavesOthers (s t : Phases) (caller : ℕ) (object : Option ℕ) : Type 0 where
  pub procs : length t.turns.procs ≡ length s.turns.procs
  pub callers : length t.callers ≡ length s.callers
  pub objects : length t.objects ≡ length s.objects
  pub other_callers : (c : ℕ) → c ≢ caller → visitor_at t c ≡ visitor_at s c
  pub other_turns : (c : ℕ) → c ≢ caller → caller_at t.turns c ≡ caller_at s.turns c
  pub other_objects : (o : ℕ) → object ≢ Some o → object_at t o ≡ object_at s o

-- what may rise alone
pub record NeverFalls (s t : Phases) : Type 0 where
  pub generations : (p : ℕ) → (proc_at s.turns p).generation ≤ (proc_at t.turns p).generation
  pub incarnations : (o : ℕ) → (object_at s o).incarnation ≤ (object_at t o).incarnation
  pub freed : (o : ℕ) → (object_at s o).freed ≤ (object_at t o).freed

-- the shapes of the live layouts of each object stay
abbrev pub KeepsShapes : Phases → Phases → Type 0
KeepsShapes s t = (o : ℕ) → (object_at t o).shapes ≡ (object_at s o).shapes

-- by the event the object's swapper takes it to its next incarnation
abbrev pub TurnsOver : Phases → Event → ℕ → Type 0
TurnsOver s (TurnOver c layout) o = (visitor_at s c).swap ≡ Moved o
TurnsOver s event o = ⊥

-- the object is in the incarnation and the layout in which it was
pub record IsSameRow (k l : Object) : Type 0 where
  pub incarnation : l.incarnation ≡ k.incarnation
  pub layout : l.layout ≡ k.layout

-- by the event the caller reads a row of the object
abbrev pub ReadsRow : Event → ℕ → ℕ → Type 0
ReadsRow (LookUp d q) c o = (d ≡ c) × (q ≡ o)
ReadsRow (Knock d q) c o = (d ≡ c) × (q ≡ o)
ReadsRow event c o = ⊥

-- at most one caller swaps the object, and one does exactly where SWAP is set
pub record HasOneSwap (s : Phases) (o : ℕ) : Type 0 where
  pub one : (c d : ℕ) → c < length s.callers → d < length s.callers
      → named_by (visitor_at s c).swap ≡ Some o → named_by (visitor_at s d).swap ≡ Some o → c ≡ d
  pub set : (c : ℕ) → c < length s.callers → named_by (visitor_at s c).swap ≡ Some o
      → (object_at s o).swap ≡ true
  pub swapper : (object_at s o).swap ≡ true
      → (c : ℕ) × (c < length s.callers) × (named_by (visitor_at s c).swap ≡ Some o)

-- the object is alive, has a next incarnation, and all its former rows are freed
pub record IsReadyToMove (k : Object) : Type 0 where
  pub alive : IsLiveTag k.shapes k.layout
  pub next : k.incarnation < LAST_INCARNATION
  pub freed : k.freed ≡ k.incarnation

-- from s to t row i of the object is freed
pub record FreesRow (s t : Phases) (o i : ℕ) : Type 0 where
  pub kept : (object_at s o).freed ≤ i
  pub freed : i < (object_at t o).freed
