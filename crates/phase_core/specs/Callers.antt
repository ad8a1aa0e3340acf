-- What stays true of a caller: its place and the rows that it has read, its swap, and what it frees.
use Rattle.std.specs.Prelude.{ℕ, List, false, [], None, ◌+◌, ◌<◌, true, Some, length, ◌≡◌, ◌≢◌, ◌≤◌, ◌⊎◌}
use Rattle.gen_core.specs.Events as turns
use Rattle.gen_core.specs.Plain.{Caller}
use Rattle.gen_core.specs.Sound.{Course, is_flipped}
use Rattle.gen_core.specs.declared.state.GraceAt.{GraceAt}
use Rattle.gen_core.specs.declared.state.GraceAt.TheVariants as graces
use Rattle.phase_core.specs.Outlooks.{Outlook, Scene, is_draining, is_closed, has_moved}
use Rattle.phase_core.specs.Plain.{Visitor}
use Rattle.phase_core.specs.Stages.{named_by}
use Rattle.phase_core.specs.State.{note_at, span_at, has_row, times}
use Rattle.phase_core.specs.declared.caller.Place.{Place}
use Rattle.phase_core.specs.declared.caller.Place.TheVariants.{Out, Missed, Direct, AtMediator, Tracked, Blocked}
use Rattle.phase_core.specs.declared.caller.SwapAt.{SwapAt}
use Rattle.phase_core.specs.declared.caller.SwapAt.TheVariants.{Idle, Draining, Drained}

-- where its processor was flipped, the caller was active before
abbrev pub IsOlder : Course → Caller → Type 0
IsOlder course g = is_flipped course.stage g.proc ≡ true → g.active ≡ Some course.base

-- a caller inside a row is inside the present one, and has read it
pub record IsInPresentRow (look : Outlook) (rows : List (ℕ × ℕ)) (o i : ℕ) : Type 0 where
  pub read : has_row rows o i ≡ true
  pub present : i ≡ look.incarnation

-- an uncounted caller of an object that drains was active before; of a drained one there is none
pub record IsUncounted (course : Course) (look : Outlook) (g : Caller) : Type 0 where
  pub draining : is_draining look.stage ≡ true → IsOlder course g
  pub not_closed : is_closed look.stage ≡ false

-- a caller that has read the rows may be at the place
abbrev pub IsAtPlace : Scene → Caller → List (ℕ × ℕ) → Place → Type 0
IsAtPlace scene g rows Out = Unit {0}
IsAtPlace scene g rows (Missed o i) =
    (o < scene.objects) × IsInPresentRow (scene.looks o) rows o i
    × IsUncounted scene.course (scene.looks o) g
IsAtPlace scene g rows (Direct o i) =
    (o < scene.objects) × IsInPresentRow (scene.looks o) rows o i
    × IsUncounted scene.course (scene.looks o) g
IsAtPlace scene g rows (AtMediator o) = o < scene.objects
IsAtPlace scene g rows (Tracked o i) =
    (o < scene.objects) × IsInPresentRow (scene.looks o) rows o i
    × (has_moved (scene.looks o).stage ≡ false)
IsAtPlace scene g rows (Blocked o) = o < scene.objects

-- a row that an activity has read
pub record IsRow (course : Course) (look : Outlook) (g : Caller) (i : ℕ) : Type 0 where
  pub kept : look.freed ≤ i
  pub recent : (i ≡ look.incarnation) ⊎ (i + 1 ≡ look.incarnation)
  pub present : is_closed look.stage ≡ true → i ≡ look.incarnation
  pub older : (n : ℕ) → look.noted ≡ Some n → i < n → IsOlder course g

-- rows of objects that are there, each once
pub record IsReadOnce (objects : ℕ) (rows : List (ℕ × ℕ)) : Type 0 where
  pub there : (o i : ℕ) → has_row rows o i ≡ true → o < objects
  pub once : (o i : ℕ) → times rows o i ≤ 1

-- the grace of a caller whose swap is at a stage
abbrev pub GraceFits : SwapAt → GraceAt → Type 0
GraceFits Idle grace = Unit {0}
GraceFits (Draining o) grace = (grace ≢ graces.Idle) × (grace ≢ graces.Quiet)
GraceFits (Drained o) grace = Unit {0}
GraceFits swap grace = grace ≡ graces.Idle

-- the caller's swap is the one of the object that it names
pub record IsSwap (scene : Scene) (c : ℕ) (g : Caller) (swap : SwapAt) : Type 0 where
  pub there : (o : ℕ) → named_by swap ≡ Some o → o < scene.objects
  pub owned : (o : ℕ) → named_by swap ≡ Some o
      → ((scene.looks o).swapper ≡ Some c) × ((scene.looks o).stage ≡ swap)
  pub owner : (o : ℕ) → (scene.looks o).swapper ≡ Some c → named_by swap ≡ Some o
  pub inactive : (o : ℕ) → named_by swap ≡ Some o → g.active ≡ None
  pub grace : GraceFits swap g.grace
  -- a drained object is settled once its swapper's grace is over
  pub settled : (o : ℕ) → swap ≡ Drained o → (scene.looks o).settled ≡ turns.is_idle g.grace

-- the holder alone frees rows, below the number that it noted
pub record IsFreeing (scene : Scene) (c : ℕ) (x : Visitor) : Type 0 where
  pub many_noted : length x.noted ≡ scene.objects
  pub many_freeing : length x.freeing ≡ scene.objects
  pub noted : scene.course.holder ≡ Some c → (o : ℕ) → note_at x.noted o ≡ (scene.looks o).noted
  pub freeing : (o : ℕ) → (span_at x.freeing o).0 < (span_at x.freeing o).1
      → (scene.course.holder ≡ Some c) × ((span_at x.freeing o).1 ≤ (scene.looks o).freed)
      × ((scene.looks o).noted ≡ Some (span_at x.freeing o).1) × ((scene.looks o).settled ≡ false)

pub record IsVisitor (scene : Scene) (c : ℕ) (g : Caller) (x : Visitor) : Type 0 where
  -- a caller that is not active is out and has read nothing
  pub at_rest : g.active ≡ None → (x.place ≡ Out) × (x.read ≡ [])
  pub at_place : IsAtPlace scene g x.read x.place
  pub rows_read : (o i : ℕ) → has_row x.read o i ≡ true → IsRow scene.course (scene.looks o) g i
  pub read_once : IsReadOnce scene.objects x.read
  pub swap_alone : IsSwap scene c g x.swap
  pub frees_alone : IsFreeing scene c x
