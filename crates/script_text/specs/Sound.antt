-- What is true of every script that can be read: it can be run, and its records can be written.
use Rattle.std.specs.Prelude.{◌≡◌, ℕ, ◌<◌, ◌≤◌, Bool, true, false, IsTrue, List, [], ◌∷◌, length, map, sum_by, All, Some, slice_get}
use Rattle.k42_kinds.specs.declared.entry.Act.{Act}
use Rattle.k42_kinds.specs.declared.entry.Act.TheVariants.{Call, Swap}
use Rattle.k42_kinds.specs.declared.operation.KindName.{KindName}
use Rattle.k42_kinds.specs.declared.operation.Op.{Op}
use Rattle.k42_kinds.specs.declared.operation.Op.TheVariants.{Write, Read}
use Rattle.k42_kinds.specs.Watched.{watched_object}
use Rattle.k42_kinds.specs.Words.{is_name}
use Rattle.k42_limits.specs.declared.TheConstants.{PROCESSORS, OBJECTS, CALLERS, CALL_LINES, PAGES}
use Rattle.script_text.specs.Acts.{HasWord}
use Rattle.script_text.specs.Forms.{is_reserved}
use Rattle.script_text.specs.Lawful.{kinds_of, call_lines}
use Rattle.script_text.specs.declared.script.CallLine.{CallLine}
use Rattle.script_text.specs.declared.script.Item.{Item}
use Rattle.script_text.specs.declared.script.Item.TheVariants.{Begin, End, Line}
use Rattle.script_text.specs.declared.script.Script.{Script}
use Rattle.script_text.specs.declared.script.WorkerLines.{WorkerLines}

-- the page that an operation names, if it names one, is there
abbrev pub NamesPage : Op → Type 0
NamesPage (Write page text) = page < PAGES
NamesPage (Read page) = page < PAGES
NamesPage _ = Unit {0}

-- the act may be asked of an object of this kind: an operation that it takes, or a swap that has a word
abbrev pub IsActOn : KindName → Act Op → Type 0
IsActOn kind (Call op) = IsTrue ((watched_object kind).takes op) × NamesPage op
IsActOn kind (Swap to) = HasWord to

-- the line asks of a declared object what may be asked of it
pub record IsSoundLine (script : Script) (line : CallLine) : Type 0 where
  pub kind : KindName
  pub declared : slice_get (kinds_of script) line.object ≡ Some kind
  pub asked : IsActOn kind line.act

-- a call, and no swap
abbrev pub IsCall : Act Op → Type 0
IsCall (Call op) = Unit {0}
IsCall (Swap to) = ⊥

-- Where an activity is open before these items, or not, and after them, or not: none begins in
-- another, each `end` ends one, and every line in one is a call.
abbrev pub BlocksMatch : Bool → List Item → Bool → Type 0
BlocksMatch before [] after = before ≡ after
BlocksMatch before (Begin ∷ items) after = (before ≡ false) × BlocksMatch true items after
BlocksMatch before (End ∷ items) after = (before ≡ true) × BlocksMatch false items after
BlocksMatch before (Line line ∷ items) after =
    (before ≡ true → IsCall line.act) × BlocksMatch before items after

-- A worker's lines that ask something have numbers that rise.
abbrev pub HasRisingLines : WorkerLines → Type 0
HasRisingLines worker =
    (i j : ℕ) (earlier later : CallLine) → i < j
    → slice_get (call_lines worker.items) i ≡ Some earlier
    → slice_get (call_lines worker.items) j ≡ Some later
    → earlier.line < later.line

-- A worker runs on one of the processors, its lines are sound and rise, and its activities match:
-- none is open before its first item, and none after its last.
pub record IsSoundWorker (script : Script) (worker : WorkerLines) : Type 0 where
  pub processor : worker.proc < script.procs
  pub lines : All (IsSoundLine script) (call_lines worker.items)
  pub rising : HasRisingLines worker
  pub blocks : BlocksMatch false worker.items false

-- a name that a line may declare: it is of the form, and not reserved
pub record IsFreeName (name : List ℕ) : Type 0 where
  pub formed : is_name name ≡ true
  pub free : is_reserved name ≡ false

-- no name stands at two places
abbrev pub AreDistinct : List (List ℕ) → Type 0
AreDistinct names =
    (i j : ℕ) (name : List ℕ) → slice_get names i ≡ Some name → slice_get names j ≡ Some name
    → i ≡ j

-- The objects have names that lines may declare, each its own, and so have the workers.
pub record HasDistinctNames (script : Script) : Type 0 where
  pub object_names : AreDistinct (map (λ object. object.name) script.objects)
  pub worker_names : AreDistinct (map (λ worker. worker.name) script.workers)
  pub free_objects : All (λ object. IsFreeName object.name) script.objects
  pub free_workers : All (λ worker. IsFreeName worker.name) script.workers

-- A script has 1 to 8 processors, at most 16 objects, at most 16 workers, each of them sound, names
-- that may be declared and differ, and at most 65,536 lines that ask something.
pub record IsSound (script : Script) : Type 0 where
  pub some_processor : 1 ≤ script.procs
  pub processors : script.procs ≤ PROCESSORS
  pub objects : length script.objects ≤ OBJECTS
  pub callers : length script.workers ≤ CALLERS
  pub workers : All (IsSoundWorker script) script.workers
  pub names : HasDistinctNames script
  pub few : sum_by (λ worker. length (call_lines worker.items)) script.workers ≤ CALL_LINES
