-- What the entries of a worker are, once its lines are done.
use Rattle.std.specs.Prelude.{◌≡◌, ℕ, ◌<◌, List, length, map, All, Some, slice_get, slice_index_or}
use Rattle.k42_kinds.specs.Histories.{IsInOrder}
use Rattle.k42_kinds.specs.Legal.{IsLegalHistory}
use Rattle.k42_kinds.specs.declared.operation.Op.{Op}
use Rattle.k42_kinds.specs.declared.operation.Reply.{Reply}
use Rattle.k42_kinds.specs.declared.entry.Entry.{Entry}
use Rattle.script_text.specs.Lawful.{kinds_of, call_lines, deed_of, deeds_from, IsNotGivenUp}
use Rattle.script_text.specs.declared.script.Script.{Script}
use Rattle.script_text.specs.declared.script.WorkerLines.{WorkerLines}
use Rattle.record_text.specs.Spelling.{HasGeneration}
use Rattle.record_text.specs.Told.{blocks_of, AreInStep}

-- It was made on the worker's processor, and not given up. A call has a generation, a swap has none.
pub record IsMadeBy (worker : WorkerLines) (entry : Entry Op Reply) : Type 0 where
  pub processor : entry.proc ≡ worker.proc
  pub kept : IsNotGivenUp entry.answer
  pub generation : HasGeneration entry.act entry.generation

-- Of two of the entries the later one's generation is not below the earlier one's, and in one block it is the same.
abbrev pub StayInStep : List ℕ → List (Entry Op Reply) → Type 0
StayInStep blocks entries =
    (i j : ℕ) (earlier later : Entry Op Reply) → i < j → slice_get entries i ≡ Some earlier → slice_get entries j ≡ Some later
    → (former generation : ℕ) → earlier.generation ≡ Some former → later.generation ≡ Some generation
    → AreInStep (slice_index_or blocks i 0) (slice_index_or blocks j 0) former generation

-- There is one entry for each line of the worker, in their order, and their generations are in step.
pub record HasDoneLines (worker : WorkerLines) (entries : List (Entry Op Reply)) : Type 0 where
  pub deeds : map deed_of entries ≡ deeds_from 0 (call_lines worker.items)
  pub made : All (IsMadeBy worker) entries
  pub in_step : StayInStep (blocks_of worker.items) entries

-- the worker of this number has done its lines, and its entries stand in the history in order
pub record HasOwn (history : List (Entry Op Reply)) (number : ℕ) (worker : WorkerLines) : Type 0 where
  pub entries : List (Entry Op Reply)
  pub in_order : IsInOrder history number entries
  pub done : HasDoneLines worker entries

-- A legal history of the script's objects, in which each worker has done its lines, and nobody else anything.
pub record IsRunOf (script : Script) (history : List (Entry Op Reply)) : Type 0 where
  pub legal : IsLegalHistory (kinds_of script) history
  pub each : (number : ℕ) (worker : WorkerLines) → slice_get script.workers number ≡ Some worker → HasOwn history number worker
  pub no_stranger : All (λ entry. entry.caller < length script.workers) history
