-- A worker on its way through its items.
use Rattle.std.specs.Prelude.{◌≡◌, ◌≢◌, ℕ, ◌+◌, ◌<◌, ◌≤◌, Bool, false, List, ◌++◌, length, map, drop, All, Some, None, slice_get, slice_index_or}
use Rattle.k42_kinds.specs.declared.operation.Op.{Op}
use Rattle.k42_kinds.specs.declared.operation.Reply.{Reply}
use Rattle.k42_kinds.specs.declared.entry.Entry.{Entry}
use Rattle.script_text.specs.Lawful.{call_lines, deed_of, deeds_from}
use Rattle.script_text.specs.Sound.{BlocksMatch}
use Rattle.script_text.specs.declared.script.WorkerLines.{WorkerLines}
use Rattle.record_text.specs.Told.{blocks_from, blocks_of}
use Rattle.co_system.specs.Systems.{SystemPass, SystemSeen}
use Rattle.k42_runtime.specs.Systems.{IsPassHere}
use Rattle.k42_workers.specs.Lines.{Standing, IsLatest}
use Rattle.k42_workers.specs.Passes.{standing_of, IsBetween}
use Rattle.k42_workers.specs.Workers.{IsMadeBy, StayInStep}

-- the block of the worker's line with this place among those that ask something
abbrev pub block_at : WorkerLines → ℕ → ℕ
block_at worker place = slice_index_or (blocks_of worker.items) place 0

-- So many items are behind the worker. Its entries are those of the lines behind it, and what is open suits the block that
-- it is in, or that it is in none.
pub record IsUnderWay (worker : WorkerLines) (place : ℕ) (inside : Bool) (standing : Standing) : Type 0 where
  pub deeds :
      map deed_of standing.entries ++ deeds_from (length standing.entries) (call_lines (drop place worker.items))
      ≡ deeds_from 0 (call_lines worker.items)
  pub made : All (IsMadeBy worker) standing.entries
  pub in_step : StayInStep (blocks_of worker.items) standing.entries
  -- how many blocks have begun, which one is open, and the blocks of the lines behind it
  pub begun : ℕ
  pub block : ℕ
  pub done : List ℕ
  pub blocks : blocks_of worker.items ≡ done ++ blocks_from begun block (drop place worker.items)
  pub many : length done ≡ length standing.entries
  pub matches : BlocksMatch inside (drop place worker.items) false
  pub outside : inside ≡ false → (block ≡ 0) × (standing.active ≡ None)
  pub within : block ≤ begun
  pub earlier : (i : ℕ) → i < length standing.entries → block_at worker i ≤ begun
  pub latest : (generation : ℕ) → standing.active ≡ Some generation → IsLatest generation standing.entries
  pub level :
      block ≢ 0
      → (i : ℕ) (entry : Entry Op Reply) (generation : ℕ) → slice_get standing.entries i ≡ Some entry → block_at worker i ≡ block
      → entry.generation ≡ Some generation
      → standing.active ≡ Some generation

-- So many items are behind the pass, and it may need a grace for each line that is left.
pub record IsAt (system : SystemSeen) (number : ℕ) (worker : WorkerLines) (place : ℕ) (inside : Bool) (pass : SystemPass)
    : Type 0 where
  pub here : IsPassHere system pass
  pub between : IsBetween pass.view
  pub caller : pass.view.number ≡ number
  pub proc : pass.view.turn.proc ≡ worker.proc
  pub graces : pass.view.graces + length (call_lines (drop place worker.items)) ≤ length (call_lines worker.items)
  pub way : IsUnderWay worker place inside (standing_of pass.view)
