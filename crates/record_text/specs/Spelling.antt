-- Which records have a text.
use Rattle.std.specs.Prelude.{◌≡◌, ℕ, ◌<◌, ◌≤◌, ◌⊎◌, length, All, Option, Some, IsSome, IsNone, MatchOption, slice_get}
use Rattle.k42_kinds.specs.declared.operation.KindName.{KindName}
use Rattle.k42_kinds.specs.declared.operation.Op.{Op}
use Rattle.k42_kinds.specs.declared.operation.Reply.{Reply}
use Rattle.k42_kinds.specs.declared.entry.Act.{Act}
use Rattle.k42_kinds.specs.declared.entry.Act.TheVariants.{Call, Swap}
use Rattle.k42_kinds.specs.declared.entry.Answer.{Answer}
use Rattle.k42_kinds.specs.declared.entry.Answer.TheVariants.{Replied, Swapped, Busy, Spent, Gone}
use Rattle.script_text.specs.Lawful.{kinds_of}
use Rattle.script_text.specs.Sound.{IsActOn}
use Rattle.script_text.specs.declared.script.Script.{Script}
use Rattle.record_text.specs.declared.version.Version.{Version}
use Rattle.record_text.specs.declared.version.Version.TheVariants.{One, Two}
use Rattle.record_text.specs.declared.record.RecordLine.{RecordLine}
use Rattle.record_text.specs.declared.record.Record.{Record}

-- how a call may be answered
abbrev pub EndsCall : Answer Reply → Type 0
EndsCall (Replied reply) = Unit {0}
EndsCall _ = ⊥

-- how a swap may be answered: one that is under way has a number from 1
abbrev pub EndsSwap : Answer Reply → Type 0
EndsSwap (Swapped number) = Unit {0}
EndsSwap (Busy number) = 1 ≤ number
EndsSwap Spent = Unit {0}
EndsSwap Gone = Unit {0}
EndsSwap _ = ⊥

-- the answer is one of the act, and none of an act that was given up
abbrev pub Ends : Act Op → Answer Reply → Type 0
Ends (Call op) answer = EndsCall answer
Ends (Swap to) answer = EndsSwap answer

-- a line has a spelling where its worker and its object are in the script, its act may be asked of
-- that object, and its answer is one of the act
pub record HasSpelling (script : Script) (line : RecordLine) : Type 0 where
  pub by_worker : line.worker < length script.workers
  pub kind : KindName
  pub of_object : slice_get (kinds_of script) line.object ≡ Some kind
  pub asked : IsActOn kind line.act
  pub answered : Ends line.act line.answer

-- a call has a generation, and a swap has none
abbrev pub HasGeneration : Act Op → Option ℕ → Type 0
HasGeneration (Call op) generation = IsSome generation
HasGeneration (Swap to) generation = IsNone generation

-- version 1 tells nothing besides of a line, version 2 its processor and its generation
pub record IsOfVersion (version : ℕ) (line : RecordLine) : Type 0 where
  pub told : MatchOption line.extra (version ≡ 1)
      (λ extra. (version ≡ 2) × HasGeneration line.act extra.generation)

-- the number of each version
abbrev pub version_number : Version → ℕ
version_number One = 1
version_number Two = 2

-- a record is of one of two versions
abbrev pub IsVersion : ℕ → Type 0
IsVersion version = (version ≡ 1) ⊎ (version ≡ 2)

-- a record has a text where its version is one of the two, and each line has a spelling and is of
-- that version
pub record HasText (script : Script) (written : Record) : Type 0 where
  pub version : IsVersion written.version
  pub spelled : All (HasSpelling script) written.lines
  pub told : All (IsOfVersion written.version) written.lines
