-- When a line of each form is accepted, said of the script so far.
use Rattle.std.specs.Prelude.{◌≡◌, ◌≢◌, ℕ, ◌+◌, ◌<◌, ◌≤◌, ◌^◌, ◌⊎◌, ◌↔◌, true, false, List, length, None, All, Any}
use Rattle.std.specs.List.{list_all}
use Rattle.k42_kinds.specs.Words.{is_visible}
use Rattle.k42_kinds.specs.declared.operation.Op.{Op}
use Rattle.k42_kinds.specs.declared.entry.Act.{Act}
use Rattle.k42_kinds.specs.declared.entry.Act.TheVariants.{Call, Swap}
use Rattle.k42_kinds.specs.declared.operation.Op.TheVariants.{Add, Bind, Write, Read}
use Rattle.k42_limits.specs.declared.TheConstants.{PROCESSORS, OBJECTS, CALLERS, CALL_LINES, SCRIPT_BYTES}
use Rattle.script_text.specs.Acts.{HasWord}
use Rattle.script_text.specs.Forms.{is_reserved}
use Rattle.script_text.specs.Language.{cause_of, NoneOffends}
use Rattle.script_text.specs.Lines.{byte_count}
use Rattle.script_text.specs.Offences.{call_count}
use Rattle.script_text.specs.Sound.{IsActOn, IsCall, IsFreeName, BlocksMatch}
use Rattle.script_text.specs.Spelled.{spaced, line_with, IsInRange}
use Rattle.script_text.specs.Tokens.{is_remark}
use Rattle.script_text.specs.declared.script.ObjectLine.{ObjectLine}
use Rattle.script_text.specs.declared.script.Script.{Script}
use Rattle.script_text.specs.declared.script.WorkerHead.{WorkerHead}

-- visible characters, at least one
abbrev pub IsWord : List ℕ → Type 0
IsWord bytes = (0 < length bytes) × (list_all is_visible bytes ≡ true)

-- The line has these tokens, with one space between each two, and its line feed, or none.
abbrev pub IsLineOf : List (List ℕ) → List ℕ → Type 0
IsLineOf tokens line = (line ≡ line_with tokens) ⊎ (line ≡ spaced tokens)

-- the line behind these ends within the bytes that a script may have
abbrev pub EndsInTime : List (List ℕ) → List ℕ → Type 0
EndsInTime before line = byte_count before + length line ≤ SCRIPT_BYTES

-- Behind lines of which none offends, a line of these tokens offends with no cause exactly where it
-- ends in time and this holds.
abbrev pub IsAcceptedWhere : List (List ℕ) → List (List ℕ) → Type 0 → Type 0
IsAcceptedWhere before tokens Holds =
    NoneOffends before → All IsWord tokens → (line : List ℕ) → IsLineOf tokens line
    → (cause_of before line ≡ None) ↔ (EndsInTime before line × Holds)

-- each activity that a worker began has ended
abbrev pub IsOutside : Script → Type 0
IsOutside script = All (λ worker. BlocksMatch false worker.items false) script.workers

-- a worker began an activity that has not ended
abbrev pub IsInside : Script → Type 0
IsInside script = Any (λ worker. BlocksMatch false worker.items true) script.workers

-- It is the first to say how many processors there are: 1 to 8.
pub record MayDeclareProcessors (script : Script) (procs : ℕ) : Type 0 where
  pub first : script.procs ≡ 0
  pub some : 1 ≤ procs
  pub few : procs ≤ PROCESSORS

-- Processors are declared, the name is new and may be declared, and there is room for an object more.
-- An activity may be open.
pub record MayDeclareObject (script : Script) (object : ObjectLine) : Type 0 where
  pub processors : 0 < script.procs
  pub name : IsFreeName object.name
  pub new : All (λ other. other.name ≢ object.name) script.objects
  pub room : length script.objects < OBJECTS

-- The processor is one of those declared, the name is new and may be declared, there is room for a
-- worker more, and no activity is open.
pub record MayDeclareWorker (script : Script) (worker : WorkerHead) : Type 0 where
  pub processor : worker.proc < script.procs
  pub name : IsFreeName worker.name
  pub new : All (λ other. other.name ≢ worker.name) script.workers
  pub room : length script.workers < CALLERS
  pub outside : IsOutside script

-- Processors are declared, a worker stands before, and no activity is open.
pub record MayBegin (script : Script) : Type 0 where
  pub processors : 0 < script.procs
  pub worker : 0 < length script.workers
  pub outside : IsOutside script

-- Processors are declared, a worker stands before, and an activity is open.
pub record MayEnd (script : Script) : Type 0 where
  pub processors : 0 < script.procs
  pub worker : 0 < length script.workers
  pub inside : IsInside script

-- the object has this name, and its kind takes the act
pub record TakesAct (name : List ℕ) (act : Act Op) (object : ObjectLine) : Type 0 where
  pub named : object.name ≡ name
  pub takes : IsActOn object.kind act

-- Processors are declared, the object is declared and its kind takes the act, each number, key and
-- text is in its range, a worker stands before, there is room for a line more that asks something,
-- and no swap stands in an open activity.
pub record MayAsk (script : Script) (name : List ℕ) (act : Act Op) : Type 0 where
  pub processors : 0 < script.procs
  pub declared : Any (TakesAct name act) script.objects
  pub in_range : IsInRange act
  pub worker : 0 < length script.workers
  pub room : call_count script < CALL_LINES
  pub in_place : IsCall act ⊎ IsOutside script

-- A word that a call line may begin with: it begins no other form, and no remark.
pub record BeginsCall (word : List ℕ) : Type 0 where
  pub free : is_reserved word ≡ false
  pub said : is_remark word ≡ false

-- its numbers have at most 64 bits, and what a swap is to has a word
abbrev pub HasShortNumbers : Act Op → Type 0
HasShortNumbers (Call (Add amount)) = amount < 2 ^ 64
HasShortNumbers (Call (Bind key number)) = number < 2 ^ 64
HasShortNumbers (Call (Write page text)) = page < 2 ^ 64
HasShortNumbers (Call (Read page)) = page < 2 ^ 64
HasShortNumbers (Call _) = Unit {0}
HasShortNumbers (Swap to) = HasWord to
