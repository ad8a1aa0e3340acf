-- Which histories a script may have.
use Rattle.std.specs.Prelude.{◌≡◌, ℕ, ◌+◌, ◌<◌, List, [], ◌∷◌, length, map, All, Some, slice_get}
use Rattle.std.specs.List.{AllZip}
use Rattle.k42_kinds.specs.declared.operation.KindName.{KindName}
use Rattle.k42_kinds.specs.declared.operation.Op.{Op}
use Rattle.k42_kinds.specs.declared.operation.Reply.{Reply}
use Rattle.k42_kinds.specs.declared.entry.Act.{Act}
use Rattle.k42_kinds.specs.declared.entry.Answer.{Answer}
use Rattle.k42_kinds.specs.declared.entry.Answer.TheVariants.{Abandoned}
use Rattle.k42_kinds.specs.declared.entry.Entry.{Entry}
use Rattle.k42_kinds.specs.Histories.{entries_of, IsInOrder}
use Rattle.k42_kinds.specs.Legal.{IsLegalHistory}
use Rattle.script_text.specs.declared.script.CallLine.{CallLine}
use Rattle.script_text.specs.declared.script.Item.{Item}
use Rattle.script_text.specs.declared.script.Item.TheVariants.{Begin, End, Line}
use Rattle.script_text.specs.declared.script.Script.{Script}
use Rattle.script_text.specs.declared.script.WorkerLines.{WorkerLines}

-- the kinds of a script's objects
abbrev pub kinds_of : Script → List KindName
kinds_of script = map (λ object. object.kind) script.objects

-- the lines among a worker's items that ask something of an object
abbrev pub call_lines : List Item → List CallLine
call_lines [] = []
call_lines (Begin ∷ items) = call_lines items
call_lines (End ∷ items) = call_lines items
call_lines (Line line ∷ items) = line ∷ call_lines items

-- what was asked of which object, and at which place among the caller's entries
pub record Deed : Type 0 where
  pub index : ℕ
  pub object : ℕ
  pub act : Act Op

-- what an entry says was asked
abbrev pub deed_of : Entry Op Reply → Deed
deed_of entry = record { index = entry.index; object = entry.object; act = entry.act }

-- what the lines ask, counted on from this place
abbrev pub deeds_from : ℕ → List CallLine → List Deed
deeds_from index [] = []
deeds_from index (line ∷ lines) =
    record { index = index; object = line.object; act = line.act } ∷ deeds_from (index + 1) lines

-- the answer is not that of a swap that was given up
abbrev pub IsNotGivenUp : Answer Reply → Type 0
IsNotGivenUp (Abandoned number) = ⊥
IsNotGivenUp _ = Unit {0}

-- The worker of this number does what its lines ask, each once and in their order.
abbrev pub DoesItsLines : List (Entry Op Reply) → ℕ → WorkerLines → Type 0
DoesItsLines history number worker =
    map deed_of (entries_of number history) ≡ deeds_from 0 (call_lines worker.items)

-- the entry has the object and the act of the line
pub record IsOfLine (line : CallLine) (entry : Entry Op Reply) : Type 0 where
  pub object : entry.object ≡ line.object
  pub act : entry.act ≡ line.act

-- The entries of the worker of this number are in order for a list with one entry for each of these
-- lines.
pub record DoesInOrder (history : List (Entry Op Reply)) (number : ℕ) (lines : List CallLine) : Type 0 where
  pub list : List (Entry Op Reply)
  pub of_lines : AllZip IsOfLine lines list
  pub in_order : IsInOrder history number list

-- A history is lawful for a script where it is a legal history of the script's objects in which
-- each worker does what its lines ask, nobody else does anything, and no swap was given up.
pub record IsLawful (script : Script) (history : List (Entry Op Reply)) : Type 0 where
  pub legal : IsLegalHistory (kinds_of script) history
  pub in_order : (number : ℕ) (worker : WorkerLines) → slice_get script.workers number ≡ Some worker
      → DoesItsLines history number worker
  pub no_stranger : All (λ entry. entry.caller < length script.workers) history
  pub none_given_up : All (λ entry. IsNotGivenUp entry.answer) history
