-- What a form has to write, and what is kept.
use Rattle.std.specs.Prelude.{◌≡◌, ℕ, ◌<◌, ⊤, List, Option, Some, IfSome, length}
use Rattle.script_text.specs.Language.{byte_limit}
use Rattle.script_text.specs.declared.script.Script.{Script}
use Rattle.record_text.specs.Histories.{history_text}
use Rattle.co_system.specs.Systems.{HistorySeen}
use Rattle.k42_input.specs.Verdicts.{input_limit}
use Rattle.k42_cli.specs.Program.{IsRun, IsLoadDue, IsDue, HasRead}
use Rattle.k42_cli.specs.declared.words.Form.{Form}
use Rattle.k42_cli.specs.declared.words.Form.TheVariants.{Run, Check, Load}
use Rattle.k42_cli.specs.declared.output.Output.{Output}
use Rattle.k42_input.specs.declared.status.Status.{Status}
use Rattle.k42_input.specs.declared.status.Status.TheVariants as statuses

-- the first byte that the input for a form may not have, counted from 1; a load has no input
abbrev pub limit_of : Form → ℕ
limit_of (Run way) = byte_limit
limit_of Check = input_limit
limit_of (Load steps) = 0

-- the input ended before its limit, where a form has one
abbrev pub IsShort : Form → List ℕ → Type 0
IsShort (Run way) bytes = length bytes < byte_limit
IsShort Check bytes = length bytes < input_limit
IsShort (Load steps) bytes = ⊤

-- The text is the record of a run of the script, whose history is held.
pub record IsRecorded (script : Script) (version : ℕ) (output : Output) : Type 0 where
  pub status : output.status ≡ statuses.Ok
  pub history : HistorySeen
  pub ran : IsRun script history
  pub text : output.text.items ≡ history_text script history.entries version
  pub held : output.history ≡ Some history

-- The generated script was run and its history summed up.
pub record IsSummedUp (steps : ℕ) (output : Output) : Type 0 where
  pub status : output.status ≡ statuses.Ok
  pub due : IsLoadDue steps output.text.items output.history

-- The output is due for the bytes that the source had left, and the work was done only where its
-- input was read to the end.
pub record IsWorkedOut (form : Form) (left left_after : Option (List ℕ)) (status : Status)
    (output : List ℕ) (history : Option HistorySeen) : Type 0 where
  pub bytes : List ℕ
  pub told : IfSome left (λ before. before ≡ bytes)
  pub due : IsDue (Some form) bytes status output history
  pub consumed : status ≡ statuses.Ok → HasRead form left left_after

-- where the work was done its history is kept
abbrev pub kept_after : Status → Option HistorySeen → Option HistorySeen → Option HistorySeen
kept_after statuses.Ok history kept = history
kept_after status history kept = kept
