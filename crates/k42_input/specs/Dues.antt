-- What is due for a script with a record behind it.
use Rattle.std.specs.Prelude.{◌≡◌, ℕ, ◌⊎◌, List, ◌++◌, codes, Result, Ok, Err}
use Rattle.std.specs.Fmt.{decimal}
use Rattle.script_text.specs.Causes.{cause_word}
use Rattle.script_text.specs.Language.{parsed}
use Rattle.script_text.specs.declared.fault.ScriptFault.{ScriptFault}
use Rattle.script_text.specs.declared.script.Script.{Script}
use Rattle.k42_input.specs.Separation.{script_part}
use Rattle.k42_input.specs.Verdicts.{IsVerdict, verdict_line, status_of}
use Rattle.k42_input.specs.declared.verdict.Verdict.{Verdict}
use Rattle.k42_input.specs.declared.status.Status.{Status}
use Rattle.k42_input.specs.declared.status.Status.TheVariants as statuses

-- `line N: CAUSE`
abbrev pub refusal_line : ScriptFault → List ℕ
refusal_line fault =
    codes "line " ++ decimal fault.line ++ codes ": " ++ cause_word fault.cause ++ codes "\n"

-- The bytes are no script, and the output is the line that says why.
pub record IsRefusalDue (bytes output : List ℕ) : Type 0 where
  pub fault : ScriptFault
  pub refused : parsed bytes ≡ Err fault
  pub text : output ≡ refusal_line fault

-- The script part is a script, and the output is the line that says what is found of the record.
pub record IsVerdictDue (input : List ℕ) (status : Status) (output : List ℕ) : Type 0 where
  pub script : Script
  pub verdict : Verdict
  pub accepted : parsed (script_part input) ≡ Ok script
  pub found : IsVerdict script input verdict
  pub answered : status ≡ status_of verdict
  pub text : output ≡ verdict_line verdict

-- what is due for a record that is to be judged by a script
abbrev pub IsCheckDue : List ℕ → Status → List ℕ → Type 0
IsCheckDue input statuses.Refused output = IsRefusalDue (script_part input) output
IsCheckDue input status output = IsVerdictDue input status output

-- A record is judged or its script refused, unless memory ran out. What is due says which verdict.
abbrev pub CompletesCheck : Result Script ScriptFault → Status → Type 0
CompletesCheck (Ok script) status =
    (status ≡ statuses.Ok) ⊎ (status ≡ statuses.Unlawful) ⊎ (status ≡ statuses.Memory)
CompletesCheck (Err fault) status = (status ≡ statuses.Refused) ⊎ (status ≡ statuses.Memory)
