-- What the program is to do for its words and its input.
use Rattle.std.specs.Prelude.{◌≡◌, ℕ, ◌<◌, ◌⊎◌, Bool, true, false, List, ◌++◌, codes, Option, Some, None, Result, Ok, Err}
use Rattle.std.specs.Fmt.{decimal}
use Rattle.script_text.specs.Generated.{generated}
use Rattle.script_text.specs.Language.{parsed}
use Rattle.script_text.specs.Lawful.{IsLawful}
use Rattle.script_text.specs.declared.fault.ScriptFault.{ScriptFault}
use Rattle.script_text.specs.declared.script.Script.{Script}
use Rattle.record_text.specs.Histories.{record_of, history_text}
use Rattle.record_text.specs.Rules.{IsLawfulRecord}
use Rattle.record_text.specs.Spelling.{IsVersion, HasText}
use Rattle.k42_io.specs.Sink.{Grows, GrowsByFront}
use Rattle.co_system.specs.Systems.{HistorySeen}
use Rattle.k42_workers.specs.Plans.{plan_due}
use Rattle.load_totals.specs.Loads.{summary_due, summary_of, tallied}
use Rattle.load_totals.specs.declared.totals.Summary.{Summary}
use Rattle.k42_input.specs.Separation.{script_part}
use Rattle.k42_input.specs.Dues.{IsRefusalDue, IsCheckDue, CompletesCheck}
use Rattle.k42_input.specs.Ends.{Ends, IsQuiet, Told, IsConsumed, IsUnread, FailsToRead, LacksMemory}
use Rattle.k42_cli.specs.Words.{version_of}
use Rattle.k42_cli.specs.declared.words.Form.{Form}
use Rattle.k42_cli.specs.declared.words.Form.TheVariants.{Run, Check, Load}
use Rattle.k42_input.specs.declared.status.Status.{Status}
use Rattle.k42_input.specs.declared.status.Status.TheVariants as statuses

-- the line that names the forms
abbrev pub usage_line : List ℕ
usage_line = codes "usage: k42 run [2 | tasks] | k42 check | k42 load N\n"

-- a word and a number behind it, each with a space in front
abbrev pub counted : List ℕ → ℕ → List ℕ
counted word number = codes " " ++ word ++ codes " " ++ decimal number

-- `load N calls C total T names B dirty D swaps S`
abbrev pub load_line : ℕ → Summary → List ℕ
load_line steps sums =
    codes "load " ++ decimal steps ++ counted (codes "calls") sums.calls
    ++ counted (codes "total") sums.total ++ counted (codes "names") sums.names
    ++ counted (codes "dirty") sums.dirty ++ counted (codes "swaps") sums.swaps ++ codes "\n"

-- The history of a run of the script: it is lawful and has the script's plan. In either version its
-- record has a text, and is lawful in all that it tells, processors and generations too.
pub record IsRun (script : Script) (history : HistorySeen) : Type 0 where
  pub lawful : IsLawful script history.entries
  pub plan : history.plan ≡ plan_due script
  pub spelled : (version : ℕ) → IsVersion version →
      HasText script (record_of script history.entries version)
  pub judged : (version : ℕ) → IsLawfulRecord script (record_of script history.entries version)

-- The bytes are a script, the output is the record of one run of it, and the history of this run is
-- kept.
pub record IsRecordDue (version : ℕ) (bytes output : List ℕ) (kept : Option HistorySeen)
    : Type 0 where
  pub script : Script
  pub history : HistorySeen
  pub accepted : parsed bytes ≡ Ok script
  pub ran : IsRun script history
  pub text : output ≡ history_text script history.entries version
  pub held : kept ≡ Some history

-- The generated script of so many steps was run, the output is the line of its five numbers, to
-- which the history of this run comes, and that history is kept.
pub record IsLoadDue (steps : ℕ) (output : List ℕ) (kept : Option HistorySeen) : Type 0 where
  pub history : HistorySeen
  pub ran : IsRun (generated steps) history
  pub sums : summary_of (tallied history.entries) ≡ summary_due steps
  pub text : output ≡ load_line steps (summary_due steps)
  pub held : kept ≡ Some history

-- what is due for a script that is to be run
abbrev pub IsRunDue : ℕ → List ℕ → Status → List ℕ → Option HistorySeen → Type 0
IsRunDue version bytes statuses.Ok output kept = IsRecordDue version bytes output kept
IsRunDue version bytes statuses.Refused output kept = IsRefusalDue bytes output × (kept ≡ None)
IsRunDue version bytes _ output kept = ⊥

-- The output that is due for what the words ask and for the bytes, the status with it, and the
-- history that is then kept: that of a run, and else none.
abbrev pub IsDue : Option Form → List ℕ → Status → List ℕ → Option HistorySeen → Type 0
IsDue (Some (Run way)) bytes status output kept = IsRunDue (version_of way) bytes status output kept
IsDue (Some Check) bytes status output kept = IsCheckDue bytes status output × (kept ≡ None)
IsDue (Some (Load steps)) bytes status output kept =
    (status ≡ statuses.Ok) × IsLoadDue steps output kept
IsDue None bytes status output kept =
    (status ≡ statuses.Usage) × (output ≡ usage_line) × (kept ≡ None)

-- where the work was done its input was read to the end; that of a load was not touched
abbrev pub HasRead : Form → Option (List ℕ) → Option (List ℕ) → Type 0
HasRead (Run way) left left_after = IsConsumed left left_after
HasRead Check left left_after = IsConsumed left left_after
HasRead (Load steps) left left_after = left_after ≡ left

-- The output that is due with this status was written whole, its history was kept, and nothing
-- failed.
pub record WritesDue (form : Option Form) (ends : Ends) (kept : Option HistorySeen)
    (status : Status) : Type 0 where
  pub bytes : List ℕ
  pub output : List ℕ
  pub told : Told ends bytes
  pub due : IsDue form bytes status output kept
  pub written : Grows ends.taken ends.taken_after output
  pub quiet : IsQuiet ends

-- A write failed and no read did, and the front of an output that was due was written.
pub record FailsToWrite (form : Option Form) (ends : Ends) : Type 0 where
  pub fault : ends.write_faults < ends.write_faults_after
  pub reads : ends.read_faults_after ≡ ends.read_faults
  pub bytes : List ℕ
  pub status : Status
  pub output : List ℕ
  pub history : Option HistorySeen
  pub told : Told ends bytes
  pub due : IsDue form bytes status output history
  pub written : GrowsByFront ends.taken ends.taken_after output

-- What each status says of the ends and of the history that was kept. Words that are no form read
-- nothing.
abbrev pub Says : Option Form → Ends → Option HistorySeen → Status → Type 0
Says (Some form) ends kept statuses.Ok =
    WritesDue (Some form) ends kept statuses.Ok × HasRead form ends.left ends.left_after
Says (Some form) ends kept statuses.Unlawful = WritesDue (Some form) ends kept statuses.Unlawful
Says (Some form) ends kept statuses.Refused = WritesDue (Some form) ends kept statuses.Refused
Says (Some form) ends kept statuses.ReadFault = FailsToRead ends
Says (Some form) ends kept statuses.WriteFault = FailsToWrite (Some form) ends
Says (Some form) ends kept statuses.Memory = LacksMemory ends
Says None ends kept statuses.Usage = WritesDue None ends kept statuses.Usage × IsUnread ends
Says None ends kept statuses.WriteFault = FailsToWrite None ends × IsUnread ends
Says _ _ _ _ = ⊥

-- a history is kept exactly where a run was done and its output written whole
abbrev pub keeps : Option Form → Status → Bool
keeps (Some (Run way)) statuses.Ok = true
keeps (Some (Load steps)) statuses.Ok = true
keeps _ _ = false

-- a run ends with its record or with its refusal, unless memory ran out
abbrev pub CompletesRun : Result Script ScriptFault → Status → Type 0
CompletesRun (Ok script) status = (status ≡ statuses.Ok) ⊎ (status ≡ statuses.Memory)
CompletesRun (Err fault) status = (status ≡ statuses.Refused) ⊎ (status ≡ statuses.Memory)

-- What the program answers where no fault came: a script that is accepted is run or judged by, one
-- that is refused is refused, a load is done, else memory ran out; and words that are no form name
-- the forms.
abbrev pub Completes : Option Form → List ℕ → Status → Type 0
Completes (Some (Run way)) bytes status = CompletesRun (parsed bytes) status
Completes (Some Check) bytes status = CompletesCheck (parsed (script_part bytes)) status
Completes (Some (Load steps)) bytes status = (status ≡ statuses.Ok) ⊎ (status ≡ statuses.Memory)
Completes None bytes status = status ≡ statuses.Usage
