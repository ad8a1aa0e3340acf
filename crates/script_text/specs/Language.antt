-- Which texts are a script, which script it is, and which line is refused, and why.
use Rattle.std.specs.Prelude.{◌≡◌, ℕ, ◌+◌, Bool, false, not, ◌&&◌, ◌==◌, max, if◌then◌else◌, List, [], ◌∷◌, ◌++◌, length, Option, Some, None, Result, Ok, Err}
use Rattle.k42_kinds.specs.declared.operation.Op.{Op}
use Rattle.k42_kinds.specs.declared.operation.Op.TheVariants as operations
use Rattle.k42_kinds.specs.declared.entry.Act.{Act}
use Rattle.k42_kinds.specs.declared.entry.Act.TheVariants as acts
use Rattle.k42_limits.specs.declared.TheConstants.{SCRIPT_BYTES}
use Rattle.script_text.specs.Lines.{lines_of, text_of, is_printable_text, holds_byte}
use Rattle.script_text.specs.Tokens.{tokens_of, says_nothing}
use Rattle.script_text.specs.Forms.{form_of}
use Rattle.script_text.specs.Offences.{object_names, place_among, is_in_block, wants_procs, is_unknown, has_bad_number, has_bad_name, declares_again, asks_unknown_object, asks_other_kind, wants_worker, is_too_many, breaks_block}
use Rattle.script_text.specs.declared.form.Form.{Form}
use Rattle.script_text.specs.declared.form.Form.TheVariants as forms
use Rattle.script_text.specs.declared.form.Request.{Request}
use Rattle.script_text.specs.declared.form.Request.TheVariants.{Swap, Add, Get, Drain, Bind, Find, Unbind, Size, Write, Read, Dirty, Clean, Seen}
use Rattle.script_text.specs.declared.script.Script.{Script}
use Rattle.script_text.specs.declared.script.ObjectLine.{ObjectLine}
use Rattle.script_text.specs.declared.script.WorkerHead.{WorkerHead}
use Rattle.script_text.specs.declared.script.WorkerLines.{WorkerLines}
use Rattle.script_text.specs.declared.script.Item.{Item}
use Rattle.script_text.specs.declared.script.Item.TheVariants as items
use Rattle.script_text.specs.declared.fault.ScriptCause.{ScriptCause}
use Rattle.script_text.specs.declared.fault.ScriptCause.TheVariants.{ProcsExpected, UnknownWord, BadNumber, BadName, NameTwice, UnknownObject, WrongKind, WorkerExpected, TooMany, BlockFault, TooLong, BadByte}
use Rattle.script_text.specs.declared.fault.ScriptFault.{ScriptFault}

-- the number of the first byte that is one too many for a script, counted from 1
abbrev pub byte_limit : ℕ
byte_limit = SCRIPT_BYTES + 1

-- the act that a request spells, where no part of it is missing
abbrev pub act_of : Request → Option (Act Op)
act_of (Swap to) = Some (acts.Swap to)
act_of (Add (Some amount)) = Some (acts.Call (operations.Add amount))
act_of Get = Some (acts.Call operations.Get)
act_of Drain = Some (acts.Call operations.Drain)
act_of (Bind (Some key) (Some number)) = Some (acts.Call (operations.Bind key number))
act_of (Find (Some key)) = Some (acts.Call (operations.Find key))
act_of (Unbind (Some key)) = Some (acts.Call (operations.Unbind key))
act_of Size = Some (acts.Call operations.Size)
act_of (Write (Some page) (Some text)) = Some (acts.Call (operations.Write page text))
act_of (Read (Some page)) = Some (acts.Call (operations.Read page))
act_of Dirty = Some (acts.Call operations.Dirty)
act_of Clean = Some (acts.Call operations.Clean)
act_of Seen = Some (acts.Call operations.Seen)
act_of _ = None

-- the item stands last among those of the last worker
abbrev pub with_item : Item → List WorkerLines → List WorkerLines
with_item item [] = []
with_item item (worker ∷ []) = record worker { items = worker.items ++ item ∷ [] } ∷ []
with_item item (worker ∷ other ∷ workers) = worker ∷ with_item item (other ∷ workers)

-- the script with one more object
abbrev pub with_object : Script → ObjectLine → Script
with_object script object = record script { objects = script.objects ++ object ∷ [] }

-- the script with one more worker, that has no items yet
abbrev pub with_worker : Script → WorkerHead → Script
with_worker script worker = record script {
  workers = script.workers ++ record { name = worker.name; proc = worker.proc; items = [] } ∷ [];
}

-- the script whose last worker has one more item
abbrev pub with_last_item : Script → Item → Script
with_last_item script item = record script { workers = with_item item script.workers }

-- the last worker asks the object of this place for this, on the line of this number
abbrev pub with_call : Script → ℕ → Option ℕ → Option (Act Op) → Script
with_call script number (Some object) (Some act) =
    with_last_item script (items.Line (record { line = number; object = object; act = act }))
with_call script number _ _ = script

-- the same, where the object and the act are as the line spells them
abbrev pub with_request : Script → ℕ → Option (List ℕ) → Request → Script
with_request script number object request =
    with_call script number (place_among (object_names script) object) (act_of request)

-- the script with one more line, of this number and this form
abbrev pub with_form : Script → ℕ → Form → Script
with_form script number (forms.Procs (Some procs)) = record script { procs = procs }
with_form script number (forms.Object (Some name) kind layout) =
    with_object script (record { name = name; kind = kind; layout = layout })
with_form script number (forms.Worker (Some name) (Some proc)) =
    with_worker script (record { name = name; proc = proc })
with_form script number forms.Begin = with_last_item script items.Begin
with_form script number forms.End = with_last_item script items.End
with_form script number (forms.Asks object request) = with_request script number object request
with_form script number _ = script

-- the same, where the line has a form
abbrev pub with_said : Script → ℕ → Option Form → Script
with_said script number (Some form) = with_form script number form
with_said script number None = script

-- the script with one more line, of this number and with this text
abbrev pub with_line : Script → ℕ → List ℕ → Script
with_line script number text =
    if says_nothing (tokens_of text) then script
    else with_said script number (form_of script.procs (tokens_of text))

-- the script with more lines, of which the first has this number
abbrev pub with_lines : Script → ℕ → List (List ℕ) → Script
with_lines script number [] = script
with_lines script number (line ∷ lines) =
    with_lines (with_line script number (text_of line)) (number + 1) lines

-- before the first line there are no processors
abbrev pub no_script : Script
no_script = record { procs = 0; objects = []; workers = [] }

-- the script that these lines spell
abbrev pub script_after : List (List ℕ) → Script
script_after lines = with_lines no_script 1 lines

-- there is a form, and this is true of it
abbrev pub has_form_that : (Form → Bool) → Option Form → Bool
has_form_that test (Some form) = test form
has_form_that test None = false

-- whether a line with these tokens is refused for this cause, behind the lines of this script
abbrev pub is_refused_for : Script → List (List ℕ) → Option Form → ScriptCause → Bool
is_refused_for script tokens form ProcsExpected = wants_procs script tokens
is_refused_for script tokens form UnknownWord = is_unknown script form
is_refused_for script tokens form BadNumber = has_form_that has_bad_number form
is_refused_for script tokens form BadName = has_form_that has_bad_name form
is_refused_for script tokens form NameTwice = has_form_that (declares_again script) form
is_refused_for script tokens form UnknownObject = has_form_that (asks_unknown_object script) form
is_refused_for script tokens form WrongKind = has_form_that (asks_other_kind script) form
is_refused_for script tokens form WorkerExpected = has_form_that (wants_worker script) form
is_refused_for script tokens form TooMany = has_form_that (is_too_many script) form
is_refused_for script tokens form BlockFault = has_form_that (breaks_block script) form
is_refused_for script tokens form TooLong = false
is_refused_for script tokens form BadByte = false

-- the same of the tokens alone
abbrev pub refuses : Script → List (List ℕ) → ScriptCause → Bool
refuses script tokens = is_refused_for script tokens (form_of script.procs tokens)

-- A line offends by a cause, after the lines before it, where it holds the first byte that is too
-- many, or has a byte that may not stand in a script, or says what is refused for that cause.
abbrev pub offends_by : List (List ℕ) → List ℕ → ScriptCause → Bool
offends_by before line TooLong = holds_byte byte_limit before line
offends_by before line BadByte = not (is_printable_text (text_of line))
offends_by before line cause =
    not (says_nothing (tokens_of (text_of line)))
    && refuses (script_after before) (tokens_of (text_of line)) cause

-- the causes for which a form is refused, in the order in which they are tested
abbrev pub causes_of_form : List ScriptCause
causes_of_form =
    UnknownWord ∷ BadNumber ∷ BadName ∷ NameTwice ∷ UnknownObject ∷ WrongKind ∷ WorkerExpected
    ∷ TooMany ∷ BlockFault ∷ []

-- all causes, in that order
abbrev pub causes : List ScriptCause
causes = TooLong ∷ BadByte ∷ ProcsExpected ∷ causes_of_form

-- the first of these causes for which the test holds
abbrev pub first_of : (ScriptCause → Bool) → List ScriptCause → Option ScriptCause
first_of test [] = None
first_of test (cause ∷ rest) = if test cause then Some cause else first_of test rest

-- the cause for which the line is refused, if it is
abbrev pub cause_of : List (List ℕ) → List ℕ → Option ScriptCause
cause_of before line = first_of (offends_by before line) causes

-- none of the lines offends after those before it
abbrev pub NoneOffends : List (List ℕ) → Type 0
NoneOffends lines =
    (before : List (List ℕ)) (line : List ℕ) (after : List (List ℕ))
    → lines ≡ before ++ line ∷ after → cause_of before line ≡ None

-- the fault of a line with this number
abbrev pub fault_at : ℕ → ScriptCause → ScriptFault
fault_at number cause = record { line = number; cause = cause }

-- the number of the last line, or 1 where there is none
abbrev pub last_number : List (List ℕ) → ℕ
last_number lines = max (length lines) 1

-- At the end of the input there is a line of processors, and no activity is open; else the last
-- line is refused.
abbrev pub script_at_end : ℕ → Script → Result Script ScriptFault
script_at_end number script =
    if script.procs == 0 then Err (fault_at number ProcsExpected)
    else if is_in_block script then Err (fault_at number BlockFault) else Ok script

-- the line's fault where it is refused, else what the lines after it give
abbrev pub unless_refused : ℕ → Option ScriptCause → Result Script ScriptFault
    → Result Script ScriptFault
unless_refused number (Some cause) next = Err (fault_at number cause)
unless_refused number None next = next

-- The script of these lines, after lines that do not offend; or the fault of the first of them
-- that does.
abbrev pub read_on : List (List ℕ) → List (List ℕ) → Result Script ScriptFault
read_on before [] = script_at_end (last_number before) (script_after before)
read_on before (line ∷ lines) =
    unless_refused (length before + 1) (cause_of before line) (read_on (before ++ line ∷ []) lines)

-- the script that the bytes are, or why they are none
abbrev pub parsed : List ℕ → Result Script ScriptFault
parsed bytes = read_on [] (lines_of bytes)
