-- What a reader of lines keeps of those that it has read.
use Rattle.std.specs.Prelude.{◌≡◌, ℕ, ◌≤◌, not, if◌then◌else◌, List, [], ◌∷◌, ◌++◌, length, Option, Some, None, Result, Ok, Err}
use Rattle.k42_memory.specs.declared.Memory.{Memory}
use Rattle.k42_limits.specs.declared.TheConstants.{OBJECTS, CALL_LINES}
use Rattle.script_text.specs.Lines.{is_printable_text}
use Rattle.script_text.specs.Tokens.{tokens_of, says_nothing}
use Rattle.script_text.specs.Offences.{object_names, worker_names, place_among, is_in_block, call_count}
use Rattle.script_text.specs.Forms.{form_of}
use Rattle.script_text.specs.Language.{with_said, with_line, first_of, is_refused_for, refuses, causes_of_form}
use Rattle.script_text.specs.declared.form.Form.{Form}
use Rattle.script_text.specs.declared.form.Form.TheVariants.{Asks}
use Rattle.script_text.specs.declared.fault.ScriptCause.{ScriptCause}
use Rattle.script_text.specs.declared.fault.ScriptCause.TheVariants.{ProcsExpected, BadByte}
use Rattle.script_text.specs.declared.script.WorkerHead.{WorkerHead}
use Rattle.script_text.specs.declared.script.Script.{Script}
use Rattle.script_text.specs.declared.script.WorkerLines.{WorkerLines}
use Rattle.script_text.specs.declared.script.Item.{Item}
use Rattle.script_text.specs.declared.reading.Reading.{Reading}

-- the last worker with its items, if there is one
abbrev pub last_worker : Option WorkerHead → List Item → List WorkerLines
last_worker None items = []
last_worker (Some worker) items =
    record { name = worker.name; proc = worker.proc; items = items } ∷ []

-- the script that the reader has read
abbrev pub script_so_far : Reading → Script
script_so_far r = record {
  procs = r.procs;
  objects = r.objects;
  workers = r.workers ++ last_worker r.worker r.items;
}

-- before the first worker there is nothing of workers
abbrev pub StartsEmpty : Option WorkerHead → List WorkerLines → List Item → Type 0
StartsEmpty (Some worker) workers items = Unit {0}
StartsEmpty None workers items = (workers ≡ []) × (items ≡ [])

-- What the reader keeps besides is what its script says.
pub record IsKept (r : Reading) : Type 0 where
  pub objects : r.object_names ≡ object_names (script_so_far r)
  pub workers : r.worker_names ≡ worker_names (script_so_far r)
  pub block : r.in_block ≡ is_in_block (script_so_far r)
  pub asked : r.asked ≡ call_count (script_so_far r)
  pub few : r.asked ≤ CALL_LINES
  pub named : length r.object_names ≤ OBJECTS
  pub start : StartsEmpty r.worker r.workers r.items

-- the reader has read this script
pub record Shows (script : Script) (r : Reading) : Type 0 where
  pub same : script_so_far r ≡ script
  pub kept : IsKept r

-- the place of the object that a line of this form asks
abbrev pub place_asked : Script → Form → Option ℕ
place_asked script (Asks object request) = place_among (object_names script) object
place_asked script _ = None

-- why a line of this form is refused, if it is: none of these causes looks at its tokens
abbrev pub refusal_of_form : Script → Form → Option ScriptCause
refusal_of_form script form = first_of (is_refused_for script [] (Some form)) causes_of_form

-- why a line that says this is refused, if it is
abbrev pub refusal_said : Script → List (List ℕ) → Option ScriptCause
refusal_said script tokens = first_of (refuses script tokens) (ProcsExpected ∷ causes_of_form)

-- why a line of this text is refused, if it is
abbrev pub refusal_of : Script → List ℕ → Option ScriptCause
refusal_of script text =
    if not (is_printable_text text) then Some BadByte
    else if says_nothing (tokens_of text) then None else refusal_said script (tokens_of text)

-- A line of this text, after lines that made this script, is refused, or the reader has read it.
abbrev pub Takes : Script → ℕ → List ℕ → Result (Option ScriptCause) Memory → Reading → Type 0
Takes script number text (Ok (Some cause)) new = refusal_of script text ≡ Some cause
Takes script number text (Ok None) new =
    (refusal_of script text ≡ None) × Shows (with_line script number text) new
Takes script number text (Err memory) new = Unit {0}

-- The same of a line that says something.
abbrev pub TakesSaid : Script → ℕ → List (List ℕ) → Result (Option ScriptCause) Memory → Reading
    → Type 0
TakesSaid script number tokens (Ok (Some cause)) new = refusal_said script tokens ≡ Some cause
TakesSaid script number tokens (Ok None) new =
    (refusal_said script tokens ≡ None)
    × Shows (with_said script number (form_of script.procs tokens)) new
TakesSaid script number tokens (Err memory) new = Unit {0}
