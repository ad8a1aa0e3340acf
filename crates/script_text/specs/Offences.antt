-- When a line that says something is refused, after the lines that made this script.
use Rattle.std.specs.Prelude.{ℕ, Bool, true, false, not, ◌&&◌, ◌==◌, nat_le, List, [], ◌∷◌, length, map, sum_by, position, Option, Some, None, is_none, slice_get}
use Rattle.std.specs.List.{list_any}
use Rattle.std.specs.Option.{option_and_then}
use Rattle.std.specs.Str.{bytes_eq}
use Rattle.k42_kinds.specs.declared.operation.KindName.{KindName}
use Rattle.k42_kinds.specs.declared.operation.KindName.TheVariants.{Counter, Directory, Pages}
use Rattle.k42_kinds.specs.Operations.{same_kind}
use Rattle.k42_limits.specs.declared.TheConstants.{OBJECTS, CALLERS, CALL_LINES}
use Rattle.script_text.specs.Lawful.{kinds_of, call_lines}
use Rattle.script_text.specs.Forms.{begins_procs}
use Rattle.script_text.specs.declared.form.Form.{Form}
use Rattle.script_text.specs.declared.form.Form.TheVariants as forms
use Rattle.script_text.specs.declared.form.Request.{Request}
use Rattle.script_text.specs.declared.form.Request.TheVariants.{Swap, Add, Get, Drain, Bind, Find, Unbind, Size, Write, Read, Dirty, Clean, Seen}
use Rattle.script_text.specs.declared.script.Item.{Item}
use Rattle.script_text.specs.declared.script.Item.TheVariants as items
use Rattle.script_text.specs.declared.script.Script.{Script}
use Rattle.script_text.specs.declared.script.WorkerLines.{WorkerLines}

-- how many lines of a script ask something of an object
abbrev pub call_count : Script → ℕ
call_count script = sum_by (λ worker. length (call_lines worker.items)) script.workers

abbrev pub object_names : Script → List (List ℕ)
object_names script = map (λ object. object.name) script.objects

abbrev pub worker_names : Script → List (List ℕ)
worker_names script = map (λ worker. worker.name) script.workers

-- whether the name is one of these
abbrev pub is_among : List (List ℕ) → Option (List ℕ) → Bool
is_among names (Some name) = list_any (bytes_eq name) names
is_among names None = false

-- the place of the name among these
abbrev pub place_among : List (List ℕ) → Option (List ℕ) → Option ℕ
place_among names (Some name) = position (bytes_eq name) names
place_among names None = None

-- whether an activity is open after these items, where one is open before them or not
abbrev pub is_open_behind : Bool → List Item → Bool
is_open_behind in_block [] = in_block
is_open_behind in_block (items.Begin ∷ rest) = is_open_behind true rest
is_open_behind in_block (items.End ∷ rest) = is_open_behind false rest
is_open_behind in_block (items.Line line ∷ rest) = is_open_behind in_block rest

-- whether the last of the workers has an activity open
abbrev pub is_last_open : List WorkerLines → Bool
is_last_open [] = false
is_last_open (worker ∷ []) = is_open_behind false worker.items
is_last_open (worker ∷ other ∷ workers) = is_last_open (other ∷ workers)

abbrev pub is_in_block : Script → Bool
is_in_block script = is_last_open script.workers

-- a number of the request is not of the form or not in its range
abbrev pub lacks_number : Request → Bool
lacks_number (Add amount) = is_none amount
lacks_number (Bind key number) = is_none number
lacks_number (Write page text) = is_none page
lacks_number (Read page) = is_none page
lacks_number _ = false

-- its key is no name, or its text is too long
abbrev pub lacks_word : Request → Bool
lacks_word (Bind key number) = is_none key
lacks_word (Find key) = is_none key
lacks_word (Unbind key) = is_none key
lacks_word (Write page text) = is_none text
lacks_word _ = false

-- the kind of object that takes the request; any can be swapped, and asked what it has seen
abbrev pub kind_asked : Request → Option KindName
kind_asked (Swap to) = None
kind_asked (Add amount) = Some Counter
kind_asked Get = Some Counter
kind_asked Drain = Some Counter
kind_asked (Bind key number) = Some Directory
kind_asked (Find key) = Some Directory
kind_asked (Unbind key) = Some Directory
kind_asked Size = Some Directory
kind_asked (Write page text) = Some Pages
kind_asked (Read page) = Some Pages
kind_asked Dirty = Some Pages
kind_asked Clean = Some Pages
kind_asked Seen = None

-- a swap, which may not stand in an activity
abbrev pub is_swap : Request → Bool
is_swap (Swap to) = true
is_swap _ = false

-- the kind that is asked is not the object's
abbrev pub is_another_kind : Option KindName → Option KindName → Bool
is_another_kind (Some asked) (Some kind) = not (same_kind asked kind)
is_another_kind _ _ = false

-- no line of processors stands before it, and it does not begin as one
abbrev pub wants_procs : Script → List (List ℕ) → Bool
wants_procs script tokens = (script.procs == 0) && not (begins_procs tokens)

-- it is a second line of processors, or has no form of the language
abbrev pub is_unknown : Script → Option Form → Bool
is_unknown script None = true
is_unknown script (Some (forms.Procs number)) = not (script.procs == 0)
is_unknown script (Some _) = false

-- one of its numbers is none, or not in its range
abbrev pub has_bad_number : Form → Bool
has_bad_number (forms.Procs number) = is_none number
has_bad_number (forms.Worker name proc) = is_none proc
has_bad_number (forms.Asks object request) = lacks_number request
has_bad_number _ = false

-- a name that it declares may not be declared, its key is no name, or its text is too long
abbrev pub has_bad_name : Form → Bool
has_bad_name (forms.Object name kind layout) = is_none name
has_bad_name (forms.Worker name proc) = is_none name
has_bad_name (forms.Asks object request) = lacks_word request
has_bad_name _ = false

-- the name that it declares is one already
abbrev pub declares_again : Script → Form → Bool
declares_again script (forms.Object name kind layout) = is_among (object_names script) name
declares_again script (forms.Worker name proc) = is_among (worker_names script) name
declares_again script _ = false

-- the object that it asks is not declared
abbrev pub asks_unknown_object : Script → Form → Bool
asks_unknown_object script (forms.Asks object request) = not (is_among (object_names script) object)
asks_unknown_object script _ = false

-- the kind of the object of this name
abbrev pub kind_of_named : Script → Option (List ℕ) → Option KindName
kind_of_named script object =
    option_and_then (slice_get (kinds_of script)) (place_among (object_names script) object)

-- it asks for an operation of another kind
abbrev pub asks_other_kind : Script → Form → Bool
asks_other_kind script (forms.Asks object request) =
    is_another_kind (kind_asked request) (kind_of_named script object)
asks_other_kind script _ = false

-- no worker is declared whose line it could be
abbrev pub wants_worker : Script → Form → Bool
wants_worker script forms.Begin = length script.workers == 0
wants_worker script forms.End = length script.workers == 0
wants_worker script (forms.Asks object request) = length script.workers == 0
wants_worker script _ = false

-- it is an object, a worker or a line that asks something, and there may be no more of them
abbrev pub is_too_many : Script → Form → Bool
is_too_many script (forms.Object name kind layout) = nat_le OBJECTS (length script.objects)
is_too_many script (forms.Worker name proc) = nat_le CALLERS (length script.workers)
is_too_many script (forms.Asks object request) = nat_le CALL_LINES (call_count script)
is_too_many script _ = false

-- it may not stand in an activity and does, or `end` stands in none
abbrev pub breaks_block : Script → Form → Bool
breaks_block script (forms.Worker name proc) = is_in_block script
breaks_block script forms.Begin = is_in_block script
breaks_block script forms.End = not (is_in_block script)
breaks_block script (forms.Asks object request) = is_in_block script && is_swap request
breaks_block script _ = false
