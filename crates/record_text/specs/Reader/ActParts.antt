-- An act on a declared object, read from the front of the tokens that are left.
use Rattle.std.specs.Prelude.{ℕ, ◌-◌, if◌then◌else◌, List, Option, Some, None, codes, slice_get}
use Rattle.std.specs.List.{position}
use Rattle.std.specs.Str.{bytes_eq}
use Rattle.k42_kinds.specs.declared.operation.KindName.{KindName}
use Rattle.k42_kinds.specs.declared.operation.KindName.TheVariants as kinds
use Rattle.k42_kinds.specs.declared.operation.Op.{Op}
use Rattle.k42_kinds.specs.declared.operation.Op.TheVariants.{Add, Get, Drain, Bind, Find, Unbind, Size, Write, Read, Dirty, Clean, Seen}
use Rattle.k42_kinds.specs.declared.entry.Act.{Act}
use Rattle.k42_kinds.specs.declared.entry.Act.TheVariants.{Call, Swap}
use Rattle.k42_kinds.specs.declared.entry.To.{To}
use Rattle.k42_kinds.specs.declared.entry.To.TheVariants.{Layout, Dead, Watch, Unwatch}
use Rattle.script_text.specs.Lawful.{kinds_of}
use Rattle.k42_limits.specs.declared.TheConstants.{PAGES}
use Rattle.script_text.specs.declared.script.Script.{Script}
use Rattle.record_text.specs.Reader.Parts.{Found, ◌>>=◌, token_at, spelled_at, number_at, name_at, text_at, most_32, most_64}
use Rattle.record_text.specs.declared.reading.acts.Asked.{Asked}

-- an operation without arguments, of which nothing more is read
abbrev pub given_nothing : Op → List (List ℕ) → Found Op
given_nothing op tokens = Some (op, tokens)

-- an operation with one argument
unfoldable pub given : {X : Type 0} → (X → Op) → Found X → Found Op
given op found = do
  argument ← found
  Some (op argument.0, argument.1)

-- `KEY NUMBER` of a `bind`
unfoldable pub binding_at : List (List ℕ) → Found Op
binding_at tokens = do
  key ← name_at tokens
  number ← number_at 0 most_64 key.1
  Some (Bind key.0 number.0, number.1)

-- a page
abbrev pub page_at : List (List ℕ) → Found ℕ
page_at tokens = number_at 0 (PAGES - 1) tokens

-- `PAGE TEXT` of a `write`
unfoldable pub writing_at : List (List ℕ) → Found Op
writing_at tokens = do
  page ← page_at tokens
  text ← text_at page.1
  Some (Write page.0 text.0, text.1)

-- what the operation of this word on a counter is given
abbrev pub counter_operation : List ℕ → List (List ℕ) → Found Op
counter_operation word tokens =
    if bytes_eq word (codes "add") then given Add (number_at 0 most_32 tokens)
    else if bytes_eq word (codes "get") then given_nothing Get tokens
    else if bytes_eq word (codes "drain") then given_nothing Drain tokens
    else None

-- the same on a directory
abbrev pub directory_operation : List ℕ → List (List ℕ) → Found Op
directory_operation word tokens =
    if bytes_eq word (codes "bind") then binding_at tokens
    else if bytes_eq word (codes "find") then given Find (name_at tokens)
    else if bytes_eq word (codes "unbind") then given Unbind (name_at tokens)
    else if bytes_eq word (codes "size") then given_nothing Size tokens
    else None

-- the same on pages
abbrev pub pages_operation : List ℕ → List (List ℕ) → Found Op
pages_operation word tokens =
    if bytes_eq word (codes "write") then writing_at tokens
    else if bytes_eq word (codes "read") then given Read (page_at tokens)
    else if bytes_eq word (codes "dirty") then given_nothing Dirty tokens
    else if bytes_eq word (codes "clean") then given_nothing Clean tokens
    else None

-- the same on an object of a kind
abbrev pub own_operation : KindName → List ℕ → List (List ℕ) → Found Op
own_operation kinds.Counter word tokens = counter_operation word tokens
own_operation kinds.Directory word tokens = directory_operation word tokens
own_operation kinds.Pages word tokens = pages_operation word tokens

-- an operation of the kind, or `seen` of any object
abbrev pub operation_of : KindName → List ℕ → List (List ℕ) → Found Op
operation_of kind word tokens =
    if bytes_eq word (codes "seen") then given_nothing Seen tokens
    else own_operation kind word tokens

-- `OPERATION ARGUMENTS` on an object of a kind
unfoldable pub operation_at : KindName → List (List ℕ) → Found Op
operation_at kind tokens = do
  word ← token_at tokens
  operation_of kind word.0 word.1

-- a swap to the layout of this word
abbrev pub layout_of : List ℕ → Option To
layout_of word =
    if bytes_eq word (codes "shared") then Some (Layout 0)
    else if bytes_eq word (codes "spread") then Some (Layout 1)
    else None

-- what a swap is to: `LAYOUT` of one to a layout
abbrev pub layout_at : List (List ℕ) → Found To
layout_at tokens = spelled_at layout_of tokens

-- of a destroy, a watch and an unwatch the word has said it, and nothing is read
abbrev pub said_before : To → List (List ℕ) → Found To
said_before to tokens = Some (to, tokens)

-- the place, in the script, of the object of this name
abbrev pub object_of : Script → List ℕ → Option ℕ
object_of script name = position (λ object. bytes_eq name object.name) script.objects

-- the place, in the script, of the worker of this name
abbrev pub worker_of : Script → List ℕ → Option ℕ
worker_of script name = position (λ worker. bytes_eq name worker.name) script.workers

-- an act on the object of this place
abbrev pub asked : ℕ → Act Op → Asked
asked object act = record { object = object; act = act }

-- `OBJECT` of a swap, and behind it what the swap is to
unfoldable pub swap_at : Script → (List (List ℕ) → Found To) → List (List ℕ) → Found Asked
swap_at script to_at tokens = do
  object ← spelled_at (object_of script) tokens
  to ← to_at object.1
  Some (asked object.0 (Swap to.0), to.1)

-- `OPERATION ARGUMENTS` of a call of the object of this name
unfoldable pub call_at : Script → List ℕ → List (List ℕ) → Found Asked
call_at script name tokens = do
  object ← object_of script name
  kind ← slice_get (kinds_of script) object
  op ← operation_at kind tokens
  Some (asked object (Call op.0), op.1)

-- the act that begins with this word
abbrev pub act_of : Script → List ℕ → List (List ℕ) → Found Asked
act_of script word tokens =
    if bytes_eq word (codes "swap") then swap_at script layout_at tokens
    else if bytes_eq word (codes "destroy") then swap_at script (said_before Dead) tokens
    else if bytes_eq word (codes "watch") then swap_at script (said_before Watch) tokens
    else if bytes_eq word (codes "unwatch") then swap_at script (said_before Unwatch) tokens
    else call_at script word tokens

-- a swap or a call
unfoldable pub act_at : Script → List (List ℕ) → Found Asked
act_at script tokens = do
  word ← token_at tokens
  act_of script word.0 word.1
