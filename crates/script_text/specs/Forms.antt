-- The forms that a line of a script may have, by its tokens.
use Rattle.std.specs.Prelude.{ℕ, ◌^◌, Bool, false, not, ◌&&◌, if◌then◌else◌, List, [], ◌∷◌, Option, Some, None, option_map, codes}
use Rattle.std.specs.List.{list_any}
use Rattle.std.specs.Str.{bytes_eq}
use Rattle.k42_kinds.specs.Words.{is_name, is_text}
use Rattle.k42_kinds.specs.declared.entry.To.{To}
use Rattle.k42_kinds.specs.declared.entry.To.TheVariants.{Layout, Dead, Watch, Unwatch}
use Rattle.k42_kinds.specs.declared.operation.KindName.{KindName}
use Rattle.k42_kinds.specs.declared.operation.KindName.TheVariants.{Counter, Directory, Pages}
use Rattle.k42_kinds.specs.declared.operation.LayoutName.{LayoutName}
use Rattle.k42_kinds.specs.declared.operation.LayoutName.TheVariants.{Shared, Spread}
use Rattle.k42_kinds.specs.Operations.{layout_number}
use Rattle.k42_limits.specs.declared.TheConstants.{PROCESSORS, PAGES, AMOUNTS}
use Rattle.script_text.specs.Numbers.{number_within, number_below}
use Rattle.script_text.specs.declared.form.Form.{Form}
use Rattle.script_text.specs.declared.form.Form.TheVariants as forms
use Rattle.script_text.specs.declared.form.Head.{Head}
use Rattle.script_text.specs.declared.form.Head.TheVariants as heads
use Rattle.script_text.specs.declared.form.Request.{Request}
use Rattle.script_text.specs.declared.form.Request.TheVariants.{Swap, Add, Get, Drain, Bind, Find, Unbind, Size, Write, Read, Dirty, Clean, Seen}

-- the words that are no name of an object or a worker
abbrev pub is_reserved : List ℕ → Bool
is_reserved word =
    list_any (bytes_eq word)
    (codes "procs" ∷ codes "object" ∷ codes "worker" ∷ codes "begin" ∷ codes "end" ∷ codes "swap"
    ∷ codes "destroy" ∷ codes "watch" ∷ codes "unwatch" ∷ [])

-- the name that a word is, if it is one
abbrev pub name_of : List ℕ → Option (List ℕ)
name_of word = if is_name word then Some word else None

-- the name that a word may declare
abbrev pub free_name : List ℕ → Option (List ℕ)
free_name word = if not (is_reserved word) && is_name word then Some word else None

-- the text of a page that a word is, if it is one
abbrev pub page_text_of : List ℕ → Option (List ℕ)
page_text_of word = if is_text word then Some word else None

-- the number of a page
abbrev pub page_of : List ℕ → Option ℕ
page_of = number_below PAGES

abbrev pub kind_named : List ℕ → Option KindName
kind_named word =
    if bytes_eq word (codes "counter") then Some Counter
    else if bytes_eq word (codes "directory") then Some Directory
    else if bytes_eq word (codes "pages") then Some Pages else None

abbrev pub layout_named : List ℕ → Option LayoutName
layout_named word =
    if bytes_eq word (codes "shared") then Some Shared
    else if bytes_eq word (codes "spread") then Some Spread else None

-- what the first word of a line begins: one of nine forms, or a call of the object of that name
abbrev pub head_of : List ℕ → Head
head_of word =
    if bytes_eq word (codes "procs") then heads.Procs
    else if bytes_eq word (codes "object") then heads.Object
    else if bytes_eq word (codes "worker") then heads.Worker
    else if bytes_eq word (codes "begin") then heads.Begin
    else if bytes_eq word (codes "end") then heads.End
    else if bytes_eq word (codes "swap") then heads.Swap
    else if bytes_eq word (codes "destroy") then heads.Destroy
    else if bytes_eq word (codes "watch") then heads.Watch
    else if bytes_eq word (codes "unwatch") then heads.Unwatch else heads.Call

-- `N`: the number of processors, 1 to 8
abbrev pub procs_form : List (List ℕ) → Option Form
procs_form (number ∷ []) = Some (forms.Procs (number_within 1 PROCESSORS number))
procs_form _ = None

-- an object of this name, where its kind and its layout are known
abbrev pub object_declared : List ℕ → Option KindName → Option LayoutName → Option Form
object_declared name (Some kind) (Some layout) =
    Some (forms.Object (free_name name) kind layout)
object_declared name _ _ = None

-- `NAME KIND LAYOUT`
abbrev pub object_form : List (List ℕ) → Option Form
object_form (name ∷ kind ∷ layout ∷ []) =
    object_declared name (kind_named kind) (layout_named layout)
object_form _ = None

-- `NAME PROC`, where there are so many processors
abbrev pub worker_form : ℕ → List (List ℕ) → Option Form
worker_form procs (name ∷ proc ∷ []) =
    Some (forms.Worker (free_name name) (number_below procs proc))
worker_form procs _ = None

-- a word alone
abbrev pub alone : Form → List (List ℕ) → Option Form
alone form [] = Some form
alone form _ = None

-- `OBJECT LAYOUT`
abbrev pub swap_form : List (List ℕ) → Option Form
swap_form (object ∷ layout ∷ []) =
    option_map (λ named. forms.Asks (name_of object) (Swap (Layout (layout_number named))))
    (layout_named layout)
swap_form _ = None

-- `OBJECT`, to be kept as the first word says
abbrev pub swap_to_form : To → List (List ℕ) → Option Form
swap_to_form to (object ∷ []) = Some (forms.Asks (name_of object) (Swap to))
swap_to_form to _ = None

-- an operation without an argument: `get`, `drain`, `size`, `dirty`, `clean`, `seen`
abbrev pub plain_request : List ℕ → Option Request
plain_request word =
    if bytes_eq word (codes "get") then Some Get
    else if bytes_eq word (codes "drain") then Some Drain
    else if bytes_eq word (codes "size") then Some Size
    else if bytes_eq word (codes "dirty") then Some Dirty
    else if bytes_eq word (codes "clean") then Some Clean
    else if bytes_eq word (codes "seen") then Some Seen else None

-- an operation with one: `add U32`, `find KEY`, `unbind KEY`, `read PAGE`
abbrev pub request_with : List ℕ → List ℕ → Option Request
request_with word argument =
    if bytes_eq word (codes "add") then Some (Add (number_below AMOUNTS argument))
    else if bytes_eq word (codes "find") then Some (Find (name_of argument))
    else if bytes_eq word (codes "unbind") then Some (Unbind (name_of argument))
    else if bytes_eq word (codes "read") then Some (Read (page_of argument)) else None

-- an operation with two: `bind KEY U64`, `write PAGE TEXT`
abbrev pub request_with_both : List ℕ → List ℕ → List ℕ → Option Request
request_with_both word first second =
    if bytes_eq word (codes "bind")
    then Some (Bind (name_of first) (number_below (2 ^ 64) second))
    else if bytes_eq word (codes "write")
    then Some (Write (page_of first) (page_text_of second)) else None

-- an operation, by its word and its arguments
abbrev pub request_of : List (List ℕ) → Option Request
request_of (word ∷ []) = plain_request word
request_of (word ∷ argument ∷ []) = request_with word argument
request_of (word ∷ first ∷ second ∷ []) = request_with_both word first second
request_of _ = None

-- an operation of the object that the first word names
abbrev pub call_form : List ℕ → List (List ℕ) → Option Form
call_form object tokens =
    option_map (λ request. forms.Asks (name_of object) request) (request_of tokens)

-- the form of a line that begins so, by the tokens behind its first word
abbrev pub form_behind : ℕ → Head → List ℕ → List (List ℕ) → Option Form
form_behind procs heads.Procs word tokens = procs_form tokens
form_behind procs heads.Object word tokens = object_form tokens
form_behind procs heads.Worker word tokens = worker_form procs tokens
form_behind procs heads.Begin word tokens = alone forms.Begin tokens
form_behind procs heads.End word tokens = alone forms.End tokens
form_behind procs heads.Swap word tokens = swap_form tokens
form_behind procs heads.Destroy word tokens = swap_to_form Dead tokens
form_behind procs heads.Watch word tokens = swap_to_form Watch tokens
form_behind procs heads.Unwatch word tokens = swap_to_form Unwatch tokens
form_behind procs heads.Call word tokens = call_form word tokens

-- What a line with these tokens says, where there are so many processors: a form, each part of
-- it as far as it is well formed; or nothing that the language knows.
abbrev pub form_of : ℕ → List (List ℕ) → Option Form
form_of procs [] = None
form_of procs (word ∷ tokens) = form_behind procs (head_of word) word tokens

-- whether a line with these tokens begins as one of processors
abbrev pub begins_procs : List (List ℕ) → Bool
begins_procs [] = false
begins_procs (word ∷ tokens) = bytes_eq word (codes "procs")
