-- How the lines of a script are spelled: by their tokens, with one space between each two.
use Rattle.std.specs.Prelude.{◌≡◌, ℕ, ◌<◌, ◌^◌, true, not, ◌&&◌, List, [], ◌∷◌, ◌++◌, replicate, codes}
use Rattle.std.specs.List.{join_by, list_any}
use Rattle.std.specs.Fmt.{decimal}
use Rattle.k42_kinds.specs.Words.{is_name, is_text}
use Rattle.k42_kinds.specs.declared.entry.Act.{Act}
use Rattle.k42_kinds.specs.declared.entry.Act.TheVariants.{Call, Swap}
use Rattle.k42_kinds.specs.declared.operation.KindName.{KindName}
use Rattle.k42_kinds.specs.declared.operation.KindName.TheVariants.{Counter, Directory, Pages}
use Rattle.k42_kinds.specs.declared.operation.Op.{Op}
use Rattle.k42_kinds.specs.declared.operation.Op.TheVariants.{Add, Bind, Find, Unbind, Write, Read}
use Rattle.k42_limits.specs.declared.TheConstants.{AMOUNTS, PAGES, LINE_FEED, SPACE}
use Rattle.script_text.specs.Acts.{HasWord, layout_word}
use Rattle.script_text.specs.Tokens.{is_space, has_bytes}
use Rattle.script_text.specs.declared.script.ObjectLine.{ObjectLine}
use Rattle.script_text.specs.declared.script.WorkerHead.{WorkerHead}

-- so many spaces
abbrev pub spaces : ℕ → List ℕ
spaces n = replicate n SPACE

-- tokens in a row, with one space between each two
abbrev pub spaced : List (List ℕ) → List ℕ
spaced tokens = join_by (λ token. token) (SPACE ∷ []) tokens

-- the line of these tokens, with its line feed
abbrev pub line_with : List (List ℕ) → List ℕ
line_with tokens = spaced tokens ++ LINE_FEED ∷ []

-- The bytes are a token: there are some, and no space is among them.
abbrev pub IsToken : List ℕ → Type 0
IsToken bytes = (has_bytes bytes && not (list_any is_space bytes)) ≡ true

-- the word of a kind
abbrev pub kind_word : KindName → List ℕ
kind_word Counter = codes "counter"
kind_word Directory = codes "directory"
kind_word Pages = codes "pages"

-- `procs N`
abbrev pub procs_tokens : ℕ → List (List ℕ)
procs_tokens procs = codes "procs" ∷ decimal procs ∷ []

-- `object NAME KIND LAYOUT`
abbrev pub object_tokens : ObjectLine → List (List ℕ)
object_tokens object =
    codes "object" ∷ object.name ∷ kind_word object.kind ∷ layout_word object.layout ∷ []

-- `worker NAME PROC`
abbrev pub worker_tokens : WorkerHead → List (List ℕ)
worker_tokens worker = codes "worker" ∷ worker.name ∷ decimal worker.proc ∷ []

abbrev pub begin_tokens : List (List ℕ)
begin_tokens = codes "begin" ∷ []

abbrev pub end_tokens : List (List ℕ)
end_tokens = codes "end" ∷ []

-- Each argument of an operation is in its range: an amount of 32 bits, a number of 64, a key that
-- is a name, a page that is there, a text that a page can hold.
abbrev pub IsOpInRange : Op → Type 0
IsOpInRange (Add amount) = amount < AMOUNTS
IsOpInRange (Bind key number) = (is_name key ≡ true) × (number < 2 ^ 64)
IsOpInRange (Find key) = is_name key ≡ true
IsOpInRange (Unbind key) = is_name key ≡ true
IsOpInRange (Write page text) = (page < PAGES) × (is_text text ≡ true)
IsOpInRange (Read page) = page < PAGES
IsOpInRange _ = Unit {0}

-- The same of what an act asks, and what a swap is to has a word.
abbrev pub IsInRange : Act Op → Type 0
IsInRange (Call op) = IsOpInRange op
IsInRange (Swap to) = HasWord to
