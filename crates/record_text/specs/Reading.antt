-- Which record a text is, or at which line it is none.
use Rattle.std.specs.Prelude.{◌≡◌, ℕ, ◌+◌, Bool, false, ◌==◌, if◌then◌else◌, List, [], ◌∷◌, ◌++◌, length, Result, Ok, Err}
use Rattle.std.specs.Option.{option_map_or}
use Rattle.script_text.specs.Lines.{lines_of}
use Rattle.script_text.specs.declared.script.Script.{Script}
use Rattle.record_text.specs.Reader.Lines.{tokens_on}
use Rattle.record_text.specs.Reader.LineParts.{version_on, line_on, count_on}
use Rattle.record_text.specs.declared.ending.RecordEnd.{RecordEnd}
use Rattle.record_text.specs.declared.ending.RecordEnd.TheVariants as ends
use Rattle.record_text.specs.declared.record.RecordLine.{RecordLine}
use Rattle.record_text.specs.declared.record.Record.{Record}

-- the last line, which counts the entries
abbrev pub is_last : ℕ → List (List ℕ) → Bool
is_last count tokens = option_map_or (λ told. told == count) (count_on tokens) false

-- the record of these entries
abbrev pub entries : ℕ → List RecordLine → Record
entries version lines = record { lines = lines; version = version }

-- A line that is no entry's ends the record: it must count the entries, and no line may follow it.
abbrev pub ended : ℕ → List RecordLine → List (List ℕ) → List (List ℕ) → Result Record ℕ
ended version before tokens [] =
    if is_last (length before) tokens then Ok (entries version before)
    else Err (length before + 2)
ended version before tokens (line ∷ lines) =
    if is_last (length before) tokens then Err (length before + 3) else Err (length before + 2)

-- The record that the lines behind these entries make; the first line of all is line 1. Where there
-- is no line more, the last one is missing.
abbrev pub entries_on : Script → ℕ → List RecordLine → List (List ℕ) → Result Record ℕ
entries_on script version before [] = Err (length before + 2)
entries_on script version before (line ∷ lines) =
    option_map_or (λ entry. entries_on script version (before ++ entry ∷ []) lines)
    (line_on script version (tokens_on line))
    (ended version before (tokens_on line) lines)

-- the record that these lines make: the first line has the version
abbrev pub record_on : Script → List (List ℕ) → Result Record ℕ
record_on script [] = Err 1
record_on script (line ∷ lines) =
    option_map_or (λ version. entries_on script version [] lines)
    (version_on (tokens_on line)) (Err 1)

-- the record whose text the bytes are, or the number of the first line at which they are none
abbrev pub reading : Script → List ℕ → Result Record ℕ
reading script bytes = record_on script (lines_of bytes)

-- the refusal is that of the definition, and want of memory is free
abbrev pub Refuses : Result Record ℕ → RecordEnd → Type 0
Refuses due ends.Memory = Unit {0}
Refuses due (ends.Misspelt line) = due ≡ Err line

-- what was answered is what is due, unless memory ran out
abbrev pub Reads : Result Record ℕ → Result Record RecordEnd → Type 0
Reads due (Ok value) = due ≡ Ok value
Reads due (Err end) = Refuses due end
