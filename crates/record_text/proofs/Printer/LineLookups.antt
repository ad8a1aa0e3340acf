-- The numbers of the lines that ask something, looked up by worker and place.
use Rattle.std.proofs.Common.{◌≡◌, ℕ, zero, suc, ◌+◌, ◌<◌, List, [], ◌∷◌, ◌++◌, length, map, get_or, take, refl, All, arith}
use Rattle.std.proofs.lemmas.List.{map_more}
use Rattle.k42_kinds.specs.declared.operation.Op.{Op}
use Rattle.k42_kinds.specs.declared.operation.Reply.{Reply}
use Rattle.k42_kinds.specs.declared.entry.Entry.{Entry}
use Rattle.std.specs.Prelude.{slice_get}
use Rattle.std.specs.Option.{option_map_or}
use Rattle.script_text.specs.Lawful.{call_lines}
use Rattle.script_text.specs.declared.script.CallLine.{CallLine}
use Rattle.script_text.specs.declared.script.WorkerLines.{WorkerLines}
use Rattle.script_text.specs.declared.script.Script.{Script}
use Rattle.record_text.specs.Histories.{calls_of, line_number, HasLine, line_at, line_of}
use Rattle.record_text.specs.Printer.LineNumbers.{line_numbers, all_line_numbers, numbers_at}

number_among : (lines : List CallLine) (place : ℕ) → place < length lines → get_or (map (λ line. line.line) lines) place 0 ≡ option_map_or (λ line. line.line) (slice_get lines place) 0
number_among [] place within = absurd (omega arith)
number_among (line ∷ lines) zero within = refl
number_among (line ∷ lines) (suc place) within = number_among lines place (omega arith)

calls_among : List WorkerLines → ℕ → List CallLine
calls_among workers caller = option_map_or (λ lines. call_lines lines.items) (slice_get workers caller) []

number_of_worker : (workers : List WorkerLines) (caller place : ℕ) → caller < length workers → place < length (calls_among workers caller) → get_or (numbers_at (map (λ worker. line_numbers worker.items) workers) caller) place 0 ≡ option_map_or (λ line. line.line) (slice_get (calls_among workers caller) place) 0
unfolding calls_among
number_of_worker [] caller place known within = absurd (omega arith)
number_of_worker (worker ∷ workers) zero place known within = number_among (call_lines worker.items) place within
number_of_worker (worker ∷ workers) (suc caller) place known within = number_of_worker workers caller place (omega arith) within

-- the number that stands among those of the caller is that of its line
pub number_at : (script : Script) (caller place : ℕ) → caller < length script.workers → place < length (calls_of script caller) → get_or (numbers_at (all_line_numbers script) caller) place 0 ≡ line_number script caller place
unfolding calls_among
number_at script caller place known within = number_of_worker script.workers caller place known within

-- the line of one more entry
pub lines-more : (script : Script) (version : ℕ) (entries : List (Entry Op Reply)) (i : ℕ) (entry : Entry Op Reply) → i < length entries → entry ≡ get_or entries i entry → All (HasLine script) entries →
    map (line_of script version) (take i entries) ++ line_at version (get_or (numbers_at (all_line_numbers script) entry.caller) entry.index 0) entry ∷ [] ≡ map (line_of script version) (take (i + 1) entries)
lines-more script version entries i entry within read placed =
    let line : HasLine script entry = rw read (placed i entry within) in
    rw (number_at script entry.caller entry.index line.caller line.index, map_more (line_of script version) entries i entry within, ← read) refl
