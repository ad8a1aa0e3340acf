-- What is found of the record that stands after a script.
use Rattle.std.specs.Prelude.{◌≡◌, ℕ, ◌+◌, ◌<◌, ◌≤◌, ◌^◌, min, List, length, take, ◌++◌, codes, Result, Ok, Err}
use Rattle.std.specs.Fmt.{decimal}
use Rattle.k42_limits.specs.declared.TheConstants.{INPUT_BYTES}
use Rattle.script_text.specs.Lines.{lines_of}
use Rattle.script_text.specs.declared.script.Script.{Script}
use Rattle.record_text.specs.Reading.{reading}
use Rattle.record_text.specs.Rules.{IsLawfulRecord, IsFirstFault}
use Rattle.record_text.specs.Spelling.{HasText}
use Rattle.record_text.specs.declared.record.Record.{Record}
use Rattle.k42_input.specs.Separation.{record_part}
use Rattle.k42_input.specs.declared.judging.RecordFound.{RecordFound}
use Rattle.k42_input.specs.declared.judging.RecordFound.TheVariants.{Spelled, Misspelt}
use Rattle.k42_input.specs.declared.verdict.Verdict.{Verdict}
use Rattle.k42_input.specs.declared.verdict.Verdict.TheVariants.{Lawful, Unlawful}
use Rattle.k42_input.specs.declared.status.Status.{Status}
use Rattle.k42_input.specs.declared.status.Status.TheVariants as statuses

-- the first byte that the input may not have, counted from 1
abbrev pub input_limit : ℕ
input_limit = INPUT_BYTES + 1

-- the rule that a record is spelled as records are
abbrev pub spelling_rule : ℕ
spelling_rule = 11

-- A record is lawful, and has so many entries; or this line is the first that breaks a rule.
abbrev pub IsFoundOf : Script → Record → Verdict → Type 0
IsFoundOf script written (Lawful entries) =
    IsLawfulRecord script written × (entries ≡ length written.lines)
IsFoundOf script written (Unlawful line rule) = IsFirstFault script written line rule

-- a text that is no record breaks the rule of spelling, at the line at which it ceases to be one
abbrev pub IsFound : Script → Result Record ℕ → Verdict → Type 0
IsFound script (Ok written) verdict = IsFoundOf script written verdict
IsFound script (Err line) verdict = verdict ≡ Unlawful line spelling_rule

-- Where there is a byte too many, this line is refused: the one that holds it, or an earlier one
-- at which the text ceases to be a record.
abbrev pub line_refused : Result Record ℕ → ℕ → ℕ
line_refused (Ok written) holding = holding
line_refused (Err line) holding = min holding line

-- What is read of the record where there is a byte too many, which is then the last byte read.
-- What stands past it makes no difference.
abbrev pub record_read : List ℕ → List ℕ
record_read input = record_part (take input_limit input)

-- What is found of the record that stands in the input.
pub record IsVerdict (script : Script) (input : List ℕ) (verdict : Verdict) : Type 0 where
  pub whole : length input < input_limit →
      IsFound script (reading script (record_part input)) verdict
  pub too_long : input_limit ≤ length input →
      verdict ≡ Unlawful (line_refused (reading script (record_read input))
      (length (lines_of (record_read input)))) spelling_rule

-- The record stands in the input and within its limit.
pub record IsSpelledIn (script : Script) (input : List ℕ) (written : Record) : Type 0 where
  pub short : length input < input_limit
  pub read : reading script (record_part input) ≡ Ok written
  pub text : HasText script written
  pub few : length written.lines < 2 ^ 31

-- A record stands in the input, or the rule of spelling is broken at this line.
abbrev pub IsRecordIn : Script → List ℕ → RecordFound → Type 0
IsRecordIn script input (Spelled written) = IsSpelledIn script input written
IsRecordIn script input (Misspelt line) = IsVerdict script input (Unlawful line spelling_rule)

-- `lawful N`, or `line N: rule R`
abbrev pub verdict_line : Verdict → List ℕ
verdict_line (Lawful entries) = codes "lawful " ++ decimal entries ++ codes "\n"
verdict_line (Unlawful line rule) =
    codes "line " ++ decimal line ++ codes ": rule " ++ decimal rule ++ codes "\n"

-- the status that goes with it
abbrev pub status_of : Verdict → Status
status_of (Lawful entries) = statuses.Ok
status_of (Unlawful line rule) = statuses.Unlawful
