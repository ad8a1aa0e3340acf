-- When a record is lawful for a script, and which line breaks which rule first.
use Rattle.std.specs.Prelude.{◌≡◌, ◌⊎◌, ℕ, ◌+◌, ◌<◌, ◌≤◌, List, [], ◌∷◌, length, map, take, drop, Some, IfSome, Result, Ok, Err, slice_get}
use Rattle.k42_kinds.specs.declared.operation.Op.{Op}
use Rattle.k42_kinds.specs.declared.operation.Reply.{Reply}
use Rattle.k42_kinds.specs.declared.entry.Act.{Act}
use Rattle.k42_kinds.specs.declared.entry.Act.TheVariants.{Call, Swap}
use Rattle.k42_kinds.specs.declared.entry.Answer.{Answer}
use Rattle.k42_kinds.specs.declared.entry.Answer.TheVariants.{Busy}
use Rattle.k42_kinds.specs.declared.entry.Entry.{Entry}
use Rattle.k42_kinds.specs.Legal.{IsLegalAmong}
use Rattle.script_text.specs.Lawful.{IsLawful, kinds_of}
use Rattle.script_text.specs.declared.script.Script.{Script}
use Rattle.record_text.specs.Histories.{calls_of, record_of}
use Rattle.record_text.specs.Told.{told, answered, lines_by, generations_by, told_generation, block_at, processor_of, AreInStep}
pub use Rattle.record_text.specs.declared.judging.rule.Rule.{Rule}
pub use Rattle.record_text.specs.declared.judging.rule.Rule.TheVariants.{Stamps, Order, Calls, Swaps, Refusals, Generations}
use Rattle.record_text.specs.declared.ending.CheckEnd.{CheckEnd}
use Rattle.record_text.specs.declared.ending.CheckEnd.TheVariants as ends
use Rattle.record_text.specs.declared.record.Record.{Record}
use Rattle.record_text.specs.declared.record.RecordLine.{RecordLine}

-- the number of each rule
abbrev pub rule_number : Rule → ℕ
rule_number Stamps = 2
rule_number Order = 8
rule_number Calls = 5
rule_number Swaps = 6
rule_number Refusals = 7
rule_number Generations = 21

-- the rules in the order in which a line is tested for them
abbrev pub all_rules : List Rule
all_rules = Stamps ∷ Order ∷ Calls ∷ Swaps ∷ Refusals ∷ Generations ∷ []

-- which rule says whether a swap may be answered so
abbrev pub rule_of_answer : Answer Reply → Rule
rule_of_answer (Busy number) = Refusals
rule_of_answer _ = Swaps

-- which rule says whether an act may be answered so
abbrev pub rule_of_act : Act Op → Answer Reply → Rule
rule_of_act (Call op) answer = Calls
rule_of_act (Swap to) answer = rule_of_answer answer

-- the line tells of a legal entry between those before it and those after it
abbrev pub IsLegalLine : Script → List RecordLine → RecordLine → List RecordLine → Type 0
IsLegalLine script before line after =
    IsLegalAmong (kinds_of script) (map told before) (told line) (map told after)

-- the line answers the next of its worker's lines
abbrev pub IsNextLine : Script → List RecordLine → RecordLine → Type 0
IsNextLine script before line =
    slice_get (calls_of script line.worker) (length (lines_by line.worker before))
    ≡ Some (answered line)

-- the line tells its worker's processor, and a generation in step with those before it
pub record KeepsGenerations (script : Script) (before : List RecordLine) (line : RecordLine)
    : Type 0 where
  pub processor : IfSome line.extra (λ extra. extra.proc ≡ processor_of script line.worker)
  pub generation : (generation : ℕ) → told_generation line.extra ≡ Some generation
      → (earlier former : ℕ)
      → slice_get (generations_by line.worker before) earlier ≡ Some (Some former)
      → AreInStep (block_at script line.worker earlier)
      (block_at script line.worker (length (lines_by line.worker before))) former generation

-- what each rule asks of a line between those before it and those after it
abbrev pub Keeps : Script → List RecordLine → RecordLine → List RecordLine → Rule → Type 0
Keeps script before line after Stamps = line.stamp ≡ length before + 1
Keeps script before line after Order = IsNextLine script before line
Keeps script before line after Calls =
    rule_of_act line.act line.answer ≡ Calls → IsLegalLine script before line after
Keeps script before line after Swaps =
    rule_of_act line.act line.answer ≡ Swaps → IsLegalLine script before line after
Keeps script before line after Refusals =
    rule_of_act line.act line.answer ≡ Refusals → IsLegalLine script before line after
Keeps script before line after Generations = KeepsGenerations script before line

-- the line at this place keeps the rule
abbrev pub KeepsAt : Script → List RecordLine → ℕ → Rule → Type 0
KeepsAt script lines place rule =
    (line : RecordLine) → slice_get lines place ≡ Some line
    → Keeps script (take place lines) line (drop (place + 1) lines) rule

-- no line of a worker is missing
abbrev pub HasAllLines : Script → List RecordLine → Type 0
HasAllLines script lines =
    (worker : ℕ) → length (calls_of script worker) ≤ length (lines_by worker lines)

-- each line keeps each rule, and none is missing
pub record KeepsRules (script : Script) (lines : List RecordLine) : Type 0 where
  pub each : (place : ℕ) (rule : Rule) → KeepsAt script lines place rule
  pub complete : HasAllLines script lines

-- A record is lawful where it is the record of a lawful history, and what version 2 tells besides
-- are the workers' processors, and generations that do not fall and are one in each block.
pub record IsLawfulRecord (script : Script) (written : Record) : Type 0 where
  pub history : List (Entry Op Reply)
  pub lawful : IsLawful script history
  pub same : written ≡ record_of script history written.version
  pub generations : (place : ℕ) → KeepsAt script written.lines place Generations

-- this is the number of the first of the rules that is not kept
abbrev pub BreaksFirst : (Rule → Type 0) → List Rule → ℕ → Type 0
BreaksFirst Kept [] number = ⊥
BreaksFirst Kept (rule ∷ rules) number =
    ((number ≡ rule_number rule) × (Kept rule → ⊥)) ⊎ (Kept rule × BreaksFirst Kept rules number)

-- The line of this number breaks this rule and keeps those before it, and all lines before it keep
-- all rules.
pub record IsFaultOfLine (script : Script) (lines : List RecordLine) (line rule : ℕ)
    : Type 0 where
  pub place : ℕ
  pub numbered : line ≡ place + 2
  pub before : (earlier : ℕ) → earlier < place → (kept : Rule) → KeepsAt script lines earlier kept
  pub broken : BreaksFirst (KeepsAt script lines place) all_rules rule

-- all lines keep all rules, and at the end some are missing
pub record IsFaultOfEnd (script : Script) (lines : List RecordLine) (line rule : ℕ)
    : Type 0 where
  pub numbered : line ≡ length lines + 2
  pub order : rule ≡ rule_number Order
  pub before : (place : ℕ) (kept : Rule) → KeepsAt script lines place kept
  pub missing : HasAllLines script lines → ⊥

-- the line of this number breaks this rule, and nothing before it breaks one
abbrev pub IsFirstFault : Script → Record → ℕ → ℕ → Type 0
IsFirstFault script written line rule =
    IsFaultOfLine script written.lines line rule ⊎ IsFaultOfEnd script written.lines line rule

-- the verdict on a record, unless memory ran out
abbrev pub Judges : Script → Record → Result Unit CheckEnd → Type 0
Judges script written (Ok done) = IsLawfulRecord script written
Judges script written (Err ends.Memory) = Unit {0}
Judges script written (Err (ends.Unlawful line rule)) = IsFirstFault script written line rule
