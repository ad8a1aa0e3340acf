-- At which line a text ceases to be that of a record.
use Rattle.std.specs.Prelude.{◌≡◌, ℕ, ◌+◌, ◌<◌, ◌≤◌, List, length, take, All}
use Rattle.script_text.specs.Lines.{lines_of, IsWholeLine}
use Rattle.script_text.specs.declared.script.Script.{Script}
use Rattle.record_text.specs.Spelling.{HasText}
use Rattle.record_text.specs.Texts.{record_text}
use Rattle.record_text.specs.Values.{FitsRecord}
use Rattle.record_text.specs.declared.record.Record.{Record}

-- a record of the script has the first so many lines of the bytes, line feeds included, as its own
-- first lines
pub record OpensRecord (script : Script) (bytes : List ℕ) (count : ℕ) : Type 0 where
  pub written : Record
  pub has : HasText script written
  pub fits : FitsRecord written
  pub opens : take count (lines_of (record_text script written)) ≡ take count (lines_of bytes)

-- The bytes are no record, and this is the number of the first line at which they are none: those
-- before it open a record, and with it they open none. Where the bytes end before that, it is the
-- line after their last.
pub record LeavesRecordsAt (script : Script) (bytes : List ℕ) (line : ℕ) : Type 0 where
  pub before : (count : ℕ) → count < line → OpensRecord script bytes count
  pub foreign : line ≤ length (lines_of bytes) → OpensRecord script bytes line → ⊥
  pub reached : line ≤ length (lines_of bytes) + 1
  pub no_text : (written : Record) → HasText script written → FitsRecord written
      → record_text script written ≡ bytes → ⊥

-- the text is its lines, two more than it has entries, each of them whole
pub record IsMadeOfLines (text : List ℕ) (entries : ℕ) : Type 0 where
  pub count : length (lines_of text) ≡ entries + 2
  pub whole : All IsWholeLine (lines_of text)
