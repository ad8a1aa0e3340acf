-- One line after the other, as they are read.
use Rattle.std.proofs.Common.{◌≡◌, ℕ, ◌+◌, ◌<◌, true, List, length, refl}
use Rattle.std.specs.Prelude.{Err}
use Rattle.script_text.specs.Lines.{lines_of}
use Rattle.record_text.specs.declared.record.RecordLine.{RecordLine}
use Rattle.record_text.specs.Reading.{is_last, ended}
use Rattle.record_text.proofs.Reader.ByteCuts.{lines_of-some}

-- no line may follow the last
pub ended-more : (version : ℕ) (before : List RecordLine) (tokens : List (List ℕ)) (bytes : List ℕ) (count : ℕ) → 0 < length bytes → length before ≡ count → is_last count tokens ≡ true
    → ended version before tokens (lines_of bytes) ≡ Err (count + 3)
ended-more version before tokens bytes count some same last =
    let lines = lines_of-some bytes some in
    rw (lines.are, same, last) refl
