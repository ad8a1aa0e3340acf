-- How the entry that breaks a rule is marked.
use Rattle.std.specs.Prelude.{ℕ, ◌+◌, ◌-◌, ◌*◌, nat_le, if◌then◌else◌, List, [], ◌++◌, length, codes, slice_get}
use Rattle.std.specs.Option.{option_map_or}
use Rattle.record_text.specs.declared.record.RecordLine.{RecordLine}
use Rattle.record_picture.specs.Measures.{column_left, lane_top, height_of}
use Rattle.record_picture.specs.Pieces.{numbered}
use Rattle.record_picture.specs.declared.verdict.Verdict.{Verdict}
use Rattle.record_picture.specs.declared.verdict.Verdict.TheVariants.{Lawful, Unlawful}

-- a red frame about the box in this column and this lane
unfoldable pub fault_frame : ℕ → ℕ → List ℕ
fault_frame column lane =
    numbered (codes "<rect class='x' width='150' height='68' rx='4' x='") (column_left column - 2)
    ++ numbered (codes "' y='") (lane_top lane + 2)
    ++ codes "'/>"

-- a veil over so many columns from this one on
unfoldable pub veil : ℕ → ℕ → ℕ → List ℕ
veil column columns lanes =
    numbered (codes "<rect class='y' y='28' x='") (column_left column - 3)
    ++ numbered (codes "' width='") (152 * columns)
    ++ numbered (codes "' height='") (height_of lanes)
    ++ codes "'/>\n"

-- the entry of this column is framed, and all behind it are greyed
unfoldable pub fault_at : ℕ → ℕ → ℕ → RecordLine → List ℕ
fault_at lanes columns column line =
    fault_frame column line.worker ++ veil (column + 1) (columns - (column + 1)) lanes

-- Where so many entries stand before those that are shown, the record's line of this number is that
-- of an entry that is shown, or of none.
abbrev pub fault_on : ℕ → ℕ → List RecordLine → ℕ → List ℕ
fault_on lanes before lines number =
    if nat_le (before + 2) number
    then option_map_or (fault_at lanes (length lines) (number - (before + 2)))
    (slice_get lines (number - (before + 2))) []
    else []

abbrev pub fault : ℕ → ℕ → List RecordLine → Verdict → List ℕ
fault lanes before lines Lawful = []
fault lanes before lines (Unlawful line rule) = fault_on lanes before lines line
