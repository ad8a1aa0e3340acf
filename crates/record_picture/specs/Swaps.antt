-- The lines of swaps: one through all lanes for each swap that was carried out.
use Rattle.std.specs.Prelude.{ℕ, ◌+◌, List, [], ◌++◌, length, codes}
use Rattle.k42_kinds.specs.declared.operation.Op.{Op}
use Rattle.k42_kinds.specs.declared.operation.Reply.{Reply}
use Rattle.k42_kinds.specs.declared.entry.Act.{Act}
use Rattle.k42_kinds.specs.declared.entry.Act.TheVariants.{Call, Swap}
use Rattle.k42_kinds.specs.declared.entry.To.TheVariants.{Layout, Dead, Watch, Unwatch}
use Rattle.k42_kinds.specs.declared.entry.Answer.{Answer}
use Rattle.k42_kinds.specs.declared.entry.Answer.TheVariants.{Swapped}
use Rattle.script_text.specs.Acts.{numbered_layout_word}
use Rattle.script_text.specs.declared.script.Script.{Script}
use Rattle.record_text.specs.declared.record.RecordLine.{RecordLine}
use Rattle.record_text.specs.Texts.{object_name}
use Rattle.record_picture.specs.Measures.{column_left, lane_top}
use Rattle.record_picture.specs.Pieces.{numbered, worded, placed_texts}

-- the word of what a swap was to; a watch and an unwatch keep the layout, and have their own
abbrev pub label_of : Act Op → List ℕ
label_of (Call op) = []
label_of (Swap (Layout number)) = numbered_layout_word number
label_of (Swap Dead) = codes "dead"
label_of (Swap Watch) = codes "watch"
label_of (Swap Unwatch) = codes "unwatch"

-- the object in whose colour the line is, and its name
unfoldable pub swap_name : ℕ → ℕ → List ℕ → List ℕ
swap_name column object name =
    numbered (codes "<g class='o") object
    ++ numbered (codes "'><text x='") (column_left column)
    ++ worded (codes "' y='38'>") name

-- the number of the swap, and what it was to
unfoldable pub swap_number : ℕ → ℕ → Act Op → List ℕ
swap_number column number act =
    numbered (codes " <tspan x='") (column_left column)
    ++ numbered (codes "' y='51'>") number
    ++ worded (codes ": ") (label_of act)

-- the line itself, in the middle of its column and down to the last lane
unfoldable pub swap_path : ℕ → ℕ → List ℕ
swap_path column lanes =
    numbered (codes "</tspan></text><path class='s' d='M") (column_left column + 73)
    ++ numbered (codes " 56V") (lane_top lanes)
    ++ codes "'/></g>\n"

-- the line of a swap of this number
unfoldable pub swap_line : Script → ℕ → RecordLine → ℕ → List ℕ
swap_line script column line number =
    swap_name column line.object (object_name script line.object)
    ++ swap_number column number line.act
    ++ swap_path column (length script.workers)

-- An entry has a line where it is a swap that was carried out, and else none.
abbrev pub swap_answered : Script → ℕ → RecordLine → Answer Reply → List ℕ
swap_answered script column line (Swapped number) = swap_line script column line number
swap_answered script column line _ = []

abbrev pub swap_text : Script → ℕ → RecordLine → List ℕ
swap_text script column line = swap_answered script column line line.answer

-- the lines of all swaps among these entries
abbrev pub swap_lines : Script → List RecordLine → List ℕ
swap_lines script lines = placed_texts (swap_text script) 0 lines
