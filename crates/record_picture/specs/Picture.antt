-- The picture of a record, as the bytes of an SVG document.
use Rattle.std.specs.Prelude.{ℕ, List, ◌++◌, length, take, codes}
use Rattle.script_text.specs.declared.script.Script.{Script}
use Rattle.record_text.specs.declared.record.Record.{Record}
use Rattle.record_text.specs.declared.record.RecordLine.{RecordLine}
use Rattle.record_picture.specs.Boxes.{boxes}
use Rattle.record_picture.specs.Faults.{fault}
use Rattle.record_picture.specs.Frames.{frames}
use Rattle.record_picture.specs.Head.{head}
use Rattle.record_picture.specs.Lanes.{lanes}
use Rattle.record_picture.specs.Swaps.{swap_lines}
use Rattle.record_picture.specs.Windows.{shown}
use Rattle.record_picture.specs.declared.verdict.Verdict.{Verdict}
use Rattle.record_picture.specs.declared.window.Window.{Window}

-- what lies below the boxes: the lanes, the frames of activities and the lines of swaps
unfoldable pub ground : Script → List RecordLine → List RecordLine → List ℕ
ground script before lines =
    lanes script ++ frames script before lines ++ swap_lines script lines

-- the boxes of these entries, behind so many others, and what the verdict marks among them
unfoldable pub entries : Script → ℕ → List RecordLine → Verdict → List ℕ
entries script before lines verdict =
    boxes script before lines
    ++ fault (length script.workers) before lines verdict
    ++ codes "</svg>\n"

abbrev pub picture : Script → Record → Verdict → Window → List ℕ
picture script written verdict window =
    head verdict (length written.lines) (length (shown window written.lines)) (length script.workers)
    ++ ground script (take window.before written.lines) (shown window written.lines)
    ++ entries script window.before (shown window written.lines) verdict
