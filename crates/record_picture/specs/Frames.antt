-- The frames of activities.
use Rattle.std.specs.Prelude.{ℕ, ◌+◌, ◌-◌, ◌*◌, ◌==◌, Bool, false, if◌then◌else◌, List, [], ◌∷◌, ◌++◌, length, drop, codes, Option, Some, None, slice_index_or}
use Rattle.script_text.specs.declared.script.Script.{Script}
use Rattle.script_text.specs.declared.script.WorkerLines.{WorkerLines}
use Rattle.record_text.specs.declared.record.RecordLine.{RecordLine}
use Rattle.record_text.specs.Told.{lines_by, told_generation}
use Rattle.record_picture.specs.Activities.{joins}
use Rattle.record_picture.specs.Measures.{column_left, lane_top}
use Rattle.record_picture.specs.Pieces.{numbered, placed_texts}

-- a frame in a lane, from one column to another
unfoldable pub frame : ℕ → ℕ → ℕ → List ℕ
frame lane first last =
    numbered (codes "<rect class='f' x='") (column_left first)
    ++ numbered (codes "' y='") (lane_top lane + 4)
    ++ numbered (codes "' width='") (146 + 152 * (last - first))
    ++ codes "' height='64' rx='4'/>\n"

-- The frame of a call of which a generation is told: it stands about the call, and reaches back to
-- the worker's former entry where both are of one activity.
abbrev pub frame_of_call : ℕ → Bool → ℕ → ℕ → Option ℕ → List ℕ
frame_of_call lane joined former column (Some generation) =
    if joined then frame lane former column else frame lane column column
frame_of_call lane joined former column None = []

-- The frames in the lane of a worker. It is known which of its lines that are not yet answered go
-- on with an activity, and in which column its former entry stands.
abbrev pub frames_from : ℕ → List Bool → ℕ → ℕ → List RecordLine → List ℕ
frames_from lane joined former column [] = []
frames_from lane joined former column (line ∷ lines) =
    if line.worker == lane
    then frame_of_call lane (slice_index_or joined 0 false) former column (told_generation line.extra)
    ++ frames_from lane (drop 1 joined) column (column + 1) lines
    else frames_from lane joined former (column + 1) lines

-- The frames in a worker's lane, where some lines of the record stand before those that are shown.
-- An activity that began before them is framed from the first column on.
abbrev pub lane_frames : List RecordLine → List RecordLine → ℕ → WorkerLines → List ℕ
lane_frames before lines lane worker =
    frames_from lane (drop (length (lines_by lane before)) (joins worker.items)) 0 0 lines

-- the frames of all lanes
abbrev pub frames : Script → List RecordLine → List RecordLine → List ℕ
frames script before lines = placed_texts (lane_frames before lines) 0 script.workers
