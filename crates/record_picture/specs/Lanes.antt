-- The lanes: one for each worker, in their order in the script.
use Rattle.std.specs.Prelude.{ℕ, ◌+◌, List, ◌++◌, codes}
use Rattle.script_text.specs.declared.script.Script.{Script}
use Rattle.script_text.specs.declared.script.WorkerLines.{WorkerLines}
use Rattle.record_picture.specs.Measures.{lane_top}
use Rattle.record_picture.specs.Pieces.{numbered, worded, placed_texts}

-- the lane itself, with the worker's name
unfoldable pub lane_name : ℕ → List ℕ → List ℕ
lane_name lane name =
    numbered (codes "<rect class='l' width='100%' height='68' y='") (lane_top lane + 2)
    ++ numbered (codes "'/><text x='8' y='") (lane_top lane + 28)
    ++ worded (codes "'>") name

-- the worker's processor, below the name
unfoldable pub lane_processor : ℕ → ℕ → List ℕ
lane_processor lane processor =
    numbered (codes "</text><text x='8' y='") (lane_top lane + 43)
    ++ numbered (codes "'>processor ") processor
    ++ codes "</text>\n"

abbrev pub lane_text : ℕ → WorkerLines → List ℕ
lane_text lane worker = lane_name lane worker.name ++ lane_processor lane worker.proc

abbrev pub lanes : Script → List ℕ
lanes script = placed_texts lane_text 0 script.workers
