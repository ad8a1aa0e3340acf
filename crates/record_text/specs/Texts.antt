-- The text of a record.
use Rattle.std.specs.Prelude.{ℕ, List, [], ◌∷◌, ◌++◌, length, codes, Option, Some, None, slice_get}
use Rattle.std.specs.List.{flat_map}
use Rattle.std.specs.Option.{option_map_or}
use Rattle.std.specs.Fmt.{decimal}
use Rattle.script_text.specs.declared.script.Script.{Script}
use Rattle.record_text.specs.Tokens.{line_with}
use Rattle.record_text.specs.Acts.{act_tokens}
use Rattle.record_text.specs.Answers.{answer_tokens}
use Rattle.record_text.specs.declared.record.Extra.{Extra}
use Rattle.record_text.specs.declared.record.RecordLine.{RecordLine}
use Rattle.record_text.specs.declared.record.Record.{Record}

-- the name of the worker with this place in the script
abbrev pub worker_name : Script → ℕ → List ℕ
worker_name script worker = option_map_or (λ lines. lines.name) (slice_get script.workers worker) []

-- the name of the object with this place in the script
abbrev pub object_name : Script → ℕ → List ℕ
object_name script object = option_map_or (λ line. line.name) (slice_get script.objects object) []

-- `gG`, or `g-` where there is no generation
abbrev pub generation_token : Option ℕ → List ℕ
generation_token (Some generation) = codes "g" ++ decimal generation
generation_token None = codes "g-"

-- what version 2 tells besides: `pP`, and the generation
abbrev pub extra_tokens : Option Extra → List (List ℕ)
extra_tokens (Some extra) =
    (codes "p" ++ decimal extra.proc) ∷ generation_token extra.generation ∷ []
extra_tokens None = []

-- `STAMP WORKER LINE ACT = ANSWER @INCARNATION`, and what version 2 tells besides
abbrev pub line_tokens : Script → RecordLine → List (List ℕ)
line_tokens script line =
    decimal line.stamp ∷ worker_name script line.worker ∷ decimal line.line ∷ []
    ++ act_tokens (object_name script line.object) line.act
    ++ codes "=" ∷ []
    ++ answer_tokens line.answer
    ++ (codes "@" ++ decimal line.incarnation) ∷ []
    ++ extra_tokens line.extra

-- the line of an entry
abbrev pub line_text : Script → RecordLine → List ℕ
line_text script line = line_with (line_tokens script line)

-- `k42 record VERSION`
abbrev pub first_tokens : ℕ → List (List ℕ)
first_tokens version = codes "k42" ∷ codes "record" ∷ decimal version ∷ []

-- `end N`, where N is the number of lines between the first and the last
abbrev pub last_tokens : ℕ → List (List ℕ)
last_tokens count = codes "end" ∷ decimal count ∷ []

-- the first line, a line for each entry, and the last line
abbrev pub record_text : Script → Record → List ℕ
record_text script written =
    line_with (first_tokens written.version)
    ++ flat_map (line_text script) written.lines
    ++ line_with (last_tokens (length written.lines))
