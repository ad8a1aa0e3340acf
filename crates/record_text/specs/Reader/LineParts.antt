-- The lines of a record, by their tokens.
use Rattle.std.specs.Prelude.{ℕ, ◌==◌, if◌then◌else◌, List, Option, Some, None, codes}
use Rattle.k42_kinds.specs.declared.operation.Op.{Op}
use Rattle.k42_kinds.specs.declared.entry.Act.{Act}
use Rattle.k42_kinds.specs.declared.entry.Act.TheVariants.{Call, Swap}
use Rattle.script_text.specs.declared.script.Script.{Script}
use Rattle.record_text.specs.Reader.Parts.{Found, ◌>>=◌, spelled_at, behind_word, number_at, marked_at, at_end, most_32, most_64}
use Rattle.record_text.specs.Reader.ActParts.{worker_of, act_at}
use Rattle.record_text.specs.Reader.AnswerParts.{answer_at}
use Rattle.record_text.specs.declared.record.Extra.{Extra}
use Rattle.record_text.specs.declared.record.RecordLine.{RecordLine}

-- `k42 record VERSION`, where the version is 1 or 2
unfoldable pub version_on : List (List ℕ) → Option ℕ
version_on tokens = do
  first ← behind_word (codes "k42") tokens
  second ← behind_word (codes "record") first
  version ← number_at 1 2 second
  end ← at_end version.1
  Some version.0

-- `end COUNT`
unfoldable pub count_on : List (List ℕ) → Option ℕ
count_on tokens = do
  first ← behind_word (codes "end") tokens
  count ← number_at 0 most_64 first
  end ← at_end count.1
  Some count.0

-- `gG` of a call, and `g-` of a swap
unfoldable pub some_generation : List (List ℕ) → Found (Option ℕ)
some_generation tokens = do
  generation ← marked_at 103 tokens
  Some (Some generation.0, generation.1)

unfoldable pub no_generation : List (List ℕ) → Found (Option ℕ)
no_generation tokens = do
  rest ← behind_word (codes "g-") tokens
  Some (None, rest)

abbrev pub generation_at : Act Op → List (List ℕ) → Found (Option ℕ)
generation_at (Call op) tokens = some_generation tokens
generation_at (Swap to) tokens = no_generation tokens

-- `pP` and the generation
unfoldable pub told_at : Act Op → List (List ℕ) → Found (Option Extra)
told_at act tokens = do
  proc ← marked_at 112 tokens
  generation ← generation_at act proc.1
  Some (Some (record { proc = proc.0; generation = generation.0 }), generation.1)

-- what version 2 tells besides
abbrev pub extra_at : ℕ → Act Op → List (List ℕ) → Found (Option Extra)
extra_at version act tokens = if version == 2 then told_at act tokens else Some (None, tokens)

-- `STAMP WORKER LINE ACT = ANSWER @INCARNATION`, and what version 2 tells besides
unfoldable pub line_on : Script → ℕ → List (List ℕ) → Option RecordLine
line_on script version tokens = do
  stamp ← number_at 0 most_64 tokens
  worker ← spelled_at (worker_of script) stamp.1
  line ← number_at 0 most_32 worker.1
  asked ← act_at script line.1
  equals ← behind_word (codes "=") asked.1
  answer ← answer_at asked.0.act equals
  incarnation ← marked_at 64 answer.1
  extra ← extra_at version asked.0.act incarnation.1
  end ← at_end extra.1
  Some (record {
    stamp = stamp.0;
    worker = worker.0;
    line = line.0;
    object = asked.0.object;
    act = asked.0.act;
    answer = answer.0;
    incarnation = incarnation.0;
    extra = extra.0;
  })
