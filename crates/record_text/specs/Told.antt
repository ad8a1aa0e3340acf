-- What the lines of a record tell: of a history, of a script, and of the workers' generations.
use Rattle.std.specs.Prelude.{◌≡◌, ◌≢◌, ℕ, ◌+◌, ◌≤◌, ◌==◌, List, [], ◌∷◌, map, filter, Option, Some, None, slice_get, slice_index_or}
use Rattle.std.specs.Option.{option_map_or}
use Rattle.k42_kinds.specs.declared.operation.Op.{Op}
use Rattle.k42_kinds.specs.declared.operation.Reply.{Reply}
use Rattle.k42_kinds.specs.declared.entry.Entry.{Entry}
use Rattle.script_text.specs.declared.script.CallLine.{CallLine}
use Rattle.script_text.specs.declared.script.Item.{Item}
use Rattle.script_text.specs.declared.script.Item.TheVariants.{Begin, End, Line}
use Rattle.script_text.specs.declared.script.Script.{Script}
use Rattle.record_text.specs.declared.record.Extra.{Extra}
use Rattle.record_text.specs.declared.record.RecordLine.{RecordLine}

-- The entry that a line tells of. What is 0 or none here plays no part in what is legal.
abbrev pub told : RecordLine → Entry Op Reply
told line = record {
  stamp = line.stamp;
  caller = line.worker;
  index = 0;
  object = line.object;
  incarnation = line.incarnation;
  cell = 0;
  act = line.act;
  answer = line.answer;
  proc = 0;
  generation = None;
}

-- the line of the script that a line of the record answers
abbrev pub answered : RecordLine → CallLine
answered line = record { line = line.line; object = line.object; act = line.act }

-- the lines of one worker, in their order
abbrev pub lines_by : ℕ → List RecordLine → List RecordLine
lines_by worker lines = filter (λ line. line.worker == worker) lines

-- the processor of the worker with this place in the script
abbrev pub processor_of : Script → ℕ → ℕ
processor_of script worker = option_map_or (λ lines. lines.proc) (slice_get script.workers worker) 0

abbrev pub told_generation : Option Extra → Option ℕ
told_generation (Some extra) = extra.generation
told_generation None = None

-- the generations that the worker's lines tell, in their order
abbrev pub generations_by : ℕ → List RecordLine → List (Option ℕ)
generations_by worker lines = map (λ line. told_generation line.extra) (lines_by worker lines)

-- In which block each line that asks something stands, where so many were begun before and this is
-- the one that is open. Blocks are counted from 1, and 0 stands for no block.
abbrev pub blocks_from : ℕ → ℕ → List Item → List ℕ
blocks_from begun block [] = []
blocks_from begun block (Begin ∷ items) = blocks_from (begun + 1) (begun + 1) items
blocks_from begun block (End ∷ items) = blocks_from begun 0 items
blocks_from begun block (Line line ∷ items) = block ∷ blocks_from begun block items

abbrev pub blocks_of : List Item → List ℕ
blocks_of items = blocks_from 0 0 items

-- the block of the worker's line with this place among those that ask something
abbrev pub block_at : Script → ℕ → ℕ → ℕ
block_at script worker place =
    option_map_or (λ lines. slice_index_or (blocks_of lines.items) place 0)
    (slice_get script.workers worker) 0

-- Of two lines of a worker the later one's generation is not below the earlier one's, and in one
-- block it is the same.
pub record AreInStep (block later_block former generation : ℕ) : Type 0 where
  pub risen : former ≤ generation
  pub level : later_block ≢ 0 → block ≡ later_block → former ≡ generation
