-- The boxes: one for each entry, in its worker's lane and in the column of its place.
use Rattle.std.specs.Prelude.{ℕ, ◌+◌, List, [], ◌++◌, codes, Option, Some, None}
use Rattle.k42_kinds.specs.declared.operation.Reply.{Reply}
use Rattle.k42_kinds.specs.declared.operation.Reply.TheVariants as replies
use Rattle.k42_kinds.specs.declared.operation.Op.{Op}
use Rattle.k42_kinds.specs.declared.entry.Act.{Act}
use Rattle.k42_kinds.specs.declared.entry.Answer.{Answer}
use Rattle.k42_kinds.specs.declared.entry.Answer.TheVariants.{Replied, Busy, Spent, Gone}
use Rattle.script_text.specs.declared.script.Script.{Script}
use Rattle.record_text.specs.declared.record.RecordLine.{RecordLine}
use Rattle.record_text.specs.Acts.{act_tokens}
use Rattle.record_text.specs.Answers.{answer_tokens}
use Rattle.record_text.specs.Texts.{object_name, line_tokens}
use Rattle.record_text.specs.Told.{told_generation}
use Rattle.record_text.specs.Tokens.{behind_spaces, spaced}
use Rattle.record_picture.specs.Measures.{column_left, lane_top}
use Rattle.record_picture.specs.Pieces.{numbered, worded, cut_to, placed_texts}

-- in the colour of its object, in this column and this lane
unfoldable pub box_place : ℕ → ℕ → ℕ → List ℕ
box_place object column lane =
    numbered (codes "<g class='o") object
    ++ numbered (codes "' transform='translate(") (column_left column)
    ++ numbered (codes ",") (lane_top lane + 7)

-- its tooltip, the line of the record
unfoldable pub box_tooltip : Script → RecordLine → List ℕ
box_tooltip script line =
    worded (codes ")'><title>") (spaced (line_tokens script line))
    ++ codes "</title><use href='#box'/>"

-- the name of the object, and the number of the entry in the record
unfoldable pub box_name : List ℕ → ℕ → List ℕ
box_name name number =
    worded (codes "<text class='n' x='4' y='11'>") name
    ++ numbered (codes "</text><text class='k' x='142' y='11'>") number

-- The act without the name of its object, which stands above it. Where several spaces stand in a
-- row, one is shown, and none at the front.
abbrev pub act_words : Act Op → List ℕ
act_words act = behind_spaces (act_tokens [] act)

abbrev pub answer_words : Answer Reply → List ℕ
answer_words answer = behind_spaces (answer_tokens answer)

-- the act and the answer
unfoldable pub box_words : Act Op → Answer Reply → List ℕ
box_words act answer =
    worded (codes "</text><text x='4' y='26'>") (cut_to 23 (act_words act))
    ++ worded (codes "</text><text x='4' y='40'>=") (cut_to 20 (answer_words answer))
    ++ codes "</text>"

abbrev pub reply_mark : Reply → List ℕ
reply_mark replies.Gone = codes "<use href='#gone'/>"
reply_mark _ = []

-- what an answer other than the usual ones is marked with
abbrev pub answer_mark : Answer Reply → List ℕ
answer_mark (Replied reply) = reply_mark reply
answer_mark (Busy number) = codes "<use href='#busy'/>"
answer_mark Spent = codes "<use href='#spent'/>"
answer_mark Gone = codes "<use href='#gone'/>"
answer_mark _ = []

-- the generation, below the box in the frame of its activity
abbrev pub generation_mark : Option ℕ → List ℕ
generation_mark (Some generation) =
    numbered (codes "<text x='4' y='57'>g") generation ++ codes "</text>"
generation_mark None = []

unfoldable pub box_marks : Answer Reply → Option ℕ → List ℕ
box_marks answer generation = answer_mark answer ++ generation_mark generation ++ codes "</g>\n"

unfoldable pub box_front : Script → ℕ → RecordLine → List ℕ
box_front script column line =
    box_place line.object column line.worker ++ box_tooltip script line

unfoldable pub box_back : Script → ℕ → RecordLine → List ℕ
box_back script number line =
    box_name (object_name script line.object) number
    ++ box_words line.act line.answer
    ++ box_marks line.answer (told_generation line.extra)

-- The box of an entry in this column, where so many entries stand before the first column.
abbrev pub box_text : Script → ℕ → ℕ → RecordLine → List ℕ
box_text script before column line =
    box_front script column line ++ box_back script (before + column + 1) line

abbrev pub boxes : Script → ℕ → List RecordLine → List ℕ
boxes script before lines = placed_texts (box_text script before) 0 lines
