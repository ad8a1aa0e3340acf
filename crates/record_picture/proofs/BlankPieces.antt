-- The pieces of a picture have the markup that they have where names and texts are left out.
use Rattle.std.proofs.Common.{◌≡◌, ℕ, suc, ◌+◌, ◌-◌, Bool, true, false, List, [], ◌∷◌, ◌++◌, length, map, drop, refl, sym, ap, inl, inr}
use Rattle.std.specs.Prelude.{◌==◌, Option, Some, None, slice_get, slice_index_or}
use Rattle.std.specs.Option.{option_map_or, option_map}
use Rattle.std.proofs.lemmas.Bool.{cases_Bool}
use Rattle.std.proofs.lemmas.List.{length-map}
use Rattle.std.proofs.lemmas.Option.{slice_get-map}
use Rattle.k42_kinds.specs.declared.operation.Reply.{Reply}
use Rattle.k42_kinds.specs.declared.operation.Reply.TheVariants as replies
use Rattle.k42_kinds.specs.declared.entry.Answer.{Answer}
use Rattle.k42_kinds.specs.declared.entry.Answer.TheVariants.{Replied, Swapped, Busy, Spent, Gone, Abandoned}
use Rattle.script_text.specs.declared.script.Item.{Item}
use Rattle.script_text.specs.declared.script.Item.TheVariants.{Begin, End, Line}
use Rattle.script_text.specs.declared.script.Script.{Script}
use Rattle.script_text.specs.declared.script.WorkerLines.{WorkerLines}
use Rattle.record_text.specs.declared.record.RecordLine.{RecordLine}
use Rattle.record_text.specs.Told.{lines_by, told_generation}
use Rattle.record_picture.specs.Activities.{joins, joins_from}
use Rattle.record_picture.specs.Blanks.{blank_item, blank_worker, blank_script, blank_reply, blank_answer, blank_line}
use Rattle.record_picture.specs.Boxes.{box_tooltip, box_name, box_words, box_marks, box_front, box_back, box_text, boxes, reply_mark, answer_mark}
use Rattle.record_picture.specs.Faults.{fault, fault_at, fault_on}
use Rattle.record_picture.specs.Frames.{frame_of_call, frames, frames_from, lane_frames}
use Rattle.record_picture.specs.Lanes.{lane_name, lane_text, lanes}
use Rattle.record_picture.specs.Swaps.{swap_name, swap_number, swap_line, swap_answered, swap_text, swap_lines}
use Rattle.record_picture.specs.declared.verdict.Verdict.{Verdict}
use Rattle.record_picture.specs.declared.verdict.Verdict.TheVariants.{Lawful, Unlawful}
use Rattle.record_picture.specs.Harmless.{markup}
use Rattle.record_picture.proofs.Markups.{markup-append, markup-worded, markup-placed}

-- ---- the boxes

reply_mark-blank : (reply : Reply) → reply_mark reply ≡ reply_mark (blank_reply reply)
reply_mark-blank replies.Done = refl
reply_mark-blank replies.Taken = refl
reply_mark-blank replies.None = refl
reply_mark-blank (replies.Number number) = refl
reply_mark-blank (replies.Text text) = refl
reply_mark-blank replies.Zero = refl
reply_mark-blank replies.Gone = refl

answer_mark-blank : (answer : Answer Reply) → answer_mark answer ≡ answer_mark (blank_answer answer)
answer_mark-blank (Replied reply) = reply_mark-blank reply
answer_mark-blank (Swapped number) = refl
answer_mark-blank (Busy number) = refl
answer_mark-blank Spent = refl
answer_mark-blank Gone = refl
answer_mark-blank (Abandoned number) = refl

front-blank : (script : Script) (column : ℕ) (line : RecordLine) → markup (box_front script column line) ≡ markup (box_front (blank_script script) column (blank_line line))
unfolding box_front box_tooltip
front-blank script column line = simp (markup-append, markup-worded) refl

back-blank : (script : Script) (number : ℕ) (line : RecordLine) → markup (box_back script number line) ≡ markup (box_back (blank_script script) number (blank_line line))
unfolding box_back box_name box_words box_marks
back-blank script number line = simp (markup-append, markup-worded, answer_mark-blank line.answer) refl

box-blank : (script : Script) (before column : ℕ) (line : RecordLine) → markup (box_text script before column line) ≡ markup (box_text (blank_script script) before column (blank_line line))
box-blank script before column line = simp (markup-append, front-blank script column line, back-blank script (before + column + 1) line) refl

pub boxes-blank : (script : Script) (before : ℕ) (lines : List RecordLine) → markup (boxes script before lines) ≡ markup (boxes (blank_script script) before (map blank_line lines))
boxes-blank script before lines = markup-placed (box_text script before) (box_text (blank_script script) before) blank_line (box-blank script before) 0 lines

-- ---- the lanes

lane-blank : (lane : ℕ) (worker : WorkerLines) → markup (lane_text lane worker) ≡ markup (lane_text lane (blank_worker worker))
unfolding lane_name
lane-blank lane worker = simp (markup-append, markup-worded) refl

pub lanes-blank : (script : Script) → markup (lanes script) ≡ markup (lanes (blank_script script))
lanes-blank script = markup-placed lane_text lane_text blank_worker lane-blank 0 script.workers

-- ---- the lines of swaps

swap_line-blank : (script : Script) (column : ℕ) (line : RecordLine) (number : ℕ) → markup (swap_line script column line number) ≡ markup (swap_line (blank_script script) column (blank_line line) number)
unfolding swap_line swap_name swap_number
swap_line-blank script column line number = simp (markup-append, markup-worded, length-map script.workers blank_worker) refl

swap_answered-blank : (script : Script) (column : ℕ) (line : RecordLine) (answer : Answer Reply) → markup (swap_answered script column line answer) ≡ markup (swap_answered (blank_script script) column (blank_line line) (blank_answer answer))
swap_answered-blank script column line (Replied reply) = refl
swap_answered-blank script column line (Swapped number) = swap_line-blank script column line number
swap_answered-blank script column line (Busy number) = refl
swap_answered-blank script column line Spent = refl
swap_answered-blank script column line Gone = refl
swap_answered-blank script column line (Abandoned number) = refl

pub swap_lines-blank : (script : Script) (lines : List RecordLine) → markup (swap_lines script lines) ≡ markup (swap_lines (blank_script script) (map blank_line lines))
swap_lines-blank script lines = markup-placed (swap_text script) (swap_text (blank_script script)) blank_line (λ column line. swap_answered-blank script column line line.answer) 0 lines

-- ---- the frames, and what marks the faulty entry: these are the same texts

joins-blank : (block joined : Bool) (items : List Item) → joins_from block joined items ≡ joins_from block joined (map blank_item items)
joins-blank block joined [] = refl
joins-blank block joined (Begin ∷ items) = joins-blank true false items
joins-blank block joined (End ∷ items) = joins-blank false false items
joins-blank block joined (Line line ∷ items) = ap (λ rest. joined ∷ rest) (joins-blank block block items)

lines_by-blank : (lane : ℕ) (lines : List RecordLine) → length (lines_by lane lines) ≡ length (lines_by lane (map blank_line lines))
lines_by-blank lane [] = refl
lines_by-blank lane (line ∷ lines) = elim (cases_Bool (line.worker == lane)) [
  | inl is ↦ rw is (ap suc (lines_by-blank lane lines))
  | inr is ↦ rw is (lines_by-blank lane lines)
]

frames_from-blank : (lane : ℕ) (joined : List Bool) (former column : ℕ) (lines : List RecordLine) → frames_from lane joined former column lines ≡ frames_from lane joined former column (map blank_line lines)
frames_from-blank lane joined former column [] = refl
frames_from-blank lane joined former column (line ∷ lines) = elim (cases_Bool (line.worker == lane)) [
  | inl is ↦ rw is (ap (λ rest. frame_of_call lane (slice_index_or joined 0 false) former column (told_generation line.extra) ++ rest) (frames_from-blank lane (drop 1 joined) column (column + 1) lines))
  | inr is ↦ rw is (frames_from-blank lane joined former (column + 1) lines)
]

lane_frames-blank : (before lines : List RecordLine) (lane : ℕ) (worker : WorkerLines) → lane_frames before lines lane worker ≡ lane_frames (map blank_line before) (map blank_line lines) lane (blank_worker worker)
lane_frames-blank before lines lane worker =
    rw (sym (lines_by-blank lane before), sym (joins-blank false false worker.items))
    (frames_from-blank lane (drop (length (lines_by lane before)) (joins worker.items)) 0 0 lines)

pub frames-blank : (script : Script) (before lines : List RecordLine) → markup (frames script before lines) ≡ markup (frames (blank_script script) (map blank_line before) (map blank_line lines))
frames-blank script before lines = markup-placed (lane_frames before lines) (lane_frames (map blank_line before) (map blank_line lines)) blank_worker (λ lane worker. ap markup (lane_frames-blank before lines lane worker)) 0 script.workers

found-blank : (text other : RecordLine → List ℕ) → ((line : RecordLine) → text line ≡ other (blank_line line)) → (found : Option RecordLine) → option_map_or text found [] ≡ option_map_or other (option_map blank_line found) []
found-blank text other each None = refl
found-blank text other each (Some line) = each line

fault_at-blank : (lanes columns column : ℕ) (line : RecordLine) → fault_at lanes columns column line ≡ fault_at lanes columns column (blank_line line)
unfolding fault_at
fault_at-blank lanes columns column line = refl

fault_on-blank : (lanes before : ℕ) (lines : List RecordLine) (number : ℕ) → fault_on lanes before lines number ≡ fault_on lanes before (map blank_line lines) number
fault_on-blank lanes before lines number =
    rw (
      length-map lines blank_line,
      slice_get-map blank_line lines (number - (before + 2)),
      sym (found-blank (fault_at lanes (length lines) (number - (before + 2))) (fault_at lanes (length lines) (number - (before + 2))) (fault_at-blank lanes (length lines) (number - (before + 2))) (slice_get lines (number - (before + 2)))),
    ) refl

pub fault-blank : (lanes before : ℕ) (lines : List RecordLine) (verdict : Verdict) → fault lanes before lines verdict ≡ fault lanes before (map blank_line lines) verdict
fault-blank lanes before lines Lawful = refl
fault-blank lanes before lines (Unlawful line rule) = fault_on-blank lanes before lines line
