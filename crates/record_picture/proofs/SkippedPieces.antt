-- What passes over the parts of a picture passes over its pieces, but for a box and the line of a swap.
use Rattle.std.proofs.Common.{◌≡◌, ℕ, ◌+◌, ◌-◌, Bool, true, false, List, [], ◌∷◌, ◌++◌, length, drop, refl, ap, ◌∙◌, inl, inr}
use Rattle.std.specs.Prelude.{◌==◌, nat_le, codes, Option, Some, None, slice_get, slice_index_or}
use Rattle.std.specs.Option.{option_map_or}
use Rattle.std.specs.Fmt.{decimal}
use Rattle.std.proofs.lemmas.Bool.{cases_Bool}
use Rattle.std.proofs.lemmas.List.{append_assoc}
use Rattle.k42_kinds.specs.declared.operation.Reply.{Reply}
use Rattle.k42_kinds.specs.declared.operation.Reply.TheVariants as replies
use Rattle.k42_kinds.specs.declared.entry.Answer.{Answer}
use Rattle.k42_kinds.specs.declared.entry.Answer.TheVariants.{Replied, Swapped, Busy, Spent, Gone, Abandoned}
use Rattle.script_text.specs.declared.script.Script.{Script}
use Rattle.script_text.specs.declared.script.WorkerLines.{WorkerLines}
use Rattle.record_text.specs.declared.record.RecordLine.{RecordLine}
use Rattle.record_text.specs.Told.{lines_by, told_generation}
use Rattle.record_picture.specs.Activities.{joins}
use Rattle.record_picture.specs.Boxes.{box_place, box_tooltip, box_name, box_words, box_marks, box_front, box_back, box_text, reply_mark, answer_mark, generation_mark}
use Rattle.record_picture.specs.Faults.{fault, fault_at, fault_frame, fault_on, veil}
use Rattle.record_picture.specs.Frames.{frame, frame_of_call, frames, frames_from, lane_frames}
use Rattle.record_picture.specs.Head.{head, opening, verdict_line}
use Rattle.record_picture.specs.Lanes.{lane_name, lane_processor, lane_text, lanes}
use Rattle.record_picture.specs.Measures.{column_left}
use Rattle.record_picture.specs.Pieces.{numbered}
use Rattle.record_picture.specs.Style.{style, shapes, colours, marks}
use Rattle.record_picture.specs.Swaps.{swap_name, swap_number, swap_path, swap_line}
use Rattle.record_picture.specs.Verdicts.{rule_words, verdict_text}
use Rattle.record_picture.specs.declared.verdict.Verdict.{Verdict}
use Rattle.record_picture.specs.declared.verdict.Verdict.TheVariants.{Lawful, Unlawful}
use Rattle.record_picture.proofs.Skips.{Skips, is_fixed, skips-numbered, skips-worded, skips-placed}

-- ---- the boxes

reply_mark-skipped : {T : Type 0} {said : List ℕ → T} (skips : Skips said) (reply : Reply) (rest : List ℕ) → said (reply_mark reply ++ rest) ≡ said rest
reply_mark-skipped skips replies.Done rest = refl
reply_mark-skipped skips replies.Taken rest = refl
reply_mark-skipped skips replies.None rest = refl
reply_mark-skipped skips (replies.Number number) rest = refl
reply_mark-skipped skips (replies.Text text) rest = refl
reply_mark-skipped skips replies.Zero rest = refl
reply_mark-skipped skips replies.Gone rest = skips.fixed (codes "<use href='#gone'/>") rest refl

answer_mark-skipped : {T : Type 0} {said : List ℕ → T} (skips : Skips said) (answer : Answer Reply) (rest : List ℕ) → said (answer_mark answer ++ rest) ≡ said rest
answer_mark-skipped skips (Replied reply) rest = reply_mark-skipped skips reply rest
answer_mark-skipped skips (Swapped number) rest = refl
answer_mark-skipped skips (Busy number) rest = skips.fixed (codes "<use href='#busy'/>") rest refl
answer_mark-skipped skips Spent rest = skips.fixed (codes "<use href='#spent'/>") rest refl
answer_mark-skipped skips Gone rest = skips.fixed (codes "<use href='#gone'/>") rest refl
answer_mark-skipped skips (Abandoned number) rest = refl

generation_mark-skipped : {T : Type 0} {said : List ℕ → T} (skips : Skips said) (generation : Option ℕ) (rest : List ℕ) → said (generation_mark generation ++ rest) ≡ said rest
generation_mark-skipped skips (Some generation) rest = simp append_assoc (skips-numbered skips _ _ _ refl ∙ skips.fixed (codes "</text>") rest refl)
generation_mark-skipped skips None rest = refl

place-skipped : {T : Type 0} {said : List ℕ → T} (skips : Skips said) (object column lane : ℕ) (rest : List ℕ) → said (box_place object column lane ++ rest) ≡ said rest
unfolding box_place
place-skipped skips object column lane rest = simp append_assoc (skips-numbered skips _ _ _ refl ∙ skips-numbered skips _ _ _ refl ∙ skips-numbered skips _ _ _ refl)

-- of the front of a box the box itself is left
front-skipped : {T : Type 0} {said : List ℕ → T} (skips : Skips said) (script : Script) (column : ℕ) (line : RecordLine) (rest : List ℕ) →
    said (box_front script column line ++ rest) ≡ said (codes "<use href='#box'/>" ++ rest)
unfolding box_front box_tooltip
front-skipped skips script column line rest = simp append_assoc
    (place-skipped skips line.object column line.worker _ ∙ skips-worded skips _ _ _ refl ∙ skips.fixed (codes "</title>") (codes "<use href='#box'/>" ++ rest) refl)

back-skipped : {T : Type 0} {said : List ℕ → T} (skips : Skips said) (script : Script) (number : ℕ) (line : RecordLine) (rest : List ℕ) → said (box_back script number line ++ rest) ≡ said rest
unfolding box_back box_name box_words box_marks
back-skipped skips script number line rest = simp append_assoc
    (skips-worded skips _ _ _ refl ∙ skips-numbered skips _ _ _ refl ∙ skips-worded skips _ _ _ refl ∙ skips-worded skips _ _ _ refl ∙ skips.fixed (codes "</text>") _ refl
    ∙ answer_mark-skipped skips line.answer _ ∙ generation_mark-skipped skips (told_generation line.extra) _ ∙ skips.fixed (codes "</g>\n") rest refl)

-- of a box the box itself is left, where what is said of it tells what is behind it
pub box-skipped : {T : Type 0} {said : List ℕ → T} (skips : Skips said) (script : Script) (before column : ℕ) (line : RecordLine) (rest : List ℕ) →
    (over : T → T) → ((text : List ℕ) → said (codes "<use href='#box'/>" ++ text) ≡ over (said text)) → said (box_text script before column line ++ rest) ≡ over (said rest)
box-skipped skips script before column line rest over tells = simp append_assoc
    (front-skipped skips script column line _ ∙ tells _ ∙ ap over (back-skipped skips script (before + column + 1) line rest))

-- ---- the lanes

lane-skipped : {T : Type 0} {said : List ℕ → T} (skips : Skips said) (lane : ℕ) (worker : WorkerLines) (rest : List ℕ) → said (lane_text lane worker ++ rest) ≡ said rest
unfolding lane_name lane_processor
lane-skipped skips lane worker rest = simp append_assoc
    (skips-numbered skips _ _ _ refl ∙ skips-numbered skips _ _ _ refl ∙ skips-worded skips _ _ _ refl ∙ skips-numbered skips _ _ _ refl ∙ skips-numbered skips _ _ _ refl
    ∙ skips.fixed (codes "</text>\n") rest refl)

pub lanes-skipped : {T : Type 0} {said : List ℕ → T} (skips : Skips said) (script : Script) (rest : List ℕ) → said (lanes script ++ rest) ≡ said rest
lanes-skipped skips script rest = skips-placed lane_text (lane-skipped skips) 0 script.workers rest

-- ---- the lines of swaps

begun-skipped : {T : Type 0} {said : List ℕ → T} (skips : Skips said) (left : ℕ) (rest : List ℕ) → (over : T → T) → ((text : List ℕ) → said (codes "<path class='s' d='M" ++ text) ≡ over (said text)) →
    said (numbered (codes "</tspan></text><path class='s' d='M") left ++ rest) ≡ over (said rest)
unfolding numbered
begun-skipped skips left rest over tells =
    skips.fixed (codes "</tspan></text>") (codes "<path class='s' d='M" ++ (decimal left ++ rest)) refl ∙ tells (decimal left ++ rest) ∙ ap over (skips.number left rest)

path-skipped : {T : Type 0} {said : List ℕ → T} (skips : Skips said) (column lanes : ℕ) (rest : List ℕ) → (over : T → T) → ((text : List ℕ) → said (codes "<path class='s' d='M" ++ text) ≡ over (said text)) →
    said (swap_path column lanes ++ rest) ≡ over (said rest)
unfolding swap_path
path-skipped skips column lanes rest over tells = simp append_assoc
    (begun-skipped skips (column_left column + 73) _ over tells ∙ ap over (skips-numbered skips _ _ _ refl ∙ skips.fixed (codes "'/></g>\n") rest refl))

-- of the line of a swap the line itself is left, where what is said of it tells what is behind it
pub swap_line-skipped : {T : Type 0} {said : List ℕ → T} (skips : Skips said) (script : Script) (column : ℕ) (line : RecordLine) (number : ℕ) (rest : List ℕ) →
    (over : T → T) → ((text : List ℕ) → said (codes "<path class='s' d='M" ++ text) ≡ over (said text)) → said (swap_line script column line number ++ rest) ≡ over (said rest)
unfolding swap_line swap_name swap_number
swap_line-skipped skips script column line number rest over tells = simp append_assoc
    (skips-numbered skips _ _ _ refl ∙ skips-numbered skips _ _ _ refl ∙ skips-worded skips _ _ _ refl ∙ skips-numbered skips _ _ _ refl ∙ skips-numbered skips _ _ _ refl ∙ skips-worded skips _ _ _ refl
    ∙ path-skipped skips column (length script.workers) rest over tells)

-- ---- the frames

frame-skipped : {T : Type 0} {said : List ℕ → T} (skips : Skips said) (lane first last : ℕ) (rest : List ℕ) → said (frame lane first last ++ rest) ≡ said rest
unfolding frame
frame-skipped skips lane first last rest = simp append_assoc
    (skips-numbered skips _ _ _ refl ∙ skips-numbered skips _ _ _ refl ∙ skips-numbered skips _ _ _ refl ∙ skips.fixed (codes "' height='64' rx='4'/>\n") rest refl)

frame_of_call-skipped : {T : Type 0} {said : List ℕ → T} (skips : Skips said) (lane : ℕ) (joined : Bool) (former column : ℕ) (generation : Option ℕ) (rest : List ℕ) → said (frame_of_call lane joined former column generation ++ rest) ≡ said rest
frame_of_call-skipped skips lane true former column (Some generation) rest = frame-skipped skips lane former column rest
frame_of_call-skipped skips lane false former column (Some generation) rest = frame-skipped skips lane column column rest
frame_of_call-skipped skips lane joined former column None rest = refl

frames_from-skipped : {T : Type 0} {said : List ℕ → T} (skips : Skips said) (lane : ℕ) (joined : List Bool) (former column : ℕ) (lines : List RecordLine) (rest : List ℕ) → said (frames_from lane joined former column lines ++ rest) ≡ said rest
frames_from-skipped skips lane joined former column [] rest = refl
frames_from-skipped skips lane joined former column (line ∷ lines) rest = elim (cases_Bool (line.worker == lane)) [
  | inl is ↦ rw is (simp append_assoc (frame_of_call-skipped skips lane (slice_index_or joined 0 false) former column (told_generation line.extra) _ ∙ frames_from-skipped skips lane (drop 1 joined) column (column + 1) lines rest))
  | inr is ↦ rw is (frames_from-skipped skips lane joined former (column + 1) lines rest)
]

pub frames-skipped : {T : Type 0} {said : List ℕ → T} (skips : Skips said) (script : Script) (before lines : List RecordLine) (rest : List ℕ) → said (frames script before lines ++ rest) ≡ said rest
frames-skipped skips script before lines rest =
    skips-placed (lane_frames before lines) (λ lane worker rest. frames_from-skipped skips lane (drop (length (lines_by lane before)) (joins worker.items)) 0 0 lines rest) 0 script.workers rest

-- ---- what marks the faulty entry

fault_at-skipped : {T : Type 0} {said : List ℕ → T} (skips : Skips said) (lanes columns column : ℕ) (line : RecordLine) (rest : List ℕ) → said (fault_at lanes columns column line ++ rest) ≡ said rest
unfolding fault_at fault_frame veil
fault_at-skipped skips lanes columns column line rest = simp append_assoc
    (skips-numbered skips _ _ _ refl ∙ skips-numbered skips _ _ _ refl ∙ skips.fixed (codes "'/>") _ refl
    ∙ skips-numbered skips _ _ _ refl ∙ skips-numbered skips _ _ _ refl ∙ skips-numbered skips _ _ _ refl ∙ skips.fixed (codes "'/>\n") rest refl)

found-skipped : {T : Type 0} {said : List ℕ → T} (skips : Skips said) (lanes columns column : ℕ) (found : Option RecordLine) (rest : List ℕ) → said (option_map_or (fault_at lanes columns column) found [] ++ rest) ≡ said rest
found-skipped skips lanes columns column (Some line) rest = fault_at-skipped skips lanes columns column line rest
found-skipped skips lanes columns column None rest = refl

fault_on-skipped : {T : Type 0} {said : List ℕ → T} (skips : Skips said) (lanes before : ℕ) (lines : List RecordLine) (number : ℕ) (rest : List ℕ) → said (fault_on lanes before lines number ++ rest) ≡ said rest
fault_on-skipped skips lanes before lines number rest = elim (cases_Bool (nat_le (before + 2) number)) [
  | inl is ↦ rw is (found-skipped skips lanes (length lines) (number - (before + 2)) (slice_get lines (number - (before + 2))) rest)
  | inr is ↦ rw is refl
]

pub fault-skipped : {T : Type 0} {said : List ℕ → T} (skips : Skips said) (lanes before : ℕ) (lines : List RecordLine) (verdict : Verdict) (rest : List ℕ) → said (fault lanes before lines verdict ++ rest) ≡ said rest
fault-skipped skips lanes before lines Lawful rest = refl
fault-skipped skips lanes before lines (Unlawful line rule) rest = fault_on-skipped skips lanes before lines line rest

-- ---- the head

rule-fixed : (rule : ℕ) → is_fixed (rule_words rule) ≡ true
rule-fixed rule = elim (cases_Bool (rule == 2)) [
  | inl is ↦ rw is refl
  | inr not_stamp ↦ elim (cases_Bool (rule == 8)) [
    | inl is ↦ rw (not_stamp, is) refl
    | inr not_line ↦ elim (cases_Bool (rule == 5)) [
      | inl is ↦ rw (not_stamp, not_line, is) refl
      | inr not_reply ↦ elim (cases_Bool (rule == 6)) [
        | inl is ↦ rw (not_stamp, not_line, not_reply, is) refl
        | inr not_swap ↦ elim (cases_Bool (rule == 7)) [
          | inl is ↦ rw (not_stamp, not_line, not_reply, not_swap, is) refl
          | inr not_busy ↦ elim (cases_Bool (rule == 21)) [
            | inl is ↦ rw (not_stamp, not_line, not_reply, not_swap, not_busy, is) refl
            | inr not_step ↦ rw (not_stamp, not_line, not_reply, not_swap, not_busy, not_step) refl
          ]
        ]
      ]
    ]
  ]
]

verdict-skipped : {T : Type 0} {said : List ℕ → T} (skips : Skips said) (verdict : Verdict) (entries : ℕ) (rest : List ℕ) → said (verdict_text verdict entries ++ rest) ≡ said rest
verdict-skipped skips Lawful entries rest = skips-numbered skips _ _ _ refl
verdict-skipped skips (Unlawful line rule) entries rest = simp append_assoc (skips-numbered skips _ _ _ refl ∙ skips-numbered skips _ _ _ refl ∙ skips.fixed (rule_words rule) rest (rule-fixed rule))

shapes-fixed : is_fixed shapes ≡ true
unfolding shapes
shapes-fixed = refl

colours-fixed : is_fixed colours ≡ true
unfolding colours
colours-fixed = refl

marks-fixed : is_fixed marks ≡ true
unfolding marks
marks-fixed = refl

style-skipped : {T : Type 0} {said : List ℕ → T} (skips : Skips said) (rest : List ℕ) → said (style ++ rest) ≡ said rest
unfolding style
style-skipped skips rest = simp append_assoc (skips.fixed shapes _ shapes-fixed ∙ skips.fixed colours _ colours-fixed ∙ skips.fixed marks rest marks-fixed)

opening-skipped : {T : Type 0} {said : List ℕ → T} (skips : Skips said) (columns lanes : ℕ) (rest : List ℕ) → said (opening columns lanes ++ rest) ≡ said rest
unfolding opening
opening-skipped skips columns lanes rest = simp append_assoc (skips-numbered skips _ _ _ refl ∙ skips-numbered skips _ _ _ refl ∙ skips.fixed (codes "'>\n") rest refl)

verdict_line-skipped : {T : Type 0} {said : List ℕ → T} (skips : Skips said) (verdict : Verdict) (entries : ℕ) (rest : List ℕ) → said (verdict_line verdict entries ++ rest) ≡ said rest
unfolding verdict_line
verdict_line-skipped {said} skips verdict entries rest =
    let words : List ℕ = verdict_text verdict entries in
    let ending : List ℕ = codes "</text>\n" in
    skips.fixed (codes "<rect width='100%' height='100%' fill='#fff'/>\n<text class='v' x='8' y='20'>") ((words ++ ending) ++ rest) refl
    ∙ ap said (append_assoc words ending rest) ∙ verdict-skipped skips verdict entries (ending ++ rest) ∙ skips.fixed ending rest refl

pub head-skipped : {T : Type 0} {said : List ℕ → T} (skips : Skips said) (verdict : Verdict) (entries columns lanes : ℕ) (rest : List ℕ) → said (head verdict entries columns lanes ++ rest) ≡ said rest
unfolding head
head-skipped skips verdict entries columns lanes rest = simp append_assoc (opening-skipped skips columns lanes _ ∙ style-skipped skips _ ∙ verdict_line-skipped skips verdict entries rest)
