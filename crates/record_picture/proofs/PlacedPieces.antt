-- Where boxes and lines of swaps stand, and that a picture has them.
use Rattle.std.proofs.Common.{◌≡◌, ℕ, zero, suc, ◌+◌, List, [], ◌∷◌, ◌++◌, length, take, refl, subst, arith}
use Rattle.std.specs.Prelude.{codes, Some, slice_get}
use Rattle.std.specs.Fmt.{decimal}
use Rattle.std.proofs.lemmas.List.{append_assoc}
use Rattle.std.proofs.lemmas.Option.{same_Some}
use Rattle.k42_kinds.specs.declared.operation.Reply.{Reply}
use Rattle.k42_kinds.specs.declared.entry.Answer.{Answer}
use Rattle.k42_kinds.specs.declared.entry.Answer.TheVariants.{Swapped}
use Rattle.script_text.specs.declared.script.Script.{Script}
use Rattle.record_text.specs.declared.record.Record.{Record}
use Rattle.record_text.specs.declared.record.RecordLine.{RecordLine}
use Rattle.record_text.specs.Texts.{object_name, line_tokens}
use Rattle.record_text.specs.Told.{told_generation}
use Rattle.record_text.specs.Tokens.{spaced}
use Rattle.record_picture.specs.Boxes.{box_place, box_tooltip, box_name, box_words, box_marks, box_front, box_back, box_text, answer_mark, generation_mark}
use Rattle.record_picture.specs.Faults.{fault}
use Rattle.record_picture.specs.Frames.{frames}
use Rattle.record_picture.specs.Head.{head}
use Rattle.record_picture.specs.Lanes.{lanes}
use Rattle.record_picture.specs.Measures.{column_left, lane_top}
use Rattle.record_picture.specs.Picture.{ground, entries, picture}
use Rattle.record_picture.specs.Pieces.{escaped, numbered, worded, placed_texts}
use Rattle.record_picture.specs.Placed.{IsGroupAt, IsLineDown, StandsIn}
use Rattle.record_picture.specs.Swaps.{swap_name, swap_number, swap_path, swap_line, swap_answered, swap_text}
use Rattle.record_picture.specs.Windows.{shown}
use Rattle.record_picture.specs.declared.verdict.Verdict.{Verdict}
use Rattle.record_picture.specs.declared.window.Window.{Window}

-- the same parts in the same order
place-joined : (a b c d e f : List ℕ) → ((a ++ b) ++ (c ++ d)) ++ (e ++ f) ≡ a ++ b ++ c ++ d ++ e ++ f
place-joined a b c d e f = simp append_assoc refl

box-joined : (place start title name words mark generation last : List ℕ) →
    (place ++ (start ++ title)) ++ ((name ++ words) ++ ((mark ++ generation) ++ last)) ≡ (place ++ start) ++ (title ++ name ++ words ++ mark ++ generation) ++ last
box-joined place start title name words mark generation last = simp append_assoc refl

swap-joined : (a b c d e f g h i j k l m n : List ℕ) →
    ((((a ++ b) ++ ((c ++ d) ++ e)) ++ (f ++ g)) ++ h) ++ ((((i ++ j) ++ k) ++ (l ++ m)) ++ n) ≡ a ++ b ++ c ++ (d ++ e ++ f ++ g ++ h ++ i) ++ j ++ k ++ l ++ m ++ n
swap-joined a b c d e f g h i j k l m n = simp append_assoc refl

group_front : ℕ → ℕ → ℕ → List ℕ
group_front object left top = codes "<g class='o" ++ decimal object ++ codes "' transform='translate(" ++ decimal left ++ codes "," ++ decimal top

place-spelled : (object column lane : ℕ) → box_place object column lane ≡ group_front object (column_left column) (lane_top lane + 7)
unfolding box_place numbered group_front
place-spelled object column lane = place-joined (codes "<g class='o") (decimal object) (codes "' transform='translate(") (decimal (column_left column)) (codes ",") (decimal (lane_top lane + 7))

box_title : Script → RecordLine → List ℕ
box_title script line = codes "<title>" ++ escaped (spaced (line_tokens script line)) ++ codes "</title><use href='#box'/>"

tooltip-spelled : (script : Script) (line : RecordLine) → box_tooltip script line ≡ codes ")'>" ++ box_title script line
unfolding box_tooltip box_title worded
tooltip-spelled script line = refl

title-joined : (place start begin words end box back : List ℕ) → (place ++ (start ++ ((begin ++ words) ++ (end ++ box)))) ++ back ≡ (place ++ start) ++ (begin ++ words ++ end) ++ (box ++ back)
title-joined place start begin words end box back = simp append_assoc refl

pub title-stands : (script : Script) (before column : ℕ) (line : RecordLine) → StandsIn (codes "<title>" ++ escaped (spaced (line_tokens script line)) ++ codes "</title>") (box_text script before column line)
unfolding box_front box_title
title-stands script before column line = record {
  front = box_place line.object column line.worker ++ codes ")'>";
  back = codes "<use href='#box'/>" ++ box_back script (before + column + 1) line;
  spelled = rw (tooltip-spelled script line)
      (title-joined (box_place line.object column line.worker) (codes ")'>") (codes "<title>") (escaped (spaced (line_tokens script line))) (codes "</title>") (codes "<use href='#box'/>")
      (box_back script (before + column + 1) line));
}

pub box-placed : (script : Script) (before column : ℕ) (line : RecordLine) → IsGroupAt line.object (column_left column) (lane_top line.worker + 7) (box_text script before column line)
unfolding box_front box_back box_marks group_front
box-placed script before column line = record {
  inside = box_title script line ++ box_name (object_name script line.object) (before + column + 1) ++ box_words line.act line.answer
      ++ answer_mark line.answer ++ generation_mark (told_generation line.extra);
  spelled = rw (place-spelled line.object column line.worker, tooltip-spelled script line)
      (box-joined (group_front line.object (column_left column) (lane_top line.worker + 7)) (codes ")'>") (box_title script line) (box_name (object_name script line.object) (before + column + 1)) (box_words line.act line.answer)
      (answer_mark line.answer) (generation_mark (told_generation line.extra)) (codes "</g>\n"));
}

swap_line-placed : (script : Script) (column : ℕ) (line : RecordLine) (number : ℕ) → IsLineDown line.object (column_left column + 73) (lane_top (length script.workers)) (swap_line script column line number)
unfolding swap_line swap_name swap_path numbered worded
swap_line-placed script column line number = record {
  label = codes "<text x='" ++ decimal (column_left column) ++ codes "' y='38'>" ++ escaped (object_name script line.object) ++ swap_number column number line.act ++ codes "</tspan></text>";
  spelled = swap-joined (codes "<g class='o") (decimal line.object) (codes "'>") (codes "<text x='") (decimal (column_left column)) (codes "' y='38'>") (escaped (object_name script line.object)) (swap_number column number line.act)
      (codes "</tspan></text>") (codes "<path class='s' d='M") (decimal (column_left column + 73)) (codes " 56V") (decimal (lane_top (length script.workers))) (codes "'/></g>\n");
}

pub swap-placed : (script : Script) (column : ℕ) (line : RecordLine) (answer : Answer Reply) (number : ℕ) → answer ≡ Swapped number → IsLineDown line.object (column_left column + 73) (lane_top (length script.workers)) (swap_answered script column line answer)
swap-placed script column line answer number swapped = rw swapped (swap_line-placed script column line number)

-- ---- what stands in a picture

pub stands-before : {part whole : List ℕ} (back : List ℕ) → StandsIn part whole → StandsIn part (whole ++ back)
stands-before {part} back stands = record {
  front = stands.front;
  back = stands.back ++ back;
  spelled = rw stands.spelled (simp append_assoc refl);
}

pub stands-behind : {part whole : List ℕ} (front : List ℕ) → StandsIn part whole → StandsIn part (front ++ whole)
stands-behind {part} front stands = record {
  front = front ++ stands.front;
  back = stands.back;
  spelled = rw stands.spelled (simp append_assoc refl);
}

stands-placed : {X : Type 0} (text : ℕ → X → List ℕ) (from : ℕ) (items : List X) (place : ℕ) (item : X) → slice_get items place ≡ Some item → StandsIn (text (from + place) item) (placed_texts text from items)
stands-placed text from [] place item found = cc
stands-placed text from (first ∷ items) zero item found =
    let here : from + 0 ≡ from = omega arith in
    record {
      front = [];
      back = placed_texts text (from + 1) items;
      spelled = rw (here, same_Some first item found) refl;
    }
stands-placed text from (first ∷ items) (suc place) item found =
    let there : from + suc place ≡ (from + 1) + place = omega arith in
    rw there (stands-behind (text from first) (stands-placed text (from + 1) items place item found))

shown-stands : {X : Type 0} (text : ℕ → X → List ℕ) (items : List X) (place : ℕ) (item : X) → slice_get items place ≡ Some item → StandsIn (text place item) (placed_texts text 0 items)
shown-stands text items place item found =
    let here : 0 + place ≡ place = omega arith in
    subst (λ n. StandsIn (text n item) (placed_texts text 0 items)) here (stands-placed text 0 items place item found)

pub box-stands : (script : Script) (written : Record) (verdict : Verdict) (window : Window) (place : ℕ) (line : RecordLine) → slice_get (shown window written.lines) place ≡ Some line →
    StandsIn (box_text script window.before place line) (picture script written verdict window)
unfolding entries
box-stands script written verdict window place line found =
    let lines : List RecordLine = shown window written.lines in
    stands-behind (head verdict (length written.lines) (length lines) (length script.workers) ++ ground script (take window.before written.lines) lines)
    (stands-before (codes "</svg>\n") (stands-before (fault (length script.workers) window.before lines verdict) (shown-stands (box_text script window.before) lines place line found)))

pub swap-stands : (script : Script) (written : Record) (verdict : Verdict) (window : Window) (place : ℕ) (line : RecordLine) → slice_get (shown window written.lines) place ≡ Some line →
    StandsIn (swap_text script place line) (picture script written verdict window)
unfolding ground
swap-stands script written verdict window place line found =
    let lines : List RecordLine = shown window written.lines in
    let before : List RecordLine = take window.before written.lines in
    stands-before (entries script window.before lines verdict) (stands-behind (head verdict (length written.lines) (length lines) (length script.workers))
    (stands-behind (lanes script ++ frames script before lines) (shown-stands (swap_text script) lines place line found)))
