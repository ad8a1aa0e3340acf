-- A picture has as many boxes as entries, and as many lines of swaps as were carried out.
use Rattle.std.proofs.Common.{◌≡◌, ℕ, ◌+◌, Bool, true, false, not, cond, List, [], ◌∷◌, ◌++◌, length, take, refl, ap, ◌∙◌, inl, inr, arith}
use Rattle.std.specs.Prelude.{◌==◌, ◌&&◌, codes, count_by, sum_by}
use Rattle.std.specs.List.{list_all}
use Rattle.std.specs.Fmt.{decimal, digit_glyph}
use Rattle.std.proofs.lemmas.Bool.{and_parts, cases_Bool}
use Rattle.std.proofs.lemmas.Bool.Decides.{nat_tests}
use Rattle.std.proofs.lemmas.List.{append_assoc}
use Rattle.std.proofs.lemmas.List.Sums.{sum_by-cons}
use Rattle.k42_kinds.specs.declared.operation.Reply.{Reply}
use Rattle.k42_kinds.specs.declared.entry.Answer.{Answer}
use Rattle.k42_kinds.specs.declared.entry.Answer.TheVariants.{Replied, Swapped, Busy, Spent, Gone, Abandoned}
use Rattle.script_text.specs.declared.script.Script.{Script}
use Rattle.record_text.specs.declared.record.Record.{Record}
use Rattle.record_text.specs.declared.record.RecordLine.{RecordLine}
use Rattle.record_picture.specs.Boxes.{box_text, boxes}
use Rattle.k42_kinds.specs.Histories as histories
use Rattle.record_picture.specs.Counts.{begins, count_of, is_carried_out}
use Rattle.record_picture.specs.Faults.{fault}
use Rattle.record_picture.specs.Harmless.{is_inert}
use Rattle.record_picture.specs.Picture.{ground, entries, picture}
use Rattle.record_picture.specs.Pieces.{escaped, placed_texts}
use Rattle.record_picture.specs.Swaps.{swap_answered, swap_text, swap_lines}
use Rattle.record_picture.specs.Windows.{shown}
use Rattle.record_picture.specs.declared.verdict.Verdict.{Verdict}
use Rattle.record_picture.specs.declared.window.Window.{Window}
use Rattle.record_picture.proofs.Escapes.{escaped-inert}
use Rattle.record_picture.proofs.Skips.{Skips, is_plain, is_fixed, clashes, misses, decimal-each, skips-placed}
use Rattle.record_picture.proofs.SkippedPieces.{box-skipped, lanes-skipped, swap_line-skipped, frames-skipped, fault-skipped, head-skipped}

clashes-begins : (mark text rest : List ℕ) → clashes mark text ≡ true → begins mark (text ++ rest) ≡ false
clashes-begins [] text rest clash = cc
clashes-begins (byte ∷ mark) [] rest clash = cc
clashes-begins (byte ∷ mark) (first ∷ text) rest clash = elim (cases_Bool (byte == first)) [
  | inl is ↦ rw is (clashes-begins mark text rest (rw is at clash))
  | inr is ↦ rw is refl
]

missed : (mark text rest : List ℕ) → misses mark text ≡ true → count_of mark (text ++ rest) ≡ count_of mark rest
missed mark [] rest miss = refl
missed mark (byte ∷ text) rest miss =
    let parts = and_parts (clashes mark (byte ∷ text)) (misses mark text) miss in
    rw (clashes-begins mark (byte ∷ text) rest parts.0) (omega (arith, missed mark text rest parts.1))

-- no tag begins with the byte
is_tagless : ℕ → Bool
is_tagless byte = not (byte == 60)

tagless-missed : (mark text rest : List ℕ) → list_all is_tagless text ≡ true → count_of (60 ∷ mark) (text ++ rest) ≡ count_of (60 ∷ mark) rest
unfolding is_tagless
tagless-missed mark [] rest tagless = refl
tagless-missed mark (byte ∷ text) rest tagless =
    let parts = and_parts (is_tagless byte) (list_all is_tagless text) tagless in
    let other : (60 == byte) ≡ false = grind (arith, nat_tests, parts.0) in
    rw other (omega (arith, tagless-missed mark text rest parts.1))

inert-tagless : (text : List ℕ) → list_all is_inert text ≡ true → list_all is_tagless text ≡ true
unfolding is_tagless
inert-tagless [] inert = refl
inert-tagless (byte ∷ text) inert =
    let parts = and_parts (is_inert byte) (list_all is_inert text) inert in
    let other : (byte == 60) ≡ false = grind (arith, nat_tests, parts.0) in
    rw (other, inert-tagless text parts.1) refl

glyph-tagless : (digit : ℕ) → is_tagless (digit_glyph false digit) ≡ true
unfolding is_tagless
glyph-tagless digit = grind (arith, nat_tests)

number-missed : (mark : List ℕ) (n : ℕ) (rest : List ℕ) → count_of (60 ∷ mark) (decimal n ++ rest) ≡ count_of (60 ∷ mark) rest
number-missed mark n rest = tagless-missed mark (decimal n) rest (decimal-each is_tagless glyph-tagless n)

word-missed : (mark bytes rest : List ℕ) → count_of (60 ∷ mark) (escaped bytes ++ rest) ≡ count_of (60 ∷ mark) rest
word-missed mark bytes rest = tagless-missed mark (escaped bytes) rest (inert-tagless (escaped bytes) (escaped-inert bytes))

fixed-parts : (text : List ℕ) → is_fixed text ≡ true → (misses (codes "<use href='#box'/>") text ≡ true) × (misses (codes "<path class='s'") text ≡ true)
fixed-parts text fixed = and_parts (misses (codes "<use href='#box'/>") text) (misses (codes "<path class='s'") text)
    (and_parts (list_all is_plain text) (misses (codes "<use href='#box'/>") text && misses (codes "<path class='s'") text) fixed).1

-- each item owes so many marks
counted : {X : Type 0} (count : List ℕ → ℕ) (text : ℕ → X → List ℕ) (owed : X → ℕ) → ((place : ℕ) (item : X) (rest : List ℕ) → count (text place item ++ rest) ≡ owed item + count rest) →
    (place : ℕ) (items : List X) (rest : List ℕ) → count (placed_texts text place items ++ rest) ≡ sum_by owed items + count rest
counted count text owed each place [] rest = omega arith
counted count text owed each place (item ∷ items) rest =
    let tail : List ℕ = placed_texts text (place + 1) items in
    ap count (append_assoc (text place item) tail rest) ∙ each place item (tail ++ rest)
    ∙ omega (arith, counted count text owed each (place + 1) items rest, sum_by-cons owed item items)

-- ---- the boxes

count_boxes : List ℕ → ℕ
count_boxes text = count_of (codes "<use href='#box'/>") text

boxes-skip : Skips count_boxes
unfolding count_boxes
boxes-skip = record {
  fixed = λ text rest fixed. missed (codes "<use href='#box'/>") text rest (fixed-parts text fixed).0;
  number = λ n rest. number-missed (codes "use href='#box'/>") n rest;
  word = λ bytes rest. word-missed (codes "use href='#box'/>") bytes rest;
}

one_box : (text : List ℕ) → count_boxes (codes "<use href='#box'/>" ++ text) ≡ 1 + count_boxes text
unfolding count_boxes
one_box text = ap (λ n. 1 + n) (missed (codes "<use href='#box'/>") (codes "use href='#box'/>") text refl)

no_box : (text : List ℕ) → count_boxes (codes "<path class='s' d='M" ++ text) ≡ count_boxes text
unfolding count_boxes
no_box text = missed (codes "<use href='#box'/>") (codes "<path class='s' d='M") text refl

sum_by-one : (lines : List RecordLine) → sum_by (λ line. 1) lines ≡ length lines
sum_by-one [] = refl
sum_by-one (line ∷ lines) = omega (arith, sum_by-cons (λ line. 1) line lines, sum_by-one lines)

boxes-counted : (script : Script) (before : ℕ) (lines : List RecordLine) (rest : List ℕ) → count_boxes (boxes script before lines ++ rest) ≡ length lines + count_boxes rest
boxes-counted script before lines rest =
    counted count_boxes (box_text script before) (λ line. 1) (λ column line rest. box-skipped boxes-skip script before column line rest (λ n. 1 + n) one_box) 0 lines rest
    ∙ ap (λ n. n + count_boxes rest) (sum_by-one lines)

swap-boxless : (script : Script) (column : ℕ) (line : RecordLine) (answer : Answer Reply) (rest : List ℕ) → count_boxes (swap_answered script column line answer ++ rest) ≡ count_boxes rest
swap-boxless script column line (Replied reply) rest = refl
swap-boxless script column line (Swapped number) rest = swap_line-skipped boxes-skip script column line number rest (λ n. n) no_box
swap-boxless script column line (Busy number) rest = refl
swap-boxless script column line Spent rest = refl
swap-boxless script column line Gone rest = refl
swap-boxless script column line (Abandoned number) rest = refl

ground-boxless : (script : Script) (before lines : List RecordLine) (rest : List ℕ) → count_boxes (ground script before lines ++ rest) ≡ count_boxes rest
unfolding ground
ground-boxless script before lines rest = simp append_assoc
    (lanes-skipped boxes-skip script _ ∙ frames-skipped boxes-skip script before lines _ ∙ skips-placed (swap_text script) (λ column line rest. swap-boxless script column line line.answer rest) 0 lines rest)

entries-boxes : (script : Script) (before : ℕ) (lines : List RecordLine) (verdict : Verdict) → count_boxes (entries script before lines verdict) ≡ length lines
unfolding entries count_boxes
entries-boxes script before lines verdict = simp append_assoc
    (boxes-counted script before lines (fault (length script.workers) before lines verdict ++ codes "</svg>\n")
    ∙ ap (λ n. length lines + n) (fault-skipped boxes-skip (length script.workers) before lines verdict (codes "</svg>\n")) ∙ omega arith)

pub picture-boxes : (script : Script) (written : Record) (verdict : Verdict) (window : Window) → count_of (codes "<use href='#box'/>") (picture script written verdict window) ≡ length (shown window written.lines)
unfolding count_boxes
picture-boxes script written verdict window =
    let lines : List RecordLine = shown window written.lines in
    let before : List RecordLine = take window.before written.lines in
    let marked : List ℕ = entries script window.before lines verdict in
    simp append_assoc
    (head-skipped boxes-skip verdict (length written.lines) (length lines) (length script.workers) (ground script before lines ++ marked)
    ∙ ground-boxless script before lines marked ∙ entries-boxes script window.before lines verdict)

-- ---- the lines of swaps

count_lines : List ℕ → ℕ
count_lines text = count_of (codes "<path class='s'") text

lines-skip : Skips count_lines
unfolding count_lines
lines-skip = record {
  fixed = λ text rest fixed. missed (codes "<path class='s'") text rest (fixed-parts text fixed).1;
  number = λ n rest. number-missed (codes "path class='s'") n rest;
  word = λ bytes rest. word-missed (codes "path class='s'") bytes rest;
}

one_line : (text : List ℕ) → count_lines (codes "<path class='s' d='M" ++ text) ≡ 1 + count_lines text
unfolding count_lines
one_line text = ap (λ n. 1 + n) (missed (codes "<path class='s'") (codes "path class='s' d='M") text refl)

no_line : (text : List ℕ) → count_lines (codes "<use href='#box'/>" ++ text) ≡ count_lines text
unfolding count_lines
no_line text = missed (codes "<path class='s'") (codes "<use href='#box'/>") text refl

swap-counted : (script : Script) (column : ℕ) (line : RecordLine) (answer : Answer Reply) (rest : List ℕ) → count_lines (swap_answered script column line answer ++ rest) ≡ cond (histories.is_carried_out answer) 1 0 + count_lines rest
swap-counted script column line (Replied reply) rest = omega arith
swap-counted script column line (Swapped number) rest = swap_line-skipped lines-skip script column line number rest (λ n. 1 + n) one_line
swap-counted script column line (Busy number) rest = omega arith
swap-counted script column line Spent rest = omega arith
swap-counted script column line Gone rest = omega arith
swap-counted script column line (Abandoned number) rest = omega arith

lines-counted : (script : Script) (lines : List RecordLine) (rest : List ℕ) → count_lines (swap_lines script lines ++ rest) ≡ count_by is_carried_out lines + count_lines rest
lines-counted script lines rest =
    counted count_lines (swap_text script) (λ line. cond (is_carried_out line) 1 0) (λ column line rest. swap-counted script column line line.answer rest) 0 lines rest

entries-lineless : (script : Script) (before : ℕ) (lines : List RecordLine) (verdict : Verdict) → count_lines (entries script before lines verdict) ≡ 0
unfolding entries count_lines
entries-lineless script before lines verdict = simp append_assoc
    (skips-placed (box_text script before) (λ column line rest. box-skipped lines-skip script before column line rest (λ n. n) no_line) 0 lines (fault (length script.workers) before lines verdict ++ codes "</svg>\n")
    ∙ fault-skipped lines-skip (length script.workers) before lines verdict (codes "</svg>\n"))

ground-lines : (script : Script) (before lines : List RecordLine) (rest : List ℕ) → count_lines (ground script before lines ++ rest) ≡ count_by is_carried_out lines + count_lines rest
unfolding ground
ground-lines script before lines rest = simp append_assoc
    (lanes-skipped lines-skip script _ ∙ frames-skipped lines-skip script before lines _ ∙ lines-counted script lines rest)

pub picture-lines : (script : Script) (written : Record) (verdict : Verdict) (window : Window) → count_of (codes "<path class='s'") (picture script written verdict window) ≡ count_by is_carried_out (shown window written.lines)
unfolding count_lines
picture-lines script written verdict window =
    let lines : List RecordLine = shown window written.lines in
    let before : List RecordLine = take window.before written.lines in
    let marked : List ℕ = entries script window.before lines verdict in
    simp append_assoc
    (head-skipped lines-skip verdict (length written.lines) (length lines) (length script.workers) (ground script before lines ++ marked)
    ∙ ground-lines script before lines marked ∙ omega (arith, entries-lineless script window.before lines verdict))
