-- Each `&` of a picture begins the name of a byte.
use Rattle.std.proofs.Common.{◌≡◌, ℕ, true, false, List, [], ◌∷◌, ◌++◌, length, take, refl, ◌∙◌, arith}
use Rattle.std.specs.Prelude.{◌==◌, ◌&&◌, codes}
use Rattle.std.specs.List.{list_all}
use Rattle.std.specs.Fmt.{decimal, digit_glyph}
use Rattle.std.proofs.lemmas.Bool.{and_parts}
use Rattle.std.proofs.lemmas.Bool.Decides.{nat_tests}
use Rattle.std.proofs.lemmas.List.{append_assoc}
use Rattle.k42_kinds.specs.declared.operation.Reply.{Reply}
use Rattle.k42_kinds.specs.declared.entry.Answer.{Answer}
use Rattle.k42_kinds.specs.declared.entry.Answer.TheVariants.{Replied, Swapped, Busy, Spent, Gone, Abandoned}
use Rattle.script_text.specs.declared.script.Script.{Script}
use Rattle.record_text.specs.declared.record.Record.{Record}
use Rattle.record_text.specs.declared.record.RecordLine.{RecordLine}
use Rattle.record_picture.specs.Boxes.{box_text, boxes}
use Rattle.record_picture.specs.Faults.{fault}
use Rattle.record_picture.specs.Harmless.{names_entities}
use Rattle.record_picture.specs.Picture.{ground, entries, picture}
use Rattle.record_picture.specs.Pieces.{escaped}
use Rattle.record_picture.specs.Swaps.{swap_answered, swap_text, swap_lines}
use Rattle.record_picture.specs.Windows.{shown}
use Rattle.record_picture.specs.declared.verdict.Verdict.{Verdict}
use Rattle.record_picture.specs.declared.window.Window.{Window}
use Rattle.record_picture.proofs.Escapes.{names-escape}
use Rattle.record_picture.proofs.Skips.{Skips, is_plain, misses, decimal-each, skips-placed}
use Rattle.record_picture.proofs.SkippedPieces.{box-skipped, lanes-skipped, swap_line-skipped, frames-skipped, fault-skipped, head-skipped}

names-plain : (text rest : List ℕ) → list_all is_plain text ≡ true → names_entities (text ++ rest) ≡ names_entities rest
names-plain [] rest plain = refl
names-plain (byte ∷ text) rest plain =
    let parts = and_parts (is_plain byte) (list_all is_plain text) plain in
    let other : (byte == 38) ≡ false = grind (arith, nat_tests, parts.0) in
    rw other (names-plain text rest parts.1)

names-word : (word rest : List ℕ) → names_entities (escaped word ++ rest) ≡ names_entities rest
names-word [] rest = refl
names-word (byte ∷ word) rest = simp append_assoc (names-escape byte (escaped word ++ rest) ∙ names-word word rest)

glyph-plain : (digit : ℕ) → is_plain (digit_glyph false digit) ≡ true
glyph-plain digit = grind (arith, nat_tests)

names-skips : Skips names_entities
names-skips = record {
  fixed = λ text rest fixed. names-plain text rest (and_parts (list_all is_plain text) (misses (codes "<use href='#box'/>") text && misses (codes "<path class='s'") text) fixed).0;
  number = λ n rest. names-plain (decimal n) rest (decimal-each is_plain glyph-plain n);
  word = names-word;
}

boxes-names : (script : Script) (before : ℕ) (lines : List RecordLine) (rest : List ℕ) → names_entities (boxes script before lines ++ rest) ≡ names_entities rest
boxes-names script before lines rest = skips-placed (box_text script before) (λ column line rest. box-skipped names-skips script before column line rest (λ is. is) (λ text. refl)) 0 lines rest

swap-names : (script : Script) (column : ℕ) (line : RecordLine) (answer : Answer Reply) (rest : List ℕ) → names_entities (swap_answered script column line answer ++ rest) ≡ names_entities rest
swap-names script column line (Replied reply) rest = refl
swap-names script column line (Swapped number) rest = swap_line-skipped names-skips script column line number rest (λ is. is) (λ text. refl)
swap-names script column line (Busy number) rest = refl
swap-names script column line Spent rest = refl
swap-names script column line Gone rest = refl
swap-names script column line (Abandoned number) rest = refl

swap_lines-names : (script : Script) (lines : List RecordLine) (rest : List ℕ) → names_entities (swap_lines script lines ++ rest) ≡ names_entities rest
swap_lines-names script lines rest = skips-placed (swap_text script) (λ column line rest. swap-names script column line line.answer rest) 0 lines rest

ground-names : (script : Script) (before lines : List RecordLine) (rest : List ℕ) → names_entities (ground script before lines ++ rest) ≡ names_entities rest
unfolding ground
ground-names script before lines rest = simp append_assoc (lanes-skipped names-skips script _ ∙ frames-skipped names-skips script before lines _ ∙ swap_lines-names script lines rest)

entries-names : (script : Script) (before : ℕ) (lines : List RecordLine) (verdict : Verdict) → names_entities (entries script before lines verdict) ≡ true
unfolding entries
entries-names script before lines verdict = simp append_assoc
    (boxes-names script before lines (fault (length script.workers) before lines verdict ++ codes "</svg>\n")
    ∙ fault-skipped names-skips (length script.workers) before lines verdict (codes "</svg>\n"))

pub picture-names : (script : Script) (written : Record) (verdict : Verdict) (window : Window) → names_entities (picture script written verdict window) ≡ true
picture-names script written verdict window =
    let lines : List RecordLine = shown window written.lines in
    let before : List RecordLine = take window.before written.lines in
    let marked : List ℕ = entries script window.before lines verdict in
    simp append_assoc
    (head-skipped names-skips verdict (length written.lines) (length lines) (length script.workers) (ground script before lines ++ marked)
    ∙ ground-names script before lines marked ∙ entries-names script window.before lines verdict)
