-- Where a box stands, what a text becomes and what is counted, as the check computes it: accepted and refused.
use Rattle.std.proofs.Common.{◌≡◌, ℕ, List, [], get_or, false, refl, ap, arith}
use Rattle.std.specs.Prelude.{codes}
use Rattle.std.specs.Fmt.{digits}
use Rattle.std.specs.Str.{bytes_eq}
use Rattle.k42_kinds.specs.declared.operation.Op.TheVariants.{Write}
use Rattle.k42_kinds.specs.declared.operation.Reply.TheVariants.{Done}
use Rattle.k42_kinds.specs.declared.entry.Act.TheVariants.{Call}
use Rattle.k42_kinds.specs.declared.entry.Answer.TheVariants.{Replied}
use Rattle.record_picture.specs.Boxes.{box_words}
use Rattle.record_picture.specs.Counts.{count_of}
use Rattle.record_picture.specs.Harmless.{markup, names_entities}
use Rattle.record_picture.specs.Pieces.{worded}
use Rattle.record_picture.specs.Placed.{IsGroupAt, IsLineDown}

-- a text that looks like a tag is written so that it is none
written : box_words (Call (Write 5 (codes "<a&'b>"))) (Replied Done) ≡ codes "</text><text x='4' y='26'>  write 5 &lt;a&amp;&apos;b&gt;</text><text x='4' y='40'>= ok</text>"
unfolding box_words worded digits
written = refl

-- so it adds no markup
no_markup : markup (box_words (Call (Write 5 (codes "<a&'b>"))) (Replied Done)) ≡ codes "<><''''><><''''><>"
unfolding box_words worded digits
no_markup = refl

-- as it is, it would
bare_text : bytes_eq (markup (codes "<title>1 ann 4 p write 5 <a&'b> = ok @0</title>")) (markup (codes "<title>1 ann 4  get = ok @0</title>")) ≡ false
bare_text = refl

bare_and : names_entities (codes "<title>1 ann 4 p write 5 <a&'b> = ok @0</title>") ≡ false
bare_and = refl

-- ---- places

group : List ℕ
group = codes "<g class='o0' transform='translate(282,143)'><use href='#box'/></g>\n"

-- in column 1, lane 1
there : IsGroupAt 0 282 143 group
unfolding group digits
there = record { inside = codes "<use href='#box'/>"; spelled = refl }

not_in_lane_0 : IsGroupAt 0 282 71 group → ⊥
unfolding group digits
not_in_lane_0 is = let digit : 49 ≡ 55 = ap (λ bytes. get_or bytes 39 0) is.spelled in absurd (omega (arith, digit))

not_in_column_0 : IsGroupAt 0 130 143 group → ⊥
unfolding group digits
not_in_column_0 is = let digit : 50 ≡ 49 = ap (λ bytes. get_or bytes 35 0) is.spelled in absurd (omega (arith, digit))

no_empty_box : (object left top : ℕ) → IsGroupAt object left top [] → ⊥
no_empty_box object left top is = cc is.spelled

no_empty_line : (object left bottom : ℕ) → IsLineDown object left bottom [] → ⊥
no_empty_line object left bottom is = cc is.spelled

-- ---- counts

two_boxes : count_of (codes "<use href='#box'/>") (codes "<g><use href='#box'/></g><g><use href='#box'/></g>") ≡ 2
two_boxes = refl

no_box : count_of (codes "<use href='#box'/>") (codes "<g><use href='#busy'/></g>") ≡ 0
no_box = refl
