-- What passes over the fixed texts, the numbers and the escaped words of a picture.
use Rattle.std.proofs.Common.{◌≡◌, ℕ, zero, suc, ◌+◌, ◌/◌, ◌%◌, Bool, true, false, not, List, [], ◌∷◌, ◌++◌, refl, ◌∙◌, inl, inr}
use Rattle.std.specs.Prelude.{◌==◌, ◌&&◌, if◌then◌else◌, codes}
use Rattle.std.specs.List.{list_all}
use Rattle.std.specs.Fmt.{decimal, digits, digits_onto, digit_glyph}
use Rattle.std.proofs.lemmas.Bool.{cases_Bool}
use Rattle.std.proofs.lemmas.List.{append_assoc}
use Rattle.record_picture.specs.Pieces.{escaped, numbered, worded, placed_texts}

-- a byte that is no `&`
abbrev pub is_plain : ℕ → Bool
is_plain byte = not (byte == 38)

-- the mark does not begin here, whatever stands behind the text
abbrev pub clashes : List ℕ → List ℕ → Bool
clashes [] text = false
clashes (byte ∷ mark) [] = false
clashes (byte ∷ mark) (first ∷ text) = if byte == first then clashes mark text else true

-- the mark begins nowhere in the text, whatever stands behind it
abbrev pub misses : List ℕ → List ℕ → Bool
misses mark [] = true
misses mark (byte ∷ text) = clashes mark (byte ∷ text) && misses mark text

-- what all fixed texts of a picture are but those that draw a box or the line of a swap
abbrev pub is_fixed : List ℕ → Bool
is_fixed text = list_all is_plain text && (misses (codes "<use href='#box'/>") text && misses (codes "<path class='s'") text)

-- What is said of a text is said of what stands behind such parts of it.
pub record Skips {T : Type 0} (said : List ℕ → T) : Type 0 where
  pub fixed : (text rest : List ℕ) → is_fixed text ≡ true → said (text ++ rest) ≡ said rest
  pub number : (n : ℕ) (rest : List ℕ) → said (decimal n ++ rest) ≡ said rest
  pub word : (bytes rest : List ℕ) → said (escaped bytes ++ rest) ≡ said rest

pub skips-numbered : {T : Type 0} {said : List ℕ → T} (skips : Skips said) (before : List ℕ) (n : ℕ) (rest : List ℕ) → is_fixed before ≡ true → said (numbered before n ++ rest) ≡ said rest
unfolding numbered
skips-numbered skips before n rest fixed = simp append_assoc (skips.fixed before (decimal n ++ rest) fixed ∙ skips.number n rest)

pub skips-worded : {T : Type 0} {said : List ℕ → T} (skips : Skips said) (before word rest : List ℕ) → is_fixed before ≡ true → said (worded before word ++ rest) ≡ said rest
unfolding worded
skips-worded skips before word rest fixed = simp append_assoc (skips.fixed before (escaped word ++ rest) fixed ∙ skips.word word rest)

pub skips-placed : {T : Type 0} {said : List ℕ → T} {X : Type 0} (text : ℕ → X → List ℕ) → ((place : ℕ) (item : X) (rest : List ℕ) → said (text place item ++ rest) ≡ said rest) →
    (place : ℕ) (items : List X) (rest : List ℕ) → said (placed_texts text place items ++ rest) ≡ said rest
skips-placed text each place [] rest = refl
skips-placed text each place (item ∷ items) rest = simp append_assoc (each place item _ ∙ skips-placed text each (place + 1) items rest)

-- each byte of a number is a digit
digits_onto-each : (test : ℕ → Bool) → ((digit : ℕ) → test (digit_glyph false digit) ≡ true) → (k n : ℕ) (text : List ℕ) → list_all test text ≡ true → list_all test (digits_onto k 10 false n text) ≡ true
digits_onto-each test each zero n text passed = passed
digits_onto-each test each (suc k) n text passed =
    let more : list_all test (digit_glyph false (n % 10) ∷ text) ≡ true = rw (each (n % 10), passed) refl in
    elim (cases_Bool (n / 10 == 0)) [
      | inl is ↦ rw is more
      | inr is ↦ rw is (digits_onto-each test each k (n / 10) (digit_glyph false (n % 10) ∷ text) more)
    ]

pub decimal-each : (test : ℕ → Bool) → ((digit : ℕ) → test (digit_glyph false digit) ≡ true) → (n : ℕ) → list_all test (decimal n) ≡ true
unfolding digits
decimal-each test each n = digits_onto-each test each 64 n [] refl
