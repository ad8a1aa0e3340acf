-- The input is cut at its first line `---`.
use Rattle.std.proofs.Common.{◌≡◌, ℕ, zero, suc, ◌+◌, ◌<◌, ◌≤◌, true, false, List, [], ◌∷◌, ◌++◌, length, take, drop, refl, sym, ap, ◌∙◌, arith}
use Rattle.std.specs.List.{concat}
use Rattle.std.proofs.lemmas.List.{take-append-drop, append_assoc, append-nil, append_cancel_right, take_all}
use Rattle.std.proofs.Math.ListN.{drop_of_length-le}
use Rattle.script_text.specs.Lines.{lines_of}
use Rattle.script_text.proofs.LineCuts.{EndsAt, cuts_line, concat-lines_of}
use Rattle.k42_input.specs.Separation.{is_separator, lines_before, lines_after, script_part, record_part}

-- the first line ends with the first line feed
pub first_line : (bytes : List ℕ) (n : ℕ) → 0 < length bytes → EndsAt bytes n → lines_of bytes ≡ take (suc n) bytes ∷ lines_of (drop (suc n) bytes)
first_line bytes n some ends =
    let cut = cuts_line bytes n some ends in
    let same : cut.line ≡ take (suc n) bytes = append_cancel_right cut.line (take (suc n) bytes) (drop (suc n) bytes) (sym cut.whole ∙ sym (take-append-drop (suc n) bytes)) in
    cut.first ∙ ap (λ (line : List ℕ). line ∷ lines_of (drop (suc n) bytes)) same

drop_nothing : (n : ℕ) → ◌≡◌ {A = List ℕ} (drop n []) []
drop_nothing zero = refl
drop_nothing (suc n) = refl

take_nothing : (n : ℕ) → ◌≡◌ {A = List ℕ} (take n []) []
take_nothing zero = refl
take_nothing (suc n) = refl

-- what is behind so many bytes, and behind so many more
drop-drop : (n m : ℕ) (xs : List ℕ) → drop m (drop n xs) ≡ drop (n + m) xs
drop-drop zero m xs = let same : m ≡ 0 + m = omega arith in ap (λ (k : ℕ). drop k xs) same
drop-drop (suc n) m [] = drop_nothing m ∙ sym (drop_nothing (suc n + m))
drop-drop (suc n) m (x ∷ xs) = let same : suc (n + m) ≡ suc n + m = omega arith in drop-drop n m xs ∙ ap (λ (k : ℕ). drop k (x ∷ xs)) same

-- so many bytes, and so many more
take-more : (n m : ℕ) (xs : List ℕ) → take (n + m) xs ≡ take n xs ++ take m (drop n xs)
take-more zero m xs = let same : 0 + m ≡ m = omega arith in ap (λ (k : ℕ). take k xs) same
take-more (suc n) m [] = take_nothing (suc n + m) ∙ sym (take_nothing m)
take-more (suc n) m (x ∷ xs) = let same : suc n + m ≡ suc (n + m) = omega arith in ap (λ (k : ℕ). take k (x ∷ xs)) same ∙ ap (λ (rest : List ℕ). x ∷ rest) (take-more n m xs)

-- So many bytes were passed over, and none of their lines is `---`.
pub record IsPassed (input : List ℕ) (start : ℕ) : Type 0 where
  pub within : start ≤ length input
  pub script : script_part input ≡ take start input ++ script_part (drop start input)
  pub text : record_part input ≡ record_part (drop start input)

pub passed_at_start : (input : List ℕ) → IsPassed input 0
passed_at_start input = record { within = omega arith; script = refl; text = refl }

-- a line that is none, and what stands behind it
script_on : (line : List ℕ) (lines : List (List ℕ)) → is_separator line ≡ false → concat (lines_before (line ∷ lines)) ≡ line ++ concat (lines_before lines)
script_on line lines other = rw other refl

text_on : (line : List ℕ) (lines : List (List ℕ)) → is_separator line ≡ false → concat (lines_after (line ∷ lines)) ≡ concat (lines_after lines)
text_on line lines other = rw other refl

script_here : (line : List ℕ) (lines : List (List ℕ)) → is_separator line ≡ true → concat (lines_before (line ∷ lines)) ≡ []
script_here line lines here = rw here refl

text_here : (line : List ℕ) (lines : List (List ℕ)) → is_separator line ≡ true → concat (lines_after (line ∷ lines)) ≡ concat lines
text_here line lines here = rw here refl

module _ (input : List ℕ) (start n : ℕ) (passed : IsPassed input start) (first : lines_of (drop start input) ≡ take n (drop start input) ∷ lines_of (drop n (drop start input))) where
  -- the line is none
  pub passed_on : start + n ≤ length input → is_separator (take n (drop start input)) ≡ false → IsPassed input (start + n)
  passed_on within other =
      let line = take n (drop start input) in
      let rest = drop n (drop start input) in
      record {
        within = within;
        script = passed.script ∙ ap (λ (lines : List (List ℕ)). take start input ++ concat (lines_before lines)) first
            ∙ ap (λ (part : List ℕ). take start input ++ part) (script_on line (lines_of rest) other)
            ∙ sym (append_assoc (take start input) line (script_part rest))
            ∙ ap (λ (front : List ℕ). front ++ script_part rest) (sym (take-more start n input))
            ∙ ap (λ (end : List ℕ). take (start + n) input ++ script_part end) (drop-drop start n input);
        text = passed.text ∙ ap (λ (lines : List (List ℕ)). concat (lines_after lines)) first ∙ text_on line (lines_of rest) other ∙ ap record_part (drop-drop start n input);
      }

  -- the line is one
  pub script_before : is_separator (take n (drop start input)) ≡ true → take start input ≡ script_part input
  script_before here = sym (
      passed.script ∙ ap (λ (lines : List (List ℕ)). take start input ++ concat (lines_before lines)) first
      ∙ ap (λ (part : List ℕ). take start input ++ part) (script_here (take n (drop start input)) (lines_of (drop n (drop start input))) here) ∙ append-nil (take start input)
      )

  pub text_behind : is_separator (take n (drop start input)) ≡ true → drop (start + n) input ≡ record_part input
  text_behind here = sym (
      passed.text ∙ ap (λ (lines : List (List ℕ)). concat (lines_after lines)) first
      ∙ text_here (take n (drop start input)) (lines_of (drop n (drop start input))) here ∙ concat-lines_of (drop n (drop start input)) ∙ drop-drop start n input
      )

-- there is none
pub script_all : (input : List ℕ) (start : ℕ) → length input ≤ start → IsPassed input start → input ≡ script_part input
script_all input start past passed =
    sym (passed.script ∙ ap (λ (end : List ℕ). take start input ++ script_part end) (drop_of_length-le input {i = start} past) ∙ append-nil (take start input) ∙ take_all start input past)

pub text_none : (input : List ℕ) (start : ℕ) → length input ≤ start → IsPassed input start → [] ≡ record_part input
text_none input start past passed = sym (passed.text ∙ ap record_part (drop_of_length-le input {i = start} past))
