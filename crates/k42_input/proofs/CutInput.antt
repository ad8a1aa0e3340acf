-- Which script stands in the input does not depend on what stands past its limit.
use Rattle.std.proofs.Common.{◌≡◌, ℕ, ◌+◌, ◌-◌, ◌<◌, ◌≤◌, Bool, true, false, cond, List, [], ◌∷◌, ◌++◌, length, take, drop, refl, sym, ap, ◌∙◌, arith}
use Rattle.std.specs.Prelude.{nat_le, codes}
use Rattle.std.specs.List.{concat}
use Rattle.std.specs.Str.{bytes_eq}
use Rattle.std.proofs.lemmas.Bool.Decides.{nat_tests}
use Rattle.std.proofs.lemmas.List.{append-nil, length-take-le, take-append-le, take-append-drop, take-take}
use Rattle.std.proofs.lemmas.Slice.Eq.{bytes_eq-Decides}
use Rattle.std.proofs.lemmas.Bool.{or_from}
use Rattle.std.proofs.Math.Seq.{take-append-add}
use Rattle.k42_limits.specs.declared.TheConstants.{INPUT_BYTES}
use Rattle.script_text.specs.Lines.{lines_of}
use Rattle.script_text.specs.Language.{parsed, byte_limit}
use Rattle.script_text.proofs.FirstBytes.{ends_before, ends_before-true, ends_before-false, behind, cut_lines, lines_of-take}
use Rattle.script_text.proofs.Truncated.{parsed-take}
use Rattle.k42_input.specs.Separation.{is_separator, lines_before, script_part}
use Rattle.k42_input.specs.Verdicts.{input_limit}

-- a line that is longer than a word is not that word
unlike : (line word : List ℕ) → length word < length line → bytes_eq line word ≡ false
unlike line word longer = by (bytes_eq line word) refl
  where
    by : (b : Bool) → bytes_eq line word ≡ b → bytes_eq line word ≡ false
    by true same = absurd (omega (arith, longer, ap length ((bytes_eq-Decides line word).0 same)))
    by false other = other

-- a line of five bytes is none that separates
long_line : (line : List ℕ) → 5 ≤ length line → is_separator line ≡ false
long_line line long = or_from (bytes_eq line (codes "---\n")) (bytes_eq line (codes "---")) (unlike line (codes "---\n") (omega (arith, long))) (unlike line (codes "---") (omega (arith, long)))

-- the first n bytes of what begins with a line, where so many of what stands behind it are alike
take-behind : (line left right : List ℕ) (n m : ℕ) → length line + m ≡ n → take (m - 4) left ≡ take (m - 4) right → take (n - 4) (line ++ left) ≡ take (n - 4) (line ++ right)
take-behind line left right n m room same = by (nat_le (n - 4) (length line)) refl
  where
    by : (b : Bool) → nat_le (n - 4) (length line) ≡ b → take (n - 4) (line ++ left) ≡ take (n - 4) (line ++ right)
    by true within = let less : n - 4 ≤ length line = grind (arith, nat_tests, within) in take-append-le (n - 4) line left less ∙ sym (take-append-le (n - 4) line right less)
    by false within =
        let split : n - 4 ≡ length line + (m - 4) = grind (arith, nat_tests, within, room) in
        ap (λ (k : ℕ). take k (line ++ left)) split ∙ take-append-add line left (m - 4) ∙ ap (λ (part : List ℕ). line ++ part) same ∙ sym (take-append-add line right (m - 4)) ∙ sym (ap (λ (k : ℕ). take k (line ++ right)) split)

-- fewer of the first bytes are alike where more of them are
take-fewer : (n m : ℕ) (left right : List ℕ) → n ≤ m → take m left ≡ take m right → take n left ≡ take n right
take-fewer n m left right fewer same = sym (take-take n m left fewer) ∙ ap (take n) same ∙ take-take n m right fewer

-- one line more in front
before-line : (line : List ℕ) (left right : List (List ℕ)) (n m : ℕ) → length line + m ≡ n → take (m - 4) (concat (lines_before left)) ≡ take (m - 4) (concat (lines_before right))
    → take (n - 4) (concat (lines_before (line ∷ left))) ≡ take (n - 4) (concat (lines_before (line ∷ right)))
before-line line left right n m room same =
    elim (is_separator line) as (λ b. take (n - 4) (concat (cond b [] (line ∷ lines_before left))) ≡ take (n - 4) (concat (cond b [] (line ∷ lines_before right)))) [
      | true ↦ refl
      | false ↦ take-behind line (concat (lines_before left)) (concat (lines_before right)) n m room same
    ]

-- the front of a line in place of the line and all behind it
before-cut : (line : List ℕ) (lines : List (List ℕ)) (n : ℕ) → n ≤ length line → (b : Bool) → nat_le 5 n ≡ b → take (n - 4) (concat (lines_before (take n line ∷ []))) ≡ take (n - 4) (concat (lines_before (line ∷ lines)))
before-cut line lines n within true large =
    let five : 5 ≤ n = grind (arith, nat_tests, large) in
    let cut : length (take n line) ≡ n = length-take-le n line within in
    let short = long_line (take n line) (omega (arith, cut, five)) in
    let long = long_line line (omega (arith, within, five)) in
    let front : take (n - 4) (take n line) ≡ take (n - 4) line = sym (take-append-le (n - 4) (take n line) (drop n line) (omega (arith, cut))) ∙ ap (take (n - 4)) (take-append-drop n line) in
    rw (short, long) (ap (take (n - 4)) (append-nil (take n line)) ∙ front ∙ sym (take-append-le (n - 4) line (concat (lines_before lines)) (omega (arith, within))))
before-cut line lines n within false small =
    let none : n - 4 ≡ 0 = grind (arith, nat_tests, small) in
    rw none refl

cut-choice : (line : List ℕ) (lines left : List (List ℕ)) (n : ℕ) → take (behind n line - 4) (concat (lines_before left)) ≡ take (behind n line - 4) (concat (lines_before lines)) → (b : Bool) → ends_before n line ≡ b
    → take (n - 4) (concat (lines_before (cond b (line ∷ left) (take n line ∷ [])))) ≡ take (n - 4) (concat (lines_before (line ∷ lines)))
cut-choice line lines left n same true ends = before-line line left lines n (behind n line) (ends_before-true n line ends).1 same
cut-choice line lines left n same false ends = before-cut line lines n (ends_before-false n line ends) (nat_le 5 n) refl

-- the script is alike as far as it is read
cut_alike : (lines : List (List ℕ)) (n : ℕ) → take (n - 4) (concat (lines_before (cut_lines n lines))) ≡ take (n - 4) (concat (lines_before lines))
unfolding cut_lines
cut_alike [] n = refl
cut_alike (line ∷ lines) n = cut-choice line lines (cut_lines (behind n line) lines) n (cut_alike lines (behind n line)) (ends_before n line) refl

-- the script is accepted or refused alike
pub script_part-take : (bytes : List ℕ) → parsed (script_part (take input_limit bytes)) ≡ parsed (script_part bytes)
script_part-take bytes =
    let left = script_part (take input_limit bytes) in
    let right = script_part bytes in
    let read : take (input_limit - 4) left ≡ take (input_limit - 4) right = ap (λ (lines : List (List ℕ)). take (input_limit - 4) (concat (lines_before lines))) (lines_of-take bytes INPUT_BYTES) ∙ cut_alike (lines_of bytes) input_limit in
    let same : take byte_limit left ≡ take byte_limit right = take-fewer byte_limit (input_limit - 4) left right (omega arith) read in
    sym (parsed-take left) ∙ ap parsed same ∙ parsed-take right
