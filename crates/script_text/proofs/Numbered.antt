-- A letter with a number behind it is a name, and a text.
use Rattle.std.proofs.Common.{◌≡◌, ℕ, ◌<◌, ◌≤◌, ◌^◌, Bool, true, List, [], ◌∷◌, length, refl, arith}
use Rattle.std.specs.Prelude.{nat_le}
use Rattle.std.specs.List.{list_all}
use Rattle.std.specs.Fmt.{decimal}
use Rattle.std.proofs.lemmas.Bool.{and_parts}
use Rattle.std.proofs.lemmas.Bool.Decides.{nat_tests}
use Rattle.std.proofs.lemmas.Fmt.{length-decimal-le}
use Rattle.k42_kinds.specs.Words.{is_digit, is_lower, is_visible, continues_name, is_name, is_text}
use Rattle.k42_limits.specs.declared.TheConstants.{NAME_BYTES, TEXT_BYTES}
use Rattle.script_text.proofs.DecimalNumbers.{list_all_digits-decimal}

-- what holds of every digit holds of a number
list_all-digits : (p : ℕ → Bool) → ((b : ℕ) → is_digit b ≡ true → p b ≡ true) → (bytes : List ℕ) → list_all is_digit bytes ≡ true → list_all p bytes ≡ true
list_all-digits p each [] all = refl
list_all-digits p each (b ∷ bytes) all =
    let parts = and_parts (is_digit b) (list_all is_digit bytes) all in
    rw (each b parts.0) (list_all-digits p each bytes parts.1)

digit_continues : (b : ℕ) → is_digit b ≡ true → continues_name b ≡ true
digit_continues b e = grind (arith, nat_tests, e)

digit_visible : (b : ℕ) → is_digit b ≡ true → is_visible b ≡ true
digit_visible b e = grind (arith, nat_tests, e)

lower_visible : (b : ℕ) → is_lower b ≡ true → is_visible b ≡ true
lower_visible b e = grind (arith, nat_tests, e)

within : (m n : ℕ) → m ≤ n → nat_le m n ≡ true
within m n le = grind (arith, nat_tests, le)

pub name-numbered : (letter n : ℕ) → is_lower letter ≡ true → n < 2 ^ 32 → is_name (letter ∷ decimal n) ≡ true
name-numbered letter n lower small =
    let short = length-decimal-le 10 n (omega arith) (omega (arith, small)) (omega (arith, small)) in
    let digits = list_all-digits continues_name digit_continues (decimal n) (list_all_digits-decimal n (omega (arith, small))) in
    rw (within (length (letter ∷ decimal n)) NAME_BYTES (omega (arith, short)), lower, digits) refl

pub text-numbered : (letter n : ℕ) → is_lower letter ≡ true → n < 2 ^ 32 → is_text (letter ∷ decimal n) ≡ true
text-numbered letter n lower small =
    let short = length-decimal-le 10 n (omega arith) (omega (arith, small)) (omega (arith, small)) in
    let digits = list_all-digits is_visible digit_visible (decimal n) (list_all_digits-decimal n (omega (arith, small))) in
    rw (within 1 (length (letter ∷ decimal n)) (omega arith), within (length (letter ∷ decimal n)) TEXT_BYTES (omega (arith, short)), lower_visible letter lower, digits) refl
