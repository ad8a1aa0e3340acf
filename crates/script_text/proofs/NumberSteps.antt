-- The value of digits, one digit after the other.
use Rattle.std.proofs.Common.{◌≡◌, ℕ, ◌+◌, ◌*◌, ◌<◌, ◌≤◌, Bool, true, false, cond, ◌&&◌, List, length, get_or, take, refl, arith}
use Rattle.std.specs.Prelude.{Option, None, Some, nat_le}
use Rattle.std.specs.Option.{option_and_then}
use Rattle.std.specs.Char.{digit_value}
use Rattle.std.specs.Str.Parse.{digits_value}
use Rattle.std.proofs.lemmas.Bool.Decides.{nat_tests}
use Rattle.std.proofs.lemmas.Int.Digits.{digits_value_more}
use Rattle.std.proofs.lemmas.Str.Parse.{digits_value-take-le}
use Rattle.script_text.specs.Numbers.{is_number, number_within}

-- the number, by the test of its spelling
number_of_test : Bool → List ℕ → ℕ → Option ℕ
number_of_test b bytes most = option_and_then (λ number. cond (nat_le 0 number && nat_le number most) (Some number) None) (cond b (Some (digits_value 10 bytes)) None)

-- a number whose first digits are past the bound is past it
pub past_bound : (bytes : List ℕ) (i most : ℕ) → i < length bytes → (digits_value 10 (take i bytes) * 10 + digit_value (get_or bytes i 0) ≤ most → ⊥) → number_within 0 most bytes ≡ None
unfolding number_of_test
past_bound bytes i most lt past =
    let front = digits_value_more 10 bytes i lt in
    let all = digits_value-take-le 10 bytes (i + 1) (omega arith) in
    let beyond : most < digits_value 10 bytes = omega (arith, front, all, past) in
    elim (is_number bytes) as (λ b. number_of_test b bytes most ≡ None) [ true ↦ grind (arith, nat_tests, beyond) | false ↦ refl ]

-- all digits were read, and each front was within the bound
pub within_bound : (bytes : List ℕ) (most : ℕ) → is_number bytes ≡ true → digits_value 10 bytes ≤ most → number_within 0 most bytes ≡ Some (digits_value 10 bytes)
within_bound bytes most spelled within = rw spelled (grind (arith, nat_tests, within))
