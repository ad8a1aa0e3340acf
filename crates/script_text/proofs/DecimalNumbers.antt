-- A number is written as its decimal digits.
use Rattle.std.proofs.Common.{◌≡◌, ◌≢◌, ℕ, zero, suc, ◌<◌, ◌^◌, Bool, true, false, cond, not, List, [], ◌∷◌, length, get_or, refl, sym, ap, ◌∙◌, subst, ne_eqb, eqb, arith}
use Rattle.std.specs.Prelude.{Option, Some, None, ◌↔◌}
use Rattle.std.specs.List.{list_all}
use Rattle.std.specs.Fmt.{decimal}
use Rattle.std.specs.Str.Parse.{digits_value}
use Rattle.std.proofs.lemmas.Bool.{and_parts}
use Rattle.std.proofs.lemmas.Bool.Decides.{nat_tests}
use Rattle.std.proofs.lemmas.Option.{same_Some}
use Rattle.std.proofs.lemmas.Str.Parse.{IsNumeralModel, IsDigitsTest, numerals_by_value}
use Rattle.std.proofs.lemmas.Fmt.{digits_decimal, digits_value-decimal, decimal-digits_value, decimal_nonempty, decimal_digit, first_decimal}
use Rattle.k42_kinds.specs.Words.{is_digit}
use Rattle.script_text.specs.Numbers.{is_number, number_of}

AreDigits : List ℕ → Type 0
AreDigits ds = list_all is_digit ds ≡ true

digits_test : IsDigitsTest AreDigits
unfolding AreDigits
digits_test = record {
  empty = refl;
  parts = λ c cs e. let parts = and_parts (is_digit c) (list_all is_digit cs) e in (grind (arith, nat_tests, parts.0), parts.1);
  more = λ c cs digit rest. let first : is_digit c ≡ true = grind (arith, nat_tests, digit) in rw (first, rest) refl;
}

own : IsNumeralModel AreDigits (digits_value 10)
own = numerals_by_value AreDigits digits_test

-- some digits, of which only a single one may be zero at the front
record IsPlain (ds : List ℕ) : Type 0 where
  digits : AreDigits ds
  some : 0 < length ds
  lead : get_or ds 0 0 ≡ 48 → length ds ≡ 1

plain-number : (ds : List ℕ) → IsPlain ds → is_number ds ≡ true
unfolding AreDigits
plain-number [] plain = absurd (omega (arith, plain.some))
plain-number (d ∷ []) plain = (and_parts (is_digit d) true plain.digits).0
plain-number (d ∷ e ∷ ds) plain =
    let front : d ≢ 48 = λ zero_first. omega (arith, plain.lead zero_first) in
    rw (ne_eqb d 48 front) plain.digits

number-plain : (ds : List ℕ) → is_number ds ≡ true → IsPlain ds
unfolding AreDigits
number-plain [] e = cc
number-plain (d ∷ []) e = record { digits = rw e refl; some = omega arith; lead = λ zero_first. refl }
number-plain (d ∷ e ∷ ds) is = let parts = and_parts (not (eqb d 48)) (list_all is_digit (d ∷ e ∷ ds)) is in record {
  digits = parts.1;
  some = omega arith;
  lead = λ zero_first. grind (arith, nat_tests, parts.0, zero_first);
}

decimal-plain : (n : ℕ) → n < 2 ^ 64 → IsPlain (decimal n)
decimal-plain zero small = subst IsPlain (sym (decimal_digit 0 (omega arith))) (number-plain (48 ∷ []) refl)
decimal-plain (suc n) small = record {
  digits = digits_decimal own (suc n) small;
  some = decimal_nonempty (suc n) small;
  lead = λ zero_first. absurd (omega (arith, first_decimal (suc n) (omega arith) small, zero_first));
}

spelled_by : (b : Bool) (v n : ℕ) → ◌≡◌ {A = Option ℕ} (cond b (Some v) None) (Some n) → (b ≡ true) × (v ≡ n)
spelled_by true v n e = (refl, same_Some v n e)
spelled_by false v n e = cc

-- a text is the number n exactly where it is n in decimal
pub number_of-decimal : (bytes : List ℕ) (n : ℕ) → n < 2 ^ 64 → (number_of bytes ≡ Some n) ↔ (bytes ≡ decimal n)
number_of-decimal bytes n small = (
  λ spelled.
      let parts = spelled_by (is_number bytes) (digits_value 10 bytes) n spelled in
      let plain = number-plain bytes parts.0 in
      sym (decimal-digits_value own bytes plain.digits plain.some plain.lead (omega (arith, parts.1, small))) ∙ ap decimal parts.1,
  λ is. rw (is, plain-number (decimal n) (decimal-plain n small), digits_value-decimal own n small) refl,
)

-- all bytes of a number are digits
pub list_all_digits-decimal : (n : ℕ) → n < 2 ^ 64 → list_all is_digit (decimal n) ≡ true
unfolding AreDigits
list_all_digits-decimal n small = (decimal-plain n small).digits
