-- Numbers: decimal digits without a leading zero, where `0` itself is a number.
use Rattle.std.specs.Prelude.{ℕ, Bool, false, not, ◌&&◌, ◌==◌, nat_lt, nat_le, if◌then◌else◌, List, [], ◌∷◌, Option, Some, None}
use Rattle.std.specs.Option.{option_and_then}
use Rattle.std.specs.List.{list_all}
use Rattle.k42_kinds.specs.Words.{is_digit}
use Rattle.std.specs.Str.Parse.{digits_value}

-- the bytes are a number
abbrev pub is_number : List ℕ → Bool
is_number [] = false
is_number (digit ∷ []) = is_digit digit
is_number (first ∷ second ∷ rest) = not (first == 48) && list_all is_digit (first ∷ second ∷ rest)

-- the number that the bytes spell
abbrev pub number_of : List ℕ → Option ℕ
number_of bytes = if is_number bytes then Some (digits_value 10 bytes) else None

-- the number, where it is in a range
abbrev pub number_within : ℕ → ℕ → List ℕ → Option ℕ
number_within low high bytes =
    option_and_then
    (λ number. if nat_le low number && nat_le number high then Some number else None)
    (number_of bytes)

-- the number, where it is below a bound
abbrev pub number_below : ℕ → List ℕ → Option ℕ
number_below bound bytes =
    option_and_then (λ number. if nat_lt number bound then Some number else None) (number_of bytes)
