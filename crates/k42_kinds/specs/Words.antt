-- Which bytes are a name, and which are the text of a page.
use Rattle.std.specs.Prelude.{ℕ, Bool, false, ◌&&◌, ◌||◌, ◌==◌, nat_le, List, [], ◌∷◌, length}
use Rattle.std.specs.List.{list_all}
use Rattle.k42_limits.specs.declared.TheConstants.{NAME_BYTES, TEXT_BYTES}

-- a lowercase letter
abbrev pub is_lower : ℕ → Bool
is_lower byte = nat_le 97 byte && nat_le byte 122

-- a decimal digit
abbrev pub is_digit : ℕ → Bool
is_digit byte = nat_le 48 byte && nat_le byte 57

-- a byte behind the first of a name: a lowercase letter, a digit or `_`
abbrev pub continues_name : ℕ → Bool
continues_name byte = (is_lower byte || is_digit byte) || (byte == 95)

-- 1 to NAME_BYTES bytes, a lowercase letter first
abbrev pub is_name : List ℕ → Bool
is_name [] = false
is_name (first ∷ rest) = (nat_le (length (first ∷ rest)) NAME_BYTES && is_lower first) && list_all continues_name rest

-- a character that shows on paper: neither a blank nor a control byte
abbrev pub is_visible : ℕ → Bool
is_visible byte = nat_le 33 byte && nat_le byte 126

-- 1 to TEXT_BYTES visible characters
abbrev pub is_text : List ℕ → Bool
is_text bytes = (nat_le 1 (length bytes) && nat_le (length bytes) TEXT_BYTES) && list_all is_visible bytes
