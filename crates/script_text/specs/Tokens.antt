-- The tokens of a line.
use Rattle.std.specs.Prelude.{ℕ, Bool, true, false, ◌==◌, List, [], ◌∷◌, filter}
use Rattle.std.specs.List.{slice_split}
use Rattle.k42_limits.specs.declared.TheConstants.{SPACE}

-- the byte between tokens
abbrev pub is_space : ℕ → Bool
is_space byte = byte == SPACE

-- a piece with a byte in it
abbrev pub has_bytes : List ℕ → Bool
has_bytes [] = false
has_bytes (byte ∷ bytes) = true

-- the pieces between spaces that have bytes
abbrev pub tokens_of : List ℕ → List (List ℕ)
tokens_of text = filter has_bytes (slice_split is_space text)

-- a token that begins with `#`
abbrev pub is_remark : List ℕ → Bool
is_remark [] = false
is_remark (byte ∷ bytes) = byte == 35

-- a line that says nothing: it has no token, or its first begins with `#`
abbrev pub says_nothing : List (List ℕ) → Bool
says_nothing [] = true
says_nothing (token ∷ tokens) = is_remark token
