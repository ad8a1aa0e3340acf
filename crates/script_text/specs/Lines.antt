-- The lines of a text.
use Rattle.std.specs.Prelude.{◌≡◌, ◌≢◌, ℕ, ◌+◌, ◌<◌, ◌⊎◌, Bool, ◌&&◌, ◌==◌, nat_lt, nat_le, if◌then◌else◌, List, [], ◌∷◌, ◌++◌, length, sum_by, All}
use Rattle.std.specs.List.{list_all}
use Rattle.k42_limits.specs.declared.TheConstants.{LINE_FEED, SPACE}

-- a byte more at the front of the first line
abbrev pub onto_first_line : ℕ → List (List ℕ) → List (List ℕ)
onto_first_line byte [] = (byte ∷ []) ∷ []
onto_first_line byte (line ∷ lines) = (byte ∷ line) ∷ lines

-- The lines of a text, each with its line feed. A last piece without one is a line too.
abbrev pub lines_of : List ℕ → List (List ℕ)
lines_of [] = []
lines_of (byte ∷ bytes) =
    if byte == LINE_FEED
    then (byte ∷ []) ∷ lines_of bytes
    else onto_first_line byte (lines_of bytes)

-- what stands on a line, without its line feed
abbrev pub text_of : List ℕ → List ℕ
text_of [] = []
text_of (byte ∷ bytes) = if byte == LINE_FEED then [] else byte ∷ text_of bytes

-- the line ends in its only line feed
pub record IsWholeLine (line : List ℕ) : Type 0 where
  pub body : List ℕ
  pub ended : line ≡ body ++ LINE_FEED ∷ []
  pub only : All (λ byte. byte ≢ LINE_FEED) body

-- some bytes, of which none is a line feed
pub record IsLastPiece (line : List ℕ) : Type 0 where
  pub some : 0 < length line
  pub none : All (λ byte. byte ≢ LINE_FEED) line

-- Each line is whole, but for the last, which may be a piece without a line feed.
abbrev pub AreLines : List (List ℕ) → Type 0
AreLines [] = Unit {0}
AreLines (line ∷ []) = IsWholeLine line ⊎ IsLastPiece line
AreLines (line ∷ next ∷ lines) = IsWholeLine line × AreLines (next ∷ lines)

-- a byte from the space to the tilde
abbrev pub is_printable : ℕ → Bool
is_printable byte = nat_le SPACE byte && nat_le byte 126

-- every byte may stand in a script
abbrev pub is_printable_text : List ℕ → Bool
is_printable_text text = list_all is_printable text

-- how many bytes the lines have
abbrev pub byte_count : List (List ℕ) → ℕ
byte_count lines = sum_by length lines

-- whether the line behind these holds the byte of this number, counted from 1
abbrev pub holds_byte : ℕ → List (List ℕ) → List ℕ → Bool
holds_byte number before line =
    nat_lt (byte_count before) number && nat_le number (byte_count before + length line)
