-- The first line of a text is cut off.
use Rattle.std.specs.Prelude.{◌≡◌, ℕ, ◌<◌, List, ◌∷◌, ◌++◌, length}
use Rattle.script_text.specs.Lines.{lines_of, text_of}

-- The first line has this text, and these bytes stand after it.
pub record CutsLine (bytes text rest : List ℕ) : Type 0 where
  pub line : List ℕ
  pub first : lines_of bytes ≡ line ∷ lines_of rest
  pub whole : bytes ≡ line ++ rest
  pub says : text_of line ≡ text
  pub some : 0 < length line
