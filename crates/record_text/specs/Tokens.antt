-- How the lines of a record are made of tokens.
use Rattle.std.specs.Prelude.{ℕ, List, ◌∷◌}
use Rattle.std.specs.List.{flat_map}
use Rattle.k42_limits.specs.declared.TheConstants.{SPACE}
pub use Rattle.script_text.specs.Spelled.{spaced, line_with}

-- tokens in a row, with one space before each
abbrev pub behind_spaces : List (List ℕ) → List ℕ
behind_spaces tokens = flat_map (λ token. SPACE ∷ token) tokens
