-- The lines of a text, and the tokens of a line.
use Rattle.std.specs.Prelude.{ℕ, ◌==◌, if◌then◌else◌, List, [], ◌∷◌, Option, Some, None, option_map}
use Rattle.std.specs.List.{slice_split}
use Rattle.std.specs.Option.{option_map_or}
use Rattle.k42_limits.specs.declared.TheConstants.{LINE_FEED, SPACE}

-- what stands on a line before the line feed that ends it, where one does
abbrev pub body_of : List ℕ → Option (List ℕ)
body_of [] = None
body_of (byte ∷ []) = if byte == LINE_FEED then Some [] else None
body_of (byte ∷ next ∷ rest) = option_map (λ body. byte ∷ body) (body_of (next ∷ rest))

-- the pieces between spaces, of which one that has two spaces around it is empty
abbrev pub pieces_of : List ℕ → List (List ℕ)
pieces_of body = slice_split (λ byte. byte == SPACE) body

-- the tokens of a line, of which a line without its line feed has none
abbrev pub tokens_on : List ℕ → List (List ℕ)
tokens_on line = option_map_or pieces_of (body_of line) []
