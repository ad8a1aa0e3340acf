-- What the reader of a text has before it: lines, and the tokens of a line.
use Rattle.std.specs.Prelude.{◌≡◌, ℕ, ◌<◌, List, [], ◌∷◌, length, Option, Some, None}
use Rattle.std.specs.Borrow.{Bor}
use Rattle.script_text.specs.Lines.{lines_of}
use Rattle.record_text.specs.Reader.Lines.{pieces_of, tokens_on}
use Rattle.record_text.specs.Reader.Parts.{Found}
use Rattle.record_text.specs.declared.reading.cursor.Left.{Left}

-- the tokens of what is left of a line
abbrev pub tokens_in : Option (Bor (List ℕ)) → List (List ℕ)
tokens_in None = []
tokens_in (Some rest) = pieces_of rest.now

-- the tokens that are left
abbrev pub left_tokens : Left → List (List ℕ)
left_tokens left = tokens_in left.rest

-- the part that was taken is the due one, and these tokens are left
abbrev pub Takes : {X : Type 0} → Option X → Left → Found X → Type 0
Takes None left due = due ≡ None
Takes (Some value) left due = due ≡ Some (value, left_tokens left)

-- the same of a token
abbrev pub TakesToken : Option (Bor (List ℕ)) → Left → Found (List ℕ) → Type 0
TakesToken None left due = due ≡ None
TakesToken (Some token) left due = due ≡ Some (token.now, left_tokens left)

-- the same of a part that says nothing more
abbrev pub Passes : Option Unit → Left → Option (List (List ℕ)) → Type 0
Passes None left due = due ≡ None
Passes (Some done) left due = due ≡ Some (left_tokens left)

-- the first line has these tokens, and these bytes stand after it
pub record CutsLine (bytes : List ℕ) (left : Left) (rest : List ℕ) : Type 0 where
  pub line : List ℕ
  pub first : lines_of bytes ≡ line ∷ lines_of rest
  pub tokens : left_tokens left ≡ tokens_on line
  pub shorter : length rest < length bytes
