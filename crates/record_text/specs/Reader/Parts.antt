-- Parts of a line, each read from the front of the tokens that are left.
use Rattle.std.specs.Prelude.{ℕ, ◌-◌, ◌^◌, ◌==◌, if◌then◌else◌, List, [], ◌∷◌, Option, Some, None}
use Rattle.std.specs.Str.{bytes_eq}
use Rattle.k42_kinds.specs.Words.{is_name, is_text}
use Rattle.script_text.specs.Numbers.{number_within}

-- a part, and the tokens behind it
abbrev pub Found : Type 0 → Type 0
Found X = Option (X × List (List ℕ))

infixl 10 ◌>>=◌
-- what is read first, and by it what is read next
abbrev pub ◌>>=◌ : {A B : Type 0} → Option A → (A → Option B) → Option B
(Some x) >>= next = next x
None >>= next = None

-- the first token
abbrev pub token_at : List (List ℕ) → Found (List ℕ)
token_at [] = None
token_at (token ∷ tokens) = Some (token, tokens)

-- the first token, taken for what it spells
unfoldable pub spelled_at : {X : Type 0} → (List ℕ → Option X) → List (List ℕ) → Found X
spelled_at spelling tokens = do
  token ← token_at tokens
  value ← spelling token.0
  Some (value, token.1)

-- the tokens behind this word
unfoldable pub behind_word : List ℕ → List (List ℕ) → Option (List (List ℕ))
behind_word word tokens = do
  token ← token_at tokens
  if bytes_eq token.0 word then Some token.1 else None

-- the greatest numbers of 32 and 64 bits
abbrev pub most_32 : ℕ
most_32 = 2 ^ 32 - 1

abbrev pub most_64 : ℕ
most_64 = 2 ^ 64 - 1

-- a number in a range
abbrev pub number_at : ℕ → ℕ → List (List ℕ) → Found ℕ
number_at low high tokens = spelled_at (number_within low high) tokens

-- a key
abbrev pub name_of : List ℕ → Option (List ℕ)
name_of token = if is_name token then Some token else None

abbrev pub name_at : List (List ℕ) → Found (List ℕ)
name_at tokens = spelled_at name_of tokens

-- the text of a page
abbrev pub text_of : List ℕ → Option (List ℕ)
text_of token = if is_text token then Some token else None

abbrev pub text_at : List (List ℕ) → Found (List ℕ)
text_at tokens = spelled_at text_of tokens

-- the number of 32 bits behind a mark
abbrev pub marked_number : ℕ → List ℕ → Option ℕ
marked_number mark [] = None
marked_number mark (byte ∷ digits) =
    if byte == mark then number_within 0 most_32 digits else None

abbrev pub marked_at : ℕ → List (List ℕ) → Found ℕ
marked_at mark tokens = spelled_at (marked_number mark) tokens

-- no token is left
abbrev pub at_end : List (List ℕ) → Option Unit
at_end [] = Some tt
at_end (token ∷ tokens) = None
