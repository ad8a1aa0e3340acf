-- Tokens, as far as a form can have them behind its first word.
use Rattle.std.specs.Prelude.{◌≡◌, ℕ, List, [], ◌∷◌}
use Rattle.script_text.specs.declared.tokens.Words.{Words}
use Rattle.script_text.specs.declared.tokens.Words.TheVariants as words

-- a token more at the front, unless it is empty
abbrev pub with_token : List ℕ → List (List ℕ) → List (List ℕ)
with_token [] tokens = tokens
with_token (byte ∷ bytes) tokens = (byte ∷ bytes) ∷ tokens

-- these are the tokens, or there are more than three
abbrev pub IsWords : Words → List (List ℕ) → Type 0
IsWords words.None tokens = tokens ≡ []
IsWords (words.One a) tokens = tokens ≡ a.now ∷ []
IsWords (words.Two a b) tokens = tokens ≡ a.now ∷ b.now ∷ []
IsWords (words.Three a b c) tokens = tokens ≡ a.now ∷ b.now ∷ c.now ∷ []
IsWords words.More tokens =
    (a b c d : List ℕ) × (rest : List (List ℕ)) × (tokens ≡ a ∷ b ∷ c ∷ d ∷ rest)
