-- Tokens are cut off one after the other.
use Rattle.std.proofs.Common.{◌≡◌, ◌≢◌, ℕ, zero, suc, ◌<◌, ◌≤◌, List, [], ◌∷◌, length, get_or, take, drop, filter, refl, ◌∙◌, ap, eq-eqb, ne_eqb, arith}
use Rattle.std.specs.List.{slice_split}
use Rattle.k42_limits.specs.declared.TheConstants.{SPACE}
use Rattle.script_text.specs.Tokens.{is_space, has_bytes, tokens_of}
use Rattle.script_text.specs.Words.{with_token}

-- spaces at the front mean nothing
pub tokens_of-blank : (text : List ℕ) (n : ℕ) → n ≤ length text → ((k : ℕ) → k < n → get_or text k 0 ≡ SPACE) → tokens_of text ≡ tokens_of (drop n text)
tokens_of-blank text zero within blank = refl
tokens_of-blank [] (suc n) within blank = absurd (omega arith)
tokens_of-blank (b ∷ text) (suc n) within blank =
    rw (eq-eqb b SPACE (blank 0 (omega arith))) (tokens_of-blank text n (omega arith) (λ k lt. blank (suc k) (omega arith)))

-- the first n bytes are no spaces, and a space or nothing stands behind them
pub record IsToken (text : List ℕ) (n : ℕ) : Type 0 where
  pub within : n ≤ length text
  pub before : (k : ℕ) → k < n → get_or text k 0 ≢ SPACE
  pub found : n < length text → get_or text n 0 ≡ SPACE

behind : (b : ℕ) (text : List ℕ) (n : ℕ) → IsToken (b ∷ text) (suc n) → IsToken text n
behind b text n token = record {
  within = omega (arith, token.within);
  before = λ k lt. token.before (suc k) (omega arith);
  found = λ lt. token.found (omega arith);
}

-- the pieces behind the first
rest_of : List ℕ → ℕ → List (List ℕ)
rest_of [] n = []
rest_of (b ∷ text) zero = slice_split is_space text
rest_of (b ∷ text) (suc n) = rest_of text n

split-token : (text : List ℕ) (n : ℕ) → IsToken text n → slice_split is_space text ≡ take n text ∷ rest_of text n
unfolding rest_of
split-token [] zero token = refl
split-token [] (suc n) token = absurd (omega (arith, token.within))
split-token (b ∷ text) zero token = rw (eq-eqb b SPACE (token.found (omega arith))) refl
split-token (b ∷ text) (suc n) token = rw (ne_eqb b SPACE (token.before 0 (omega arith)), split-token text n (behind b text n token)) refl

kept : (piece : List ℕ) (pieces : List (List ℕ)) → filter has_bytes (piece ∷ pieces) ≡ with_token piece (filter has_bytes pieces)
kept [] pieces = refl
kept (b ∷ bytes) pieces = refl

kept-rest : (text : List ℕ) (n : ℕ) → IsToken text n → filter has_bytes (rest_of text n) ≡ tokens_of (drop n text)
unfolding rest_of
kept-rest [] zero token = refl
kept-rest [] (suc n) token = refl
kept-rest (b ∷ text) zero token = rw (eq-eqb b SPACE (token.found (omega arith))) refl
kept-rest (b ∷ text) (suc n) token = kept-rest text n (behind b text n token)

-- the bytes up to the first space are the first token
pub tokens_of-token : (text : List ℕ) (n : ℕ) → IsToken text n → tokens_of text ≡ with_token (take n text) (tokens_of (drop n text))
tokens_of-token text n token =
    ap (filter has_bytes) (split-token text n token) ∙ kept (take n text) (rest_of text n) ∙ ap (with_token (take n text)) (kept-rest text n token)
