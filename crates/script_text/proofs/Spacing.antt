-- Spaces part tokens, and nothing else does.
use Rattle.std.proofs.Common.{◌≡◌, ℕ, zero, suc, ◌<◌, Bool, true, false, cond, List, [], ◌∷◌, ◌++◌, length, filter, refl, sym, ap, ◌∙◌, arith}
use Rattle.std.specs.List.{AllByRecursion, flat_map, slice_split, onto_first, list_any, list_all}
use Rattle.std.proofs.lemmas.Bool.{and_parts, or_parts, not-true}
use Rattle.std.proofs.lemmas.List.{append-nil}
use Rattle.std.proofs.lemmas.List.Elements.{filter-append}
use Rattle.std.proofs.lemmas.List.Splits.{length-slice_split}
use Rattle.k42_limits.specs.declared.TheConstants.{SPACE}
use Rattle.script_text.specs.Tokens.{is_space, has_bytes, tokens_of}
use Rattle.script_text.specs.Spelled.{spaces, spaced, IsToken}

at_byte : (here : Bool) (b : ℕ) (whole pieces rest : List (List ℕ)) → whole ≡ pieces ++ rest → 0 < length pieces → cond here ([] ∷ whole) (onto_first b whole) ≡ cond here ([] ∷ pieces) (onto_first b pieces) ++ rest
at_byte true b whole pieces rest same some = rw same refl
at_byte false b whole [] rest same some = absurd (omega (arith, some))
at_byte false b whole (piece ∷ pieces) rest same some = rw same refl

split-parts : (text rest : List ℕ) → slice_split is_space (text ++ SPACE ∷ rest) ≡ slice_split is_space text ++ slice_split is_space rest
split-parts [] rest = refl
split-parts (b ∷ text) rest =
    at_byte (is_space b) b (slice_split is_space (text ++ SPACE ∷ rest)) (slice_split is_space text) (slice_split is_space rest) (split-parts text rest) (omega (arith, length-slice_split is_space text))

-- a space parts the tokens before it from those behind it
pub tokens_of-parts : (text rest : List ℕ) → tokens_of (text ++ SPACE ∷ rest) ≡ tokens_of text ++ tokens_of rest
tokens_of-parts text rest = ap (filter has_bytes) (split-parts text rest) ∙ filter-append has_bytes (slice_split is_space text) (slice_split is_space rest)

-- spaces in front mean nothing
pub tokens_of-in_front : (n : ℕ) (text : List ℕ) → tokens_of (spaces n ++ text) ≡ tokens_of text
tokens_of-in_front zero text = refl
tokens_of-in_front (suc n) text = tokens_of-in_front n text

tokens_of-spaces : (n : ℕ) → tokens_of (spaces n) ≡ []
tokens_of-spaces zero = refl
tokens_of-spaces (suc n) = tokens_of-spaces n

-- and at the end
pub tokens_of-at_the_end : (n : ℕ) (text : List ℕ) → tokens_of (text ++ spaces n) ≡ tokens_of text
tokens_of-at_the_end zero text = ap tokens_of (append-nil text)
tokens_of-at_the_end (suc n) text = tokens_of-parts text (spaces n) ∙ ap (λ tokens. tokens_of text ++ tokens) (tokens_of-spaces n) ∙ append-nil (tokens_of text)

-- and more than one between two
pub tokens_of-between : (n : ℕ) (text rest : List ℕ) → 0 < n → tokens_of (text ++ (spaces n ++ rest)) ≡ tokens_of (text ++ SPACE ∷ rest)
tokens_of-between zero text rest some = absurd (omega (arith, some))
tokens_of-between (suc n) text rest some =
    tokens_of-parts text (spaces n ++ rest) ∙ ap (λ tokens. tokens_of text ++ tokens) (tokens_of-in_front n rest) ∙ sym (tokens_of-parts text rest)

one_piece : (text : List ℕ) → list_any is_space text ≡ false → slice_split is_space text ≡ text ∷ []
one_piece [] none = refl
one_piece (b ∷ text) none =
    let parts = or_parts (is_space b) (list_any is_space text) none in
    rw (parts.0, one_piece text parts.1) refl

-- a token alone
pub tokens_of-token : (token : List ℕ) → IsToken token → tokens_of token ≡ token ∷ []
tokens_of-token [] is = cc
tokens_of-token (b ∷ bytes) is = ap (filter has_bytes) (one_piece (b ∷ bytes) (not-true (list_any is_space (b ∷ bytes)) is))

behind : (text : List ℕ) (tokens : List (List ℕ)) → AllByRecursion IsToken tokens → tokens_of (text ++ flat_map (λ token. (SPACE ∷ []) ++ token) tokens) ≡ tokens_of text ++ tokens
behind text [] all = ap tokens_of (append-nil text) ∙ sym (append-nil (tokens_of text))
behind text (token ∷ tokens) all =
    tokens_of-parts text (token ++ flat_map (λ other. (SPACE ∷ []) ++ other) tokens)
    ∙ ap (λ more. tokens_of text ++ more) (behind token tokens all.1 ∙ ap (λ first. first ++ tokens) (tokens_of-token token all.0))

-- one space between each two
pub tokens_of-spaced : (tokens : List (List ℕ)) → AllByRecursion IsToken tokens → tokens_of (spaced tokens) ≡ tokens
tokens_of-spaced [] all = refl
tokens_of-spaced (token ∷ tokens) all = behind token tokens all.1 ∙ ap (λ first. first ++ tokens) (tokens_of-token token all.0)

-- bytes of which none is a space
pub list_any_no_space : (p : ℕ → Bool) → ((b : ℕ) → p b ≡ true → is_space b ≡ false) → (bytes : List ℕ) → list_all p bytes ≡ true → list_any is_space bytes ≡ false
list_any_no_space p solid [] all = refl
list_any_no_space p solid (b ∷ bytes) all =
    let parts = and_parts (p b) (list_all p bytes) all in
    rw (solid b parts.0) (list_any_no_space p solid bytes parts.1)
