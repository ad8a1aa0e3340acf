-- A text is cut at the first byte of a kind: into lines at line feeds, into tokens at spaces.
use Rattle.std.proofs.Common.{◌≡◌, ◌≢◌, ℕ, zero, suc, ◌+◌, ◌<◌, ◌≤◌, List, [], ◌∷◌, ◌++◌, length, get_or, take, drop, refl, ap, ◌∙◌, Bool, cond, true, false, Some, None, ne_eqb, eqb, add-one, arith}
use Rattle.std.specs.Prelude.{option_map}
use Rattle.std.proofs.Math.Seq.{take-length}
use Rattle.std.specs.List.{AllByRecursion, onto_first}
use Rattle.std.proofs.lemmas.List.Splits.{slice_split_at, slice_split_none}
use Rattle.std.proofs.lemmas.List.Elements.{All-from_recursion}
use Rattle.script_text.specs.Lines.{lines_of, onto_first_line}
use Rattle.record_text.specs.Reader.Parts.{at_end}
use Rattle.record_text.specs.Reader.Lines.{body_of, pieces_of, tokens_on}

-- the byte is none of these
abbrev pub IsWithout : ℕ → List ℕ → Type 0
IsWithout byte bytes = AllByRecursion (λ b. eqb b byte ≡ false) bytes

-- the first n bytes are not this byte, and behind them it stands, or nothing
pub record IsCut (byte : ℕ) (bytes : List ℕ) (n : ℕ) : Type 0 where
  pub within : n ≤ length bytes
  pub before : (k : ℕ) → k < n → get_or bytes k 0 ≢ byte
  pub found : n < length bytes → get_or bytes n 0 ≡ byte

behind : (byte b : ℕ) (bytes : List ℕ) (n : ℕ) → IsCut byte (b ∷ bytes) (suc n) → IsCut byte bytes n
behind byte b bytes n cut = record {
  within = omega (arith, cut.within);
  before = λ k lt. cut.before (suc k) (omega arith);
  found = λ lt. cut.found (omega arith);
}

-- the front is without the byte
pub front_without : (byte : ℕ) (bytes : List ℕ) (n : ℕ) → IsCut byte bytes n → IsWithout byte (take n bytes)
front_without byte bytes zero cut = tt
front_without byte [] (suc n) cut = tt
front_without byte (b ∷ bytes) (suc n) cut = (ne_eqb b byte (cut.before 0 (omega arith)), front_without byte bytes n (behind byte b bytes n cut))

-- the front, the byte and the rest are the text
pub cut_parts : (byte : ℕ) (bytes : List ℕ) (n : ℕ) → IsCut byte bytes n → n < length bytes → bytes ≡ take n bytes ++ byte ∷ drop (suc n) bytes
cut_parts byte [] n cut lt = absurd (omega arith)
cut_parts byte (b ∷ bytes) zero cut lt = rw (cut.found lt) refl
cut_parts byte (b ∷ bytes) (suc n) cut lt = ap (λ (rest : List ℕ). b ∷ rest) (cut_parts byte bytes n (behind byte b bytes n cut) (omega arith))

-- the first line ends with the first line feed
pub lines_of-ended : (text rest : List ℕ) → IsWithout 10 text → lines_of (text ++ 10 ∷ rest) ≡ (text ++ 10 ∷ []) ∷ lines_of rest
lines_of-ended [] rest none = refl
lines_of-ended (b ∷ text) rest none = rw (none.0, lines_of-ended text rest none.1) refl

-- a text without a line feed is one line
pub lines_of-unended : (b : ℕ) (text : List ℕ) → IsWithout 10 (b ∷ text) → lines_of (b ∷ text) ≡ (b ∷ text) ∷ []
lines_of-unended b [] none = rw none.0 refl
lines_of-unended b (c ∷ text) none = rw (none.0, lines_of-unended c text none.1) refl

pub body_of-ended : (text : List ℕ) → body_of (text ++ 10 ∷ []) ≡ Some text
body_of-ended [] = refl
body_of-ended (b ∷ []) = refl
body_of-ended (b ∷ c ∷ text) = ap (option_map (λ (body : List ℕ). b ∷ body)) (body_of-ended (c ∷ text))

pub body_of-unended : (text : List ℕ) → IsWithout 10 text → body_of text ≡ None
body_of-unended [] none = refl
body_of-unended (b ∷ []) none = rw none.0 refl
body_of-unended (b ∷ c ∷ text) none = ap (option_map (λ (body : List ℕ). b ∷ body)) (body_of-unended (c ∷ text) none.1)

-- the first token ends with the first space
pub pieces_of-more : (token rest : List ℕ) → IsWithout 32 token → pieces_of (token ++ 32 ∷ rest) ≡ token ∷ pieces_of rest
pieces_of-more token rest none = slice_split_at (λ b. eqb b 32) token 32 rest (All-from_recursion (λ b. eqb b 32 ≡ false) token none) refl

-- without a space there is one token
pub pieces_of-last : (token : List ℕ) → IsWithout 32 token → pieces_of token ≡ token ∷ []
pieces_of-last token none = slice_split_none (λ b. eqb b 32) token (All-from_recursion (λ b. eqb b 32 ≡ false) token none)

pub pieces_of-cut : (bytes : List ℕ) (n : ℕ) → IsCut 32 bytes n → n < length bytes → pieces_of bytes ≡ take n bytes ∷ pieces_of (drop (n + 1) bytes)
pieces_of-cut bytes n cut lt = rw add-one (ap pieces_of (cut_parts 32 bytes n cut lt) ∙ pieces_of-more (take n bytes) (drop (suc n) bytes) (front_without 32 bytes n cut))

all_without : (byte : ℕ) (bytes : List ℕ) (n : ℕ) → IsCut byte bytes n → n ≡ length bytes → IsWithout byte bytes
all_without byte bytes n cut all =
    let front = front_without byte bytes n cut in
    rw (all, take-length) at front

pub pieces_of-uncut : (bytes : List ℕ) (n : ℕ) → IsCut 32 bytes n → n ≡ length bytes → pieces_of bytes ≡ bytes ∷ []
pieces_of-uncut bytes n cut all = pieces_of-last bytes (all_without 32 bytes n cut all)

-- the first line is cut off
pub lines_of-cut : (bytes : List ℕ) (n : ℕ) → IsCut 10 bytes n → n < length bytes → lines_of bytes ≡ (take n bytes ++ 10 ∷ []) ∷ lines_of (drop (n + 1) bytes)
lines_of-cut bytes n cut lt = rw add-one (ap lines_of (cut_parts 10 bytes n cut lt) ∙ lines_of-ended (take n bytes) (drop (suc n) bytes) (front_without 10 bytes n cut))

pub tokens_on-ended : (text : List ℕ) → tokens_on (text ++ 10 ∷ []) ≡ pieces_of text
tokens_on-ended text = rw (body_of-ended text) refl

one_line : (bytes : List ℕ) → 0 < length bytes → IsWithout 10 bytes → lines_of bytes ≡ bytes ∷ []
one_line [] some none = absurd (omega arith)
one_line (b ∷ bytes) some none = lines_of-unended b bytes none

-- a text without a line feed is a line without tokens
pub lines_of-uncut : (bytes : List ℕ) (n : ℕ) → 0 < length bytes → IsCut 10 bytes n → n ≡ length bytes → (lines_of bytes ≡ bytes ∷ []) × (tokens_on bytes ≡ [])
lines_of-uncut bytes n some cut all =
    let none = all_without 10 bytes n cut all in
    (one_line bytes some none, rw (body_of-unended bytes none) refl)

-- pieces that the first byte may stand before
onto_pieces : (b : ℕ) (test : Bool) (pieces : List (List ℕ)) → at_end (cond test ([] ∷ pieces) (onto_first b pieces)) ≡ None
onto_pieces b true pieces = refl
onto_pieces b false [] = refl
onto_pieces b false (piece ∷ pieces) = refl

-- there is always a piece
pub at_end-pieces_of : (text : List ℕ) → at_end (pieces_of text) ≡ None
at_end-pieces_of [] = refl
at_end-pieces_of (b ∷ text) = onto_pieces b (eqb b 32) (pieces_of text)

-- the first line, and those behind it
pub record HasLines (lines : List (List ℕ)) : Type 0 where
  pub line : List ℕ
  pub others : List (List ℕ)
  pub are : lines ≡ line ∷ others

onto_lines : (b : ℕ) (test : Bool) (lines : List (List ℕ)) → HasLines (cond test ((b ∷ []) ∷ lines) (onto_first_line b lines))
onto_lines b true lines = record { line = b ∷ []; others = lines; are = refl }
onto_lines b false [] = record { line = b ∷ []; others = []; are = refl }
onto_lines b false (line ∷ lines) = record { line = b ∷ line; others = lines; are = refl }

-- a text with bytes has lines
pub lines_of-some : (bytes : List ℕ) → 0 < length bytes → HasLines (lines_of bytes)
lines_of-some [] some = absurd (omega arith)
lines_of-some (b ∷ bytes) some = onto_lines b (eqb b 10) (lines_of bytes)
