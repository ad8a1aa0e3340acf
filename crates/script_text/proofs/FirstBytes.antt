-- The lines of the first n bytes of a text.
use Rattle.std.proofs.Common.{◌≡◌, ℕ, zero, suc, ◌+◌, ◌<◌, ◌≤◌, Bool, true, false, cond, List, [], ◌∷◌, length, take, refl, sym, ap, ◌∙◌, eqb, arith}
use Rattle.std.proofs.lemmas.Bool.{false≢true}
use Rattle.k42_limits.specs.declared.TheConstants.{LINE_FEED}
use Rattle.script_text.specs.Lines.{lines_of, onto_first_line}

-- whether the line has fewer than n bytes
unfoldable pub ends_before : ℕ → List ℕ → Bool
ends_before zero line = false
ends_before (suc n) [] = true
ends_before (suc n) (byte ∷ line) = ends_before n line

-- how many of n bytes stand behind the line
unfoldable pub behind : ℕ → List ℕ → ℕ
behind n [] = n
behind zero (byte ∷ line) = 0
behind (suc n) (byte ∷ line) = behind n line

pub ends_before-true : (n : ℕ) (line : List ℕ) → ends_before n line ≡ true → (length line < n) × (length line + behind n line ≡ n)
unfolding ends_before behind
ends_before-true zero line e = absurd (false≢true e)
ends_before-true (suc n) [] e = (omega arith, omega arith)
ends_before-true (suc n) (byte ∷ line) e = let rest = ends_before-true n line e in (omega (arith, rest.0), omega (arith, rest.1))

pub ends_before-false : (n : ℕ) (line : List ℕ) → ends_before n line ≡ false → n ≤ length line
unfolding ends_before
ends_before-false zero line e = omega arith
ends_before-false (suc n) [] e = absurd (false≢true (sym e))
ends_before-false (suc n) (byte ∷ line) e = let rest = ends_before-false n line e in omega (arith, rest)

-- the lines of the first n bytes, of which there is one at least
unfoldable pub cut_lines : ℕ → List (List ℕ) → List (List ℕ)
cut_lines n [] = []
cut_lines n (line ∷ lines) = cond (ends_before n line) (line ∷ cut_lines (behind n line) lines) (take n line ∷ [])

-- a byte more at the front of the first line
cut-onto : (byte n : ℕ) (lines : List (List ℕ)) → onto_first_line byte (cut_lines (suc n) lines) ≡ cut_lines (suc (suc n)) (onto_first_line byte lines)
unfolding cut_lines ends_before behind
cut-onto byte n [] = refl
cut-onto byte n (line ∷ lines) =
    elim (ends_before (suc n) line) as (λ b. onto_first_line byte (cond b (line ∷ cut_lines (behind (suc n) line) lines) (take (suc n) line ∷ [])) ≡ cond b ((byte ∷ line) ∷ cut_lines (behind (suc n) line) lines) ((byte ∷ take (suc n) line) ∷ [])) [ true ↦ refl | false ↦ refl ]

cut-one : (byte : ℕ) (lines : List (List ℕ)) → cut_lines 1 (onto_first_line byte lines) ≡ (byte ∷ []) ∷ []
unfolding cut_lines ends_before
cut-one byte [] = refl
cut-one byte (line ∷ lines) = refl

-- the lines of the first bytes of a text
pub lines_of-take : (bytes : List ℕ) (n : ℕ) → lines_of (take (suc n) bytes) ≡ cut_lines (suc n) (lines_of bytes)
unfolding cut_lines ends_before behind
lines_of-take [] n = refl
lines_of-take (byte ∷ bytes) zero = elim (eqb byte LINE_FEED) as (λ b. cond b ((byte ∷ []) ∷ []) ((byte ∷ []) ∷ []) ≡ cut_lines 1 (cond b ((byte ∷ []) ∷ lines_of bytes) (onto_first_line byte (lines_of bytes)))) [ true ↦ refl | false ↦ sym (cut-one byte (lines_of bytes)) ]
lines_of-take (byte ∷ bytes) (suc n) =
    let rest = lines_of-take bytes n in
    elim (eqb byte LINE_FEED) as (λ b. cond b ((byte ∷ []) ∷ lines_of (take (suc n) bytes)) (onto_first_line byte (lines_of (take (suc n) bytes))) ≡ cut_lines (suc (suc n)) (cond b ((byte ∷ []) ∷ lines_of bytes) (onto_first_line byte (lines_of bytes)))) [
      | true ↦ ap (λ (lines : List (List ℕ)). (byte ∷ []) ∷ lines) rest
      | false ↦ ap (onto_first_line byte) rest ∙ cut-onto byte n (lines_of bytes)
    ]
