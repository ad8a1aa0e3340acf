-- The first line ends with the first line feed.
use Rattle.std.proofs.Common.{◌≡◌, ◌≢◌, ℕ, zero, suc, ◌<◌, ◌≤◌, List, [], ◌∷◌, length, get_or, take, drop, refl, sym, ap, ◌∙◌, cond, true, false, eq-eqb, ne_eqb, eqb, arith}
use Rattle.std.specs.List.{concat}
use Rattle.std.proofs.lemmas.List.{take-append-drop, length-take}
use Rattle.k42_limits.specs.declared.TheConstants.{LINE_FEED}
use Rattle.script_text.specs.Lines.{lines_of, onto_first_line, text_of}
use Rattle.script_text.specs.Cuts.{CutsLine}

-- n bytes stand before the first line feed
pub record EndsAt (bytes : List ℕ) (n : ℕ) : Type 0 where
  pub within : n ≤ length bytes
  pub before : (k : ℕ) → k < n → get_or bytes k 0 ≢ LINE_FEED
  pub found : n < length bytes → get_or bytes n 0 ≡ LINE_FEED

behind : (b : ℕ) (bytes : List ℕ) (n : ℕ) → EndsAt (b ∷ bytes) (suc n) → EndsAt bytes n
behind b bytes n ends = record {
  within = omega (arith, ends.within);
  before = λ k lt. ends.before (suc k) (omega arith);
  found = λ lt. ends.found (omega arith);
}

lines_of-first : (bytes : List ℕ) (n : ℕ) → 0 < length bytes → EndsAt bytes n → lines_of bytes ≡ take (suc n) bytes ∷ lines_of (drop (suc n) bytes)
lines_of-first [] n some ends = absurd (omega arith)
lines_of-first (b ∷ bytes) zero some ends = rw (eq-eqb b LINE_FEED (ends.found (omega arith))) refl
lines_of-first (b ∷ []) (suc n) some ends = rw (ne_eqb b LINE_FEED (ends.before 0 (omega arith))) refl
lines_of-first (b ∷ c ∷ bytes) (suc n) some ends =
    rw (ne_eqb b LINE_FEED (ends.before 0 (omega arith)), lines_of-first (c ∷ bytes) n (omega arith) (behind b (c ∷ bytes) n ends)) refl

text_of-first : (bytes : List ℕ) (n : ℕ) → EndsAt bytes n → text_of (take (suc n) bytes) ≡ take n bytes
text_of-first [] zero ends = refl
text_of-first [] (suc n) ends = refl
text_of-first (b ∷ bytes) zero ends = rw (eq-eqb b LINE_FEED (ends.found (omega arith))) refl
text_of-first (b ∷ bytes) (suc n) ends = rw (ne_eqb b LINE_FEED (ends.before 0 (omega arith)), text_of-first bytes n (behind b bytes n ends)) refl

-- what is cut off at the first line feed is the first line
pub cuts_line : (bytes : List ℕ) (n : ℕ) → 0 < length bytes → EndsAt bytes n → CutsLine bytes (take n bytes) (drop (suc n) bytes)
cuts_line bytes n some ends = record {
  line = take (suc n) bytes;
  first = lines_of-first bytes n some ends;
  whole = sym (take-append-drop (suc n) bytes);
  says = text_of-first bytes n ends;
  some = omega (arith, length-take {A = ℕ});
}

concat-onto : (byte : ℕ) (lines : List (List ℕ)) → concat (onto_first_line byte lines) ≡ byte ∷ concat lines
concat-onto byte [] = refl
concat-onto byte (line ∷ lines) = refl

-- the lines, one behind the other, are the text
pub concat-lines_of : (bytes : List ℕ) → concat (lines_of bytes) ≡ bytes
concat-lines_of [] = refl
concat-lines_of (byte ∷ bytes) =
    let behind = ap (λ (rest : List ℕ). byte ∷ rest) (concat-lines_of bytes) in
    elim (eqb byte LINE_FEED) as (λ b. concat (cond b ((byte ∷ []) ∷ lines_of bytes) (onto_first_line byte (lines_of bytes))) ≡ byte ∷ bytes) [
      | true ↦ behind
      | false ↦ concat-onto byte (lines_of bytes) ∙ behind
    ]
