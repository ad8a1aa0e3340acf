-- A text is its lines: each but the last ends in its only line feed, and no other lines make the text.
use Rattle.std.proofs.Common.{◌≡◌, ◌≢◌, ℕ, Bool, true, false, cond, inl, inr, List, [], ◌∷◌, ◌++◌, refl, sym, ap, subst, ◌∙◌, eqb, ne_eqb, arith}
use Rattle.std.specs.Prelude.{All, ◌↔◌}
use Rattle.std.specs.List.{AllByRecursion, concat}
use Rattle.std.proofs.lemmas.Bool.{eqb-true, eqb-false}
use Rattle.std.proofs.lemmas.List.{append-nil, append_assoc}
use Rattle.std.proofs.lemmas.List.Elements.{All-nil, All-cons, recursion_from_All}
use Rattle.k42_limits.specs.declared.TheConstants.{LINE_FEED}
use Rattle.script_text.specs.Lines.{lines_of, onto_first_line, IsWholeLine, IsLastPiece, AreLines}
use Rattle.script_text.proofs.LineCuts.{concat-lines_of}

IsNone : ℕ → Type 0
IsNone byte = byte ≢ LINE_FEED

whole_first : (line : List ℕ) (lines : List (List ℕ)) → IsWholeLine line → AreLines lines → AreLines (line ∷ lines)
whole_first line [] whole are = inl whole
whole_first line (next ∷ lines) whole are = (whole, are)

module _ (byte : ℕ) (other : byte ≢ LINE_FEED) where
  whole_more : (line : List ℕ) → IsWholeLine line → IsWholeLine (byte ∷ line)
  unfolding IsNone
  whole_more line whole = record {
    body = byte ∷ whole.body;
    ended = ap (λ (rest : List ℕ). byte ∷ rest) whole.ended;
    only = All-cons IsNone byte whole.body other whole.only;
  }

  piece_more : (line : List ℕ) → All (λ other. other ≢ LINE_FEED) line → IsLastPiece (byte ∷ line)
  unfolding IsNone
  piece_more line none = record { some = omega arith; none = All-cons IsNone byte line other none }

  onto_lines : (lines : List (List ℕ)) → AreLines lines → AreLines (onto_first_line byte lines)
  unfolding IsNone
  onto_lines [] are = inr (piece_more [] (All-nil IsNone))
  onto_lines (line ∷ []) (inl whole) = inl (whole_more line whole)
  onto_lines (line ∷ []) (inr piece) = inr (piece_more line piece.none)
  onto_lines (line ∷ next ∷ lines) are = (whole_more line are.0, are.1)

-- the lines of a text are lines
pub lines_of-are : (bytes : List ℕ) → AreLines (lines_of bytes)
unfolding IsNone
lines_of-are [] = tt
lines_of-are (byte ∷ bytes) = by (lines_of-are bytes) (eqb byte LINE_FEED) refl
  where
    by : AreLines (lines_of bytes) → (b : Bool) → eqb byte LINE_FEED ≡ b → AreLines (cond b ((byte ∷ []) ∷ lines_of bytes) (onto_first_line byte (lines_of bytes)))
    by rest true is = whole_first (byte ∷ []) (lines_of bytes) (record { body = []; ended = ap (λ (last : ℕ). last ∷ []) (eqb-true byte LINE_FEED is); only = All-nil IsNone }) rest
    by rest false is = onto_lines byte (eqb-false byte LINE_FEED is) (lines_of bytes) rest

lines_of-body : (body rest : List ℕ) → AllByRecursion IsNone body → lines_of (body ++ LINE_FEED ∷ rest) ≡ (body ++ LINE_FEED ∷ []) ∷ lines_of rest
unfolding IsNone
lines_of-body [] rest only = refl
lines_of-body (byte ∷ body) rest only = rw (ne_eqb byte LINE_FEED only.0, lines_of-body body rest only.1) refl

lines_of-whole : (line rest : List ℕ) → IsWholeLine line → lines_of (line ++ rest) ≡ line ∷ lines_of rest
unfolding IsNone
lines_of-whole line rest whole =
    ap (λ (front : List ℕ). lines_of (front ++ rest)) whole.ended ∙ ap lines_of (append_assoc whole.body (LINE_FEED ∷ []) rest) ∙ lines_of-body whole.body rest (recursion_from_All IsNone whole.body whole.only)
    ∙ ap (λ (front : List ℕ). front ∷ lines_of rest) (sym whole.ended)

lines_of-piece : (byte : ℕ) (bytes : List ℕ) → AllByRecursion IsNone (byte ∷ bytes) → lines_of (byte ∷ bytes) ≡ (byte ∷ bytes) ∷ []
unfolding IsNone
lines_of-piece byte [] none = rw (ne_eqb byte LINE_FEED none.0) refl
lines_of-piece byte (next ∷ bytes) none = rw (ne_eqb byte LINE_FEED none.0, lines_of-piece next bytes none.1) refl

last_piece : (line : List ℕ) → IsLastPiece line → lines_of line ≡ line ∷ []
unfolding IsNone
last_piece [] piece = absurd (omega (arith, piece.some))
last_piece (byte ∷ bytes) piece = lines_of-piece byte bytes (recursion_from_All IsNone (byte ∷ bytes) piece.none)

-- and lines are those of the text that they make
lines_of-concat : (lines : List (List ℕ)) → AreLines lines → lines_of (concat lines) ≡ lines
lines_of-concat [] are = refl
lines_of-concat (line ∷ []) (inl whole) = lines_of-whole line [] whole
lines_of-concat (line ∷ []) (inr piece) = ap lines_of (append-nil line) ∙ last_piece line piece
lines_of-concat (line ∷ next ∷ lines) are = lines_of-whole line (concat (next ∷ lines)) are.0 ∙ ap (λ (rest : List (List ℕ)). line ∷ rest) (lines_of-concat (next ∷ lines) are.1)

pub lines_exactly : (bytes : List ℕ) (lines : List (List ℕ)) → (lines_of bytes ≡ lines) ↔ (AreLines lines × (concat lines ≡ bytes))
lines_exactly bytes lines = (
  λ same. (subst AreLines same (lines_of-are bytes), ap concat (sym same) ∙ concat-lines_of bytes),
  λ are. ap lines_of (sym are.1) ∙ lines_of-concat lines are.0,
)
