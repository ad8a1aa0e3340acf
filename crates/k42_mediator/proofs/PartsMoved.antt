-- Parts that are moved between cells.
use Rattle.std.proofs.Common.{◌≡◌, ℕ, zero, suc, ◌+◌, ◌≤◌, take, arith, List, [], ◌∷◌, ◌++◌, length, refl, ap, inl}
use Rattle.k42_kinds.specs.Rows.{Ways}
use Rattle.k42_board.specs.declared.cell.Content.{Content}
use Rattle.k42_mediator.specs.Parts.{AreKept}

pub kept_same : {S P O R : Type 0} (ways : Ways S P O R) (procs many place : ℕ) (cells : List (Content P O R)) → AreKept ways procs many place cells cells
kept_same ways procs many place [] = tt
kept_same ways procs many place (cell ∷ cells) = (inl refl, kept_same ways procs many (place + 1) cells)

pub kept_front : {S P O R : Type 0} (ways : Ways S P O R) (procs many place : ℕ) (own new rest : List (Content P O R)) → AreKept ways procs many place own new
    → AreKept ways procs many place (own ++ rest) (new ++ rest)
kept_front ways procs many place [] [] rest are = kept_same ways procs many place rest
kept_front ways procs many place [] (y ∷ new) rest are = absurd are
kept_front ways procs many place (x ∷ own) [] rest are = absurd are
kept_front ways procs many place (x ∷ own) (y ∷ new) rest are = (are.0, kept_front ways procs many (place + 1) own new rest are.1)

pub kept_length : {S P O R : Type 0} (ways : Ways S P O R) (procs many place : ℕ) (own new : List (Content P O R)) → AreKept ways procs many place own new
    → length new ≡ length own
kept_length ways procs many place [] [] are = refl
kept_length ways procs many place [] (y ∷ new) are = absurd are
kept_length ways procs many place (x ∷ own) [] are = absurd are
kept_length ways procs many place (x ∷ own) (y ∷ new) are = ap suc (kept_length ways procs many (place + 1) own new are.1)

pub take_twice : {A : Type 0} (k many : ℕ) (xs : List A) → k ≤ many → take k (take many xs) ≡ take k xs
take_twice zero many xs le = refl
take_twice (suc k) zero xs le = absurd (omega (arith, le))
take_twice (suc k) (suc many) [] le = refl
take_twice (suc k) (suc many) (x ∷ xs) le = ap (λ rest. x ∷ rest) (take_twice k many xs (omega (arith, le)))
