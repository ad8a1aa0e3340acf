-- One word asks for nothing.
use Rattle.std.proofs.Common.{◌≡◌, ℕ, ◌<◌, ◌≤◌, List, [], ◌∷◌, length, map, refl, arith}
use Rattle.std.specs.Prelude.{None}
use Rattle.k42_view.specs.Words.{window_of}

pub one_word : {X : Type 0} (bytes_of : X → List ℕ) (words : List X) → 1 ≤ length words → length words < 2 → None ≡ window_of (map bytes_of words)
one_word bytes_of [] some few = absurd (omega (arith, some))
one_word bytes_of (word ∷ []) some few = refl
one_word bytes_of (one ∷ other ∷ words) some few = absurd (omega (arith, few))
