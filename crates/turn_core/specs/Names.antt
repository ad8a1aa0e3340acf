-- Lists that name cells.
use Rattle.std.specs.Prelude.{ℕ, Bool, true, not, ◌&&◌, ◌==◌, List, [], ◌∷◌}
use Rattle.std.specs.List.{list_any}

-- the list names the cell
abbrev pub names : List ℕ → ℕ → Bool
names cells n = list_any (λ m. m == n) cells

-- no cell is named twice
abbrev pub names_once : List ℕ → Bool
names_once [] = true
names_once (n ∷ cells) = not (names cells n) && names_once cells
