-- What becomes of the passes of a crew, each by work of its own.
use Rattle.std.specs.Prelude.{⊤, List, [], ◌∷◌}

-- There are as many as there were, and each has become, of itself and once, what stands at its place.
abbrev pub EachBecomes : {A : Type 0} → (A → A → Type 0) → List A → List A → Type 0
EachBecomes becomes [] [] = ⊤
EachBecomes becomes (old ∷ olds) (new ∷ news) = becomes old new × EachBecomes becomes olds news
EachBecomes becomes [] (new ∷ news) = ⊥
EachBecomes becomes (old ∷ olds) [] = ⊥
