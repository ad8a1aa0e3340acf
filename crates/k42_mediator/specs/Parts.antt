-- Parts, as they are moved between cells.
use Rattle.std.specs.Prelude.{◌≡◌, ◌⊎◌, ℕ, ◌+◌, ◌<◌, ⊤, List, [], ◌∷◌, Some, None, unwrap_or}
use Rattle.k42_kinds.specs.Rows.{Ways}
use Rattle.k42_board.specs.declared.cell.Content.{Content}

-- the parts that are due at the cells, whose places are counted from a first one: a missing one stands for the empty one
abbrev pub parts_from : {S P O R : Type 0} → Ways S P O R → ℕ → ℕ → List (Content P O R) → List P
parts_from ways procs place [] = []
parts_from ways procs place (content ∷ contents) =
    unwrap_or content.part (ways.empty procs place) ∷ parts_from ways procs (place + 1) contents

-- a cell is as it was, or has the part that is due there, at so many places
abbrev pub IsKept : {S P O R : Type 0} → Ways S P O R → ℕ → ℕ → ℕ → Content P O R → Content P O R → Type 0
IsKept ways procs many place old new =
    (new ≡ old)
    ⊎ ((place < many) × (new ≡ record old { part = Some (unwrap_or old.part (ways.empty procs place)) }))

-- and so is each
abbrev pub AreKept : {S P O R : Type 0} → Ways S P O R → ℕ → ℕ → ℕ → List (Content P O R) → List (Content P O R) → Type 0
AreKept ways procs many place [] [] = ⊤
AreKept ways procs many place (old ∷ olds) (new ∷ news) =
    IsKept ways procs many place old new × AreKept ways procs many (place + 1) olds news
AreKept ways procs many place _ _ = ⊥

-- the cells have these parts, as many as there are, and no other
abbrev pub filled : {P O R : Type 0} → List P → List (Content P O R) → List (Content P O R)
filled parts [] = []
filled [] (content ∷ contents) = record content { part = None } ∷ filled [] contents
filled (part ∷ parts) (content ∷ contents) = record content { part = Some part } ∷ filled parts contents
