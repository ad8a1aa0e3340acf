-- what a list with room for so many elements has after more were offered to it
use Rattle.std.proofs.Common.{◌≡◌, ℕ, ◌+◌, ◌-◌, ◌≤◌, min, List, ◌++◌, length, take, sym, ◌∙◌, ap, arith}
use Rattle.std.proofs.lemmas.List.{take_min}
use Rattle.std.proofs.Math.Seq.{take-append-add}

-- the first of all are those there and the first of the new ones that there is room for
pub take_room : (room : ℕ) (stored more : List ℕ) → length stored ≤ room →
    take room (stored ++ more) ≡ stored ++ take (min (room - length stored) (length more)) more
take_room room stored more fits =
    let whole : room ≡ length stored + (room - length stored) = omega arith in
    ap (λ n. take n (stored ++ more)) whole ∙
    (take-append-add stored more (room - length stored) ∙ ap (λ xs. stored ++ xs) (sym (take_min (room - length stored) more)))
