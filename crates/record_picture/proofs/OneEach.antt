-- One more item has one more text, at its place.
use Rattle.std.proofs.Common.{◌≡◌, ℕ, ◌+◌, List, [], ◌∷◌, ◌++◌, length, sym, ap, ◌∙◌, arith}
use Rattle.std.proofs.lemmas.List.{append_assoc, append-nil}
use Rattle.record_picture.specs.Pieces.{placed_texts}

placed-append : {X : Type 0} (text : ℕ → X → List ℕ) (place : ℕ) (items : List X) (item : X) → placed_texts text place (items ++ item ∷ []) ≡ placed_texts text place items ++ text (place + length items) item
placed-append text place [] item =
    let here : place ≡ place + 0 = omega arith in
    append-nil (text place item) ∙ ap (λ n. text n item) here
placed-append text place (first ∷ items) item =
    let there : (place + 1) + length items ≡ place + length (first ∷ items) = omega arith in
    ap (λ rest. text place first ++ rest) (placed-append text (place + 1) items item ∙ ap (λ n. placed_texts text (place + 1) items ++ text n item) there)
    ∙ sym (append_assoc (text place first) (placed_texts text (place + 1) items) (text (place + length (first ∷ items)) item))

pub one-each : {X : Type 0} (text : ℕ → X → List ℕ) (items : List X) (item : X) → placed_texts text 0 (items ++ item ∷ []) ≡ placed_texts text 0 items ++ text (length items) item
one-each text items item =
    let place : 0 + length items ≡ length items = omega arith in
    placed-append text 0 items item ∙ ap (λ n. placed_texts text 0 items ++ text n item) place
