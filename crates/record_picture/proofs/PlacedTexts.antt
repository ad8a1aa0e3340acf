-- Texts of items, put one behind the other.
use Rattle.std.proofs.Common.{◌≡◌, ℕ, ◌+◌, ◌<◌, ◌≤◌, List, ◌∷◌, ◌++◌, length, get_or, drop, refl, sym, ap, ◌∙◌}
use Rattle.std.proofs.lemmas.List.{append_assoc, append-nil, drop_more}
use Rattle.std.proofs.Math.ListN.{drop_of_length-le}
use Rattle.record_picture.specs.Pieces.{placed_texts}

-- So many items are told, and the next one has this place.
pub record IsUnderway {X : Type 0} (text : ℕ → X → List ℕ) (items : List X) (before now : List ℕ) (index place : ℕ) : Type 0 where
  pub counted : place ≡ index
  pub told : now ++ placed_texts text index (drop index items) ≡ before ++ placed_texts text 0 items

pub underway_first : {X : Type 0} (text : ℕ → X → List ℕ) (items : List X) (before : List ℕ) → IsUnderway text items before before 0 0
underway_first text items before = record { counted = refl; told = refl }

pub underway_more : {X : Type 0} (text : ℕ → X → List ℕ) (items : List X) (before now : List ℕ) (index place : ℕ) (item : X) → index < length items → item ≡ get_or items index item →
    IsUnderway text items before now index place → IsUnderway text items before (now ++ text place item) (index + 1) (place + 1)
underway_more text items before now index place item within read was = record {
  counted = ap (λ n. n + 1) was.counted;
  told =
      let next : placed_texts text index (drop index items) ≡ text index item ++ placed_texts text (index + 1) (drop (index + 1) items) =
      ap (λ rest. placed_texts text index rest) (drop_more items index item within ∙ ap (λ first. first ∷ drop (index + 1) items) (sym read)) in
      rw was.counted (append_assoc now (text index item) (placed_texts text (index + 1) (drop (index + 1) items)) ∙ ap (λ rest. now ++ rest) (sym next) ∙ was.told);
}

pub underway_all : {X : Type 0} (text : ℕ → X → List ℕ) (items : List X) (before now : List ℕ) (index place : ℕ) → length items ≤ index →
    IsUnderway text items before now index place → now ≡ before ++ placed_texts text 0 items
underway_all text items before now index place past was =
    sym (append-nil now) ∙ sym (ap (λ rest. now ++ placed_texts text index rest) (drop_of_length-le items {i = index} past)) ∙ was.told
