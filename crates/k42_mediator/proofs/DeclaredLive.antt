-- What a pass was told of an object's layouts is what the declared one tells.
use Rattle.std.proofs.Common.{◌≡◌, ℕ, List, [], length, get_or, sym, ap, ◌∙◌}
use Rattle.k42_shapes.specs.declared.shape.Shape.{Shape}

pub told_of : {told shapes : List (List Shape)} (object : ℕ) {own : List Shape} → told ≡ shapes → get_or shapes object [] ≡ own → get_or told object [] ≡ own
told_of object told_is own_is = ap (λ (xs : List (List Shape)). get_or xs object []) told_is ∙ own_is

-- and so is how many of them are live
pub live_told : {told shapes : List (List Shape)} {place object live : ℕ} {own : List Shape} → told ≡ shapes → place ≡ object → get_or shapes object [] ≡ own → live ≡ length own
    → length (get_or told place []) ≡ live
live_told told_is place_is own_is live_is = (λ k. length (get_or (told_is k) (place_is k) [])) ∙ ap length own_is ∙ sym live_is
