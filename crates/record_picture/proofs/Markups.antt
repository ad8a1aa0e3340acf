-- Texts of one markup: what stands between the bytes of markup makes no difference.
use Rattle.std.proofs.Common.{◌≡◌, ℕ, ◌+◌, List, [], ◌∷◌, ◌++◌, map, true, refl, ap, ◌∙◌}
use Rattle.std.specs.List.{list_all}
use Rattle.std.proofs.lemmas.Bool.{and_parts}
use Rattle.std.proofs.lemmas.List.{append-nil}
use Rattle.std.proofs.lemmas.List.Elements.{filter-append}
use Rattle.record_picture.specs.Harmless.{is_inert, markup}
use Rattle.record_picture.specs.Pieces.{escaped, worded, placed_texts}
use Rattle.record_picture.proofs.Escapes.{escaped-inert}

pub markup-append : (front back : List ℕ) → markup (front ++ back) ≡ markup front ++ markup back
markup-append front back = filter-append _ front back

markup-inert : (text : List ℕ) → list_all is_inert text ≡ true → markup text ≡ []
markup-inert [] inert = refl
markup-inert (byte ∷ text) inert =
    let parts = and_parts (is_inert byte) (list_all is_inert text) inert in
    rw parts.0 (markup-inert text parts.1)

pub markup-escaped : (bytes : List ℕ) → markup (escaped bytes) ≡ []
markup-escaped bytes = markup-inert (escaped bytes) (escaped-inert bytes)

-- whatever the word is
pub markup-worded : (before word : List ℕ) → markup (worded before word) ≡ markup before
unfolding worded
markup-worded before word = markup-append before (escaped word) ∙ ap (λ bytes. markup before ++ bytes) (markup-escaped word) ∙ append-nil (markup before)

-- what is alike at each item is alike in the whole
pub markup-placed : {X : Type 0} (text other : ℕ → X → List ℕ) (blank : X → X) → ((place : ℕ) (item : X) → markup (text place item) ≡ markup (other place (blank item))) → (place : ℕ) (items : List X) → markup (placed_texts text place items) ≡ markup (placed_texts other place (map blank items))
markup-placed text other blank each place [] = refl
markup-placed text other blank each place (item ∷ items) =
    rw (markup-append (text place item) (placed_texts text (place + 1) items), markup-append (other place (blank item)) (placed_texts other (place + 1) (map blank items)), each place item, markup-placed text other blank each (place + 1) items) refl
