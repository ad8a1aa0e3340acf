-- What text cannot break out of where it stands in an XML document.
use Rattle.std.specs.Prelude.{ℕ, Bool, true, not, ◌&&◌, ◌||◌, ◌==◌, if◌then◌else◌, List, [], ◌∷◌, length, take, codes}
use Rattle.std.specs.List.{list_any, filter}
use Rattle.std.specs.Str.{bytes_eq}

-- a byte that neither begins nor ends a tag, and ends no attribute
abbrev pub is_inert : ℕ → Bool
is_inert byte = not ((byte == 60 || byte == 62) || (byte == 34 || byte == 39))

-- the other bytes of a text, in their order
abbrev pub markup : List ℕ → List ℕ
markup text = filter (λ byte. not (is_inert byte)) text

-- the names of the bytes that have a meaning
abbrev pub entities : List (List ℕ)
entities =
    codes "&amp;" ∷ codes "&lt;" ∷ codes "&gt;" ∷ codes "&quot;" ∷ codes "&apos;" ∷ []

-- the text begins with such a name
abbrev pub begins_entity : List ℕ → Bool
begins_entity text =
    list_any (λ entity. bytes_eq (take (length entity) text) entity) entities

-- each `&` of the text begins such a name
abbrev pub names_entities : List ℕ → Bool
names_entities [] = true
names_entities (byte ∷ text) =
    (if byte == 38 then begins_entity (byte ∷ text) else true) && names_entities text
