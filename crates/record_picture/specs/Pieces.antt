-- What the text of a picture is made of.
use Rattle.std.specs.Prelude.{ℕ, ◌+◌, ◌==◌, nat_le, if◌then◌else◌, List, [], ◌∷◌, ◌++◌, length, take, codes}
use Rattle.std.specs.List.{flat_map}
use Rattle.std.specs.Fmt.{decimal}

-- How a byte is written in the text of an XML document: those that have a meaning there by name.
abbrev pub escape : ℕ → List ℕ
escape byte =
    if byte == 38 then codes "&amp;"
    else if byte == 60 then codes "&lt;"
    else if byte == 62 then codes "&gt;"
    else if byte == 34 then codes "&quot;"
    else if byte == 39 then codes "&apos;"
    else byte ∷ []

-- the same of each byte
abbrev pub escaped : List ℕ → List ℕ
escaped bytes = flat_map escape bytes

-- a fixed text and a number behind it
unfoldable pub numbered : List ℕ → ℕ → List ℕ
numbered before number = before ++ decimal number

-- a fixed text and a word behind it
unfoldable pub worded : List ℕ → List ℕ → List ℕ
worded before word = before ++ escaped word

-- A word that is too long is cut to so many bytes, and two points say so.
abbrev pub cut_to : ℕ → List ℕ → List ℕ
cut_to kept word =
    if nat_le (length word) (kept + 2) then word else take kept word ++ codes ".."

-- The texts of some items, each of which depends on the item's place too. Places count from this one.
abbrev pub placed_texts : {X : Type 0} → (ℕ → X → List ℕ) → ℕ → List X → List ℕ
placed_texts text place [] = []
placed_texts text place (item ∷ items) = text place item ++ placed_texts text (place + 1) items
