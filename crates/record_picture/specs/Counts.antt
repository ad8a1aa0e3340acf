-- How often a mark stands in a text, and how many lines of swaps a picture owes.
use Rattle.std.specs.Prelude.{ℕ, ◌+◌, Bool, true, false, ◌&&◌, ◌==◌, if◌then◌else◌, List, [], ◌∷◌}
use Rattle.k42_kinds.specs.Histories as histories
use Rattle.record_text.specs.declared.record.RecordLine.{RecordLine}

-- the text begins with the mark
abbrev pub begins : List ℕ → List ℕ → Bool
begins [] text = true
begins (byte ∷ mark) [] = false
begins (byte ∷ mark) (first ∷ text) = byte == first && begins mark text

abbrev pub count_of : List ℕ → List ℕ → ℕ
count_of mark [] = 0
count_of mark (byte ∷ text) =
    (if begins mark (byte ∷ text) then 1 else 0) + count_of mark text

-- the entry is a swap that was carried out
abbrev pub is_carried_out : RecordLine → Bool
is_carried_out line = histories.is_carried_out line.answer
