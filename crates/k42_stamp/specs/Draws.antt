-- One more entry at the row that an object has now.
use Rattle.std.specs.Prelude.{◌≡◌, ℕ, ◌<◌, true, ◌==◌, ◌&&◌, if◌then◌else◌, List, [], ◌∷◌, ◌++◌, length}
use Rattle.std.specs.List.{AllByRecursion}
use Rattle.k42_kinds.specs.declared.entry.Entry.{Entry}
use Rattle.k42_stamp.specs.Layouts.{Layouts}
use Rattle.k42_stamp.specs.Parts.{reach_of, touches, part_steps}
use Rattle.k42_stamp.specs.Chains.{Row, Chain, parts_of}
use Rattle.k42_stamp.specs.Fits.{IsEntryOf, Fits}

-- the stamp of the first entry is above that of the second
abbrev pub IsLater : {O R : Type 0} → Entry O R → Entry O R → Type 0
IsLater entry other = other.stamp < entry.stamp

-- An entry that can be drawn: it is one of the row, later than all that its cells have and than the
-- row's entries of the same caller, and a call has the reply that the parts give now.
pub record IsNext
    {S L P O R : Type 0} (F : Layouts S L P O R) (o : ℕ) (histories : ℕ → ℕ → List (Entry O R))
    (chain : Chain L P O R) (entry : Entry O R)
    : Type 0 where
  pub own : IsEntryOf F chain.row.layout o (length chain.past) entry
  pub later :
      (cell : ℕ) → cell < F.procs → touches (reach_of F chain.row.layout entry) cell ≡ true
      → AllByRecursion (IsLater entry) (histories (length chain.past) cell)
  pub after_own :
      AllByRecursion (λ other. other.caller ≡ entry.caller → IsLater entry other) chain.row.entries
  pub replied :
      (part_steps F chain.row.layout).answers (parts_of F chain.row) entry
      ≡ (part_steps F chain.row.layout).tells entry

-- the histories with the entry at the end of those cells of the row that it needs
abbrev pub drawn_at :
    {S L P O R : Type 0} → Layouts S L P O R → L → Entry O R → ℕ → (ℕ → ℕ → List (Entry O R)) → ℕ → ℕ → List (Entry O R)
drawn_at F layout entry number histories row cell =
    if (row == number) && touches (reach_of F layout entry) cell
    then histories row cell ++ entry ∷ [] else histories row cell

-- a row with these entries, and a chain with that row
abbrev pub row_with : {L P O R : Type 0} → Row L P O R → List (Entry O R) → Row L P O R
row_with row entries = record { layout = row.layout; start = row.start; entries = entries }

abbrev pub chain_with : {L P O R : Type 0} → Chain L P O R → List (Entry O R) → Chain L P O R
chain_with chain entries = record { past = chain.past; row = row_with chain.row entries }

-- The rows after the draw: the entry stands somewhere among those of its row, the rows fit as before,
-- and the parts are those from before it, moved by the entry.
pub record Draws
    {S L P O R : Type 0} (F : Layouts S L P O R) (declared : L) (o : ℕ) (histories : ℕ → ℕ → List (Entry O R))
    (chain : Chain L P O R) (entry : Entry O R)
    : Type 0 where
  pub front : List (Entry O R)
  pub back : List (Entry O R)
  pub cut : chain.row.entries ≡ front ++ back
  pub fits :
      Fits F declared o (drawn_at F chain.row.layout entry (length chain.past) histories)
      (chain_with chain (front ++ entry ∷ back))
  pub moved :
      parts_of F (row_with chain.row (front ++ entry ∷ back))
      ≡ (part_steps F chain.row.layout).moves (parts_of F chain.row) entry
