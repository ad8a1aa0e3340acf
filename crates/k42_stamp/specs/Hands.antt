-- The next row of an object.
use Rattle.std.specs.Prelude.{◌≡◌, ℕ, suc, ◌<◌, ◌==◌, if◌then◌else◌, List, [], ◌∷◌, length}
use Rattle.std.specs.List.{AllByRecursion}
use Rattle.k42_limits.specs.declared.TheConstants.{LAST_INCARNATION}
use Rattle.k42_kinds.specs.declared.entry.Entry.{Entry}
use Rattle.k42_stamp.specs.Layouts.{Layouts, IsKnown, IsLive}
use Rattle.k42_stamp.specs.Chains.{Chain, start_of}
use Rattle.k42_stamp.specs.Fits.{IsHandOf}
use Rattle.k42_stamp.specs.Draws.{IsLater}

-- An entry by which the row can be handed on, to a row of the layout: it tells of the layout's act,
-- later than all that the row's cells have, and the row is live and not the last.
pub record IsHand
    {S L P O R : Type 0} (F : Layouts S L P O R) (declared : L) (o : ℕ) (histories : ℕ → ℕ → List (Entry O R))
    (chain : Chain L P O R) (layout : L) (entry : Entry O R)
    : Type 0 where
  pub kind : F.object_of layout ≡ F.object_of declared
  pub known : IsKnown F layout
  pub told : IsHandOf (F.act_of layout) o (suc (length chain.past)) entry
  pub later :
      (cell : ℕ) → cell < F.procs
      → AllByRecursion (IsLater entry) (histories (length chain.past) cell)
  pub live : IsLive F chain.row.layout
  pub unspent : length chain.past < LAST_INCARNATION

-- the rows with the next one, which has no entry but the one with which it begins
abbrev pub handed : {S L P O R : Type 0} → Layouts S L P O R → Chain L P O R → L → Entry O R → Chain L P O R
handed F chain layout entry =
    let past = record { row = chain.row; done = entry } ∷ chain.past in
    record { past = past; row = record { layout = layout; start = start_of F past layout; entries = [] } }

-- the histories with just the entry at each cell of the next row
abbrev pub begun_at : {O R : Type 0} → Entry O R → ℕ → (ℕ → ℕ → List (Entry O R)) → ℕ → ℕ → List (Entry O R)
begun_at entry number histories row cell = if row == number then entry ∷ [] else histories row cell
