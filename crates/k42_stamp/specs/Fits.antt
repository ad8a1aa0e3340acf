-- When the rows of an object fit its layouts and the histories of its cells.
use Rattle.std.specs.Prelude.{◌≡◌, ℕ, suc, ◌<◌, IsTrue, List, [], ◌∷◌, ◌++◌, length, ⊤}
use Rattle.std.specs.List.{AllByRecursion}
use Rattle.k42_limits.specs.declared.TheConstants.{LAST_INCARNATION}
use Rattle.k42_shapes.specs.declared.shape.Shape.{Shape}
use Rattle.k42_shapes.specs.Shapes.{IsLiveTag}
use Rattle.k42_kinds.specs.declared.entry.Act.{Act}
use Rattle.k42_kinds.specs.declared.entry.Act.TheVariants.{Call, Swap}
use Rattle.k42_kinds.specs.declared.entry.Answer.{Answer}
use Rattle.k42_kinds.specs.declared.entry.Answer.TheVariants.{Swapped, Spent, Gone}
use Rattle.k42_kinds.specs.declared.entry.Entry.{Entry}
use Rattle.k42_kinds.specs.OneThread.{OneThread}
use Rattle.k42_stamp.specs.Orders.{IsBefore, Ordered}
use Rattle.k42_stamp.specs.Replays.{Answered}
use Rattle.k42_stamp.specs.Layouts.{Layouts, IsKnown, IsLive}
use Rattle.k42_stamp.specs.Parts.{those_at, part_steps}
use Rattle.k42_stamp.specs.Chains.{Row, Turn, Chain, start_of, first_of}

-- A swap is told in a row only where it found the object at its last incarnation, or dead.
abbrev pub IsMark : {R : Type 0} → List Shape → ℕ → ℕ → Answer R → Type 0
IsMark shapes tag number Spent = IsLiveTag shapes tag × (number ≡ LAST_INCARNATION)
IsMark shapes tag number Gone = tag ≡ length shapes
IsMark shapes tag number _ = ⊥

-- a call of the object's kind, or such a mark
abbrev pub IsCallOrMark : {S O R : Type 0} → OneThread S O R → List Shape → ℕ → ℕ → Act O → Answer R → Type 0
IsCallOrMark object shapes tag number (Call op) answer = IsTrue (object.takes op)
IsCallOrMark object shapes tag number (Swap to) answer = IsMark shapes tag number answer

-- an entry of row number so many of the object, but for the one with which the row begins
pub record IsEntryOf {S L P O R : Type 0} (F : Layouts S L P O R) (layout : L) (o number : ℕ) (entry : Entry O R) : Type 0 where
  pub object : entry.object ≡ o
  pub incarnation : entry.incarnation ≡ number
  pub served : IsCallOrMark (F.object_of layout) (F.shapes_of layout) (F.tag_of layout) number entry.act entry.answer

-- the entry with which row number so many begins: it tells of the swap by its layout's act
pub record IsHandOf {O R : Type 0} (asked : Act O) (o number : ℕ) (entry : Entry O R) : Type 0 where
  pub object : entry.object ≡ o
  pub act : entry.act ≡ asked
  pub incarnation : suc entry.incarnation ≡ number
  pub answer : entry.answer ≡ Swapped number

-- the first row has the declared layout, and each other begins with such an entry
abbrev pub IsBegun : {S L P O R : Type 0} → Layouts S L P O R → L → ℕ → List (Turn L P O R) → L → Type 0
IsBegun F declared o [] layout = layout ≡ declared
IsBegun F declared o (turn ∷ past) layout =
    IsHandOf (F.act_of layout) o (length (turn ∷ past)) turn.done

-- the stamp is above that of the entry with which the row after these begins
abbrev pub IsAbove : {L P O R : Type 0} → List (Turn L P O R) → Entry O R → Type 0
IsAbove [] entry = ⊤
IsAbove (turn ∷ past) entry = turn.done.stamp < entry.stamp

-- A row of the object after these: its layout is of the declared one's object, its parts began as is
-- due, and its entries, in order, have each the reply that the parts give after those before it.
pub record IsRow
    {S L P O R : Type 0} (F : Layouts S L P O R) (declared : L) (o : ℕ) (past : List (Turn L P O R))
    (row : Row L P O R)
    : Type 0 where
  pub kind : F.object_of row.layout ≡ F.object_of declared
  pub known : IsKnown F row.layout
  pub begun : IsBegun F declared o past row.layout
  pub started : row.start ≡ start_of F past row.layout
  pub own : AllByRecursion (IsEntryOf F row.layout o (length past)) row.entries
  pub ordered : Ordered IsBefore row.entries
  pub above : AllByRecursion (IsAbove past) row.entries
  pub replied : Answered (part_steps F row.layout) row.start row.entries

-- a row that was handed on after these: it is live, not the last, and the entry that tells so is
-- above all of it
pub record IsTurn
    {S L P O R : Type 0} (F : Layouts S L P O R) (declared : L) (o : ℕ) (past : List (Turn L P O R))
    (turn : Turn L P O R)
    : Type 0 where
  pub row : IsRow F declared o past turn.row
  pub live : IsLive F turn.row.layout
  pub unspent : length past < LAST_INCARNATION
  pub last : AllByRecursion (λ entry. entry.stamp < turn.done.stamp) turn.row.entries
  pub higher : IsAbove past turn.done

abbrev pub ArePast : {S L P O R : Type 0} → Layouts S L P O R → L → ℕ → List (Turn L P O R) → Type 0
ArePast F declared o [] = ⊤
ArePast F declared o (turn ∷ past) = IsTurn F declared o past turn × ArePast F declared o past

-- the history that a row after these leaves at a cell
abbrev pub left_at : {S L P O R : Type 0} → Layouts S L P O R → List (Turn L P O R) → Row L P O R → ℕ → List (Entry O R)
left_at F past row cell = first_of past ++ those_at F row.layout cell row.entries

-- the cells have the histories that the row leaves
abbrev pub Leaves : {S L P O R : Type 0} → Layouts S L P O R → (ℕ → List (Entry O R)) → List (Turn L P O R) → Row L P O R → Type 0
Leaves F history past row = (cell : ℕ) → cell < F.procs → history cell ≡ left_at F past row cell

-- and so for each row that was handed on, by its number
abbrev pub PastLeaves : {S L P O R : Type 0} → Layouts S L P O R → (ℕ → ℕ → List (Entry O R)) → List (Turn L P O R) → Type 0
PastLeaves F histories [] = ⊤
PastLeaves F histories (turn ∷ past) =
    Leaves F (histories (length past)) past turn.row × PastLeaves F histories past

-- The rows of an object fit the layout that was declared, which is live, and the histories of its
-- cells, by row and cell.
pub record Fits
    {S L P O R : Type 0} (F : Layouts S L P O R) (declared : L) (o : ℕ)
    (histories : ℕ → ℕ → List (Entry O R)) (chain : Chain L P O R)
    : Type 0 where
  pub declared_live : IsLive F declared
  pub past : ArePast F declared o chain.past
  pub row : IsRow F declared o chain.past chain.row
  pub past_left : PastLeaves F histories chain.past
  pub left : Leaves F (histories (length chain.past)) chain.past chain.row
