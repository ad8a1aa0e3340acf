-- Where a call, and a swap that found its object over, is drawn.
use Rattle.std.specs.Prelude.{◌≡◌, ℕ, true, IsTrue, List, [], ◌∷◌, Some, None, slice_get}
use Rattle.gen_core.specs.State.{caller_at}
use Rattle.k42_kinds.specs.declared.entry.Act.{Act}
use Rattle.k42_kinds.specs.declared.entry.Act.TheVariants.{Call, Swap}
use Rattle.k42_kinds.specs.declared.entry.Answer.TheVariants.{Replied}
use Rattle.k42_kinds.specs.declared.entry.Entry.{Entry}
use Rattle.k42_kinds.specs.Rows.{row_replied}
use Rattle.phase_core.specs.State.{visitor_at, proc_of}
use Rattle.k42_stamp.specs.Layouts.{Layouts}
use Rattle.k42_stamp.specs.Chains.{Chain, parts_of}
use Rattle.k42_stamp.specs.Parts.{reach_of}
use Rattle.k42_joined.specs.Plain.{Joined}
use Rattle.k42_joined.specs.State.{incarnation, kept_of, layouts_of, many_procs}
use Rattle.k42_joined.specs.Numbers.{cell_of}
use Rattle.k42_joined.specs.Touching.{is_inside}
use Rattle.k42_joined.specs.Found.{tells_over}
use Rattle.k42_joined.specs.Rows.{cells_reached, AreRowsOf}

-- the first of the cells at which an entry is drawn
abbrev pub first_cell : List ℕ → ℕ
first_cell [] = 0
first_cell (n ∷ cells) = n

-- what each drawn entry bears: its caller's processor, and the first cell at which it is drawn
pub record Bears {L O R : Type 0} (s : Joined L O R) (c : ℕ) (cells : List ℕ) (entry : Entry O R) : Type 0 where
  pub proc : entry.proc ≡ proc_of s.phases c
  pub cell : entry.cell ≡ first_cell cells

-- the layout of an object's newest row, of those of its hands and the one that was declared
abbrev pub newest_layout : {L : Type 0} → List L → L → L
newest_layout [] declaration = declaration
newest_layout (layout ∷ layouts) declaration = layout

module _ {S L P O R : Type 0} (F : Layouts S L P O R) (declared : List L) (s : Joined L O R) where
  -- A call is drawn inside its row, at the cells that the row's layout names. It is of the object's kind, bears
  -- the generation of its activity, and has the reply of the parts that the histories give. The row is the
  -- newest, since a row that was handed on has no open cell.
  pub record IsCall (c : ℕ) (cells : List ℕ) (entry : Entry O R) (op : O) : Type 0 where
    pub inside : is_inside (visitor_at s.phases c).place entry.object entry.incarnation ≡ true
    pub generation : entry.generation ≡ (caller_at s.phases.turns c).active
    pub declaration : L
    pub declares : slice_get declared entry.object ≡ Some declaration
    pub takes : IsTrue ((F.object_of declaration).takes op)
    pub reached :
        cells
        ≡ cells_reached (many_procs s) entry.object entry.incarnation
        (reach_of F (newest_layout (layouts_of s entry.object) declaration) entry)
    pub reply : R
    pub answer : entry.answer ≡ Replied reply
    pub replied :
        (chain : Chain L P O R) → AreRowsOf F declaration s entry.object chain
        → row_replied (F.ways_of chain.row.layout) (parts_of F chain.row) op (reach_of F chain.row.layout entry)
        ≡ Some reply

  -- A swap whose caller found the object dead or at its last incarnation is drawn, with that answer, at
  -- the first cell of the present row.
  pub record FoundOver (c : ℕ) (cells : List ℕ) (entry : Entry O R) : Type 0 where
    pub begun : (kept_of s c).begun ≡ Some entry.object
    pub found : (kept_of s c).found ≡ Some entry.answer
    pub over : tells_over entry.answer ≡ true
    pub present : entry.incarnation ≡ incarnation s entry.object
    pub first : cells ≡ cell_of entry.object entry.incarnation 0 ∷ []
    pub generation : entry.generation ≡ None

  -- by the entry's act
  abbrev pub IsDrawnAs : ℕ → List ℕ → Entry O R → Act O → Type 0
  IsDrawnAs c cells entry (Call op) = IsCall c cells entry op
  IsDrawnAs c cells entry (Swap to) = FoundOver c cells entry

  pub record MayDraw (c : ℕ) (cells : List ℕ) (entry : Entry O R) : Type 0 where
    pub bears : Bears s c cells entry
    pub act : IsDrawnAs c cells entry entry.act
