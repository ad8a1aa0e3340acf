-- The parts of a row: how they begin, what an entry adds to them, and that they are whole.
use Rattle.std.proofs.Common.{◌≡◌, ◌≢◌, ℕ, zero, suc, ◌+◌, ◌<◌, ◌≤◌, false, List, [], ◌∷◌, length, Some, None, option_map, refl, ap, ◌∙◌, arith}
use Rattle.k42_kinds.specs.declared.entry.Act.{Act}
use Rattle.k42_kinds.specs.declared.entry.Act.TheVariants.{Call, Swap}
use Rattle.k42_kinds.specs.declared.entry.Entry.{Entry}
use Rattle.k42_kinds.specs.declared.entry.Reach.{Reach}
use Rattle.k42_kinds.specs.declared.entry.Reach.TheVariants.{One, All}
use Rattle.k42_kinds.specs.Histories.{is_call}
use Rattle.k42_shapes.specs.declared.shape.Shape.{Shape}
use Rattle.k42_kinds.specs.Rows.{Ways, made_from, empty_row, part_at}
use Rattle.k42_shapes.specs.Shapes.{cells_of, shape_at}
use Rattle.k42_stamp.specs.Layouts.{Layouts, IsLive, shape_of}
use Rattle.k42_stamp.specs.Parts.{reach_of, act_moves, act_replies, part_steps}
use Rattle.k42_stamp.specs.Chains.{Turn, Chain, parts_of}
use Rattle.k42_stamp.specs.Fits.{ArePast, IsTurn, PastLeaves, Fits}
use Rattle.k42_stamp.specs.Laws.{AreLaws}
use Rattle.k42_stamp.proofs.PartSteps.{part_at-changed, part_at-else}
use Rattle.k42_stamp.proofs.Lawful.{begun, row_runs, chain_stands}

act_else : {S P O R : Type 0} (w : Ways S P O R) (parts : List P) (act : Act O) (c d : ℕ) → c ≢ d → part_at (act_moves w parts act (One c)) d ≡ part_at parts d
act_else w parts (Call op) c d other = part_at-else (λ part. w.part_after part op) parts c d other
act_else w parts (Swap to) c d other = refl

act_none : {S P O R : Type 0} (w : Ways S P O R) (parts : List P) (act : Act O) (r : Reach) → is_call act ≡ false → act_moves w parts act r ≡ parts
act_none w parts (Call op) r other = cc other
act_none w parts (Swap to) r other = refl

module _ {S L P O R : Type 0} (F : Layouts S L P O R) (layout : L) (parts : List P) (e : Entry O R) where
  -- a call at one cell moves its part
  pub part_at-here : (op : O) (cell : ℕ) → e.act ≡ Call op → reach_of F layout e ≡ One cell → part_at ((part_steps F layout).moves parts e) cell ≡ option_map (λ part. (F.ways_of layout).part_after part op) (part_at parts cell)
  part_at-here op cell act reach =
      ap (λ r. part_at (act_moves (F.ways_of layout) parts e.act r) cell) reach
      ∙ (ap (λ a. part_at (act_moves (F.ways_of layout) parts a (One cell)) cell) act ∙ part_at-changed (λ part. (F.ways_of layout).part_after part op) parts cell)

  -- and leaves every other one
  pub part_at-other : (only cell : ℕ) → reach_of F layout e ≡ One only → only ≢ cell → part_at ((part_steps F layout).moves parts e) cell ≡ part_at parts cell
  part_at-other only cell reach other = ap (λ r. part_at (act_moves (F.ways_of layout) parts e.act r) cell) reach ∙ act_else (F.ways_of layout) parts e.act only cell other

  -- a call at all cells moves the row
  pub parts-all : (op : O) → e.act ≡ Call op → reach_of F layout e ≡ All → (part_steps F layout).moves parts e ≡ (F.ways_of layout).row_after parts op
  parts-all op act reach = ap (λ r. act_moves (F.ways_of layout) parts e.act r) reach ∙ ap (λ a. act_moves (F.ways_of layout) parts a All) act

  -- what is no call moves nothing
  pub parts-mark : is_call e.act ≡ false → (part_steps F layout).moves parts e ≡ parts
  parts-mark other = act_none (F.ways_of layout) parts e.act (reach_of F layout e) other

  -- what a call is answered at one cell, and at all
  pub answers-one : (op : O) (cell : ℕ) (part : P) → e.act ≡ Call op → reach_of F layout e ≡ One cell → part_at parts cell ≡ Some part → (part_steps F layout).answers parts e ≡ Some ((F.ways_of layout).part_reply part op)
  answers-one op cell part act reach there =
      ap (λ r. act_replies (F.ways_of layout) parts e.act r) reach
      ∙ (ap (λ a. act_replies (F.ways_of layout) parts a (One cell)) act ∙ ap (option_map (λ p. (F.ways_of layout).part_reply p op)) there)

  pub answers-all : (op : O) → e.act ≡ Call op → reach_of F layout e ≡ All → (part_steps F layout).answers parts e ≡ Some ((F.ways_of layout).row_reply parts op)
  answers-all op act reach = ap (λ r. act_replies (F.ways_of layout) parts e.act r) reach ∙ ap (λ a. act_replies (F.ways_of layout) parts a All) act

part_at-made : {P : Type 0} (make : ℕ → P) (first many cell : ℕ) → cell < many → part_at (made_from make first many) cell ≡ Some (make (first + cell))
part_at-made make first zero cell lt = absurd (omega arith)
part_at-made make first (suc many) zero lt = let same : first ≡ first + 0 = omega arith in ap (λ n. Some (make n)) same
part_at-made make first (suc many) (suc cell) lt = let same : suc first + cell ≡ first + suc cell = omega arith in part_at-made make (suc first) many cell (omega arith) ∙ ap (λ n. Some (make n)) same

-- a cell of the first row begins with its empty part
-- layouts of one object with one tag have one shape
pub same_shape : {S L P O R : Type 0} (F : Layouts S L P O R) → AreLaws F → (layout other : L) → F.object_of layout ≡ F.object_of other → F.tag_of layout ≡ F.tag_of other
    → shape_of F layout ≡ shape_of F other
same_shape F laws layout other same tags = λ i. shape_at (laws.alike layout other same i) (tags i)

pub part_at-empty : {S P O R : Type 0} (w : Ways S P O R) (shape : Shape) (procs cell : ℕ) → cell < cells_of shape procs → part_at (empty_row w shape procs) cell ≡ Some (w.empty procs cell)
part_at-empty w shape procs cell lt = let same : 0 + cell ≡ cell = omega arith in part_at-made (w.empty procs) 0 (cells_of shape procs) cell lt ∙ ap (λ n. Some (w.empty procs n)) same

-- a cell that the parts do not reach has none
pub part_at-beyond : {P : Type 0} (parts : List P) (cell : ℕ) → length parts ≤ cell → part_at parts cell ≡ None
part_at-beyond [] cell beyond = refl
part_at-beyond (part ∷ parts) zero beyond = absurd (omega arith)
part_at-beyond (part ∷ parts) (suc cell) beyond = part_at-beyond parts cell (omega arith)

-- rows that nothing was drawn at
pub fresh_chain : {S L P O R : Type 0} → Layouts S L P O R → L → Chain L P O R
fresh_chain F declared = record { past = []; row = record { layout = declared; start = empty_row (F.ways_of declared) (shape_of F declared) F.procs; entries = [] } }

pub fresh_fits : {S L P O R : Type 0} (F : Layouts S L P O R) (declared : L) (o : ℕ) (histories : ℕ → ℕ → List (Entry O R)) → IsLive F declared → ((cell : ℕ) → cell < F.procs → histories 0 cell ≡ []) → Fits F declared o histories (fresh_chain F declared)
unfolding fresh_chain
fresh_fits F declared o histories live none = record {
  declared_live = live;
  past = tt;
  row = record { kind = refl; known = omega arith; begun = refl; started = refl; own = tt; ordered = tt; above = tt; replied = tt };
  past_left = tt;
  left = none;
}

past_left-within : {S L P O R : Type 0} (F : Layouts S L P O R) (old new : ℕ → ℕ → List (Entry O R)) (past : List (Turn L P O R)) → ((row cell : ℕ) → row < length past → cell < F.procs → new row cell ≡ old row cell) → PastLeaves F old past → PastLeaves F new past
past_left-within F old new [] same left = tt
past_left-within F old new (turn ∷ past) same left = (
  (λ cell inside. same (length past) cell (omega arith) inside ∙ left.0 cell inside),
  past_left-within F old new past (λ row cell lt inside. same row cell (omega arith) inside) left.1,
)

-- histories that are the same at all rows that there are fit the same rows
pub fits-same : {S L P O R : Type 0} (F : Layouts S L P O R) (declared : L) (o : ℕ) (old new : ℕ → ℕ → List (Entry O R)) (chain : Chain L P O R) → ((row cell : ℕ) → row ≤ length chain.past → cell < F.procs → new row cell ≡ old row cell) → Fits F declared o old chain → Fits F declared o new chain
fits-same F declared o old new chain same fits = record {
  declared_live = fits.declared_live;
  past = fits.past;
  row = fits.row;
  past_left = past_left-within F old new chain.past (λ row cell lt inside. same row cell (omega arith) inside) fits.past_left;
  left = λ cell inside. same (length chain.past) cell (omega arith) inside ∙ fits.left cell inside;
}

module _ {S L P O R : Type 0} (F : Layouts S L P O R) (laws : AreLaws F) (declared : L) (o : ℕ) (histories : ℕ → ℕ → List (Entry O R)) (chain : Chain L P O R) (fits : Fits F declared o histories chain) where
  -- the parts of the row that the object has now
  pub parts_whole : F.Whole chain.row.layout F.procs (parts_of F chain.row)
  parts_whole = (chain_stands F laws declared o histories chain fits).whole

  pub parts_sized : length (parts_of F chain.row) ≡ cells_of (shape_of F chain.row.layout) F.procs
  parts_sized = (laws.stands chain.row.layout (parts_of F chain.row) fits.row.known parts_whole).sized

-- and those of a row that was handed on
pub turn_whole : {S L P O R : Type 0} (F : Layouts S L P O R) (laws : AreLaws F) (declared : L) (o : ℕ) (live : IsLive F declared) (turn : Turn L P O R) (past : List (Turn L P O R)) → IsTurn F declared o past turn → ArePast F declared o past → F.Whole turn.row.layout F.procs (parts_of F turn.row)
turn_whole F laws declared o live turn past is turns = (row_runs F laws declared o past turn.row is.row _ (begun F laws declared o live past turns turn.row is.row).stands).stands.whole
