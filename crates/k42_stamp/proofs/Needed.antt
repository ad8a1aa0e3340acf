-- The cells that entries need, and what the histories tell of the entries of a row.
use Rattle.std.proofs.Common.{◌≡◌, ◌≢◌, ℕ, ◌<◌, ◌≤◌, true, false, eqb, List, [], ◌∷◌, ◌++◌, length, refl, sym, ◌∙◌, inl, inr, ◌⊎◌, ⊎_elim, arith}
use Rattle.std.specs.List.{AllByRecursion}
use Rattle.std.proofs.lemmas.Bool.Decides.{eqb_tells, nat_tests}
use Rattle.k42_kinds.specs.declared.entry.Act.{Act}
use Rattle.k42_kinds.specs.declared.entry.Act.TheVariants.{Call, Swap}
use Rattle.k42_kinds.specs.declared.entry.Answer.{Answer}
use Rattle.k42_kinds.specs.declared.entry.Entry.{Entry}
use Rattle.k42_kinds.specs.declared.entry.Reach.{Reach}
use Rattle.k42_kinds.specs.declared.entry.Reach.TheVariants.{One, All}
use Rattle.k42_shapes.proofs.ShapeLaws.{few_cells}
use Rattle.k42_kinds.specs.Rows.{IsWithin}
use Rattle.k42_shapes.specs.Shapes.{cells_of}
use Rattle.k42_stamp.specs.Layouts.{Layouts, IsKnown, shape_of}
use Rattle.k42_stamp.specs.Parts.{reached, reach_of, touches, those_at}
use Rattle.k42_stamp.specs.Chains.{Turn, first_of}
use Rattle.k42_stamp.specs.Fits.{IsCallOrMark, IsEntryOf, IsAbove, PastLeaves}
use Rattle.k42_stamp.specs.Laws.{AreLaws}
use Rattle.k42_stamp.proofs.Elements.{all_weaker, all_both, all_back, all_for, all-from_filter}
use Rattle.k42_stamp.proofs.PartSteps.{AreDisjoint}

-- two reaches are disjoint, or share a cell of the row
pub disjoint_or : (cells : ℕ) (r s : Reach) → IsWithin cells r → IsWithin cells s → AreDisjoint r s ⊎ ((c : ℕ) × (c < cells) × (touches r c ≡ true) × (touches s c ≡ true))
disjoint_or cells (One c) (One d) a b =
    let C = AreDisjoint (One c) (One d) ⊎ ((k : ℕ) × (k < cells) × (touches (One c) k ≡ true) × (touches (One d) k ≡ true)) in
    ⊎_elim {C = C}
    (λ (h : (eqb d c ≡ true) × (d ≡ c)). inr (c, a, grind (arith, nat_tests), h.0))
    (λ (h : (eqb d c ≡ false) × (d ≢ c)). inl (λ e. h.1 (sym e)))
    (eqb_tells d c)
disjoint_or cells (One c) All a b = inr (c, a, grind (arith, nat_tests), refl)
disjoint_or cells All (One d) a b = inr (d, b, refl, grind (arith, nat_tests))
disjoint_or cells All All a b = inr (0, a, refl, refl)

pub disjoint_misses : (c : ℕ) (r s : Reach) → AreDisjoint r s → touches r c ≡ true → touches s c ≡ false
disjoint_misses c (One a) (One b) n h = grind (arith, nat_tests)
disjoint_misses c (One a) All n h = absurd n
disjoint_misses c All s n h = absurd n

-- a cell that is needed
pub needed : (cells : ℕ) (r : Reach) → IsWithin cells r → (c : ℕ) × (c < cells) × (touches r c ≡ true)
needed cells (One c) h = (c, h, grind (arith, nat_tests))
needed cells All h = (0, h, refl)

wider : (fewer more : ℕ) (r : Reach) → fewer ≤ more → IsWithin fewer r → IsWithin more r
wider fewer more (One c) le h = omega arith
wider fewer more All le h = omega arith

module _ {S L P O R : Type 0} (F : Layouts S L P O R) (laws : AreLaws F) (layout : L) (known : IsKnown F layout) where
  act_within : (number caller : ℕ) (act : Act O) (answer : Answer R) → IsCallOrMark (F.object_of layout) (F.shapes_of layout) (F.tag_of layout) number act answer → IsWithin F.procs (reached (F.ways_of layout) F.procs act (F.proc_of caller))
  act_within number caller (Call op) answer served = wider (cells_of (shape_of F layout) F.procs) F.procs ((F.ways_of layout).reach F.procs op (F.proc_of caller)) (few_cells (shape_of F layout) F.procs laws.some) (laws.reaches layout (F.proc_of caller) op known (laws.on_one caller) served)
  act_within number caller (Swap to) answer served = laws.some

  -- what an entry of a row needs is in the row
  pub entry_within : (o number : ℕ) (e : Entry O R) → IsEntryOf F layout o number e → IsWithin F.procs (reach_of F layout e)
  entry_within o number e own = act_within number e.caller e.act e.answer own.served

  pub all_within : (o number : ℕ) (es : List (Entry O R)) → AllByRecursion (IsEntryOf F layout o number) es → AllByRecursion (λ e. IsWithin F.procs (reach_of F layout e)) es
  all_within o number es own = all_weaker (IsEntryOf F layout o number) (λ e. IsWithin F.procs (reach_of F layout e)) (λ e h. entry_within o number e h) es own

  -- what the histories at some cells tell of all entries is true of those that need one of these cells
  pub entries_told : (P : Entry O R → Type 0) (Some : ℕ → Type 0) (history : ℕ → List (Entry O R)) (first es : List (Entry O R))
      → ((c : ℕ) → c < F.procs → history c ≡ first ++ those_at F layout c es)
      → ((c : ℕ) → c < F.procs → Some c → AllByRecursion P (history c))
      → AllByRecursion (λ f. (t : (c : ℕ) × (c < F.procs) × Some c) → touches (reach_of F layout f) t.0 ≡ true → P f) es
  entries_told P Some history first es left all = all_for {C = (c : ℕ) × (c < F.procs) × Some c} (λ t f. touches (reach_of F layout f) t.0 ≡ true → P f) es
      (λ t. all-from_filter P (λ f. touches (reach_of F layout f) t.0) es (all_back P first (those_at F layout t.0 es) (rw (left t.0 t.1) at (all t.0 t.1 t.2))))

  -- what all histories tell of all entries is true of all entries of the row
  pub entries_all : (P : Entry O R → Type 0) (o number : ℕ) (history : ℕ → List (Entry O R)) (first es : List (Entry O R)) → AllByRecursion (IsEntryOf F layout o number) es
      → ((c : ℕ) → c < F.procs → history c ≡ first ++ those_at F layout c es) → ((c : ℕ) → c < F.procs → AllByRecursion P (history c)) → AllByRecursion P es
  entries_all P o number history first es own left all =
      all_weaker (λ f. IsWithin F.procs (reach_of F layout f) × ((t : (c : ℕ) × (c < F.procs) × Unit {0}) → touches (reach_of F layout f) t.0 ≡ true → P f)) P
      (λ f h. let c = needed F.procs (reach_of F layout f) h.0 in h.1 (c.0, c.1, tt) c.2) es
      (all_both (λ f. IsWithin F.procs (reach_of F layout f)) (λ f. (t : (c : ℕ) × (c < F.procs) × Unit {0}) → touches (reach_of F layout f) t.0 ≡ true → P f) es
      (all_within o number es own) (entries_told P (λ _. Unit {0}) history first es left (λ c lt _. all c lt)))

-- an entry that is later than all that a cell has is above the entry with which the row began
pub first_above : {L P O R : Type 0} (past : List (Turn L P O R)) (rest : List (Entry O R)) (e : Entry O R) → AllByRecursion (λ f. f.stamp < e.stamp) (first_of past ++ rest) → IsAbove past e
first_above [] rest e h = tt
first_above (turn ∷ past) rest e h = h.0

-- histories that are the same at the rows before are those that the past leaves
pub past_left-same : {S L P O R : Type 0} (F : Layouts S L P O R) (past : List (Turn L P O R)) (old new : ℕ → ℕ → List (Entry O R)) → ((row cell : ℕ) → row < length past → new row cell ≡ old row cell) → PastLeaves F old past → PastLeaves F new past
past_left-same F [] old new same left = tt
past_left-same F (turn ∷ past) old new same left = (
  (λ cell lt. same (length past) cell (omega arith) ∙ left.0 cell lt),
  past_left-same F past old new (λ row cell lt. same row cell (omega arith)) left.1,
)
