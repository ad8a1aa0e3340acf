-- Entries at different cells of a row have nothing to do with each other, and what an entry does to the part of a cell.
use Rattle.std.proofs.Common.{◌≡◌, ◌≢◌, ℕ, zero, suc, option_map, List, [], ◌∷◌, refl, sym, ap}
use Rattle.k42_kinds.specs.declared.entry.Act.{Act}
use Rattle.k42_kinds.specs.declared.entry.Act.TheVariants.{Call, Swap}
use Rattle.k42_kinds.specs.declared.entry.Reach.{Reach}
use Rattle.k42_kinds.specs.declared.entry.Reach.TheVariants.{One, All}
use Rattle.k42_kinds.specs.Rows.{Ways, part_at, changed_at, row_moved, row_replied}
use Rattle.k42_stamp.specs.Layouts.{Layouts}
use Rattle.k42_stamp.specs.Parts.{reach_of, act_moves, act_replies, part_steps}
use Rattle.k42_stamp.proofs.Late.{AreApart}

module _ {P : Type 0} where
  changed-swap : (f g : P → P) (ps : List P) (c d : ℕ) → c ≢ d → changed_at g (changed_at f ps c) d ≡ changed_at f (changed_at g ps d) c
  changed-swap f g [] c d n = refl
  changed-swap f g (p ∷ ps) zero zero n = absurd (n refl)
  changed-swap f g (p ∷ ps) zero (suc d) n = refl
  changed-swap f g (p ∷ ps) (suc c) zero n = refl
  changed-swap f g (p ∷ ps) (suc c) (suc d) n = ap (λ (l : List P). p ∷ l) (changed-swap f g ps c d (λ e. n (ap suc e)))

  -- the part of a changed cell, and of every other one
  pub part_at-changed : (f : P → P) (ps : List P) (c : ℕ) → part_at (changed_at f ps c) c ≡ option_map f (part_at ps c)
  part_at-changed f [] c = refl
  part_at-changed f (p ∷ ps) zero = refl
  part_at-changed f (p ∷ ps) (suc c) = part_at-changed f ps c

  pub part_at-else : (f : P → P) (ps : List P) (c d : ℕ) → c ≢ d → part_at (changed_at f ps c) d ≡ part_at ps d
  part_at-else f [] c d n = refl
  part_at-else f (p ∷ ps) zero zero n = absurd (n refl)
  part_at-else f (p ∷ ps) zero (suc d) n = refl
  part_at-else f (p ∷ ps) (suc c) zero n = refl
  part_at-else f (p ∷ ps) (suc c) (suc d) n = part_at-else f ps c d (λ e. n (ap suc e))

-- no cell is needed by both
abbrev pub AreDisjoint : Reach → Reach → Type 0
AreDisjoint (One c) (One d) = c ≢ d
AreDisjoint (One c) All = ⊥
AreDisjoint All r = ⊥

module _ {S P O R : Type 0} (w : Ways S P O R) where
  rows-swap : (parts : List P) (o p : O) (r s : Reach) → AreDisjoint r s → row_moved w (row_moved w parts o r) p s ≡ row_moved w (row_moved w parts p s) o r
  rows-swap parts o p (One c) (One d) n = changed-swap (λ x. w.part_after x o) (λ x. w.part_after x p) parts c d n
  rows-swap parts o p (One c) All n = absurd n
  rows-swap parts o p All s n = absurd n

  rows-first : (parts : List P) (o p : O) (r s : Reach) → AreDisjoint r s → row_replied w (row_moved w parts p s) o r ≡ row_replied w parts o r
  rows-first parts o p (One c) (One d) n = ap (option_map (λ x. w.part_reply x o)) (part_at-else (λ x. w.part_after x p) parts d c (λ e. n (sym e)))
  rows-first parts o p (One c) All n = absurd n
  rows-first parts o p All s n = absurd n

  rows-second : (parts : List P) (o p : O) (r s : Reach) → AreDisjoint r s → row_replied w (row_moved w parts o r) p s ≡ row_replied w parts p s
  rows-second parts o p (One c) (One d) n = ap (option_map (λ x. w.part_reply x p)) (part_at-else (λ x. w.part_after x o) parts c d n)
  rows-second parts o p (One c) All n = absurd n
  rows-second parts o p All s n = absurd n

  acts-swap : (parts : List P) (a b : Act O) (r s : Reach) → AreDisjoint r s → act_moves w (act_moves w parts a r) b s ≡ act_moves w (act_moves w parts b s) a r
  acts-swap parts (Call o) (Call p) r s n = rows-swap parts o p r s n
  acts-swap parts (Call o) (Swap to) r s n = refl
  acts-swap parts (Swap to) b r s n = refl

  acts-first : (parts : List P) (a b : Act O) (r s : Reach) → AreDisjoint r s → act_replies w (act_moves w parts b s) a r ≡ act_replies w parts a r
  acts-first parts (Call o) (Call p) r s n = rows-first parts o p r s n
  acts-first parts (Call o) (Swap to) r s n = refl
  acts-first parts (Swap to) b r s n = refl

  acts-second : (parts : List P) (a b : Act O) (r s : Reach) → AreDisjoint r s → act_replies w (act_moves w parts a r) b s ≡ act_replies w parts b s
  acts-second parts (Call o) (Call p) r s n = rows-second parts o p r s n
  acts-second parts (Call o) (Swap to) r s n = refl
  acts-second parts (Swap to) b r s n = refl

-- entries that need no cell both
pub parts_apart : {S L P O R : Type 0} (F : Layouts S L P O R) (layout : L) → AreApart (part_steps F layout) (λ e f. AreDisjoint (reach_of F layout e) (reach_of F layout f))
parts_apart F layout = record {
  swap = λ x e f n. acts-swap (F.ways_of layout) x e.act f.act (reach_of F layout e) (reach_of F layout f) n;
  first = λ x e f n. acts-first (F.ways_of layout) x e.act f.act (reach_of F layout e) (reach_of F layout f) n;
  second = λ x e f n. acts-second (F.ways_of layout) x e.act f.act (reach_of F layout e) (reach_of F layout f) n;
}
