-- What stays true of locks, and of the lives and the closing of cells.
use Rattle.std.specs.Prelude.{◌≡◌, ◌⊎◌, ℕ, ◌+◌, ◌-◌, ◌*◌, ◌/◌, ◌<◌, ◌≤◌, Bool, true, false, ◌&&◌, ◌||◌, ◌==◌, nat_lt, if◌then◌else◌, [], ◌∷◌, length, Some}
use Rattle.k42_kinds.specs.declared.entry.Entry.{Entry}
use Rattle.k42_kinds.specs.declared.entry.Answer.TheVariants.{Swapped}
use Rattle.turn_core.specs.Plain.{Cell}
use Rattle.k42_joined.specs.Plain.{Joined}
use Rattle.k42_joined.specs.State.{many_procs, many_callers, many_objects, object, incarnation, cell, cell_in, many_hands, is_handed}
use Rattle.k42_joined.specs.Possible.{MayTouch}

-- there is a caller in both machines for each that is kept, and for each object two rows of eight cells
pub record AreAsMany {L O R : Type 0} (s : Joined L O R) : Type 0 where
  pub callers : length s.turns.callers ≡ many_callers s
  pub kept : length s.kept ≡ many_callers s
  pub hands : length s.hands ≡ many_objects s
  pub cells : length s.turns.cells ≡ many_objects s * 16
  pub few_procs : many_procs s ≤ 8

-- a caller that holds a cell may touch it
abbrev pub AreLawfullyHeld : {L O R : Type 0} → Joined L O R → Type 0
AreLawfullyHeld s = (n c : ℕ) → (cell s n).lock ≡ Some c → MayTouch s c n

-- Of an object in this incarnation, so many of whose rows were handed on and freed: no row is handed on ahead
-- of the next, and none is kept but the one before.
pub record CountsRows (i hands freed : ℕ) : Type 0 where
  pub ahead : (hands ≡ i) ⊎ (hands ≡ i + 1)
  pub kept : i ≤ freed + 1

-- the life of those cells that are not of the parity of the incarnation
abbrev pub other_life : ℕ → Bool → ℕ
other_life i handed = if (i == 0) || handed then i + 1 else i - 1

-- the cells of former rows are closed, and those of the incarnation once it was handed on
abbrev pub is_closed_in : ℕ → Bool → ℕ → Bool
is_closed_in i handed life = nat_lt life i || ((life == i) && handed)

-- a cell of this life, in an incarnation whose row was handed on or was not
pub record IsOfLife {O R : Type 0} (i : ℕ) (handed : Bool) (n : ℕ) (x : Cell O R) : Type 0 where
  pub life : x.life ≡ n
  pub closed : x.closed ≡ is_closed_in i handed n
  pub past : length x.past ≡ n / 2

-- the cells of the next row have an empty history before the hand, and just its entry after it
pub record BeginsNext {O R : Type 0} (i : ℕ) (handed : Bool) (x : Cell O R) : Type 0 where
  pub empty : handed ≡ false → x.history ≡ []
  pub begun : handed ≡ true → (entry : Entry O R) × (x.history ≡ entry ∷ []) × (entry.answer ≡ Swapped (i + 1))

-- the two cells of an object at a place of its rows: that of the incarnation's row, and the other
pub record AreOfLives {O R : Type 0} (i : ℕ) (handed : Bool) (x y : Cell O R) : Type 0 where
  pub present : IsOfLife i handed i x
  pub other : IsOfLife i handed (other_life i handed) y
  pub next : y.life ≡ i + 1 → BeginsNext i handed y

pub record AreLocked {L O R : Type 0} (s : Joined L O R) : Type 0 where
  pub many : AreAsMany s
  pub held : AreLawfullyHeld s
  pub counted :
      (o : ℕ) → o < many_objects s → CountsRows (incarnation s o) (many_hands s o) (object s o).freed
  pub lives :
      (o p : ℕ) → o < many_objects s → p < many_procs s
      → AreOfLives (incarnation s o) (is_handed s o) (cell_in s o (incarnation s o) p)
      (cell_in s o (incarnation s o + 1) p)
