-- What an event leaves alone: every other caller, and every cell that it does not name.
use Rattle.std.proofs.Common.{◌≡◌, ◌≢◌, ℕ, Bool, true, false, cond, ◌||◌, ◌==◌, List, [], ◌∷◌, ◌++◌, get_or, refl, sym, ap, ◌∙◌}
use Rattle.std.specs.Prelude.{Option, Some, None}
use Rattle.std.proofs.lemmas.List.{get_or-set_other}
use Rattle.std.proofs.lemmas.List.Folds.{list_any-append}
use Rattle.turn_core.specs.declared.event.TurnEvent.{TurnEvent}
use Rattle.turn_core.specs.declared.event.TurnEvent.TheVariants.{Lock, Take, Draw, Alone, Hand, Put, Unlock, Skip}
use Rattle.turn_core.specs.Plain.{Cell, Caller, Turns}
use Rattle.turn_core.specs.State.{cell_at, caller_at, fresh_caller, change_cell, change_caller, change_cells}
use Rattle.turn_core.specs.Names.{names}
use Rattle.turn_core.specs.Events.{caller_of, cells_of, is_possible, effect, locked, cell_locked, cell_unlocked, cell_taken, cell_put, cell_told, cell_begun, cell_closed, caller_locked, caller_unlocked, caller_drawn, caller_skipped}
use Rattle.turn_core.specs.Runs.{happens}
use Rattle.turn_core.proofs.Named.{first_not, further_not, cell_at-change_else}
use Rattle.turn_core.proofs.Changed.{callers-change_cells}

caller-change_else : {O R : Type 0} (changed : Caller O R → Caller O R) (s : Turns O R) (c d : ℕ) → d ≢ c → caller_at (change_caller changed s c) d ≡ caller_at s d
caller-change_else changed s c d apart = get_or-set_other s.callers c d (changed (caller_at s c)) fresh_caller apart

caller-change_cells : {O R : Type 0} (changed : Cell O R → Cell O R) (s : Turns O R) (cells : List ℕ) (d : ℕ) → caller_at (change_cells changed s cells) d ≡ caller_at s d
caller-change_cells changed s cells d = ap (λ callers. get_or callers d fresh_caller) (callers-change_cells changed s cells)

cell-change_cells : {O R : Type 0} (changed : Cell O R → Cell O R) (s : Turns O R) (cells : List ℕ) (m : ℕ) → names cells m ≡ false → cell_at (change_cells changed s cells) m ≡ cell_at s m
cell-change_cells changed s [] m unnamed = refl
cell-change_cells changed s (n ∷ cells) m unnamed = cell-change_cells changed (change_cell changed s n) cells m (further_not n m cells unnamed) ∙ cell_at-change_else changed s n m (first_not n m cells unnamed)

either : (from onto : List ℕ) (m : ℕ) → names (from ++ onto) m ≡ false → (names from m ≡ false) × (names onto m ≡ false)
either from onto m unnamed = go (names from m) (names onto m) (sym (list_any-append (λ k. k == m) from onto) ∙ unnamed) where
  go : (a b : Bool) → (a || b) ≡ false → (a ≡ false) × (b ≡ false)
  go true b e = cc
  go false b e = (refl, e)

caller-effect : {O R : Type 0} (s : Turns O R) (event : TurnEvent O R) (d : ℕ) → d ≢ caller_of event → caller_at (effect s event) d ≡ caller_at s d
caller-effect s (Lock c n) d apart = go (cell_at s n).lock where
  go : (lock : Option ℕ) → caller_at (locked s c n lock) d ≡ caller_at s d
  go None = caller-change_else (caller_locked n) (change_cell (cell_locked c) s n) c d apart
  go (Some holder) = refl
caller-effect s (Take c n) d apart = refl
caller-effect s (Draw c cells entry) d apart = caller-change_cells (cell_told entry) (change_caller (caller_drawn entry) s c) cells d ∙ caller-change_else (caller_drawn entry) s c d apart
caller-effect s (Alone c entry) d apart = caller-change_else (caller_drawn entry) s c d apart
caller-effect s (Hand c from onto entry) d apart =
    let mine = change_caller (caller_drawn entry) s c in
    caller-change_cells cell_closed (change_cells (cell_begun entry) mine onto) from d ∙ caller-change_cells (cell_begun entry) mine onto d ∙ caller-change_else (caller_drawn entry) s c d apart
caller-effect s (Put c n) d apart = refl
caller-effect s (Unlock c n) d apart = caller-change_else (caller_unlocked n) (change_cell cell_unlocked s n) c d apart
caller-effect s (Skip c stamp) d apart = caller-change_else (caller_skipped stamp) s c d apart

cell-effect : {O R : Type 0} (s : Turns O R) (event : TurnEvent O R) (m : ℕ) → names (cells_of event) m ≡ false → cell_at (effect s event) m ≡ cell_at s m
cell-effect s (Lock c n) m unnamed = go (cell_at s n).lock where
  go : (lock : Option ℕ) → cell_at (locked s c n lock) m ≡ cell_at s m
  go None = cell_at-change_else (cell_locked c) s n m (first_not n m [] unnamed)
  go (Some holder) = refl
cell-effect s (Take c n) m unnamed = cell_at-change_else cell_taken s n m (first_not n m [] unnamed)
cell-effect s (Draw c cells entry) m unnamed = cell-change_cells (cell_told entry) (change_caller (caller_drawn entry) s c) cells m unnamed
cell-effect s (Alone c entry) m unnamed = refl
cell-effect s (Hand c from onto entry) m unnamed =
    let parts = either from onto m unnamed in
    let mine = change_caller (caller_drawn entry) s c in
    cell-change_cells cell_closed (change_cells (cell_begun entry) mine onto) from m parts.0 ∙ cell-change_cells (cell_begun entry) mine onto m parts.1
cell-effect s (Put c n) m unnamed = cell_at-change_else cell_put s n m (first_not n m [] unnamed)
cell-effect s (Unlock c n) m unnamed = cell_at-change_else cell_unlocked s n m (first_not n m [] unnamed)
cell-effect s (Skip c stamp) m unnamed = refl

pub caller-happens : {O R : Type 0} (s : Turns O R) (event : TurnEvent O R) (d : ℕ) → d ≢ caller_of event → caller_at (happens s event) d ≡ caller_at s d
caller-happens s event d apart = go (is_possible s event) where
  go : (possible : Bool) → caller_at (cond possible (effect s event) s) d ≡ caller_at s d
  go true = caller-effect s event d apart
  go false = refl

pub cell-happens : {O R : Type 0} (s : Turns O R) (event : TurnEvent O R) (m : ℕ) → names (cells_of event) m ≡ false → cell_at (happens s event) m ≡ cell_at s m
cell-happens s event m unnamed = go (is_possible s event) where
  go : (possible : Bool) → cell_at (cond possible (effect s event) s) m ≡ cell_at s m
  go true = cell-effect s event m unnamed
  go false = refl
