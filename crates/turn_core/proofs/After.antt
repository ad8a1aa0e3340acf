-- What an event's step leaves, whether it was possible or not, and where there was no memory.
use Rattle.std.proofs.Common.{◌≡◌, ℕ, Bool, true, false, length, refl, sym, ap, ◌∙◌, subst}
use Rattle.std.specs.Prelude.{Result, Ok, Err, Option, Some, None}
use Rattle.std.proofs.lemmas.List.{length-set}
use Rattle.k42_memory.specs.declared.Memory.{Memory}
use Rattle.turn_core.specs.declared.event.TurnEvent.{TurnEvent}
use Rattle.turn_core.specs.declared.event.TurnEvent.TheVariants.{Lock, Take, Draw, Alone, Hand, Put, Unlock, Skip}
use Rattle.turn_core.specs.Plain.{Turns}
use Rattle.turn_core.specs.State.{cell_at, caller_at, change_caller, change_cells}
use Rattle.turn_core.specs.Events.{effect, locked, cell_told, cell_begun, cell_closed, cell_taken, cell_put, cell_locked, cell_unlocked, caller_drawn, caller_locked, caller_unlocked, caller_skipped}
use Rattle.turn_core.specs.Applies.{Applies}
use Rattle.turn_core.specs.Sound.{IsSound}
use Rattle.turn_core.proofs.Changed.{length-change_cells, callers-change_cells}
use Rattle.turn_core.proofs.Kept.{IsInRange, keeps_effect}

-- as many cells and callers
pub record HasAsMany {O R : Type 0} (s t : Turns O R) : Type 0 where
  pub cells : length t.cells ≡ length s.cells
  pub callers : length t.callers ≡ length s.callers

pub as_many-effect : {O R : Type 0} (s : Turns O R) (event : TurnEvent O R) → HasAsMany s (effect s event)
as_many-effect s (Lock c n) = go (cell_at s n).lock where
  go : (lock : Option ℕ) → HasAsMany s (locked s c n lock)
  go None = record { cells = length-set s.cells n (cell_locked c (cell_at s n)); callers = length-set s.callers c (caller_locked n (caller_at s c)) }
  go (Some holder) = record { cells = refl; callers = refl }
as_many-effect s (Take c n) = record { cells = length-set s.cells n (cell_taken (cell_at s n)); callers = refl }
as_many-effect s (Draw c cells entry) =
    let mine = change_caller (caller_drawn entry) s c in
    record { cells = length-change_cells (cell_told entry) mine cells; callers = ap length (callers-change_cells (cell_told entry) mine cells) ∙ length-set s.callers c (caller_drawn entry (caller_at s c)) }
as_many-effect s (Alone c entry) = record { cells = refl; callers = length-set s.callers c (caller_drawn entry (caller_at s c)) }
as_many-effect s (Hand c from onto entry) =
    let mine = change_caller (caller_drawn entry) s c in
    let begun = change_cells (cell_begun entry) mine onto in
    record {
      cells = length-change_cells cell_closed begun from ∙ length-change_cells (cell_begun entry) mine onto;
      callers = ap length (callers-change_cells cell_closed begun from ∙ callers-change_cells (cell_begun entry) mine onto) ∙ length-set s.callers c (caller_drawn entry (caller_at s c));
    }
as_many-effect s (Put c n) = record { cells = length-set s.cells n (cell_put (cell_at s n)); callers = refl }
as_many-effect s (Unlock c n) = record { cells = length-set s.cells n (cell_unlocked (cell_at s n)); callers = length-set s.callers c (caller_unlocked n (caller_at s c)) }
as_many-effect s (Skip c stamp) = record { cells = refl; callers = length-set s.callers c (caller_skipped stamp (caller_at s c)) }

pub as_many-after : {O R : Type 0} (result : Result Bool Memory) (s t : Turns O R) (event : TurnEvent O R) → Applies result s t event → HasAsMany s t
as_many-after (Ok true) s t event applies = subst (HasAsMany s) (sym applies.1) (as_many-effect s event)
as_many-after (Ok false) s t event applies = subst (HasAsMany s) (sym applies.1) (record { cells = refl; callers = refl })
as_many-after (Err memory) s t event applies = subst (HasAsMany s) (sym applies) (record { cells = refl; callers = refl })

pub sound-after : {O R : Type 0} (result : Result Bool Memory) (s t : Turns O R) (event : TurnEvent O R) → Applies result s t event → IsSound s → IsInRange s event → IsSound t
sound-after (Ok true) s t event applies sound range = subst IsSound (sym applies.1) (keeps_effect s event sound range applies.0)
sound-after (Ok false) s t event applies sound range = subst IsSound (sym applies.1) sound
sound-after (Err memory) s t event applies sound range = subst IsSound (sym applies) sound
