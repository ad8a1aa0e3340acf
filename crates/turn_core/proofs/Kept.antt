-- Each event keeps every fact, and leaves other callers and other cells.
use Rattle.std.proofs.Common.{◌≡◌, ℕ, ◌<◌, true, not, [], ◌∷◌, length, refl, ap, arith}
use Rattle.std.specs.Prelude.{All, Option, Some, None}
use Rattle.std.proofs.lemmas.Bool.Decides.{nat_tests}
use Rattle.std.proofs.lemmas.Bool.{and_parts}
use Rattle.turn_core.specs.declared.event.TurnEvent.{TurnEvent}
use Rattle.turn_core.specs.declared.event.TurnEvent.TheVariants.{Lock, Take, Draw, Alone, Hand, Put, Unlock, Skip}
use Rattle.turn_core.specs.Plain.{Turns}
use Rattle.turn_core.specs.State.{cell_at}
use Rattle.turn_core.specs.Events.{caller_of, cells_of, is_caller, holds, is_possible, effect, cell_taken, cell_put, locked}
use Rattle.turn_core.specs.Sound.{IsSound}
use Rattle.turn_core.proofs.Locking.{keeps_moved, keeps_lock, keeps_unlock}
use Rattle.turn_core.proofs.Drawn.{keeps_alone, keeps_draw, keeps_hand}
use Rattle.turn_core.proofs.Skipping.{keeps_skip}

-- the event's caller and its cells are there
pub record IsInRange {O R : Type 0} (s : Turns O R) (event : TurnEvent O R) : Type 0 where
  pub caller : caller_of event < length s.callers
  pub cells : All (λ n. n < length s.cells) (cells_of event)

held_is : (lock : Option ℕ) (c : ℕ) → is_caller lock c ≡ true → lock ≡ Some c
held_is None c e = cc
held_is (Some holder) c e = let same : holder ≡ c = grind (arith, nat_tests, e) in ap Some same

first_there : {O R : Type 0} (s : Turns O R) (n : ℕ) → All (λ m. m < length s.cells) (n ∷ []) → n < length s.cells
first_there s n all = all 0 0 (omega arith)

pub keeps_effect : {O R : Type 0} (s : Turns O R) (event : TurnEvent O R) → IsSound s → IsInRange s event → is_possible s event ≡ true → IsSound (effect s event)
keeps_effect s (Lock c n) sound range possible = go (cell_at s n).lock refl where
  go : (lock : Option ℕ) → (cell_at s n).lock ≡ lock → IsSound (locked s c n lock)
  go None e = keeps_lock s c n sound range.caller (first_there s n range.cells) e
  go (Some holder) e = sound
keeps_effect s (Take c n) sound range possible =
    let held = held_is (cell_at s n).lock c (and_parts (holds s c n) (cell_at s n).home possible).0 in
    keeps_moved cell_taken (λ x. refl) (λ x. refl) s n (first_there s n range.cells) sound (λ e. rw held refl)
keeps_effect s (Draw c cells entry) sound range possible = keeps_draw s c cells entry sound range.caller possible
keeps_effect s (Alone c entry) sound range possible = keeps_alone s c entry sound range.caller possible
keeps_effect s (Hand c from onto entry) sound range possible = keeps_hand s c from onto entry sound range.caller possible
keeps_effect s (Put c n) sound range possible =
    let held = held_is (cell_at s n).lock c (and_parts (holds s c n) (not (cell_at s n).home) possible).0 in
    keeps_moved cell_put (λ x. refl) (λ x. refl) s n (first_there s n range.cells) sound (λ e. rw held refl)
keeps_effect s (Unlock c n) sound range possible =
    let parts = and_parts (holds s c n) (cell_at s n).home possible in
    keeps_unlock s c n sound range.caller (first_there s n range.cells) (held_is (cell_at s n).lock c parts.0) parts.1
keeps_effect s (Skip c stamp) sound range possible = keeps_skip s c stamp sound range.caller possible
