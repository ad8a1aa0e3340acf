-- The flight that a pass has at hand, as it is taken out of its place.
use Rattle.std.proofs.Common.{◌≡◌, inr, ℕ, ◌+◌, ◌<◌, ◌≤◌, Option, Some, None, length, get_or, set, refl, sym, ◌∙◌}
use Rattle.std.specs.Prelude.{slice_get}
use Rattle.std.proofs.lemmas.Option.{slice_get_read}
use Rattle.k42_kinds.specs.declared.entry.To.{To}
use Rattle.k42_runtime.specs.Swaps.{SwapSeen}
use Rattle.swap_future.specs.Polling.{new_swap}
use Rattle.swap_future.specs.Rolling.{RollSeen, IsAtHand}
use Rattle.swap_future.specs.declared.rolling.Flight.{Flight}
use Rattle.swap_future.proofs.Places.{set_same}

-- what is no flight is none
pub is_none : {A : Type 0} (o : Option A) → ((x : A) → o ≡ Some x → ⊥) → o ≡ None
is_none None other = refl
is_none (Some x) other = absurd (other x refl)

-- None is written to the place, and found there
module _ (a : RollSeen) (place : ℕ) (less : place < length a.flights) (old found left : Option Flight) (value : old ≡ get_or a.flights place old)
    (read : found ≡ old) (other : (f : Flight) → found ≡ Some f → ⊥) (after : left ≡ None) where
  stood : slice_get a.flights place ≡ Some None
  stood =
      slice_get_read a.flights (length a.flights) place old refl less value ∙ (λ j. Some ((sym read ∙ is_none found other) j))

  same : set a.flights place left ≡ a.flights
  same = (λ j. set a.flights place (after j)) ∙ set_same a.flights place None stood

  pub none_there : length a.plan ≤ a.taken
      → (record a { flights = set a.flights place left } ≡ a) × (slice_get a.flights place ≡ Some None) × (length a.plan ≤ a.taken)
  none_there all = ((λ j. record a { flights = same j }), stood, all)

  pub next_there : (s : SwapSeen) (asked : ℕ × To) → a.taken < length a.plan → asked ≡ get_or a.plan a.taken asked → s ≡ new_swap asked.0 asked.1
      → IsAtHand place a (record { swap = s; item = a.taken; cause = None }) (record a { taken = a.taken + 1; flights = set a.flights place left })
  next_there s asked some next new =
      inr (
        stood,
        asked,
        slice_get_read a.plan (length a.plan) a.taken asked refl some next,
        (λ j. record { swap = new j; item = a.taken; cause = None }),
        (λ j. record a { taken = a.taken + 1; flights = same j }),
      )
