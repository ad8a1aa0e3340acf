-- What is drawn is later than its caller's clock, which never falls.
use Rattle.std.proofs.Common.{◌≡◌, ℕ, ◌<◌, ◌≤◌, List, [], ◌∷◌, ◌++◌, length, refl, sym, subst, arith}
use Rattle.std.specs.Prelude.{Some}
use Rattle.std.proofs.Math.Nat.{le_refl, le_trans}
use Rattle.std.proofs.lemmas.Option.{same_Some}
use Rattle.turn_core.specs.declared.event.TurnEvent.TheVariants.{Draw, Alone, Hand, Skip}
use Rattle.turn_core.specs.State.{clock_of}
use Rattle.turn_core.proofs.Later.{later_drawn, clock-effect, clock-skipped}
use Rattle.k42_stamp.specs.Layouts.{Layouts}
use Rattle.k42_joined.specs.Plain.{Joined}
use Rattle.k42_joined.specs.Event.{Event, AtPhases, AtCells, HandWith, caller_of}
use Rattle.k42_joined.specs.Effects.{effect}
use Rattle.k42_joined.specs.Possible.{IsPossible}
use Rattle.k42_joined.specs.Runs.{Leads}
use Rattle.k42_joined.specs.Seen.{Drawn, drawn_by}
use Rattle.k42_joined.specs.Sound.{IsSound}

module _ {S L P O R : Type 0} (F : Layouts S L P O R) (declared : List L) where
  clock_rises : (s : Joined L O R) (event : Event L O R) → IsPossible F declared s event → (c : ℕ) → clock_of s.turns c ≤ clock_of (effect s event).turns c
  clock_rises s (AtPhases event) possible c = le_refl (clock_of s.turns c)
  clock_rises s (AtCells event) possible c = clock-effect s.turns event c possible.may.core
  clock_rises s (HandWith d from onto layout e) possible c = clock-effect s.turns (Hand d from onto e) c possible.may.core

  pub clocks_never_fall : (events : List (Event L O R)) (s t : Joined L O R) → Leads F declared events s t → (c : ℕ) → clock_of s.turns c ≤ clock_of t.turns c
  clocks_never_fall [] s t leads c = subst (λ (u : Joined L O R). clock_of s.turns c ≤ clock_of u.turns c) (sym leads) (le_refl (clock_of s.turns c))
  clocks_never_fall (event ∷ events) s t leads c =
      le_trans (clock_rises s event leads.0 c) (clocks_never_fall events (effect s event) t leads.1 c)

  pub later_than_clock : (s : Joined L O R) (event : Event L O R) (drawn : Drawn O R) → IsPossible F declared s event → drawn_by event ≡ Some drawn
      → clock_of s.turns (caller_of event) < drawn.entry.stamp
  later_than_clock s (AtCells (Draw c ns e)) drawn possible is =
      subst (λ (d : Drawn O R). clock_of s.turns c < d.entry.stamp) (same_Some (record { cells = ns; entry = e }) drawn is)
      (later_drawn s.turns (Draw c ns e) e possible.may.core refl)
  later_than_clock s (AtCells (Alone c e)) drawn possible is =
      subst (λ (d : Drawn O R). clock_of s.turns c < d.entry.stamp) (same_Some (record { cells = []; entry = e }) drawn is)
      (later_drawn s.turns (Alone c e) e possible.may.core refl)
  later_than_clock s (HandWith c from onto layout e) drawn possible is =
      subst (λ (d : Drawn O R). clock_of s.turns c < d.entry.stamp) (same_Some (record { cells = from ++ onto; entry = e }) drawn is)
      (later_drawn s.turns (Hand c from onto e) e possible.may.core refl)
  later_than_clock s (AtCells event) drawn possible is = absurd (cc)
  later_than_clock s (AtPhases event) drawn possible is = absurd (cc)

  pub later_skipped : (s t : Joined L O R) (c stamp : ℕ) (events : List (Event L O R)) (event : Event L O R) (drawn : Drawn O R) → IsSound F declared s
      → IsPossible F declared s (AtCells (Skip c stamp)) → Leads F declared events (effect s (AtCells (Skip c stamp))) t
      → IsPossible F declared t event → caller_of event ≡ c → drawn_by event ≡ Some drawn → stamp < drawn.entry.stamp
  later_skipped s t c stamp events event drawn sound skipped leads possible own is =
      let there : c < length s.turns.callers = rw sound.cells.locks.many.callers skipped.caller in
      let raised = clock-skipped s.turns c stamp there in
      let stays = clocks_never_fall events (effect s (AtCells (Skip c stamp))) t leads c in
      let above : clock_of t.turns c < drawn.entry.stamp = subst (λ d. clock_of t.turns d < drawn.entry.stamp) own (later_than_clock t event drawn possible is) in
      omega (arith, raised, stays, above)
