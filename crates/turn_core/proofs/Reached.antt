-- What holds in every state that events reach from a new one, and in every sound state.
use Rattle.std.proofs.Common.{◌≡◌, ℕ, ◌<◌, ◌≤◌, ◌⊎◌, Bool, true, false, cond, List, [], ◌∷◌, length, refl, sym, ◌∙◌, subst, inl, inr, arith}
use Rattle.std.specs.Prelude.{Some, slice_get}
use Rattle.std.proofs.lemmas.Bool.{cases_lt}
use Rattle.std.proofs.lemmas.List.{length-map, length-replicate, get_or_past}
use Rattle.std.proofs.lemmas.Option.{slice_get-get_or, none-some}
use Rattle.k42_places.proofs.Appended.{at_push}
use Rattle.k42_kinds.specs.declared.entry.Entry.{Entry}
use Rattle.turn_core.specs.declared.event.TurnEvent.{TurnEvent}
use Rattle.turn_core.specs.Plain.{Caller, Turns}
use Rattle.turn_core.specs.State.{cell_at, caller_at, fresh, fresh_cell, fresh_caller}
use Rattle.turn_core.specs.Events.{is_possible, effect}
use Rattle.turn_core.specs.Sound.{drawn_by, histories_of, entries_drawn, IsRising, IsHistory, IsCaller, IsSound}
use Rattle.turn_core.specs.Runs.{happens, run, NamesThose, AreInRange, IsReached, NumbersItsEntries, StandsAt, StandsOnce}
use Rattle.turn_core.proofs.Kept.{IsInRange, keeps_effect}
use Rattle.turn_core.proofs.After.{as_many-effect}
use Rattle.turn_core.proofs.Fresh.{sound-fresh}

-- a state with so many cells and callers
record IsKept {O R : Type 0} (cells callers : ℕ) (s : Turns O R) : Type 0 where
  sound : IsSound s
  many_cells : length s.cells ≡ cells
  many_callers : length s.callers ≡ callers

kept-happens : {O R : Type 0} (cells callers : ℕ) (s : Turns O R) (event : TurnEvent O R) → NamesThose cells callers event → IsKept cells callers s → IsKept cells callers (happens s event)
kept-happens cells callers s event named kept = go (is_possible s event) refl where
  range : IsInRange s event
  range = record { caller = rw kept.many_callers named.caller; cells = rw kept.many_cells named.cell }

  go : (possible : Bool) → is_possible s event ≡ possible → IsKept cells callers (cond possible (effect s event) s)
  go true e =
      let many = as_many-effect s event in
      record { sound = keeps_effect s event kept.sound range e; many_cells = many.cells ∙ kept.many_cells; many_callers = many.callers ∙ kept.many_callers }
  go false e = kept

kept-run : {O R : Type 0} (cells callers : ℕ) (events : List (TurnEvent O R)) (s : Turns O R) → AreInRange cells callers events → IsKept cells callers s → IsKept cells callers (run events s)
kept-run cells callers [] s range kept = kept
kept-run cells callers (event ∷ events) s range kept = kept-run cells callers events (happens s event) range.1 (kept-happens cells callers s event range.0 kept)

pub reached-sound : {O R : Type 0} (s : Turns O R) → IsReached s → IsSound s
reached-sound s reached =
    subst IsSound (sym reached.result) (kept-run (length reached.lives) reached.callers reached.events (fresh reached.lives reached.callers) reached.in_range
    (record { sound = sound-fresh reached.lives reached.callers; many_cells = length-map reached.lives fresh_cell; many_callers = length-replicate reached.callers fresh_caller })).sound

-- a caller that is there, or one that drew nothing
caller-sound : {O R : Type 0} (s : Turns O R) (c : ℕ) (n : ℕ) (entry : Entry O R) → IsSound s → slice_get (drawn_by s.callers c) n ≡ Some entry → IsCaller s.cells (entries_drawn s.callers) c (caller_at s c)
caller-sound {O} {R} s c n entry sound e = elim (cases_lt c (length s.callers)) [
  | inl there ↦ sound.callers c (caller_at s c) (slice_get-get_or s.callers c fresh_caller there)
  | inr past ↦ absurd (none-some entry (subst (λ (x : Caller O R). slice_get x.mine n ≡ Some entry) (get_or_past s.callers c fresh_caller past) e))
]

pub numbers-entries : {O R : Type 0} (s : Turns O R) → IsSound s → NumbersItsEntries s
numbers-entries s sound c n entry e =
    let own = (caller-sound s c n entry sound e).own n entry e in
    (own.caller, own.index)

pub lists-rise : {O R : Type 0} (s : Turns O R) (c : ℕ) → IsSound s → IsRising (drawn_by s.callers c)
lists-rise s c sound i j earlier later before at_i at_j = (caller-sound s c i earlier sound at_i).rising i j earlier later before at_i at_j

pub stamps-few : {O R : Type 0} (s : Turns O R) (c n : ℕ) (entry : Entry O R) → IsSound s → StandsAt s entry c n → entry.stamp ≤ entries_drawn s.callers
stamps-few s c n entry sound e = (caller-sound s c n entry sound e).bounded n entry e

history-sound : {O R : Type 0} (s : Turns O R) (n life : ℕ) (history : List (Entry O R)) → IsSound s → slice_get (histories_of (cell_at s n)) life ≡ Some history → IsHistory s.callers history
history-sound s n life history sound e = elim (cases_lt n (length s.cells)) [
  | inl there ↦ (sound.cells n (cell_at s n) (slice_get-get_or s.cells n (fresh_cell 0) there)).histories life history e
  | inr past ↦ none_yet (at_push [] [] life history (subst (λ x. slice_get (histories_of x) life ≡ Some history) (get_or_past s.cells n (fresh_cell 0) past) e))
] where
  none_yet : ((life < 0) × (slice_get [] life ≡ Some history)) ⊎ ((life ≡ 0) × ([] ≡ history)) → IsHistory s.callers history
  none_yet (inl was) = absurd (omega (arith, was.0))
  none_yet (inr is) = subst (IsHistory s.callers) is.1 (record { rising = λ i j earlier later before at_i at_j. cc; drawn = λ i entry f. cc })

pub histories-rise : {O R : Type 0} (s : Turns O R) (n life : ℕ) (history : List (Entry O R)) → IsSound s → slice_get (histories_of (cell_at s n)) life ≡ Some history → IsRising history
histories-rise s n life history sound e = (history-sound s n life history sound e).rising

pub stands-once : {O R : Type 0} (s : Turns O R) (n life place : ℕ) (history : List (Entry O R)) (entry : Entry O R) → IsSound s → slice_get (histories_of (cell_at s n)) life ≡ Some history → slice_get history place ≡ Some entry → StandsOnce s entry
stands-once s n life place history entry sound e f = record {
  caller = entry.caller;
  index = entry.index;
  there = (history-sound s n life history sound e).drawn place entry f;
  only = λ c m there. let own = numbers-entries s sound c m entry there in (sym own.0, sym own.1);
}
