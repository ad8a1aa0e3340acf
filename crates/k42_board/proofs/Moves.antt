-- What a step of one pass that moves no slot owes to the table.
use Rattle.std.proofs.Common.{◌≡◌, ℕ, List, [], ◌∷◌, get_or, set, sym, refl, ap, ◌∙◌, subst}
use mathlib.Core.Option.{some}
use lib.ListN.{get_elem?}
use Rattle.atomic_table.specs.Table.{State, Step, keeps, Allows}
use Rattle.k42_stamp.specs.Layouts.{Layouts}
use Rattle.k42_joined.specs.Effects.{effect}
use Rattle.k42_joined.specs.Event.{Event, AtPhases, AtCells, HandWith}
use Rattle.k42_joined.specs.Plain.{Joined}
use Rattle.k42_joined.specs.Possible.{IsPossible}
use Rattle.k42_joined.specs.Sound.{IsSound}
use Rattle.k42_joined.specs.State.{many_callers}
use Rattle.phase_core.proofs.Alone.{only_who}
use Rattle.phase_core.proofs.Reached.{same_callers, turn_there}
use Rattle.k42_board.specs.Cells.{Slot}
use Rattle.k42_board.specs.Rule.{Rule, Ruled}
use Rattle.k42_board.specs.Seen.{IsSeatOf}
use Rattle.k42_board.specs.Views.{pass_in}
use Rattle.k42_board.specs.Steps.{Seated, on_pass, Tells, TellsWith, StepIs, StateStays}
use Rattle.k42_board.specs.declared.view.PassView.{PassView}
use Rattle.k42_board.specs.declared.view.View.{View}
use Rattle.k42_board.specs.declared.view.View.TheVariants.{Crew}
use Rattle.k42_board.proofs.OnePass.{with_pass}

-- an event makes no caller
pub callers_on : {S L P O R : Type 0} (F : Layouts S L P O R) (declared : List L) (s : Joined L O R) → IsSound F declared s → (event : Event L O R)
    → IsPossible F declared s event → many_callers (effect s event) ≡ many_callers s
callers_on F declared s sound (AtPhases event) possible =
    (only_who s.phases event (same_callers s.phases sound.phases) (turn_there s.phases sound.phases _ possible.caller)).many_callers
callers_on F declared s sound (AtCells event) possible = refl
callers_on F declared s sound (HandWith c from onto layout e) possible = refl

-- from every state that the table shows, the event is possible, the rule stands after the step, and the state is that of the event
pub record Moves
    {S L P O R : Type 0} (F : Layouts S L P O R) (declared : List L) (event : Event L O R) (word : ℕ) (new : ℕ → ℕ)
    (changed : ℕ → PassView P O R → PassView P O R) (id : ℕ) (v : PassView P O R)
    : Type 0 where
  pub from :
      (table : State (Slot P O R) (View P O R)) (r : Rule F declared table)
      → get_elem? table.views id ≡ some (Crew (v ∷ []))
      → (after : Rule F declared
      (with_pass table (set table.words word (new (get_or table.words word 0))) table.homes id (changed (get_or table.words word 0) v)))
      × (after.state ≡ effect r.state event) × IsPossible F declared r.state event

-- what is so of the word that is found
abbrev pub Finds : {S L P O R : Type 0} → Layouts S L P O R → List L → ℕ → (PassView P O R → ℕ → Type 0) → ℕ → PassView P O R → Type 0
Finds {S} {L} {P} {O} {R} F declared word Facts id v =
    (table : State (Slot P O R) (View P O R)) (r : Rule F declared table) → get_elem? table.views id ≡ some (Crew (v ∷ []))
    → Facts v (get_or table.words word 0)

module _ {S L P O R : Type 0} {F : Layouts S L P O R} {declared : List L} {event : Event L O R} {word : ℕ} {new : ℕ → ℕ}
    {changed : ℕ → PassView P O R → PassView P O R} {id : ℕ} {v : PassView P O R} (moves : Moves F declared event word new changed id v) where
  ruled_after : (callers : ℕ) (table : State (Slot P O R) (View P O R)) (r : Ruled F declared callers table) → get_elem? table.views id ≡ some (Crew (v ∷ []))
      → Ruled F declared callers (with_pass table (set table.words word (new (get_or table.words word 0))) table.homes id (changed (get_or table.words word 0) v))
  ruled_after callers table r at =
      let after = moves.from table r.rule at in
      record {
        rule = after.0;
        many = ap many_callers after.1 ∙ callers_on F declared r.rule.state r.rule.sound event after.2 ∙ r.many;
      }

  moves_allowed : (callers slots : ℕ) (step : Step (Slot P O R))
      → Allows (Ruled F declared callers) slots id (Crew (v ∷ []), []) word new (Tells changed step (Crew (v ∷ []), []))
  moves_allowed callers slots step table r long at fits =
      let found : ℕ = get_or table.words word 0 in
      (Crew (changed found v ∷ []), keeps, tt, ruled_after callers table r at, refl)

  pub seat_allowed : {callers : ℕ} (me : Seated P O R) → IsSeatOf me v → (slots : ℕ) (step : Step (Slot P O R))
      → Allows (Ruled F declared callers) slots id me word new (Tells changed step me)
  seat_allowed {callers} me is slots step =
      subst (λ (m : Seated P O R). Allows (Ruled F declared callers) slots id m word new (Tells changed step m)) (sym is) (moves_allowed callers slots step)

  module _ (Facts : PassView P O R → ℕ → Type 0) (finds : Finds F declared word Facts id v) where
    finds_allowed : (callers slots : ℕ) (step : Step (Slot P O R))
        → Allows (Ruled F declared callers) slots id (Crew (v ∷ []), []) word new (TellsWith changed Facts step (Crew (v ∷ []), []))
    finds_allowed callers slots step table r long at fits =
        let found : ℕ = get_or table.words word 0 in
        (Crew (changed found v ∷ []), keeps, tt, ruled_after callers table r at, (refl, finds table r.rule at))

    pub seat_allowed_with : {callers : ℕ} (me : Seated P O R) → IsSeatOf me v → (slots : ℕ) (step : Step (Slot P O R))
        → Allows (Ruled F declared callers) slots id me word new (TellsWith changed Facts step me)
    seat_allowed_with {callers} me is slots step =
        subst (λ (m : Seated P O R). Allows (Ruled F declared callers) slots id m word new (TellsWith changed Facts step m)) (sym is) (finds_allowed callers slots step)

  pub moves_is : (found : ℕ) → StepIs F declared event word new id v found (changed found v)
  moves_is found table r at is =
      subst (λ z. (after : Rule F declared (with_pass table (set table.words word (new z)) table.homes id (changed z v))) × (after.state ≡ effect r.state event) × IsPossible F declared r.state event)
      is (moves.from table r at)

  -- and what the step tells of its pass after it
  pub seat_is : (me after : Seated P O R) → IsSeatOf me v → (step : Step (Slot P O R)) (found : ℕ) → Tells changed step me found after
      → StepIs F declared event word new id v found (pass_in after.0)
  seat_is me after is step found told =
      let same : changed found v ≡ pass_in after.0 =
      ap (λ (m : Seated P O R). pass_in (on_pass (changed found) m.0)) (sym is) ∙ ap (λ (m : Seated P O R). pass_in m.0) (sym told) in
      subst (StepIs F declared event word new id v found) same (moves_is found)

-- A step that is no event: the rule stands after it, and the state is as before.
pub record Stays
    {S L P O R : Type 0} (F : Layouts S L P O R) (declared : List L) (word : ℕ) (new : ℕ → ℕ)
    (changed : ℕ → PassView P O R → PassView P O R) (id : ℕ) (v : PassView P O R)
    : Type 0 where
  pub from :
      (table : State (Slot P O R) (View P O R)) (r : Rule F declared table)
      → get_elem? table.views id ≡ some (Crew (v ∷ []))
      → (after : Rule F declared
      (with_pass table (set table.words word (new (get_or table.words word 0))) table.homes id (changed (get_or table.words word 0) v)))
      × (after.state ≡ r.state)

module _ {S L P O R : Type 0} {F : Layouts S L P O R} {declared : List L} {word : ℕ} {new : ℕ → ℕ}
    {changed : ℕ → PassView P O R → PassView P O R} {id : ℕ} {v : PassView P O R} (stays : Stays F declared word new changed id v)
    (Facts : PassView P O R → ℕ → Type 0) (finds : Finds F declared word Facts id v) where
  stays_allowed : (callers slots : ℕ) (step : Step (Slot P O R))
      → Allows (Ruled F declared callers) slots id (Crew (v ∷ []), []) word new (TellsWith changed Facts step (Crew (v ∷ []), []))
  stays_allowed callers slots step table r long at fits =
      let found : ℕ = get_or table.words word 0 in
      let after = stays.from table r.rule at in
      (Crew (changed found v ∷ []), keeps, tt, record { rule = after.0; many = ap many_callers after.1 ∙ r.many }, (refl, finds table r.rule at))

  pub seat_stays_allowed : {callers : ℕ} (me : Seated P O R) → IsSeatOf me v → (slots : ℕ) (step : Step (Slot P O R))
      → Allows (Ruled F declared callers) slots id me word new (TellsWith changed Facts step me)
  seat_stays_allowed {callers} me is slots step =
      subst (λ (m : Seated P O R). Allows (Ruled F declared callers) slots id m word new (TellsWith changed Facts step m)) (sym is) (stays_allowed callers slots step)

  pub stays_is : (found : ℕ) → StateStays F declared word new id v found (changed found v)
  stays_is found table r at is =
      subst (λ z. (after : Rule F declared (with_pass table (set table.words word (new z)) table.homes id (changed z v))) × (after.state ≡ r.state))
      is (stays.from table r at)

  pub seat_stays_is : (me after : Seated P O R) → IsSeatOf me v → (step : Step (Slot P O R)) (found : ℕ) → TellsWith changed Facts step me found after
      → StateStays F declared word new id v found (pass_in after.0)
  seat_stays_is me after is step found told =
      let same : changed found v ≡ pass_in after.0 =
      ap (λ (m : Seated P O R). pass_in (on_pass (changed found) m.0)) (sym is) ∙ ap (λ (m : Seated P O R). pass_in m.0) (sym told.0) in
      subst (StateStays F declared word new id v found) same (stays_is found)
