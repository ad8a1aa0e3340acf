-- Rows are freed once and given again once, and only after those who have read them have left.
use Rattle.std.proofs.Common.{◌≡◌, ◌≢◌, ℕ, ◌+◌, ◌<◌, ◌≤◌, ◌⊎◌, ◌∙◌, Bool, true, false, ltb, List, [], ◌∷◌, length, refl, sym, ap, subst, inl, inr, ⊎_elim, arith}
use Rattle.std.proofs.Math.Nat.{le_refl, le_trans}
use Rattle.std.proofs.lemmas.Bool.{cases_eq}
use Rattle.std.proofs.lemmas.Bool.Decides.{nat_tests}
use Rattle.k42_places.proofs.Written.{get_or-set_related}
use Rattle.gen_core.specs.declared.event.GenEvent.TheVariants.{Leave}
use Rattle.phase_core.specs.Event as phase_events
use Rattle.phase_core.specs.Event.{Turn}
use Rattle.phase_core.specs.Plain.{Visitor}
use Rattle.phase_core.specs.Runs.{HasRead}
use Rattle.phase_core.specs.State.{fresh_visitor, visitor_at, has_row}
use Rattle.phase_core.proofs.Alone.{is_leave}
use Rattle.k42_stamp.specs.Laws.{AreLaws}
use Rattle.k42_stamp.specs.Layouts.{Layouts}
use Rattle.k42_joined.specs.Plain.{Joined}
use Rattle.k42_joined.specs.Event.{Event, AtPhases, AtCells, HandWith}
use Rattle.k42_joined.specs.Effects.{effect}
use Rattle.k42_joined.specs.Possible.{IsPossible}
use Rattle.k42_joined.specs.Runs.{Leads, FreesRow, GivesLife, Leaves, TakesRow, IsFreedOnce}
use Rattle.k42_joined.specs.Sound.{IsSound}
use Rattle.k42_joined.specs.State.{many_callers, object, incarnation, layouts_of, many_hands, is_handed}
use Rattle.k42_joined.proofs.Kept.{joined_keeps}
use Rattle.k42_joined.proofs.PhaseSteps.{object_after, only_its_caller}
use Rattle.k42_joined.proofs.RowsPhases.{same_read}
use Rattle.k42_joined.proofs.SafeStates.{read_row_kept}

module _ {S L P O R : Type 0} (F : Layouts S L P O R) (laws : AreLaws F) (declared : List L) where
  -- no number falls by a possible event
  freed_rises : (s : Joined L O R) (event : Event L O R) → IsPossible F declared s event → (o : ℕ) → (object s o).freed ≤ (object (effect s event) o).freed
  freed_rises s (AtPhases event) possible o = ((object_after s.phases event possible.may.core).goes o).freed
  freed_rises s (AtCells event) possible o = le_refl (object s o).freed
  freed_rises s (HandWith c from onto layout e) possible o = le_refl (object s o).freed

  hands_rise : (s : Joined L O R) (event : Event L O R) → (o : ℕ) → many_hands s o ≤ many_hands (effect s event) o
  hands_rise s (AtPhases event) o = le_refl (many_hands s o)
  hands_rise s (AtCells event) o = le_refl (many_hands s o)
  hands_rise s (HandWith c from onto layout e) o =
      get_or-set_related (λ (xs ys : List L). length xs ≤ length ys) (λ xs. le_refl (length xs)) s.hands e.object o (layout ∷ layouts_of s e.object) []
      (omega arith)

  pub freed_never_falls : (events : List (Event L O R)) (s t : Joined L O R) → Leads F declared events s t → (o : ℕ) → (object s o).freed ≤ (object t o).freed
  freed_never_falls [] s t leads o = subst (λ (u : Joined L O R). (object s o).freed ≤ (object u o).freed) (sym leads) (le_refl (object s o).freed)
  freed_never_falls (event ∷ events) s t leads o =
      le_trans (freed_rises s event leads.0 o) (freed_never_falls events (effect s event) t leads.1 o)

  hands_never_fall : (events : List (Event L O R)) (s t : Joined L O R) → Leads F declared events s t → (o : ℕ) → many_hands s o ≤ many_hands t o
  hands_never_fall [] s t leads o = subst (λ (u : Joined L O R). many_hands s o ≤ many_hands u o) (sym leads) (le_refl (many_hands s o))
  hands_never_fall (event ∷ events) s t leads o =
      le_trans (hands_rise s event o) (hands_never_fall events (effect s event) t leads.1 o)

  -- a row that was freed is not freed again
  freed_once : (events : List (Event L O R)) (s t : Joined L O R) (event : Event L O R) (o i : ℕ) → Leads F declared events s t → i < (object s o).freed
      → FreesRow t event o i → ⊥
  freed_once events s t event o i leads gone frees =
      let rises = freed_never_falls events s t leads o in
      let kept = frees.kept in
      absurd (omega (arith, gone, rises, kept))

  abbrev IsLeave : Event L O R → ℕ → Type 0
  IsLeave event c = event ≡ AtPhases (Turn (Leave c))

  own_leave : (event : phase_events.Event) → is_leave event ≡ true → event ≡ Turn (Leave (phase_events.caller_of event))
  own_leave (Turn (Leave d)) is = refl
  own_leave event is = absurd (cc)

  -- an activity's rows stay read until it leaves
  phase_reads : (s : Joined L O R) → IsSound F declared s → (event : phase_events.Event) → phase_events.caller_of event < many_callers s → (c o i : ℕ)
      → HasRead s.phases c o i → IsLeave (AtPhases event) c ⊎ HasRead (effect s (AtPhases event)).phases c o i
  phase_reads s sound event there c o i read =
      ⊎_elim
      (λ (other : c ≢ phase_events.caller_of event).
      inr (subst (λ (x : Visitor). has_row x.read o i ≡ true) (sym (same_visitor other)) read))
      (λ (own : c ≡ phase_events.caller_of event). by_leave own (is_leave event) refl)
      (apart_or (cases_eq c (phase_events.caller_of event)))
    where
      apart_or : (c ≡ phase_events.caller_of event) ⊎ (c ≢ phase_events.caller_of event) → (c ≢ phase_events.caller_of event) ⊎ (c ≡ phase_events.caller_of event)
      apart_or = ⊎_elim (λ own. inr own) (λ other. inl other)

      same_visitor : c ≢ phase_events.caller_of event → visitor_at (effect s (AtPhases event)).phases c ≡ visitor_at s.phases c
      same_visitor other =
          same_read s.phases.callers (effect s (AtPhases event)).phases.callers c fresh_visitor
          ((only_its_caller s.phases event sound.phases there).other_callers c other)

      by_leave : c ≡ phase_events.caller_of event → (b : Bool) → is_leave event ≡ b
          → IsLeave (AtPhases event) c ⊎ HasRead (effect s (AtPhases event)).phases c o i
      by_leave own true is = inl (ap AtPhases (own_leave event is ∙ ap (λ d. Turn (Leave d)) (sym own)))
      by_leave own false is =
          inr (subst (λ d. HasRead (effect s (AtPhases event)).phases d o i) (sym own)
          ((only_its_caller s.phases event sound.phases there).rows is o i (subst (λ d. HasRead s.phases d o i) own read)))

  reads_on : (s : Joined L O R) → IsSound F declared s → (event : Event L O R) (c o i : ℕ) → IsPossible F declared s event → HasRead s.phases c o i
      → IsLeave event c ⊎ HasRead (effect s event).phases c o i
  reads_on s sound (AtPhases event) c o i possible read = phase_reads s sound event possible.caller c o i read
  reads_on s sound (AtCells event) c o i possible read = inr read
  reads_on s sound (HandWith d from onto layout e) c o i possible read = inr read

  callers_on : (s : Joined L O R) → IsSound F declared s → (event : Event L O R) → IsPossible F declared s event → many_callers (effect s event) ≡ many_callers s
  callers_on s sound (AtPhases event) possible = (only_its_caller s.phases event sound.phases possible.caller).many_callers
  callers_on s sound (AtCells event) possible = refl
  callers_on s sound (HandWith c from onto layout e) possible = refl

  -- a Leave frees nothing
  leave_frees : (s : Joined L O R) (c o : ℕ) → (object (effect s (AtPhases (Turn (Leave c)))) o).freed ≡ (object s o).freed
  leave_frees s c o = refl

  -- what is true as long as the row is kept stands for the reader, who has left else
  until_left : (events : List (Event L O R)) (s t : Joined L O R) (c o i : ℕ) → IsSound F declared s → Leads F declared events s t → c < many_callers s
      → HasRead s.phases c o i → Leaves c events ⊎ (IsSound F declared t × (c < many_callers t) × HasRead t.phases c o i)
  until_left [] s t c o i sound leads there read =
      inr (subst (λ (u : Joined L O R). IsSound F declared u × (c < many_callers u) × HasRead u.phases c o i) (sym leads) (sound, there, read))
  until_left (event ∷ events) s t c o i sound leads there read =
      ⊎_elim {C = Leaves c (event ∷ events) ⊎ (IsSound F declared t × (c < many_callers t) × HasRead t.phases c o i)}
      (λ leave. inl (inl (sym leave)))
      (λ (still : HasRead (effect s event).phases c o i).
      ⊎_elim {C = Leaves c (event ∷ events) ⊎ (IsSound F declared t × (c < many_callers t) × HasRead t.phases c o i)}
      (λ later. inl (inr later)) (λ known. inr known)
      (until_left events (effect s event) t c o i (joined_keeps F laws declared s sound event leads.0) leads.1 (rw (callers_on s sound event leads.0) there) still))
      (reads_on s sound event c o i leads.0 read)

  -- a row is freed only after those who have read it have left
  pub readers_left_freed : (events : List (Event L O R)) (s t : Joined L O R) (event : Event L O R) (c o i : ℕ) → IsSound F declared s → Leads F declared events s t
      → IsPossible F declared t event → c < many_callers s → HasRead s.phases c o i → FreesRow t event o i → Leaves c events
  readers_left_freed events s t event c o i sound leads possible there read frees =
      ⊎_elim {C = Leaves c events} (λ left. left)
      (λ (known : IsSound F declared t × (c < many_callers t) × HasRead t.phases c o i).
      absurd (⊎_elim
      (λ (leave : event ≡ AtPhases (Turn (Leave c))).
      let gone = frees.freed in
      let kept = read_row_kept F laws declared t known.0 c o i known.1 known.2 in
      let same : (object (effect t event) o).freed ≡ (object t o).freed = ap (λ f. (object (effect t f) o).freed) leave ∙ leave_frees t c o in
      omega (arith, gone, kept, same))
      (λ (still : HasRead (effect t event).phases c o i).
      let gone = frees.freed in
      let kept = read_row_kept F laws declared (effect t event) (joined_keeps F laws declared t known.0 event possible) c o i
      (rw (callers_on t known.0 event possible) known.1) still in
      omega (arith, gone, kept))
      (reads_on t known.0 event c o i possible known.2)))
      (until_left events s t c o i sound leads there read)

  -- and its cells are given again only then
  given_possible : (t : Joined L O R) (event : Event L O R) (o j : ℕ) → IsPossible F declared t event → GivesLife t event o j
      → (incarnation t o ≡ 0) ⊎ (incarnation t o ≤ (object t o).freed)
  given_possible t event o j possible gives =
      let may = subst (IsPossible F declared t) gives.hand possible in
      subst (λ r. (incarnation t r ≡ 0) ⊎ (incarnation t r ≤ (object t r).freed)) gives.object may.may.beside.freed

  pub readers_left_given : (events : List (Event L O R)) (s t : Joined L O R) (event : Event L O R) (c o i : ℕ) → IsSound F declared s → Leads F declared events s t
      → IsPossible F declared t event → c < many_callers s → HasRead s.phases c o i → GivesLife t event o (i + 2) → Leaves c events
  readers_left_given events s t event c o i sound leads possible there read gives =
      ⊎_elim {C = Leaves c events} (λ left. left)
      (λ (known : IsSound F declared t × (c < many_callers t) × HasRead t.phases c o i).
      let kept = read_row_kept F laws declared t known.0 c o i known.1 known.2 in
      let life = gives.life in
      absurd (⊎_elim (λ (none : incarnation t o ≡ 0). omega (arith, none, life)) (λ (freed : incarnation t o ≤ (object t o).freed). omega (arith, freed, life, kept))
      (given_possible t event o (i + 2) possible gives)))
      (until_left events s t c o i sound leads there read)

  pub readers_left : (events : List (Event L O R)) (s t : Joined L O R) (event : Event L O R) (c o i : ℕ) → IsSound F declared s → Leads F declared events s t
      → IsPossible F declared t event → c < many_callers s → HasRead s.phases c o i → TakesRow t event o i → Leaves c events
  readers_left events s t event c o i sound leads possible there read takes =
      ⊎_elim {C = Leaves c events} (λ frees. readers_left_freed events s t event c o i sound leads possible there read frees)
      (λ gives. readers_left_given events s t event c o i sound leads possible there read gives) takes

  -- a row is handed on where none is ahead
  given_first : (t : Joined L O R) (event : Event L O R) (o j : ℕ) → IsPossible F declared t event → GivesLife t event o j → many_hands t o < j
  given_first t event o j possible gives =
      let may = subst (IsPossible F declared t) gives.hand possible in
      let first : is_handed t o ≡ false = subst (λ r. is_handed t r ≡ false) gives.object may.may.beside.once in
      let none = not_less (incarnation t o) (many_hands t o) first in
      let life = gives.life in
      omega (arith, none, life)
    where
      not_less : (m n : ℕ) → ltb m n ≡ false → n ≤ m
      not_less m n is = grind (arith, nat_tests, is)

  pub each_once : (events : List (Event L O R)) (s t : Joined L O R) → Leads F declared events s t → IsFreedOnce F declared s t
  each_once events s t leads = record {
    kept = λ o. freed_never_falls events s t leads o;
    once = λ event o i gone frees. freed_once events s t event o i leads gone frees;
    given = λ event o j possible had gives.
        let rises = hands_never_fall events s t leads o in
        let first = given_first t event o j possible gives in
        absurd (omega (arith, had, rises, first));
  }
