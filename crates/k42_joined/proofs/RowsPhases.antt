-- An event of tables and swaps keeps the rows: it changes no cell, and turns an object over to the layout of its hand.
use Rattle.std.proofs.Common.{◌≡◌, ℕ, ◌+◌, ◌-◌, ◌<◌, ◌≢◌, ◌∙◌, Bool, true, false, not, cond, eqb, ltb, List, [], ◌∷◌, ◌++◌, Option, Some, None, length, get_or, sym, refl, ap, subst, ⊎_elim, arith}
use Rattle.std.specs.List.{slice_get}
use Rattle.std.proofs.lemmas.Bool.{and_parts, eqb-true, cases_eq}
use Rattle.std.proofs.lemmas.Option.{same_Some, unwrap_or-slice_get, slice_get_within}
use Rattle.std.specs.Option.{unwrap_or}
use Rattle.gen_core.specs.Plain.{Caller}
use Rattle.gen_core.proofs.Alone.{only_caller}
use Rattle.k42_places.proofs.Written.{get_or-set_related}
use Rattle.phase_core.specs.Event.{Event, Turn, TakeRoleWith, LookUp, RootLoad, Install, Knock, StepOut, EndCall, Begin, Interpose, Block, Move, TurnOver, Unblock, Open, Clear, Free, caller_of}
use Rattle.phase_core.specs.Events.{taken_with, interposed, opened, effect as phase_effect}
use Rattle.phase_core.specs.Plain.{Object, Phases}
use Rattle.phase_core.specs.Sound as phases
use Rattle.phase_core.specs.Effects.{is_empty_at}
use Rattle.phase_core.specs.Stages.{object_named, row_of}
use Rattle.phase_core.specs.State.{object_at, visitor_at, entry_at, proc_of, note_at}
use Rattle.phase_core.specs.declared.caller.SwapAt.{SwapAt}
use Rattle.phase_core.specs.declared.caller.SwapAt.TheVariants.{Begun, Interposing, Opening, Reopening}
use Rattle.phase_core.proofs.Changed.{turns_over}
use Rattle.phase_core.proofs.Reached.{turn_there}
use Rattle.turn_core.specs.Sound as turns
use Rattle.k42_stamp.specs.Layouts.{Layouts}
use Rattle.k42_joined.specs.Plain.{Joined}
use Rattle.k42_joined.specs.Event.{AtPhases}
use Rattle.k42_joined.specs.Effects.{effect}
use Rattle.k42_joined.specs.Fitting.{AreFor, HasItsTag, Fitting}
use Rattle.k42_joined.specs.Locks.{AreLocked}
use Rattle.k42_joined.specs.Possible.{MayAtPhases}
use Rattle.k42_joined.specs.State.{many_callers, many_objects, incarnation, swap_of, held, layouts_of, many_hands, is_handed}
use Rattle.k42_joined.specs.Swapping.{holds_none, is_newest_tag}
use Rattle.k42_joined.proofs.LocksPhases.{turned_ahead}
use Rattle.k42_joined.proofs.PhaseSteps.{only_its_caller, row_else, shapes_else, turned_here, turned_else}

-- no event moves a caller to another processor

pub same_read : {A : Type 0} (xs ys : List A) (i : ℕ) (d : A) → slice_get ys i ≡ slice_get xs i → get_or ys i d ≡ get_or xs i d
same_read xs ys i d same = sym (unwrap_or-slice_get ys i d) ∙ ap (λ x. unwrap_or x d) same ∙ unwrap_or-slice_get xs i d

module _ (s : Phases) (c : ℕ) where
  taken_proc : (notes : List (ℕ × ℕ)) (role : Option ℕ) → proc_of (taken_with s c notes role) c ≡ proc_of s c
  taken_proc notes None =
      get_or-set_related (λ (x y : Caller). y.proc ≡ x.proc) (λ x. refl) s.turns.callers c c _ _ refl
  taken_proc notes (Some holder) = refl

  abbrev Stays : Phases → Type 0
  Stays t = proc_of t c ≡ proc_of s c

  either : (b : Bool) (t u : Phases) → Stays t → Stays u → Stays (cond b t u)
  either true t u first second = first
  either false t u first second = second

  interposed_proc : (swap : SwapAt) → Stays (interposed s c swap)
  interposed_proc (Begun q) = refl
  interposed_proc (Interposing q p) = refl
  interposed_proc swap = refl

  opened_proc : (swap : SwapAt) → Stays (opened s c swap)
  opened_proc (Opening q p) = refl
  opened_proc (Reopening q p) = refl
  opened_proc swap = refl

own_proc : (s : Phases) (event : Event) → caller_of event < length s.turns.callers
    → proc_of (phase_effect s event) (caller_of event) ≡ proc_of s (caller_of event)
own_proc s (Turn event) there = (only_caller s.turns event there).proc
own_proc s (TakeRoleWith c notes) there = taken_proc s c notes s.turns.role
own_proc s (LookUp c q) there = refl
own_proc s (RootLoad c q) there = refl
own_proc s (Install c q) there = either s c (is_empty_at (entry_at (object_at s q) (proc_of s c)) (row_of (visitor_at s c).place)) _ _ refl refl
own_proc s (Knock c q) there = refl
own_proc s (StepOut c) there = refl
own_proc s (EndCall c) there = refl
own_proc s (Begin c q) there = either s c (object_at s q).swap _ _ refl refl
own_proc s (Interpose c) there = interposed_proc s c (visitor_at s c).swap
own_proc s (Block c) there = refl
own_proc s (Move c) there = either s c (eqb (object_at s (object_named (visitor_at s c).swap)).count 0) _ _ refl refl
own_proc s (TurnOver c layout) there = refl
own_proc s (Unblock c) there = refl
own_proc s (Open c) there = opened_proc s c (visitor_at s c).swap
own_proc s (Clear c) there = refl
own_proc s (Free c q) there = either s c (ltb (object_at s q).freed (unwrap_or (note_at (visitor_at s c).noted q) 0)) _ _ refl refl

pub proc_stays : (s : Phases) (event : Event) → phases.IsSound s → caller_of event < length s.callers → (d : ℕ)
    → proc_of (phase_effect s event) d ≡ proc_of s d
proc_stays s event sound there d =
    ⊎_elim
    (λ (same : d ≡ caller_of event). subst (λ e. proc_of (phase_effect s event) e ≡ proc_of s e) (sym same) (own_proc s event (turn_there s sound (caller_of event) there)))
    (λ (other : d ≢ caller_of event).
    ap (λ (x : Caller). x.proc) (same_read s.turns.callers (phase_effect s event).turns.callers d _ ((only_its_caller s event sound there).other_turns d other)))
    (cases_eq d (caller_of event))

newest_is : {L : Type 0} (tag_of : L → ℕ) (layouts : List L) (declaration layout : L) (tag : ℕ) → is_newest_tag tag_of layouts tag ≡ true
    → slice_get (layouts ++ declaration ∷ []) 0 ≡ Some layout → tag_of layout ≡ tag
newest_is tag_of [] declaration layout tag is first = absurd (cc)
newest_is tag_of (newest ∷ layouts) declaration layout tag is first =
    ap tag_of (sym (same_Some newest layout first)) ∙ eqb-true (tag_of newest) tag is

module _ {S L P O R : Type 0} (F : Layouts S L P O R) (declared : List L) (s : Joined L O R)
    (sound : phases.IsSound s.phases) (turns_sound : turns.IsSound s.turns) (locked : AreLocked s) (rows : Fitting F declared s) where
  still_for : (event : Event) → caller_of event < many_callers s → AreFor F (effect s (AtPhases event))
  still_for event there =
      let only = only_its_caller s.phases event sound there in
      record {
        procs = rows.told.procs ∙ sym only.many_procs;
        proc_of = λ c within.
            rows.told.proc_of c (rw only.many_callers at within) ∙ sym (proc_stays s.phases event sound there c);
      }

  still_tagged : (event : Event) → MayAtPhases F declared s event → turns_over event ≡ false → (o : ℕ) (declaration : L)
      → HasItsTag F declaration s o → HasItsTag F declaration (effect s (AtPhases event)) o
  still_tagged event may not o declaration tagged layout there =
      let same = row_else s.phases event may.core not o in
      tagged layout (subst (λ i. slice_get (layouts_of s o ++ declaration ∷ []) (many_hands s o - i) ≡ Some layout) same.incarnation there)
      ∙ sym same.layout

  turned_tagged : (c tag : ℕ) → c < many_callers s → MayAtPhases F declared s (TurnOver c tag) → (o : ℕ) → o < many_objects s
      → (declaration : L) → HasItsTag F declaration s o → HasItsTag F declaration (effect s (AtPhases (TurnOver c tag))) o
  turned_tagged c tag caller may o named declaration tagged =
      let q = object_named (swap_of s c) in
      let t = effect s (AtPhases (TurnOver c tag)) in
      ⊎_elim {C = HasItsTag F declaration t o}
      (λ (same : o ≡ q). subst (λ r. HasItsTag F declaration t r) (sym same) (here (subst (λ r. r < many_objects s) same named)))
      (λ (other : o ≢ q) layout there.
      let same = turned_else s.phases c tag o other in
      tagged layout (subst (λ (k : Object). slice_get (layouts_of s o ++ declaration ∷ []) (many_hands s o - k.incarnation) ≡ Some layout) same there)
      ∙ sym (ap (λ (k : Object). k.layout) same))
      (cases_eq o q)
    where
      here : object_named (swap_of s c) < many_objects s → HasItsTag F declaration (effect s (AtPhases (TurnOver c tag))) (object_named (swap_of s c))
      here named layout there =
          let q = object_named (swap_of s c) in
          let same = turned_here s.phases c tag named in
          let ahead = turned_ahead F declared s sound turns_sound locked c tag caller may named in
          let newest = (and_parts (is_handed s q) _ (and_parts (holds_none (held s c)) _ may.beside).1).1 in
          let first : many_hands s q - (incarnation s q + 1) ≡ 0 = omega (arith, ahead) in
          newest_is F.tag_of (layouts_of s q) declaration layout tag newest
          (subst (λ n. slice_get (layouts_of s q ++ declaration ∷ []) n ≡ Some layout) first
          (subst (λ (k : Object). slice_get (layouts_of s q ++ declaration ∷ []) (many_hands s q - k.incarnation) ≡ Some layout) same there))
          ∙ sym (ap (λ (k : Object). k.layout) same)

  tagged_by : (event : Event) (b : Bool) → turns_over event ≡ b → caller_of event < many_callers s → MayAtPhases F declared s event
      → (o : ℕ) → o < many_objects s → (declaration : L) → HasItsTag F declaration s o → HasItsTag F declaration (effect s (AtPhases event)) o
  tagged_by (TurnOver c tag) true e there may o named declaration tagged = turned_tagged c tag there may o named declaration tagged
  tagged_by event true e there may o named declaration tagged = absurd (cc)
  tagged_by event false e there may o named declaration tagged = still_tagged event may e o declaration tagged

  pub phases_keep_rows : (event : Event) → caller_of event < many_callers s → MayAtPhases F declared s event
      → Fitting F declared (effect s (AtPhases event))
  phases_keep_rows event there may = record {
    told = still_for event there;
    objects = rows.objects ∙ sym (only_its_caller s.phases event sound there).many_objects;
    chains = rows.chains;
    many = rows.many;
    each = λ o declaration chain declares at.
        let has = rows.each o declaration chain declares at in
        record {
          rows = record { fits = has.rows.fits; layouts = has.rows.layouts };
          tagged = tagged_by event (turns_over event) refl there may o
              (rw (← rows.objects) (slice_get_within declared o declaration declares)) declaration has.tagged;
          shaped = shapes_else s.phases event may.core o ∙ has.shaped;
        };
    those = rows.those;
  }
