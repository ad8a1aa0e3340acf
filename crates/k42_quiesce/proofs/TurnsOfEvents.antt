-- What the joined events are for the machine of generations.
use Rattle.std.proofs.Common.{◌≡◌, ℕ, ◌<◌, Bool, true, false, cond, List, [], ◌∷◌, ◌++◌, Option, Some, None, length, refl, sym, ap, ◌∙◌, subst, inl, inr, ⊎_elim}
use Rattle.std.proofs.lemmas.Bool.{and_parts}
use Rattle.gen_core.specs.Events as gens
use Rattle.gen_core.specs.Plain.{Generations}
use Rattle.gen_core.specs.Runs.{run, AreInRange}
use Rattle.gen_core.specs.declared.event.GenEvent.{GenEvent}
use Rattle.gen_core.specs.declared.event.GenEvent.TheVariants.{TakeRole}
use Rattle.gen_core.proofs.Alone.{happens_only}
use Rattle.phase_core.specs.Event as phases
use Rattle.phase_core.specs.Event.{Turn, TakeRoleWith, LookUp, RootLoad, Install, Knock, StepOut, EndCall, Begin, Interpose, Block, Move, TurnOver, Unblock, Open, Clear, Free}
use Rattle.phase_core.specs.Events.{is_possible, effect, taken_with, interposed, opened}
use Rattle.phase_core.specs.Plain.{Phases}
use Rattle.phase_core.specs.State.{object_at}
use Rattle.phase_core.specs.declared.caller.SwapAt.{SwapAt}
use Rattle.phase_core.specs.declared.caller.SwapAt.TheVariants.{Begun, Interposing, Opening, Reopening}
use Rattle.phase_core.proofs.Reached.{same_callers}
use Rattle.k42_stamp.specs.Laws.{AreLaws}
use Rattle.k42_stamp.specs.Layouts.{Layouts}
use Rattle.k42_stamp.specs.Orders.{In}
use Rattle.k42_stamp.proofs.Elements.{in-append}
use Rattle.k42_joined.specs.Effects as joined
use Rattle.k42_joined.specs.Event.{Event, AtPhases, AtCells, HandWith}
use Rattle.k42_joined.specs.Plain.{Joined}
use Rattle.k42_joined.specs.Runs.{Leads}
use Rattle.k42_joined.specs.Sound.{IsSound}
use Rattle.k42_joined.proofs.Kept.{joined_keeps}

-- the event of generations that an event of tables and swaps is, if it is one
abbrev turn_of : phases.Event → List GenEvent
turn_of (Turn event) = event ∷ []
turn_of (TakeRoleWith c notes) = TakeRole c ∷ []
turn_of event = []

abbrev pub turns_of : {L O R : Type 0} → List (Event L O R) → List GenEvent
turns_of [] = []
turns_of (AtPhases event ∷ events) = turn_of event ++ turns_of events
turns_of (event ∷ events) = turns_of events

run-append : (es fs : List GenEvent) (s : Generations) → run (es ++ fs) s ≡ run fs (run es s)
run-append [] fs s = refl
run-append (e ∷ es) fs s = run-append es fs (gens.happens s e)

either : (s t u : Phases) (b : Bool) → t.turns ≡ s.turns → u.turns ≡ s.turns → (cond b t u).turns ≡ s.turns
either s t u true first second = first
either s t u false first second = second

interposed_turns : (s : Phases) (c : ℕ) (swap : SwapAt) → (interposed s c swap).turns ≡ s.turns
interposed_turns s c (Begun o) = refl
interposed_turns s c (Interposing o p) = refl
interposed_turns s c swap = refl

opened_turns : (s : Phases) (c : ℕ) (swap : SwapAt) → (opened s c swap).turns ≡ s.turns
opened_turns s c (Opening o p) = refl
opened_turns s c (Reopening o p) = refl
opened_turns s c swap = refl

taken_turns : (s : Phases) (c : ℕ) (notes : List (ℕ × ℕ)) (role : Option ℕ) → (taken_with s c notes role).turns ≡ gens.taken s.turns c role
taken_turns s c notes None = refl
taken_turns s c notes (Some holder) = refl

happened : (s : Generations) (event : GenEvent) → gens.is_possible s event ≡ true → gens.effect s event ≡ gens.happens s event
happened s event possible = rw possible refl

-- the generations change by just that event
pub turns_after : (s : Phases) (event : phases.Event) → is_possible s event ≡ true → (effect s event).turns ≡ run (turn_of event) s.turns
turns_after s (Turn event) possible = happened s.turns event (and_parts (gens.is_possible s.turns event) _ possible).0
turns_after s (TakeRoleWith c notes) possible =
    taken_turns s c notes s.turns.role ∙ happened s.turns (TakeRole c) (and_parts (gens.is_possible s.turns (TakeRole c)) _ possible).0
turns_after s (LookUp c o) possible = refl
turns_after s (RootLoad c o) possible = refl
turns_after s (Install c o) possible = either s _ _ _ refl refl
turns_after s (Knock c o) possible = refl
turns_after s (StepOut c) possible = refl
turns_after s (EndCall c) possible = refl
turns_after s (Begin c o) possible = either s _ _ (object_at s o).swap refl refl
turns_after s (Interpose c) possible = interposed_turns s c _
turns_after s (Block c) possible = refl
turns_after s (Move c) possible = either s _ _ _ refl refl
turns_after s (TurnOver c layout) possible = refl
turns_after s (Unblock c) possible = refl
turns_after s (Open c) possible = opened_turns s c _
turns_after s (Clear c) possible = refl
turns_after s (Free c o) possible = either s _ _ _ refl refl

run_many : (events : List GenEvent) (s : Generations) → AreInRange (length s.callers) events → length (run events s).callers ≡ length s.callers
run_many [] s range = refl
run_many (event ∷ events) s range =
    let many = (happens_only s event range.0).many_callers in
    run_many events (gens.happens s event) (subst (λ n. AreInRange n events) (sym many) range.1) ∙ many

in_front : (event : phases.Event) (events : List GenEvent) (n : ℕ) → phases.caller_of event < n → AreInRange n events → AreInRange n (turn_of event ++ events)
in_front (Turn event) events n lt range = (lt, range)
in_front (TakeRoleWith c notes) events n lt range = (lt, range)
in_front event events n lt range = range

-- an event of generations that takes no role stands among the joined events where it stands among theirs
back_one : {L O R : Type 0} (e : GenEvent) (event : phases.Event) → ((c : ℕ) → e ≡ TakeRole c → ⊥) → In e (turn_of event) → ◌≡◌ {A = Event L O R} (AtPhases (Turn e)) (AtPhases event)
back_one e (Turn event) not is = ⊎_elim (λ (same : e ≡ event). ap (λ x. AtPhases (Turn x)) same) (λ none. absurd none) is
back_one e (TakeRoleWith c notes) not is = ⊎_elim (λ (same : e ≡ TakeRole c). absurd (not c same)) (λ none. absurd none) is
back_one e event not is = absurd is

pub back : {L O R : Type 0} (e : GenEvent) (events : List (Event L O R)) → ((c : ℕ) → e ≡ TakeRole c → ⊥) → In e (turns_of events) → In (AtPhases (Turn e)) events
back e [] not is = absurd is
back e (AtPhases event ∷ events) not is =
    ⊎_elim {C = In (AtPhases (Turn e)) (AtPhases event ∷ events)}
    (λ here. inl (back_one e event not here)) (λ later. inr (back e events not later))
    (in-append e (turn_of event) (turns_of events) is)
back e (AtCells event ∷ events) not is = inr (back e events not is)
back e (HandWith c from onto layout entry ∷ events) not is = inr (back e events not is)

module _ {S L P O R : Type 0} (F : Layouts S L P O R) (laws : AreLaws F) (declared : List L) where
  pub turns_run : (events : List (Event L O R)) (s t : Joined L O R) → Leads F declared events s t → t.phases.turns ≡ run (turns_of events) s.phases.turns
  turns_run [] s t leads = ap (λ (u : Joined L O R). u.phases.turns) leads
  turns_run (AtPhases event ∷ events) s t leads =
      turns_run events (joined.effect s (AtPhases event)) t leads.1
      ∙ ap (run (turns_of events)) (turns_after s.phases event leads.0.may.core)
      ∙ sym (run-append (turn_of event) (turns_of events) s.phases.turns)
  turns_run (AtCells event ∷ events) s t leads = turns_run events (joined.effect s (AtCells event)) t leads.1
  turns_run (HandWith c from onto layout entry ∷ events) s t leads = turns_run events (joined.effect s (HandWith c from onto layout entry)) t leads.1

  pub in_range : (events : List (Event L O R)) (s t : Joined L O R) → IsSound F declared s → Leads F declared events s t
      → AreInRange (length s.phases.turns.callers) (turns_of events)
  in_range [] s t sound leads = tt
  in_range (AtPhases event ∷ events) s t sound leads =
      let lt = subst (λ n. phases.caller_of event < n) (same_callers s.phases sound.phases) leads.0.caller in
      let own = in_front event [] (length s.phases.turns.callers) lt tt in
      let many : length (joined.effect s (AtPhases event)).phases.turns.callers ≡ length s.phases.turns.callers =
      ap (λ (g : Generations). length g.callers) (turns_after s.phases event leads.0.may.core) ∙ many_run event s.phases.turns lt in
      in_front event (turns_of events) (length s.phases.turns.callers) lt
      (subst (λ n. AreInRange n (turns_of events)) many
      (in_range events (joined.effect s (AtPhases event)) t (joined_keeps F laws declared s sound (AtPhases event) leads.0) leads.1))
    where
      many_run : (event : phases.Event) (g : Generations) → phases.caller_of event < length g.callers → length (run (turn_of event) g).callers ≡ length g.callers
      many_run (Turn e) g lt = (happens_only g e lt).many_callers
      many_run (TakeRoleWith c notes) g lt = (happens_only g (TakeRole c) lt).many_callers
      many_run event g lt = refl
  in_range (AtCells event ∷ events) s t sound leads =
      in_range events (joined.effect s (AtCells event)) t (joined_keeps F laws declared s sound (AtCells event) leads.0) leads.1
  in_range (HandWith c from onto layout entry ∷ events) s t sound leads =
      in_range events (joined.effect s (HandWith c from onto layout entry)) t
      (joined_keeps F laws declared s sound (HandWith c from onto layout entry) leads.0) leads.1
