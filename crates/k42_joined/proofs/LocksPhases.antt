-- An event of tables and swaps keeps locks and lives.
use Rattle.std.proofs.Common.{◌≡◌, ℕ, ◌+◌, ◌*◌, ◌<◌, ◌≢◌, ◌∙◌, Bool, true, false, not, ltb, List, [], ◌∷◌, Some, None, length, length-set, sym, refl, ap, subst, inl, ⊎_elim, arith}
use Rattle.std.proofs.lemmas.Bool.{and_parts, ltb-true, cases_eq, cases_lt}
use Rattle.std.proofs.lemmas.Bool.Decides.{nat_tests}
use Rattle.std.proofs.lemmas.List.{get_or_past}
use Rattle.std.proofs.lemmas.Option.{slice_get-get_or}
use Rattle.gen_core.specs.declared.event.GenEvent.TheVariants.{GiveRole}
use Rattle.phase_core.specs.Event.{Event, Turn, Install, EndCall, StepOut, Begin, TurnOver, Unblock, caller_of}
use Rattle.phase_core.specs.Plain.{Object}
use Rattle.phase_core.specs.Sound as phases
use Rattle.phase_core.specs.Stages.{object_named}
use Rattle.phase_core.proofs.Changed.{turns_over}
use Rattle.phase_core.proofs.InSound.{moved_is_ready}
use Rattle.phase_core.proofs.Reached.{turn_there}
use Rattle.turn_core.specs.Names.{names}
use Rattle.turn_core.specs.Plain.{Turns}
use Rattle.turn_core.specs.Sound as turns
use Rattle.turn_core.specs.Sound.{held_by}
use Rattle.turn_core.specs.State.{cell_at, fresh_cell}
use Rattle.k42_stamp.specs.Layouts.{Layouts}
use Rattle.k42_joined.specs.Plain.{Joined}
use Rattle.k42_joined.specs.Event.{AtPhases}
use Rattle.k42_joined.specs.Effects.{effect}
use Rattle.k42_joined.specs.Locks.{AreAsMany, AreLawfullyHeld, CountsRows, AreOfLives, AreLocked}
use Rattle.k42_joined.specs.Numbers.{cell_of, object_of}
use Rattle.k42_joined.specs.Possible.{MayAtPhases}
use Rattle.k42_joined.specs.State.{many_procs, many_callers, many_objects, object, incarnation, swap_of, cell, cell_in, held, many_hands, is_handed}
use Rattle.k42_joined.specs.Swapping.{holds_none, may_at_phases, kept_after_phases}
use Rattle.k42_joined.proofs.CellNumbers.{cell_of-parity}
use Rattle.k42_joined.proofs.Lends.{releases, event_lends}
use Rattle.k42_joined.proofs.LocksLives.{lives_turned}
use Rattle.k42_joined.proofs.PhaseSteps.{object_after, only_its_caller, row_else, turns_its, turned_here, turned_else}

none_named : (cells : List ℕ) (n : ℕ) → holds_none cells ≡ true → names cells n ≡ true → ⊥
none_named [] n none named = cc
none_named (m ∷ cells) n none named = cc

-- a cell that a caller holds is there, and in the caller's list
pub held_there : {O R : Type 0} (t : Turns O R) (n c : ℕ) → (cell_at t n).lock ≡ Some c → n < length t.cells
held_there t n c lock =
    ⊎_elim (λ there. there) (λ past. absurd (none (get_or_past t.cells n (fresh_cell 0) past))) (cases_lt n (length t.cells))
  where
    none : cell_at t n ≡ fresh_cell 0 → ⊥
    none same = let is : None ≡ Some c = sym (ap (λ x. x.lock) same) ∙ lock in cc

pub held_listed : {O R : Type 0} (t : Turns O R) → turns.IsSound t → (n c : ℕ) → (cell_at t n).lock ≡ Some c → names (held_by t.callers c) n ≡ true
held_listed t sound n c lock =
    (sound.cells n (cell_at t n) (slice_get-get_or t.cells n (fresh_cell 0) (held_there t n c lock))).held c lock

module _ {S L P O R : Type 0} (F : Layouts S L P O R) (declared : List L) (s : Joined L O R)
    (sound : phases.IsSound s.phases) (turns_sound : turns.IsSound s.turns) (locked : AreLocked s) where
  -- where an event asks it, its caller holds no cell
  released : (event : Event) → releases event ≡ true → may_at_phases s F.tag_of event ≡ true
      → holds_none (held s (caller_of event)) ≡ true
  released (Install c o) r may = may
  released (EndCall c) r may = may
  released (StepOut c) r may = may
  released (TurnOver c tag) r may = (and_parts (holds_none (held s c)) _ may).0
  released (Unblock c) r may = (and_parts (holds_none (held s c)) _ may).0
  released (Turn (GiveRole c)) r may = may
  released event r may = absurd (cc)

  as_many_kept : (event : Event) → length (kept_after_phases s event) ≡ length s.kept
  as_many_kept (Begin c o) = length-set s.kept c _
  as_many_kept (Unblock c) = length-set s.kept c _
  as_many_kept event = refl

  module _ (event : Event) (there : caller_of event < many_callers s) (may : MayAtPhases F declared s event) where
    abbrev t : Joined L O R
    t = effect s (AtPhases event)

    still_many : AreAsMany t
    still_many =
        let only = only_its_caller s.phases event sound there in
        let many = locked.many in
        record {
          callers = many.callers ∙ sym only.many_callers;
          kept = as_many_kept event ∙ many.kept ∙ sym only.many_callers;
          hands = many.hands ∙ sym only.many_objects;
          cells = many.cells ∙ ap (λ n. n * 16) (sym only.many_objects);
          few_procs = rw only.many_procs many.few_procs;
        }

    still_held : AreLawfullyHeld t
    still_held n c lock =
        let only = only_its_caller s.phases event sound there in
        let touch = locked.held n c lock in
        record {
          object = rw only.many_objects touch.object;
          place = rw only.many_procs touch.place;
          allowed = event_lends s.phases event c sound (turn_there s.phases sound (caller_of event) there) may.objects may.core
              (λ r same. none_named (held s (caller_of event)) n (released event r may.beside)
              (subst (λ d. names (held s d) n ≡ true) same (held_listed s.turns turns_sound n c lock)))
              (object_of n) (cell s n).life touch.allowed;
        }

    module _ (not : turns_over event ≡ false) (o : ℕ) (named : o < many_objects s) where
      still_counted : CountsRows (incarnation t o) (many_hands t o) (object t o).freed
      still_counted =
          let same = (row_else s.phases event may.core not o).incarnation in
          let rises = ((object_after s.phases event may.core).goes o).freed in
          let old = locked.counted o named in
          let kept = old.kept in
          record { ahead = rw same old.ahead; kept = omega (arith, same, rises, kept) }

      still_lives : (p : ℕ) → p < many_procs s
          → AreOfLives (incarnation t o) (is_handed t o) (cell_in t o (incarnation t o) p) (cell_in t o (incarnation t o + 1) p)
      still_lives p within =
          let same = (row_else s.phases event may.core not o).incarnation in
          subst (λ i. AreOfLives i (ltb i (many_hands s o)) (cell_in s o i p) (cell_in s o (i + 1) p)) (sym same)
          (locked.lives o p named within)

  -- the object that is turned over
  module _ (c tag : ℕ) (there : c < many_callers s) (may : MayAtPhases F declared s (TurnOver c tag)) where
    abbrev q : ℕ
    q = object_named (swap_of s c)

    abbrev u : Joined L O R
    u = effect s (AtPhases (TurnOver c tag))

    pub turned_handed : is_handed s q ≡ true
    turned_handed = (and_parts (is_handed s q) _ (and_parts (holds_none (held s c)) _ may.beside).1).0

    pub turned_ahead : q < many_objects s → many_hands s q ≡ incarnation s q + 1
    turned_ahead named =
        ⊎_elim (λ same. let more = ltb-true (incarnation s q) (many_hands s q) turned_handed in absurd (omega (arith, same, more)))
        (λ more. more) (locked.counted q named).ahead

    turned_counted : q < many_objects s → CountsRows (incarnation u q) (many_hands u q) (object u q).freed
    turned_counted named =
        let here = turned_here s.phases c tag named in
        let freed = (moved_is_ready s.phases sound c q there (turns_its s.phases c tag may.core)).freed in
        subst (λ (k : Object). CountsRows k.incarnation (many_hands s q) k.freed) (sym here)
        (record { ahead = inl (turned_ahead named); kept = omega (arith, freed) })

    turned_lives : q < many_objects s → (p : ℕ) → p < many_procs s
        → AreOfLives (incarnation u q) (is_handed u q) (cell_in u q (incarnation u q) p) (cell_in u q (incarnation u q + 1) p)
    turned_lives named p within =
        let i = incarnation s q in
        let old : AreOfLives i true (cell_in s q i p) (cell_in s q (i + 1) p) =
        subst (λ b. AreOfLives i b (cell_in s q i p) (cell_in s q (i + 1) p)) turned_handed (locked.lives q p named within) in
        let now : ltb (i + 1) (many_hands s q) ≡ false = rw (turned_ahead named) (grind (arith, nat_tests)) in
        let back : cell_of q i p ≡ cell_of q (i + 1 + 1) p = cell_of-parity q i (i + 1 + 1) p (omega arith) in
        let new : AreOfLives (i + 1) (ltb (i + 1) (many_hands s q)) (cell_in s q (i + 1) p) (cell_in s q (i + 1 + 1) p) =
        subst (λ b. AreOfLives (i + 1) b (cell_in s q (i + 1) p) (cell_in s q (i + 1 + 1) p)) (sym now)
        (subst (λ n. AreOfLives (i + 1) false (cell_in s q (i + 1) p) (cell s n)) back (lives_turned i (cell_in s q i p) (cell_in s q (i + 1) p) old)) in
        subst (λ j. AreOfLives j (ltb j (many_hands s q)) (cell_in s q j p) (cell_in s q (j + 1) p))
        (sym (ap (λ k. k.incarnation) (turned_here s.phases c tag named))) new

    turned_else_counted : (o : ℕ) → o ≢ q → o < many_objects s → CountsRows (incarnation u o) (many_hands u o) (object u o).freed
    turned_else_counted o other named =
        subst (λ (k : Object). CountsRows k.incarnation (many_hands s o) k.freed) (sym (turned_else s.phases c tag o other)) (locked.counted o named)

    turned_else_lives : (o p : ℕ) → o ≢ q → o < many_objects s → p < many_procs s
        → AreOfLives (incarnation u o) (is_handed u o) (cell_in u o (incarnation u o) p) (cell_in u o (incarnation u o + 1) p)
    turned_else_lives o p other named within =
        subst (λ j. AreOfLives j (ltb j (many_hands s o)) (cell_in s o j p) (cell_in s o (j + 1) p))
        (sym (ap (λ k. k.incarnation) (turned_else s.phases c tag o other))) (locked.lives o p named within)

    turn_over_keeps : AreLocked u
    turn_over_keeps =
        let only = only_its_caller s.phases (TurnOver c tag) sound there in
        record {
          many = still_many (TurnOver c tag) there may;
          held = still_held (TurnOver c tag) there may;
          counted = λ o named. ⊎_elim
              (λ (same : o ≡ q). subst (λ r. CountsRows (incarnation u r) (many_hands u r) (object u r).freed) (sym same)
              (turned_counted (subst (λ r. r < many_objects s) same (rw only.many_objects at named))))
              (λ other. turned_else_counted o other (rw only.many_objects at named)) (cases_eq o q);
          lives = λ o p named within. ⊎_elim
              (λ (same : o ≡ q). subst (λ r. AreOfLives (incarnation u r) (is_handed u r) (cell_in u r (incarnation u r) p) (cell_in u r (incarnation u r + 1) p)) (sym same)
              (turned_lives (subst (λ r. r < many_objects s) same (rw only.many_objects at named)) p within))
              (λ other. turned_else_lives o p other (rw only.many_objects at named) within) (cases_eq o q);
        }

  else_keeps : (event : Event) → caller_of event < many_callers s → MayAtPhases F declared s event → turns_over event ≡ false
      → AreLocked (effect s (AtPhases event))
  else_keeps event there may not =
      let only = only_its_caller s.phases event sound there in
      record {
        many = still_many event there may;
        held = still_held event there may;
        counted = λ o named. still_counted event there may not o (rw only.many_objects at named);
        lives = λ o p named within. still_lives event there may not o (rw only.many_objects at named) p (rw only.many_procs at within);
      }

  by_turn : (event : Event) (b : Bool) → turns_over event ≡ b → caller_of event < many_callers s → MayAtPhases F declared s event
      → AreLocked (effect s (AtPhases event))
  by_turn (TurnOver c tag) true e there may = turn_over_keeps c tag there may
  by_turn event true e there may = absurd (cc)
  by_turn event false e there may = else_keeps event there may e

  pub phases_keep_locks : (event : Event) → caller_of event < many_callers s → MayAtPhases F declared s event
      → AreLocked (effect s (AtPhases event))
  phases_keep_locks event there may = by_turn event (turns_over event) refl there may
