-- An event leaves all callers but its own, and all objects but one, as they were; and who reads rows by it.
use Rattle.std.proofs.Common.{◌≡◌, ℕ, ◌<◌, ◌≢◌, ◌⊎◌, ◌∙◌, Bool, true, false, cond, eqb, ltb, List, Option, Some, None, length, get_or, set, sym, refl, ap, subst, inl, inr, ⊎_elim}
use Rattle.std.specs.List.{slice_get}
use Rattle.std.specs.Option.{unwrap_or}
use Rattle.std.proofs.lemmas.Bool.{cases_eq}
use Rattle.std.proofs.lemmas.Option.{unwrap_or-slice_get}
use Rattle.k42_places.proofs.Written.{get_or-set_related}
use Rattle.gen_core.specs.declared.event.GenEvent.{GenEvent}
use Rattle.gen_core.specs.declared.event.GenEvent.TheVariants.{Enter, Leave, TakeRole, LookAhead, Flip, Look, GiveRole}
use Rattle.phase_core.specs.Consequences.{object_changed, LeavesOthers, ReadsRow}
use Rattle.phase_core.specs.Effects.{is_empty_at, knocked}
use Rattle.phase_core.specs.Event.{Event, Turn, TakeRoleWith, LookUp, RootLoad, Install, Knock, StepOut, EndCall, Begin, Interpose, Block, Move, TurnOver, Unblock, Open, Clear, Free, caller_of}
use Rattle.phase_core.specs.Events.{turned, taken_with, interposed, opened, is_possible, effect, happens}
use Rattle.phase_core.specs.Plain.{Visitor, Phases}
use Rattle.phase_core.specs.Runs.{HasRead}
use Rattle.phase_core.specs.Sound.{IsSound}
use Rattle.phase_core.specs.Stages.{object_named, row_of}
use Rattle.phase_core.specs.State.{fresh_visitor, object_at, visitor_at, entry_at, proc_of, has_row, note_at}
use Rattle.phase_core.specs.declared.caller.SwapAt.{SwapAt}
use Rattle.phase_core.specs.declared.caller.SwapAt.TheVariants.{Begun, Interposing, Opening, Reopening}
use Rattle.phase_core.proofs.Rows.{with_row_split}
use Rattle.phase_core.proofs.Changed.{happens_after}
use Rattle.phase_core.proofs.Reached.{happens_only}

same_at : {A : Type 0} (xs ys : List A) (i : ℕ) (d : A) → slice_get ys i ≡ slice_get xs i → get_or ys i d ≡ get_or xs i d
same_at xs ys i d same = sym (unwrap_or-slice_get ys i d) ∙ ap (λ x. unwrap_or x d) same ∙ unwrap_or-slice_get xs i d

pub others_stay : (s : Phases) (event : Event) → IsSound s → caller_of event < length s.turns.callers
    → LeavesOthers s (happens s event) (caller_of event) (object_changed s event)
others_stay s event sound there =
    let only = happens_only s event sound there in
    record {
      procs = only.many_procs;
      callers = only.many_callers;
      objects = only.many_objects;
      other_callers = λ c other. same_at s.callers (happens s event).callers c fresh_visitor (only.other_callers c other);
      other_turns = λ c other. same_at s.turns.callers (happens s event).turns.callers c _ (only.other_turns c other);
      other_objects = (happens_after s event).others;
    }

-- what a caller has read after its own event

module _ (Q : ℕ → Type 0) where
  -- it had read, or reads by the event
  abbrev ReadsOnly : Visitor → Visitor → Type 0
  ReadsOnly x y = (o i : ℕ) → has_row y.read o i ≡ true → (has_row x.read o i ≡ true) ⊎ Q o

  abbrev AtMost : Phases → Phases → ℕ → Type 0
  AtMost s t c = ReadsOnly (visitor_at s c) (visitor_at t c)

  at_most_same : (s : Phases) (c : ℕ) → AtMost s s c
  at_most_same s c o i has = inl has

  written : (s : Phases) (c : ℕ) (x : Visitor) → ReadsOnly (visitor_at s c) x
      → ReadsOnly (visitor_at s c) (get_or (set s.callers c x) c fresh_visitor)
  written s c x reads = get_or-set_related ReadsOnly (λ y o i has. inl has) s.callers c c x fresh_visitor reads

  -- the rows that were read stay those that were
  kept : (s : Phases) (c : ℕ) (x : Visitor) → x.read ≡ (visitor_at s c).read
      → ReadsOnly (visitor_at s c) (get_or (set s.callers c x) c fresh_visitor)
  kept s c x rows = written s c x (λ o i has. inl (rw (← rows) has))

  either : (s t u : Phases) (c : ℕ) (b : Bool) → AtMost s t c → AtMost s u c → AtMost s (cond b t u) c
  either s t u c true first second = first
  either s t u c false first second = second

  interposed_reads : (s : Phases) (c : ℕ) (swap : SwapAt) → AtMost s (interposed s c swap) c
  interposed_reads s c (Begun q) = kept s c _ refl
  interposed_reads s c (Interposing q p) = kept s c _ refl
  interposed_reads s c swap = at_most_same s c

  opened_reads : (s : Phases) (c : ℕ) (swap : SwapAt) → AtMost s (opened s c swap) c
  opened_reads s c (Opening q p) = kept s c _ refl
  opened_reads s c (Reopening q p) = kept s c _ refl
  opened_reads s c swap = at_most_same s c

  taken_reads : (s : Phases) (c : ℕ) (notes : List (ℕ × ℕ)) (role : Option ℕ) → AtMost s (taken_with s c notes role) c
  taken_reads s c notes None = kept s c _ refl
  taken_reads s c notes (Some holder) = at_most_same s c

  turned_reads : (s : Phases) (event : GenEvent) → AtMost s (turned s event) (caller_of (Turn event))
  turned_reads s (Enter c) = kept s c _ refl
  turned_reads s (Leave c) = written s c _ (λ o i has. absurd (cc))
  turned_reads s (TakeRole c) = kept s c _ refl
  turned_reads s (LookAhead c) = kept s c _ refl
  turned_reads s (Flip c) = kept s c _ refl
  turned_reads s (Look c) = kept s c _ refl
  turned_reads s (GiveRole c) = kept s c _ refl

knocked_reads : (x : Visitor) (c q i : ℕ) (b : Bool) → ReadsOnly (λ o. ReadsRow (Knock c q) c o) x (knocked x q i b)
knocked_reads x c q i true o j has = inl has
knocked_reads x c q i false o j has =
    ⊎_elim (λ old. inl old) (λ (new : (o ≡ q) × (j ≡ i)). inr (refl, sym new.0)) (with_row_split x.read q i o j has)

own_reads : (s : Phases) (event : Event) → AtMost (ReadsRow event (caller_of event)) s (effect s event) (caller_of event)
own_reads s (Turn event) = turned_reads (ReadsRow (Turn event) (caller_of (Turn event))) s event
own_reads s (TakeRoleWith c notes) = taken_reads (ReadsRow (TakeRoleWith c notes) c) s c notes s.turns.role
own_reads s (LookUp c q) =
    written (ReadsRow (LookUp c q) c) s c _
    (λ o j has. ⊎_elim (λ old. inl old)
    (λ (new : (o ≡ q) × (j ≡ (entry_at (object_at s q) (proc_of s c)).incarnation)). inr (refl, sym new.0))
    (with_row_split (visitor_at s c).read q (entry_at (object_at s q) (proc_of s c)).incarnation o j has))
own_reads s (RootLoad c q) = at_most_same (ReadsRow (RootLoad c q) c) s c
own_reads s (Install c q) =
    either (ReadsRow (Install c q) c) s _ _ c (is_empty_at (entry_at (object_at s q) (proc_of s c)) (row_of (visitor_at s c).place))
    (kept (ReadsRow (Install c q) c) s c _ refl) (kept (ReadsRow (Install c q) c) s c _ refl)
own_reads s (Knock c q) =
    written (ReadsRow (Knock c q) c) s c _
    (knocked_reads (visitor_at s c) c q (object_at s q).incarnation (object_at s q).block)
own_reads s (StepOut c) = kept (ReadsRow (StepOut c) c) s c _ refl
own_reads s (EndCall c) = kept (ReadsRow (EndCall c) c) s c _ refl
own_reads s (Begin c q) =
    either (ReadsRow (Begin c q) c) s _ _ c (object_at s q).swap (at_most_same (ReadsRow (Begin c q) c) s c)
    (kept (ReadsRow (Begin c q) c) s c _ refl)
own_reads s (Interpose c) = interposed_reads (ReadsRow (Interpose c) c) s c (visitor_at s c).swap
own_reads s (Block c) = kept (ReadsRow (Block c) c) s c _ refl
own_reads s (Move c) =
    either (ReadsRow (Move c) c) s _ _ c (eqb (object_at s (object_named (visitor_at s c).swap)).count 0)
    (kept (ReadsRow (Move c) c) s c _ refl) (at_most_same (ReadsRow (Move c) c) s c)
own_reads s (TurnOver c layout) = kept (ReadsRow (TurnOver c layout) c) s c _ refl
own_reads s (Unblock c) = kept (ReadsRow (Unblock c) c) s c _ refl
own_reads s (Open c) = opened_reads (ReadsRow (Open c) c) s c (visitor_at s c).swap
own_reads s (Clear c) = kept (ReadsRow (Clear c) c) s c _ refl
own_reads s (Free c q) =
    either (ReadsRow (Free c q) c) s _ _ c (ltb (object_at s q).freed (unwrap_or (note_at (visitor_at s c).noted q) 0))
    (kept (ReadsRow (Free c q) c) s c _ refl) (at_most_same (ReadsRow (Free c q) c) s c)

-- a caller reads rows by its own look-ups and knocks alone
pub reads_by : (s : Phases) (event : Event) (c o i : ℕ) → IsSound s → caller_of event < length s.turns.callers
    → HasRead (happens s event) c o i → HasRead s c o i ⊎ ReadsRow event c o
reads_by s event c o i sound there has =
    ⊎_elim
    (λ (own : c ≡ caller_of event).
    subst (λ d. HasRead s d o i ⊎ ReadsRow event d o) (sym own)
    (by_test (is_possible s event) (subst (λ d. HasRead (happens s event) d o i) own has)))
    (λ (other : c ≢ caller_of event).
    inl (rw (← ((others_stay s event sound there).other_callers c other)) has))
    (cases_eq c (caller_of event))
  where
    by_test : (b : Bool) → HasRead (cond b (effect s event) s) (caller_of event) o i
        → HasRead s (caller_of event) o i ⊎ ReadsRow event (caller_of event) o
    by_test true has = own_reads s event o i has
    by_test false has = inl has
