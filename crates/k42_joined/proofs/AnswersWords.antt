-- What an event of tables and swaps does to the words of objects and to the stages of swaps.
use Rattle.std.proofs.Common.{◌≡◌, ℕ, ◌+◌, ◌⊎◌, ◌∙◌, Bool, true, false, cond, eqb, ltb, List, Option, Some, None, length, get_or, set, refl, sym, ap, subst, inl, inr, ⊎_elim, arith}
use Rattle.std.proofs.lemmas.Bool.{and_parts}
use Rattle.std.specs.Option.{unwrap_or}
use Rattle.gen_core.specs.Events as turns
use Rattle.gen_core.specs.State.{caller_at}
use Rattle.gen_core.specs.declared.event.GenEvent.{GenEvent}
use Rattle.gen_core.specs.declared.event.GenEvent.TheVariants.{Enter, Leave, TakeRole, LookAhead, Flip, Look, GiveRole}
use Rattle.gen_core.specs.declared.state.GraceAt.{GraceAt}
use Rattle.gen_core.specs.declared.state.GraceAt.TheVariants as graces
use Rattle.k42_places.proofs.Written.{get_or-set_related}
use Rattle.phase_core.specs.Effects.{is_empty_at, knocked, drained_at, draining_from}
use Rattle.phase_core.specs.Event.{Event, Turn, TakeRoleWith, LookUp, RootLoad, Install, Knock, StepOut, EndCall, Begin, Interpose, Block, Move, TurnOver, Unblock, Open, Clear, Free}
use Rattle.phase_core.specs.Events.{turned, taken_with, interposed, opened, is_possible, effect}
use Rattle.phase_core.specs.Plain.{Object, Visitor, Phases}
use Rattle.phase_core.specs.Stages.{named_by, object_named, object_of, row_of, is_idle, is_drained}
use Rattle.phase_core.specs.State.{fresh_object, fresh_visitor, object_at, visitor_at, entry_at, proc_of, note_at}
use Rattle.phase_core.specs.declared.caller.SwapAt.{SwapAt}
use Rattle.phase_core.specs.declared.caller.SwapAt.TheVariants.{Begun, Interposing, Interposed, Draining, Drained, Blocking, Moved, Opening, Reopening}
use Rattle.k42_joined.specs.Answers.{is_refused, is_turned}
use Rattle.k42_joined.specs.Found.{swap_number}
use Rattle.k42_joined.specs.Refusals.{is_given_up}
use Rattle.k42_joined.proofs.AnswersSteps.{WordGoesOn}

-- the numbers of an object's word stay
pub record IsSameWord (k l : Object) : Type 0 where
  pub shapes : l.shapes ≡ k.shapes
  pub incarnation : l.incarnation ≡ k.incarnation
  pub layout : l.layout ≡ k.layout
  pub complete : l.complete ≡ k.complete

pub same_word : (k : Object) → IsSameWord k k
same_word k = record { shapes = refl; incarnation = refl; layout = refl; complete = refl }

pub same_number : (k l : Object) → IsSameWord k l → swap_number l ≡ swap_number k
same_number k l same =
    ap (λ b. cond b l.incarnation (l.incarnation + 1)) same.complete ∙ ap (λ i. cond k.complete i (i + 1)) same.incarnation

pub word_on : (k l : Object) → IsSameWord k l → WordGoesOn k l
word_on k l same =
    let number = same_number k l same in
    let i = same.incarnation in
    record {
      shapes = same.shapes;
      incarnation = omega (arith, i);
      number = omega (arith, number);
      over = λ is. record { incarnation = same.incarnation; layout = same.layout };
    }

-- the events that change what a swap's stage tells, or the numbers of a word
abbrev pub is_quiet : Event → Bool
is_quiet (Begin c o) = false
is_quiet (Move c) = false
is_quiet (TurnOver c layout) = false
is_quiet (Unblock c) = false
is_quiet (Open c) = false
is_quiet (Clear c) = false
is_quiet event = true

abbrev pub changes_word : Event → Bool
changes_word (TurnOver c layout) = true
changes_word (Clear c) = true
changes_word event = false

module _ (s : Phases) (o : ℕ) where
  abbrev Stays : Phases → Type 0
  Stays t = IsSameWord (object_at s o) (object_at t o)

  put : (q : ℕ) (l : Object) → IsSameWord (object_at s q) l → IsSameWord (object_at s o) (get_or (set s.objects q l) o fresh_object)
  put q l same = get_or-set_related IsSameWord same_word s.objects q o l fresh_object same

  either_word : (b : Bool) (t u : Phases) → Stays t → Stays u → Stays (cond b t u)
  either_word true t u first second = first
  either_word false t u first second = second

  interposed_word : (c : ℕ) (swap : SwapAt) → Stays (interposed s c swap)
  interposed_word c (Begun q) = put q _ (record { shapes = refl; incarnation = refl; layout = refl; complete = refl })
  interposed_word c (Interposing q p) = put q _ (record { shapes = refl; incarnation = refl; layout = refl; complete = refl })
  interposed_word c swap = same_word (object_at s o)

  opened_word : (c : ℕ) (swap : SwapAt) → Stays (opened s c swap)
  opened_word c (Opening q p) = put q _ (record { shapes = refl; incarnation = refl; layout = refl; complete = refl })
  opened_word c (Reopening q p) = put q _ (record { shapes = refl; incarnation = refl; layout = refl; complete = refl })
  opened_word c swap = same_word (object_at s o)

  taken_word : (c : ℕ) (notes : List (ℕ × ℕ)) (role : Option ℕ) → Stays (taken_with s c notes role)
  taken_word c notes None = same_word (object_at s o)
  taken_word c notes (Some holder) = same_word (object_at s o)

  one : (q : ℕ) (l : Object) → l.shapes ≡ (object_at s q).shapes → l.incarnation ≡ (object_at s q).incarnation → l.layout ≡ (object_at s q).layout → l.complete ≡ (object_at s q).complete
      → IsSameWord (object_at s o) (get_or (set s.objects q l) o fresh_object)
  one q l shapes i layout complete = put q l (record { shapes = shapes; incarnation = i; layout = layout; complete = complete })

pub word_stays : (s : Phases) (event : Event) → changes_word event ≡ false → (o : ℕ) → IsSameWord (object_at s o) (object_at (effect s event) o)
word_stays s (Turn event) keeps o = same_word (object_at s o)
word_stays s (TakeRoleWith c notes) keeps o = taken_word s o c notes s.turns.role
word_stays s (LookUp c q) keeps o = same_word (object_at s o)
word_stays s (RootLoad c q) keeps o = same_word (object_at s o)
word_stays s (Install c q) keeps o =
    either_word s o (is_empty_at (entry_at (object_at s q) (proc_of s c)) (row_of (visitor_at s c).place)) _ _ (one s o q _ refl refl refl refl) (same_word (object_at s o))
word_stays s (Knock c q) keeps o = one s o q _ refl refl refl refl
word_stays s (StepOut c) keeps o = one s o (object_of (visitor_at s c).place) _ refl refl refl refl
word_stays s (EndCall c) keeps o = same_word (object_at s o)
word_stays s (Begin c q) keeps o = either_word s o (object_at s q).swap _ _ (same_word (object_at s o)) (one s o q _ refl refl refl refl)
word_stays s (Interpose c) keeps o = interposed_word s o c (visitor_at s c).swap
word_stays s (Block c) keeps o = one s o (object_named (visitor_at s c).swap) _ refl refl refl refl
word_stays s (Move c) keeps o =
    either_word s o (eqb (object_at s (object_named (visitor_at s c).swap)).count 0) _ _ (one s o (object_named (visitor_at s c).swap) _ refl refl refl refl) (same_word (object_at s o))
word_stays s (TurnOver c layout) keeps o = absurd (cc)
word_stays s (Unblock c) keeps o = one s o (object_named (visitor_at s c).swap) _ refl refl refl refl
word_stays s (Open c) keeps o = opened_word s o c (visitor_at s c).swap
word_stays s (Clear c) keeps o = absurd (cc)
word_stays s (Free c q) keeps o =
    either_word s o (ltb (object_at s q).freed (unwrap_or (note_at (visitor_at s c).noted q) 0)) _ _ (one s o q _ refl refl refl refl) (same_word (object_at s o))

-- a stage that tells the same
pub record IsAlike (swap next : SwapAt) : Type 0 where
  pub named : named_by next ≡ named_by swap
  pub refused : is_refused next ≡ is_refused swap
  pub idle : is_idle next ≡ is_idle swap
  pub moved : (o : ℕ) → swap ≡ Moved o → next ≡ Moved o
  pub was_moved : (o : ℕ) → next ≡ Moved o → swap ≡ Moved o
  pub turned : (k : Object) → is_turned next k ≡ is_turned swap k
  pub given_up : (k : Object) (o : ℕ) → is_given_up next k o ≡ is_given_up swap k o

pub alike : (swap : SwapAt) → IsAlike swap swap
alike swap = record {
  named = refl;
  refused = refl;
  idle = refl;
  moved = λ o is. is;
  was_moved = λ o is. is;
  turned = λ k. refl;
  given_up = λ k o. refl;
}

begun_interposing : (q p : ℕ) → IsAlike (Begun q) (Interposing q p)
begun_interposing q p = record { named = refl; refused = refl; idle = refl; moved = λ o is. absurd (cc); was_moved = λ o is. absurd (cc); turned = λ k. refl; given_up = λ k o. refl }

begun_interposed : (q : ℕ) → IsAlike (Begun q) (Interposed q)
begun_interposed q = record { named = refl; refused = refl; idle = refl; moved = λ o is. absurd (cc); was_moved = λ o is. absurd (cc); turned = λ k. refl; given_up = λ k o. refl }

interposing_next : (q p r : ℕ) → IsAlike (Interposing q p) (Interposing q r)
interposing_next q p r = record { named = refl; refused = refl; idle = refl; moved = λ o is. absurd (cc); was_moved = λ o is. absurd (cc); turned = λ k. refl; given_up = λ k o. refl }

interposing_interposed : (q p : ℕ) → IsAlike (Interposing q p) (Interposed q)
interposing_interposed q p = record { named = refl; refused = refl; idle = refl; moved = λ o is. absurd (cc); was_moved = λ o is. absurd (cc); turned = λ k. refl; given_up = λ k o. refl }

interposed_draining : (q : ℕ) → IsAlike (Interposed q) (Draining q)
interposed_draining q = record { named = refl; refused = refl; idle = refl; moved = λ o is. absurd (cc); was_moved = λ o is. absurd (cc); turned = λ k. refl; given_up = λ k o. refl }

draining_drained : (q : ℕ) → IsAlike (Draining q) (Drained q)
draining_drained q = record { named = refl; refused = refl; idle = refl; moved = λ o is. absurd (cc); was_moved = λ o is. absurd (cc); turned = λ k. refl; given_up = λ k o. refl }

drained_blocking : (q : ℕ) → IsAlike (Drained q) (Blocking q)
drained_blocking q = record { named = refl; refused = refl; idle = refl; moved = λ o is. absurd (cc); was_moved = λ o is. absurd (cc); turned = λ k. refl; given_up = λ k o. refl }

drained_alike : (grace : GraceAt) (swap : SwapAt) → IsAlike swap (drained_at grace swap)
drained_alike graces.Quiet (Draining q) = draining_drained q
drained_alike graces.Quiet swap = alike swap
drained_alike grace swap = alike swap

draining_alike : (swap : SwapAt) → IsAlike swap (draining_from swap)
draining_alike (Interposed q) = interposed_draining q
draining_alike swap = alike swap

blocking_alike : (swap : SwapAt) → is_drained swap ≡ true → IsAlike swap (Blocking (object_named swap))
blocking_alike (Drained q) is = drained_blocking q
blocking_alike swap is = absurd (cc)

module _ (s : Phases) (d : ℕ) where
  abbrev Alike : Phases → Type 0
  Alike t = IsAlike (visitor_at s d).swap (visitor_at t d).swap

  visitor_put : (c : ℕ) (x : Visitor) → IsAlike (visitor_at s c).swap x.swap
      → IsAlike (visitor_at s d).swap (get_or (set s.callers c x) d fresh_visitor).swap
  visitor_put c x same =
      get_or-set_related (λ (y z : Visitor). IsAlike y.swap z.swap) (λ y. alike y.swap) s.callers c d x fresh_visitor same

  either_alike : (b : Bool) (t u : Phases) → Alike t → Alike u → Alike (cond b t u)
  either_alike true t u first second = first
  either_alike false t u first second = second

  kept_alike : (c : ℕ) (x : Visitor) → x.swap ≡ (visitor_at s c).swap → IsAlike (visitor_at s d).swap (get_or (set s.callers c x) d fresh_visitor).swap
  kept_alike c x same = visitor_put c x (subst (λ swap. IsAlike (visitor_at s c).swap swap) (sym same) (alike (visitor_at s c).swap))

  stage_after : (c q p procs : ℕ) (b : Bool) → (visitor_at s c).swap ≡ Begun q ⊎ (visitor_at s c).swap ≡ Interposing q p
      → IsAlike (visitor_at s c).swap (cond b (Interposing q (p + 1)) (Interposed q))
  stage_after c q p procs true at =
      ⊎_elim (λ is. subst (λ swap. IsAlike swap (Interposing q (p + 1))) (sym is) (begun_interposing q (p + 1)))
      (λ is. subst (λ swap. IsAlike swap (Interposing q (p + 1))) (sym is) (interposing_next q p (p + 1))) at
  stage_after c q p procs false at =
      ⊎_elim (λ is. subst (λ swap. IsAlike swap (Interposed q)) (sym is) (begun_interposed q))
      (λ is. subst (λ swap. IsAlike swap (Interposed q)) (sym is) (interposing_interposed q p)) at

  interposed_alike : (c : ℕ) (swap : SwapAt) → (visitor_at s c).swap ≡ swap → Alike (interposed s c swap)
  interposed_alike c (Begun q) at = visitor_put c _ (stage_after c q 0 (length s.turns.procs) (ltb (0 + 1) (length s.turns.procs)) (inl at))
  interposed_alike c (Interposing q p) at = visitor_put c _ (stage_after c q p (length s.turns.procs) (ltb (p + 1) (length s.turns.procs)) (inr at))
  interposed_alike c swap at = alike (visitor_at s d).swap

  taken_alike : (c : ℕ) (notes : List (ℕ × ℕ)) (role : Option ℕ) → Alike (taken_with s c notes role)
  taken_alike c notes None = visitor_put c _ (draining_alike (visitor_at s c).swap)
  taken_alike c notes (Some holder) = alike (visitor_at s d).swap

  turned_alike : (event : GenEvent) → Alike (turned s event)
  turned_alike (Enter c) = kept_alike c _ refl
  turned_alike (Leave c) = kept_alike c _ refl
  turned_alike (TakeRole c) = kept_alike c _ refl
  turned_alike (LookAhead c) = kept_alike c _ refl
  turned_alike (Flip c) = kept_alike c _ refl
  turned_alike (Look c) = visitor_put c _ (drained_alike (caller_at (turns.effect s.turns (Look c)) c).grace (visitor_at s c).swap)
  turned_alike (GiveRole c) = kept_alike c _ refl

  knocked_swap : (x : Visitor) (q i : ℕ) (b : Bool) → (knocked x q i b).swap ≡ x.swap
  knocked_swap x q i true = refl
  knocked_swap x q i false = refl

pub quiet_alike : (s : Phases) (event : Event) → is_quiet event ≡ true → is_possible s event ≡ true → (d : ℕ)
    → IsAlike (visitor_at s d).swap (visitor_at (effect s event) d).swap
quiet_alike s (Turn event) quiet may d = turned_alike s d event
quiet_alike s (TakeRoleWith c notes) quiet may d = taken_alike s d c notes s.turns.role
quiet_alike s (LookUp c q) quiet may d = kept_alike s d c _ refl
quiet_alike s (RootLoad c q) quiet may d = alike (visitor_at s d).swap
quiet_alike s (Install c q) quiet may d =
    either_alike s d (is_empty_at (entry_at (object_at s q) (proc_of s c)) (row_of (visitor_at s c).place)) _ _ (kept_alike s d c _ refl) (kept_alike s d c _ refl)
quiet_alike s (Knock c q) quiet may d = kept_alike s d c _ (knocked_swap s d (visitor_at s c) q (object_at s q).incarnation (object_at s q).block)
quiet_alike s (StepOut c) quiet may d = kept_alike s d c _ refl
quiet_alike s (EndCall c) quiet may d = kept_alike s d c _ refl
quiet_alike s (Begin c q) quiet may d = absurd (cc)
quiet_alike s (Interpose c) quiet may d = interposed_alike s d c (visitor_at s c).swap refl
quiet_alike s (Block c) quiet may d = visitor_put s d c _ (blocking_alike (visitor_at s c).swap (and_parts (turns.is_idle (caller_at s.turns c).grace) _ may).1)
quiet_alike s (Move c) quiet may d = absurd (cc)
quiet_alike s (TurnOver c layout) quiet may d = absurd (cc)
quiet_alike s (Unblock c) quiet may d = absurd (cc)
quiet_alike s (Open c) quiet may d = absurd (cc)
quiet_alike s (Clear c) quiet may d = absurd (cc)
quiet_alike s (Free c q) quiet may d =
    either_alike s d (ltb (object_at s q).freed (unwrap_or (note_at (visitor_at s c).noted q) 0)) _ _ (kept_alike s d c _ refl) (alike (visitor_at s d).swap)
