-- What an object says of a line is what the history says.
use Rattle.std.proofs.Common.{◌≡◌, ◌≢◌, ℕ, zero, suc, ◌+◌, Bool, true, false, cond, List, [], ◌∷◌, ◌++◌, map, set, add-zero, refl, sym, ap, ap₂, ◌∙◌, subst, inl, inr, ◌⊎◌, arith}
use Rattle.std.specs.Prelude.{Some, slice_get}
use Rattle.std.specs.Bool.{Decides}
use Rattle.std.proofs.lemmas.Bool.{eq-eqb, ne_eqb}
use Rattle.std.proofs.lemmas.List.{length-set, length-map, map-append}
use Rattle.std.proofs.lemmas.Option.{same_Some}
use Rattle.k42_kinds.specs.Histories.{state_of, number_of, state_after_act, is_carried_out}
use Rattle.k42_kinds.specs.Watched.{watched_object}
use Rattle.k42_kinds.specs.Legal.{IsLegalAct, IsLegalAnswer, IsLegalAmong, IsLegalRefusal}
use Rattle.k42_kinds.specs.declared.operation.KindName.{KindName}
use Rattle.k42_kinds.specs.declared.states.AnyState.{AnyState}
use Rattle.k42_kinds.specs.declared.watch.WatchState.{WatchState}
use Rattle.k42_kinds.specs.declared.operation.Op.{Op}
use Rattle.k42_kinds.specs.declared.operation.Reply.{Reply}
use Rattle.k42_kinds.specs.declared.entry.Act.{Act}
use Rattle.k42_kinds.specs.declared.entry.Act.TheVariants.{Call, Swap}
use Rattle.k42_kinds.specs.declared.entry.Answer.{Answer}
use Rattle.k42_kinds.specs.declared.entry.Answer.TheVariants.{Replied, Swapped, Busy, Spent, Gone, Abandoned}
use Rattle.k42_kinds.specs.declared.entry.Entry.{Entry}
use Rattle.k42_kinds.proofs.LegalHistories.{legal_at_kind}
use Rattle.k42_kinds.proofs.LongerHistories.{state_of-push, number_of-push}
use Rattle.script_text.specs.Sound.{IsActOn}
use Rattle.script_text.specs.declared.script.ObjectLine.{ObjectLine}
use Rattle.record_text.specs.Spelling.{Ends, EndsSwap}
use Rattle.record_text.specs.Told.{told}
use Rattle.record_text.specs.Referee.Judged.{IsKept, EndsAs, Tells, CanTake, HasLegalForm, one_thread, is_over, object_after, fresh}
use Rattle.record_text.specs.Referee.Pasts.{AreKept}
use Rattle.record_text.specs.declared.record.RecordLine.{RecordLine}
use Rattle.record_text.specs.declared.judging.object.Object.{Object}
use Rattle.k42_places.proofs.Written.{at_set}

-- the object that a line of a script declares, before the first line
abbrev pub fresh_of : ObjectLine → Object
fresh_of object = fresh (record { kind = object.kind })

fresh_at : (declared : List ObjectLine) (number : ℕ) (kind : KindName) (object : Object) → slice_get (map (λ object. object.kind) declared) number ≡ Some kind → slice_get (map fresh_of declared) number ≡ Some object → (other : ℕ) → IsKept kind other [] object
fresh_at [] number kind object declared made other = cc declared
fresh_at (line ∷ lines) zero kind object declared made other =
    let kind_is = same_Some line.kind kind declared in
    let object_is = same_Some (fresh_of line) object made in
    record {
      kind = ap (λ (o : Object). o.plain.kind) (sym object_is) ∙ kind_is;
      state = ap (λ (o : Object). o.state) (sym object_is) ∙ ap (λ (k : KindName). (watched_object k).start) kind_is;
      swaps = ap (λ (o : Object). o.number) (sym object_is);
    }
fresh_at (line ∷ lines) (suc number) kind object declared made other = fresh_at lines number kind object declared made other

pub fresh_kept : (declared : List ObjectLine) → AreKept (map (λ object. object.kind) declared) [] (map fresh_of declared)
fresh_kept declared = record {
  size = length-map declared fresh_of ∙ sym (length-map declared (λ (object : ObjectLine). object.kind));
  each = λ number kind object known made. fresh_at declared number kind object known made number;
}

module _ (kind : KindName) (before : List (Entry Op Reply)) (line : RecordLine) (after : List (Entry Op Reply)) (object : Object) (refusable : Bool)
    (kept : IsKept kind line.object before object)
    (refusal : (number : ℕ) → line.answer ≡ Busy number → Decides refusable (IsLegalRefusal before (told line) after number)) where
  -- what the object keeps says whether the history has ended it
  ends_same : is_over object ≡ (watched_object kind).is_ended (state_of kind line.object before)
  ends_same = ap₂ (λ (k : KindName) (s : WatchState AnyState). (watched_object k).is_ended s) kept.kind kept.state

  replies_same : (op : Op) → (one_thread object).reply object.state op ≡ (watched_object kind).reply (state_of kind line.object before) op
  replies_same op = ap₂ (λ (k : KindName) (s : WatchState AnyState). (watched_object k).reply s op) kept.kind kept.state

  end_to : (answer : Answer Reply) → line.answer ≡ answer → EndsAs object refusable line.incarnation answer → IsLegalAnswer kind before (told line) after answer
  end_to (Swapped number) is ends = record {
    next = ends.next ∙ ap (λ (n : ℕ). n + 1) kept.swaps;
    alive = sym ends_same ∙ ends.alive;
    unspent = omega (arith, ends.unspent, kept.swaps);
    incarnation = ends.incarnation ∙ kept.swaps;
  }
  end_to Spent is ends = record {
    alive = sym ends_same ∙ ends.alive;
    spent = sym kept.swaps ∙ ends.spent;
    incarnation = ends.incarnation ∙ kept.swaps;
  }
  end_to Gone is ends = record { dead = sym ends_same ∙ ends.dead; incarnation = ends.incarnation ∙ kept.swaps }
  end_to (Busy number) is ends = (refusal number is).0 ends
  end_to (Replied reply) is ends = absurd ends
  end_to (Abandoned number) is ends = absurd ends

  end_from : (answer : Answer Reply) → line.answer ≡ answer → EndsSwap answer → IsLegalAnswer kind before (told line) after answer → EndsAs object refusable line.incarnation answer
  end_from (Swapped number) is form legal = record {
    next = legal.next ∙ ap (λ (n : ℕ). n + 1) (sym kept.swaps);
    alive = ends_same ∙ legal.alive;
    unspent = omega (arith, legal.unspent, kept.swaps);
    incarnation = legal.incarnation ∙ sym kept.swaps;
  }
  end_from Spent is form legal = record {
    alive = ends_same ∙ legal.alive;
    spent = kept.swaps ∙ legal.spent;
    incarnation = legal.incarnation ∙ sym kept.swaps;
  }
  end_from Gone is form legal = record { dead = ends_same ∙ legal.dead; incarnation = legal.incarnation ∙ sym kept.swaps }
  end_from (Busy number) is form legal = (refusal number is).1 legal
  end_from (Replied reply) is form legal = absurd legal
  end_from (Abandoned number) is form legal = absurd form

  act_to : (act : Act Op) → IsActOn kind act → Tells object refusable line act → IsLegalAct kind before (told line) after act
  act_to (Call op) on says = record {
    own_kind = on.0;
    replied = says.replied ∙ ap Replied (replies_same op);
    incarnation = says.incarnation ∙ kept.swaps;
  }
  act_to (Swap to) on says = end_to line.answer refl says

  act_from : (act : Act Op) → Ends act line.answer → IsLegalAct kind before (told line) after act → Tells object refusable line act
  act_from (Call op) form legal = record {
    replied = legal.replied ∙ ap Replied (sym (replies_same op));
    incarnation = legal.incarnation ∙ sym kept.swaps;
  }
  act_from (Swap to) form legal = end_from line.answer refl form legal

-- what the object says is legal, and what is legal the object says
pub legal_decided : (kinds : List KindName) (before : List RecordLine) (line : RecordLine) (after : List RecordLine) (objects : List Object) (object : Object) (refusable legal : Bool) → AreKept kinds before objects → slice_get objects line.object ≡ Some object → HasLegalForm kinds line
    → ((number : ℕ) → line.answer ≡ Busy number → Decides refusable (IsLegalRefusal (map told before) (told line) (map told after) number))
    → Decides legal (Tells object refusable line line.act) → Decides legal (IsLegalAmong kinds (map told before) (told line) (map told after))
legal_decided kinds before line after objects object refusable legal all found form refusal decides =
    let kept = all.each line.object form.kind object form.declared found in (
      λ yes. record {
        kind = form.kind;
        declared = form.declared;
        legal = act_to form.kind (map told before) line (map told after) object refusable kept refusal line.act form.asked (decides.0 yes);
      },
      λ among. decides.1 (act_from form.kind (map told before) line (map told after) object refusable kept refusal line.act form.answered (legal_at_kind kinds form.kind (map told before) (told line) (map told after) form.declared among)),
    )

counted_on : (b : Bool) (number : ℕ) → cond b (number + 1) number ≡ number + cond b 1 0
counted_on true number = refl
counted_on false number = omega arith

-- the object that answered is as the longer history says
kept_here : (kind : KindName) (before : List (Entry Op Reply)) (line : RecordLine) (object : Object) → IsKept kind line.object before object → IsKept kind line.object (before ++ told line ∷ []) (object_after object line.act line.answer)
kept_here kind before line object kept = record {
  kind = kept.kind;
  state = ap₂ (λ (k : KindName) (state : WatchState AnyState). state_after_act k state line.act line.answer) kept.kind kept.state ∙ sym (state_of-push kind line.object before (told line) ∙ rw (eq-eqb line.object line.object refl) refl);
  swaps = counted_on (is_carried_out line.answer) object.number ∙ sym (number_of-push line.object before (told line) ∙ rw (eq-eqb line.object line.object refl, ← kept.swaps) refl);
}

-- another object stays as it was
kept_there : (kind : KindName) (before : List (Entry Op Reply)) (number : ℕ) (other : Object) (entry : Entry Op Reply) → entry.object ≢ number → IsKept kind number before other → IsKept kind number (before ++ entry ∷ []) other
kept_there kind before number other entry apart kept = record {
  kind = kept.kind;
  state = kept.state ∙ sym (state_of-push kind number before entry ∙ rw (ne_eqb entry.object number apart) refl);
  swaps = kept.swaps ∙ sym (number_of-push number before entry ∙ rw (ne_eqb entry.object number apart) (add-zero (number_of number before)));
}

kept_either : (kinds : List KindName) (before : List RecordLine) (line : RecordLine) (objects : List Object) (object found : Object) (number : ℕ) (kind : KindName) → AreKept kinds before objects → slice_get objects line.object ≡ Some object → slice_get kinds number ≡ Some kind
    → ((number ≡ line.object) × (object_after object line.act line.answer ≡ found)) ⊎ ((number ≢ line.object) × (slice_get objects number ≡ Some found)) → IsKept kind number (map told before ++ told line ∷ []) found
kept_either kinds before line objects object found number kind all there declared (inl here) =
    subst (λ (n : ℕ). IsKept kind n (map told before ++ told line ∷ []) found) (sym here.0)
    (subst (λ (x : Object). IsKept kind line.object (map told before ++ told line ∷ []) x) here.1
    (kept_here kind (map told before) line object (all.each line.object kind object (ap (slice_get kinds) (sym here.0) ∙ declared) there)))
kept_either kinds before line objects object found number kind all there declared (inr apart) =
    kept_there kind (map told before) number found (told line) (λ same. apart.0 (sym same)) (all.each number kind found declared apart.1)

-- one more line that an object has done
pub kept_more : (kinds : List KindName) (before : List RecordLine) (line : RecordLine) (objects : List Object) (object : Object) → AreKept kinds before objects → slice_get objects line.object ≡ Some object → AreKept kinds (before ++ line ∷ []) (set objects line.object (object_after object line.act line.answer))
kept_more kinds before line objects object all there = record {
  size = length-set objects line.object (object_after object line.act line.answer) ∙ all.size;
  each = λ number kind found declared standing. rw (map-append told before (line ∷ []))
      (kept_either kinds before line objects object found number kind all there declared (at_set objects line.object number (object_after object line.act line.answer) found standing));
}

-- what may be asked of an object of its kind, the object can take
pub can_take : (object : Object) (kind : KindName) (act : Act Op) → object.plain.kind ≡ kind → IsActOn kind act → CanTake object act
can_take object kind (Call op) same on = rw same on.0
can_take object kind (Swap to) same on = tt
