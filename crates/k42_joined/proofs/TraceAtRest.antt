-- In a state at rest what all callers drew is one legal history.
use Rattle.std.proofs.Common.{◌≡◌, ℕ, suc, ◌+◌, ◌<◌, ◌∙◌, Bool, true, false, ◌==◌, cond, eqb, List, [], ◌∷◌, ◌++◌, length, map, refl, sym, ap, subst, inl, arith}
use Rattle.std.specs.List.{slice_get, AllByRecursion}
use Rattle.std.specs.Prelude.{Some}
use Rattle.std.proofs.lemmas.Bool.{eqb-true, eq-eqb}
use Rattle.std.proofs.lemmas.Option.{same_Some, slice_get-get_or}
use Rattle.k42_kinds.specs.Histories.{AtEachPlace, entries_of, unstamped}
use Rattle.k42_kinds.specs.Legal.{IsLegalAnswerOf, IsLegalActOf, IsAnswerSoFar, IsActSoFar, IsLegalAmongObjects}
use Rattle.k42_kinds.specs.OneThread.{OneThread}
use Rattle.k42_kinds.specs.declared.entry.Act.{Act}
use Rattle.k42_kinds.specs.declared.entry.Act.TheVariants.{Call, Swap}
use Rattle.k42_kinds.specs.declared.entry.Answer.{Answer}
use Rattle.k42_kinds.specs.declared.entry.Answer.TheVariants.{Replied, Swapped, Busy, Spent, Gone, Abandoned}
use Rattle.k42_kinds.specs.declared.entry.Entry.{Entry}
use Rattle.turn_core.specs.Sound as turns
use Rattle.turn_core.specs.Sound.{drawn_by, IsRising}
use Rattle.turn_core.specs.State.{caller_at, fresh_caller}
use Rattle.turn_core.proofs.Reached.{lists-rise}
use Rattle.k42_stamp.specs.Laws.{AreLaws}
use Rattle.k42_stamp.specs.Layouts.{Layouts}
use Rattle.k42_stamp.specs.Lists.{numbered_from, IsTrace, IsMerged, AreLegal, is_answer_drawn, is_drawn}
use Rattle.k42_stamp.specs.Orders.{IsBefore, Ordered, In}
use Rattle.k42_stamp.proofs.Elements.{in-filter, in-from_filter, in_right}
use Rattle.k42_stamp.proofs.Ordering.{Ordered-filter, same_entries}
use Rattle.k42_joined.specs.Plain.{Joined}
use Rattle.k42_joined.specs.Fitting.{lists_of}
use Rattle.k42_joined.specs.Rest.{IsAtRest, IsHistoryOf}
use Rattle.k42_joined.specs.Sound.{IsSound}
use Rattle.k42_joined.specs.State.{many_callers, many_objects, mine}
use Rattle.k42_joined.proofs.AnswersTrace.{IsLegallyHeldUp, numbered_cut, held_up_legal}
use Rattle.k42_joined.proofs.RowsCalls.{some_at}
use Rattle.k42_joined.proofs.RowsCells.{list_here}
use Rattle.k42_joined.proofs.RowsStamps.{in_own, own_caller}
use Rattle.k42_joined.proofs.Trace.{trace_legal}

-- each numbered entry has its place as stamp
numbered_places : {O R : Type 0} (first : ℕ) (es before : List (Entry O R)) (e : Entry O R) (after : List (Entry O R)) → numbered_from first es ≡ before ++ e ∷ after
    → e.stamp ≡ length before + first
numbered_places first [] [] e after cut = absurd (cc)
numbered_places first [] (b ∷ before) e after cut = absurd (cc)
numbered_places {O} {R} first (x ∷ es) [] e after cut =
    let head : record x { stamp = first } ≡ e = cc in let stamp = ap (λ (y : Entry O R). y.stamp) head in omega (arith, stamp)
numbered_places first (x ∷ es) (b ∷ before) e after cut =
    let tail : numbered_from (suc first) es ≡ before ++ e ∷ after = cc in
    let rest = numbered_places (suc first) es before e after tail in
    omega (arith, rest)

-- what is legal so far, and what is held up lawfully, is legal
legal_answer : {S O R : Type 0} (one : OneThread S O R) (before : List (Entry O R)) (e : Entry O R) (after : List (Entry O R)) (answer : Answer R) → e.answer ≡ answer
    → (is_answer_drawn answer ≡ true → IsAnswerSoFar one before e answer) → IsLegallyHeldUp before e after
    → IsLegalAnswerOf one before e after answer
legal_answer one before e after (Swapped number) is so_far held = so_far refl
legal_answer one before e after Spent is so_far held = so_far refl
legal_answer one before e after Gone is so_far held = so_far refl
legal_answer one before e after (Busy number) is so_far held = held.0 number is
legal_answer one before e after (Abandoned number) is so_far held = held.1 number is
legal_answer one before e after (Replied reply) is so_far held = so_far refl

legal_act : {S O R : Type 0} (one : OneThread S O R) (before : List (Entry O R)) (e : Entry O R) (after : List (Entry O R)) (act : Act O)
    → (is_drawn act e.answer ≡ true → IsActSoFar one before e act) → IsLegallyHeldUp before e after
    → IsLegalActOf one before e after act
legal_act one before e after (Call op) so_far held = so_far refl
legal_act one before e after (Swap to) so_far held = legal_answer one before e after e.answer refl so_far held

-- the lists of numbered entries of one caller
unstamped_numbered : {O R : Type 0} (first c : ℕ) (es : List (Entry O R)) → map unstamped (entries_of c (numbered_from first es)) ≡ map unstamped (entries_of c es)
unstamped_numbered first c [] = refl
unstamped_numbered first c (e ∷ es) = by_test (eqb e.caller c) (unstamped_numbered (suc first) c es) where
  by_test : (b : Bool) → map unstamped (entries_of c (numbered_from (suc first) es)) ≡ map unstamped (entries_of c es)
      → map unstamped (cond b (record e { stamp = first } ∷ entries_of c (numbered_from (suc first) es)) (entries_of c (numbered_from (suc first) es)))
      ≡ map unstamped (cond b (e ∷ entries_of c es) (entries_of c es))
  by_test true rest = ap (λ xs. unstamped e ∷ xs) rest
  by_test false rest = rest

-- rising stamps are an order
rising_ordered : {O R : Type 0} (es : List (Entry O R)) → IsRising es → Ordered IsBefore es
rising_ordered [] rising = tt
rising_ordered {O} {R} (e ∷ es) rising = (
  all_above es (λ i f at. inl (rising 0 (suc i) e f (omega arith) refl at)),
  rising_ordered es (λ i j f g less at at'. rising (suc i) (suc j) f g (omega (arith, less)) at at'),
) where
  all_above : (fs : List (Entry O R)) → ((i : ℕ) (f : Entry O R) → slice_get fs i ≡ Some f → IsBefore e f) → AllByRecursion (IsBefore e) fs
  all_above [] each = tt
  all_above (f ∷ fs) each = (each 0 f refl, all_above fs (λ i g at. each (suc i) g at))

module _ {S L P O R : Type 0} (F : Layouts S L P O R) (laws : AreLaws F) (declared : List L) (s : Joined L O R) (sound : IsSound F declared s)
    (rest : IsAtRest s) (trace : List (Entry O R)) (is : IsTrace (lists_of s) trace) where
  turns_sound : turns.IsSound s.turns
  turns_sound = sound.cells.turns

  -- each entry of the trace is of an object that is there
  in_mine : (f : Entry O R) → In f trace → (f.caller < many_callers s) × In f (mine s f.caller)
  in_mine f has =
      let own = in_own s.turns turns_sound f (is.only f has) in
      (rw (← sound.cells.locks.many.callers) own.0, own.1)

  legal_at : AtEachPlace (IsLegalAmongObjects F.object_of declared) (numbered_from 1 trace)
  legal_at before e after cut =
      let at = numbered_cut 1 trace before e after cut in
      let own = in_mine at.here (subst (λ (es : List (Entry O R)). In at.here es) (sym at.cut) (in_right at.here at.front (at.here ∷ at.back) (inl refl))) in
      let named : e.object < many_objects s =
      subst (λ (f : Entry O R). f.object < many_objects s) (sym at.here_is) ((sound.answers at.here.caller own.0).each at.here own.1).there in
      let layout = some_at declared e.object (rw sound.cells.rows.objects named) in
      record {
        kind = layout.0;
        declared = layout.1;
        legal = legal_act (F.object_of layout.0) before e after e.act
            (λ pass. let so_far = drawn_legal before e after cut pass in
            let same : so_far.kind ≡ layout.0 = same_Some so_far.kind layout.0 (sym so_far.declared ∙ layout.1) in
            subst (λ k. IsActSoFar (F.object_of k) before e e.act) same so_far.legal)
            (held_up_legal s sound.cells.locks.many turns_sound sound.answers trace is rest before e after cut);
      }
    where
      drawn_legal : AreLegal F declared is_drawn (numbered_from 1 trace)
      drawn_legal = trace_legal F laws declared s sound.cells.rows (numbered_from 1 trace) (record { trace = trace; just = is; numbered = refl })

  own_of : (c : ℕ) → c < many_callers s → entries_of c trace ≡ mine s c
  own_of c there =
      same_entries (entries_of c trace) (mine s c) (Ordered-filter IsBefore (λ f. f.caller == c) trace is.ordered)
      (rising_ordered (mine s c) (lists-rise s.turns c turns_sound))
      (λ f has. let parts = in-from_filter (λ (g : Entry O R). g.caller == c) f trace has in
      subst (λ d. In f (mine s d)) (eqb-true f.caller c parts.1) (in_mine f parts.0).1)
      (λ f has.
      let within : c < length s.turns.callers = rw sound.cells.locks.many.callers there in
      in-filter (λ (g : Entry O R). g.caller == c) f trace
      (is.all f (record { place = c; list = mine s c; there = list_here s c within; has = has }))
      (eq-eqb f.caller c (own_caller s.turns turns_sound c f within has)))

  counted : (c : ℕ) → c < many_callers s → AtEachPlace (λ before e after. e.index ≡ length before) (mine s c)
  counted c there before e after cut =
      let within : c < length s.turns.callers = rw sound.cells.locks.many.callers there in
      let at : slice_get (mine s c) (length before) ≡ Some e = ap (λ es. slice_get es (length before)) cut ∙ at_split before e after in
      ((turns_sound.callers c (caller_at s.turns c) (slice_get-get_or s.turns.callers c fresh_caller within)).own (length before) e at).index
    where
      at_split : (before : List (Entry O R)) (e : Entry O R) (after : List (Entry O R)) → slice_get (before ++ e ∷ after) (length before) ≡ Some e
      at_split [] e after = refl
      at_split (b ∷ before) e after = at_split before e after

  numbered_history : IsHistoryOf F declared s (numbered_from 1 trace)
  numbered_history = record {
    legal = record { numbered = λ before e after cut. numbered_places 1 trace before e after cut; legal = legal_at };
    in_order = λ c there. record {
      same = unstamped_numbered 1 c trace ∙ ap (map unstamped) (own_of c there);
      counted = counted c there;
    };
  }

pub merged_history : {S L P O R : Type 0} (F : Layouts S L P O R) → AreLaws F → (declared : List L) (s : Joined L O R) → IsSound F declared s → IsAtRest s
    → (merged : List (Entry O R)) → IsMerged (lists_of s) merged → IsHistoryOf F declared s merged
merged_history F laws declared s sound rest merged is =
    subst (IsHistoryOf F declared s) (sym is.numbered) (numbered_history F laws declared s sound rest is.trace is.just)
