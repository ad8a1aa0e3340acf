-- What one more entry at the end of a history changes.
use Rattle.std.proofs.Common.{◌≡◌, ◌≢◌, ℕ, ◌+◌, cond, List, [], ◌∷◌, ◌++◌, length, ap, ◌∙◌, arith}
use Rattle.std.proofs.lemmas.Bool.{eq-eqb, ne_eqb}
use Rattle.std.proofs.lemmas.List.{append-nil, map-append}
use Rattle.std.proofs.lemmas.List.Elements.{filter-append}
use Rattle.std.proofs.lemmas.List.Sums.{fold-append, sum_by-append}
use Rattle.k42_kinds.specs.declared.operation.KindName.{KindName}
use Rattle.k42_kinds.specs.declared.operation.Op.{Op}
use Rattle.k42_kinds.specs.declared.operation.Reply.{Reply}
use Rattle.k42_kinds.specs.declared.entry.Entry.{Entry}
use Rattle.k42_kinds.specs.Histories.{state_of, moved_by, state_in, state_moved_by, number_of, is_carried_out_on, entries_of, unstamped, IsInOrder}
use Rattle.k42_kinds.specs.OneThread.{OneThread}
use Rattle.k42_kinds.specs.Watched.{watched_object}
use Rattle.k42_kinds.proofs.Splits.{each_split-push}

pub state_in-push : {S O R : Type 0} (object : OneThread S O R) (number : ℕ) (history : List (Entry O R)) (last : Entry O R)
    → state_in object number (history ++ last ∷ []) ≡ state_moved_by object number (state_in object number history) last
state_in-push object number history last = fold-append (state_moved_by object number) object.start history (last ∷ [])

pub state_of-push : (kind : KindName) (object : ℕ) (history : List (Entry Op Reply)) (last : Entry Op Reply)
    → state_of kind object (history ++ last ∷ []) ≡ moved_by kind object (state_of kind object history) last
state_of-push kind object history last = state_in-push (watched_object kind) object history last

pub number_of-push : {O R : Type 0} (object : ℕ) (history : List (Entry O R)) (last : Entry O R)
    → number_of object (history ++ last ∷ []) ≡ number_of object history + cond (is_carried_out_on object last) 1 0
number_of-push object history last = omega (arith, sum_by-append (λ entry. cond (is_carried_out_on object entry) 1 0) history (last ∷ []))

entries_of_one : {O R : Type 0} (caller : ℕ) (last : Entry O R) → last.caller ≡ caller → entries_of caller (last ∷ []) ≡ last ∷ []
entries_of_one caller last own = rw (eq-eqb last.caller caller own)

entries_of_none : {O R : Type 0} (caller : ℕ) (last : Entry O R) → last.caller ≢ caller → entries_of caller (last ∷ []) ≡ []
entries_of_none caller last other = rw (ne_eqb last.caller caller other)

pub entries_of-push_own : {O R : Type 0} (caller : ℕ) (history : List (Entry O R)) (last : Entry O R)
    → last.caller ≡ caller → entries_of caller (history ++ last ∷ []) ≡ entries_of caller history ++ last ∷ []
entries_of-push_own caller history last own = filter-append _ history (last ∷ []) ∙ ap (λ ends. entries_of caller history ++ ends) (entries_of_one caller last own)

pub entries_of-push_other : {O R : Type 0} (caller : ℕ) (history : List (Entry O R)) (last : Entry O R) → last.caller ≢ caller → entries_of caller (history ++ last ∷ []) ≡ entries_of caller history
entries_of-push_other caller history last other = filter-append _ history (last ∷ []) ∙ rw (entries_of_none caller last other) (append-nil (entries_of caller history))

-- the caller's next entry stands in order behind the others
pub in_order-push_own : {O R : Type 0} (history : List (Entry O R)) (caller : ℕ) (list : List (Entry O R)) (last next : Entry O R)
    → IsInOrder history caller list → last.caller ≡ caller → unstamped last ≡ unstamped next → next.index ≡ length list
    → IsInOrder (history ++ last ∷ []) caller (list ++ next ∷ [])
in_order-push_own history caller list last next order own alike counted = record {
  same = rw (entries_of-push_own caller history last own, map-append unstamped (entries_of caller history) (last ∷ []), map-append unstamped list (next ∷ []), order.same, alike);
  counted = each_split-push (λ before entry after. entry.index ≡ length before) list next order.counted counted;
}

-- another caller's entry leaves the order
pub in_order-push_other : {O R : Type 0} (history : List (Entry O R)) (caller : ℕ) (list : List (Entry O R)) (last : Entry O R)
    → IsInOrder history caller list → last.caller ≢ caller → IsInOrder (history ++ last ∷ []) caller list
in_order-push_other history caller list last order other = record {
  same = rw (entries_of-push_other caller history last other) order.same;
  counted = order.counted;
}
