-- The entries of an object's rows: their order, and the histories in which they stand.
use Rattle.std.proofs.Common.{◌≡◌, ℕ, ◌<◌, ◌≤◌, List, [], ◌∷◌, ◌++◌, append_assoc, length, inl, inr, ⊎_elim, arith}
use Rattle.std.specs.List.{AllByRecursion}
use Rattle.std.proofs.lemmas.Bool.Decides.{eqb_tells}
use Rattle.k42_kinds.specs.declared.entry.Entry.{Entry}
use Rattle.k42_stamp.specs.Orders.{IsBefore, Ordered, In}
use Rattle.k42_stamp.specs.Layouts.{Layouts}
use Rattle.k42_stamp.specs.Parts.{reach_of, touches, those_at}
use Rattle.k42_stamp.specs.Chains.{Row, Turn, Chain, first_of, past_entries, entries_of}
use Rattle.k42_stamp.specs.Fits.{IsEntryOf, IsBegun, IsAbove, IsRow, ArePast, Leaves, PastLeaves, Fits}
use Rattle.k42_stamp.specs.Laws.{AreLaws}
use Rattle.k42_stamp.specs.Lists.{InRows}
use Rattle.k42_stamp.proofs.Elements.{all_weaker, all_append, all_at, in_left, in_right, in-append, in-filter, in-from_filter}
use Rattle.k42_stamp.proofs.Ordering.{Ordered-append}
use Rattle.k42_stamp.proofs.Needed.{needed, entry_within}

-- the stamp is at most that of the entry with which the row after these begins
abbrev IsBelowTurn : {L P O R : Type 0} → List (Turn L P O R) → Entry O R → Type 0
IsBelowTurn [] e = ⊥
IsBelowTurn (turn ∷ past) e = e.stamp ≤ turn.done.stamp

below_above : {L P O R : Type 0} (past : List (Turn L P O R)) (e f : Entry O R) → IsBelowTurn past e → IsAbove past f → IsBefore e f
below_above [] e f low high = absurd low
below_above (turn ∷ past) e f low high = inl (omega arith)

below_next : {L P O R : Type 0} (past : List (Turn L P O R)) (turn : Turn L P O R) (e : Entry O R) → IsAbove past turn.done → IsBelowTurn past e → e.stamp ≤ turn.done.stamp
below_next [] turn e higher low = absurd low
below_next (last ∷ past) turn e higher low = omega arith

-- entries of a row stand behind those of the rows before
Ordered-above : {L P O R : Type 0} (past : List (Turn L P O R)) (xs ys : List (Entry O R)) → Ordered IsBefore xs → Ordered IsBefore ys → AllByRecursion (IsBelowTurn past) xs → AllByRecursion (IsAbove past) ys → Ordered IsBefore (xs ++ ys)
Ordered-above past xs ys o p low high = Ordered-append IsBefore xs ys o p (all_weaker (IsBelowTurn past) (λ x. AllByRecursion (IsBefore x) ys) (λ x l. all_weaker (IsAbove past) (IsBefore x) (λ y h. below_above past x y l h) ys high) xs low)

module _ {S L P O R : Type 0} (F : Layouts S L P O R) (declared : L) (o : ℕ) where
  past_below : (past : List (Turn L P O R)) → ArePast F declared o past → AllByRecursion (IsBelowTurn past) (past_entries past)
  past_below [] turns = tt
  past_below (turn ∷ past) turns =
      all_append (IsBelowTurn (turn ∷ past)) (past_entries past) (turn.row.entries ++ turn.done ∷ [])
      (all_weaker (IsBelowTurn past) (IsBelowTurn (turn ∷ past)) (λ e low. below_next past turn e turns.0.higher low) (past_entries past) (past_below past turns.1))
      (all_append (IsBelowTurn (turn ∷ past)) turn.row.entries (turn.done ∷ []) (all_weaker (λ e. e.stamp < turn.done.stamp) (IsBelowTurn (turn ∷ past)) (λ e lt. omega arith) turn.row.entries turns.0.last) (omega arith, tt))

  past_ordered : (past : List (Turn L P O R)) → ArePast F declared o past → Ordered IsBefore (past_entries past)
  past_ordered [] turns = tt
  past_ordered (turn ∷ past) turns =
      Ordered-above past (past_entries past) (turn.row.entries ++ turn.done ∷ []) (past_ordered past turns.1)
      (Ordered-append IsBefore turn.row.entries (turn.done ∷ []) turns.0.row.ordered (tt, tt) (all_weaker (λ e. e.stamp < turn.done.stamp) (λ e. AllByRecursion (IsBefore e) (turn.done ∷ [])) (λ e lt. (inl lt, tt)) turn.row.entries turns.0.last))
      (past_below past turns.1)
      (all_append (IsAbove past) turn.row.entries (turn.done ∷ []) turns.0.row.above (turns.0.higher, tt))

  pub chain_ordered : (histories : ℕ → ℕ → List (Entry O R)) (chain : Chain L P O R) → Fits F declared o histories chain → Ordered IsBefore (entries_of chain)
  chain_ordered histories chain fits = Ordered-above chain.past (past_entries chain.past) chain.row.entries (past_ordered chain.past fits.past) fits.row.ordered (past_below chain.past fits.past) fits.row.above

  -- each entry is of the object
  own_objects : (past : List (Turn L P O R)) (row : Row L P O R) → IsRow F declared o past row → AllByRecursion (λ e. e.object ≡ o) row.entries
  own_objects past row is = all_weaker (IsEntryOf F row.layout o (length past)) (λ e. e.object ≡ o) (λ e own. own.object) row.entries is.own

  past_objects : (past : List (Turn L P O R)) → ArePast F declared o past → (layout : L) → IsBegun F declared o past layout → AllByRecursion (λ e. e.object ≡ o) (past_entries past)
  past_objects [] turns layout begun = tt
  past_objects (turn ∷ past) turns layout begun =
      all_append (λ e. e.object ≡ o) (past_entries past) (turn.row.entries ++ turn.done ∷ []) (past_objects past turns.1 turn.row.layout turns.0.row.begun)
      (all_append (λ e. e.object ≡ o) turn.row.entries (turn.done ∷ []) (own_objects past turn.row turns.0.row) (begun.object, tt))

  pub chain_objects : (histories : ℕ → ℕ → List (Entry O R)) (chain : Chain L P O R) → Fits F declared o histories chain → AllByRecursion (λ e. e.object ≡ o) (entries_of chain)
  chain_objects histories chain fits = all_append (λ e. e.object ≡ o) (past_entries chain.past) chain.row.entries (past_objects chain.past fits.past chain.row.layout fits.row.begun) (own_objects chain.past chain.row fits.row)

  -- what stands in a history of a row is an entry of the row, or the one with which it began
  module _ (histories : ℕ → ℕ → List (Entry O R)) where
    first_in : (past : List (Turn L P O R)) (e : Entry O R) → In e (first_of past) → In e (past_entries past)
    first_in [] e i = i
    first_in (turn ∷ past) e i = in_right e (past_entries past) (turn.row.entries ++ turn.done ∷ []) (in_right e turn.row.entries (turn.done ∷ []) i)

    left_in : (past : List (Turn L P O R)) (row : Row L P O R) (c : ℕ) (e : Entry O R) → c < F.procs → Leaves F (histories (length past)) past row → In e (histories (length past) c) → In e (past_entries past ++ row.entries)
    left_in past row c e lt left i =
        ⊎_elim {C = In e (past_entries past ++ row.entries)}
        (λ (t : In e (first_of past)). in_left e (past_entries past) row.entries (first_in past e t))
        (λ (t : In e (those_at F row.layout c row.entries)). in_right e (past_entries past) row.entries (in-from_filter (λ f. touches (reach_of F row.layout f) c) e row.entries t).0)
        (in-append e (first_of past) (those_at F row.layout c row.entries) (rw (left c lt) at i))

    past_in : (past : List (Turn L P O R)) (number c : ℕ) (e : Entry O R) → number < length past → c < F.procs → PastLeaves F histories past → In e (histories number c) → In e (past_entries past)
    past_in [] number c e lt inside left i = absurd (omega arith)
    past_in (turn ∷ past) number c e lt inside left i = elim (eqb_tells number (length past)) [
      | inl same ↦ rw (append_assoc (past_entries past) turn.row.entries (turn.done ∷ [])) at (in_left e (past_entries past ++ turn.row.entries) (turn.done ∷ []) (left_in past turn.row c e inside left.0 (rw same.1 at i)))
      | inr other ↦ in_left e (past_entries past) (turn.row.entries ++ turn.done ∷ []) (past_in past number c e (let no = other.1 in omega arith) inside left.1 i)
    ]

    pub rows_in_chain : (chain : Chain L P O R) (e : Entry O R) → Fits F declared o histories chain → InRows F.procs (length chain.past) histories e → In e (entries_of chain)
    rows_in_chain chain e fits rows = elim (eqb_tells rows.0 (length chain.past)) [
      | inl same ↦ left_in chain.past chain.row rows.1 e rows.3 fits.left (rw same.1 at rows.4)
      | inr other ↦ in_left e (past_entries chain.past) chain.row.entries (past_in chain.past rows.0 rows.1 e (let le = rows.2 in let no = other.1 in omega arith) rows.3 fits.past_left rows.4)
    ]

    -- and each entry stands in a history
    row_in_rows : (laws : AreLaws F) (past : List (Turn L P O R)) (row : Row L P O R) (last : ℕ) (e : Entry O R) → length past ≤ last → IsRow F declared o past row → Leaves F (histories (length past)) past row → In e row.entries → InRows F.procs last histories e
    row_in_rows laws past row last e le is left i =
        let c = needed F.procs (reach_of F row.layout e) (entry_within F laws row.layout is.known o (length past) e (all_at (IsEntryOf F row.layout o (length past)) row.entries e is.own i)) in
        (length past, c.0, le, c.1, rw (left c.0 c.1) (in_right e (first_of past) (those_at F row.layout c.0 row.entries) (in-filter (λ f. touches (reach_of F row.layout f) c.0) e row.entries i c.2)))

    first_in_rows : (laws : AreLaws F) (past : List (Turn L P O R)) (row : Row L P O R) (last : ℕ) (e : Entry O R) → length past ≤ last → Leaves F (histories (length past)) past row → In e (first_of past) → InRows F.procs last histories e
    first_in_rows laws past row last e le left i = (length past, 0, le, laws.some, rw (left 0 laws.some) (in_left e (first_of past) (those_at F row.layout 0 row.entries) i))

    past_in_rows : (laws : AreLaws F) (past : List (Turn L P O R)) (row : Row L P O R) (last : ℕ) (e : Entry O R) → length past ≤ last → ArePast F declared o past → PastLeaves F histories past → Leaves F (histories (length past)) past row → In e (past_entries past) → InRows F.procs last histories e
    past_in_rows laws [] row last e le turns before left i = absurd i
    past_in_rows laws (turn ∷ past) row last e le turns before left i =
        let C = InRows F.procs last histories e in
        ⊎_elim {C = C}
        (λ (t : In e (past_entries past)). past_in_rows laws past turn.row last e (omega arith) turns.1 before.1 before.0 t)
        (λ (t : In e (turn.row.entries ++ turn.done ∷ [])). ⊎_elim {C = C}
        (λ (u : In e turn.row.entries). row_in_rows laws past turn.row last e (omega arith) turns.0.row before.0 u)
        (λ (u : In e (turn.done ∷ [])). first_in_rows laws (turn ∷ past) row last e le left u)
        (in-append e turn.row.entries (turn.done ∷ []) t))
        (in-append e (past_entries past) (turn.row.entries ++ turn.done ∷ []) i)

    pub chain_in_rows : (laws : AreLaws F) (chain : Chain L P O R) (e : Entry O R) → Fits F declared o histories chain → In e (entries_of chain) → InRows F.procs (length chain.past) histories e
    chain_in_rows laws chain e fits i =
        ⊎_elim {C = InRows F.procs (length chain.past) histories e}
        (λ (t : In e (past_entries chain.past)). past_in_rows laws chain.past chain.row (length chain.past) e (omega arith) fits.past fits.past_left fits.left t)
        (λ (t : In e chain.row.entries). row_in_rows laws chain.past chain.row (length chain.past) e (omega arith) fits.row fits.left t)
        (in-append e (past_entries chain.past) chain.row.entries i)
