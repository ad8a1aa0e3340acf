-- The stamp of a drawn entry is above that of each entry that its caller has seen.
use Rattle.std.proofs.Common.{◌≡◌, ◌≢◌, ℕ, zero, suc, ◌<◌, ◌≤◌, ◌⊎◌, false, List, [], ◌∷◌, ◌++◌, length, refl, ap, subst, ⊎_elim, arith}
use Rattle.std.specs.List.{slice_get}
use Rattle.std.specs.Prelude.{Some}
use Rattle.k42_kinds.specs.declared.entry.Answer.TheVariants.{Swapped}
use Rattle.k42_kinds.specs.declared.entry.Entry.{Entry}
use Rattle.k42_kinds.specs.Histories.{is_call}
use Rattle.std.proofs.lemmas.Bool.{cases_eq}
use Rattle.std.proofs.lemmas.Option.{same_Some}
use Rattle.turn_core.specs.Sound.{IsRising}
use Rattle.turn_core.specs.declared.event.TurnEvent.TheVariants.{Draw, Alone}
use Rattle.turn_core.proofs.Drawing.{IsNext, next_parts}
use Rattle.turn_core.proofs.Reached.{histories-rise}
use Rattle.k42_stamp.specs.Laws.{AreLaws}
use Rattle.k42_stamp.specs.Layouts.{Layouts}
use Rattle.k42_stamp.specs.Chains.{Row, Turn, first_of, past_entries}
use Rattle.k42_stamp.specs.Fits.{IsAbove, IsRow, IsTurn, ArePast, Leaves, PastLeaves}
use Rattle.k42_stamp.specs.Orders.{In}
use Rattle.k42_stamp.specs.Parts.{reach_of, touches, those_at}
use Rattle.k42_stamp.proofs.Elements.{all_at, in-append, in-from_filter}
use Rattle.k42_joined.specs.Plain.{Joined}
use Rattle.k42_joined.specs.Event.{Event, AtPhases, AtCells, HandWith, caller_of}
use Rattle.k42_joined.specs.Possible.{IsPossible}
use Rattle.k42_joined.specs.Rows.{history_in}
use Rattle.k42_joined.specs.Seen.{StoodBefore, WasHanded, HasSeen, StandsAt, Drawn, drawn_by}
use Rattle.k42_joined.specs.Sound.{IsSound}
use Rattle.k42_joined.specs.State.{many_callers, mine}
use Rattle.k42_joined.proofs.AnswersRows.{rows_at, no_call, not_in_row, same_swap, entry_in_chain}
use Rattle.k42_joined.proofs.LocksHand.{core_hand}
use Rattle.k42_joined.proofs.RowsDraw.{core_draw}
use Rattle.k42_joined.proofs.RowsStamps.{in_place, above_own, above_cell}

-- what stands before an element stands at a lower place
before_place : {O R : Type 0} (before : List (Entry O R)) (own : Entry O R) (after : List (Entry O R)) → slice_get (before ++ own ∷ after) (length before) ≡ Some own
before_place [] own after = refl
before_place (b ∷ before) own after = before_place before own after

front_place : {O R : Type 0} (before rest : List (Entry O R)) (i : ℕ) (f : Entry O R) → slice_get before i ≡ Some f → (i < length before) × (slice_get (before ++ rest) i ≡ Some f)
front_place [] rest i f at = absurd (cc)
front_place (b ∷ before) rest zero f at = (omega arith, at)
front_place (b ∷ before) rest (suc i) f at = let more = front_place before rest i f at in let lt = more.0 in (omega (arith, lt), more.1)

split_below : {O R : Type 0} (before : List (Entry O R)) (own : Entry O R) (after : List (Entry O R)) (f : Entry O R) → IsRising (before ++ own ∷ after) → In f before → f.stamp < own.stamp
split_below before own after f rising is =
    let placed = in_place f before is in
    let there = front_place before (own ∷ after) placed.place f placed.at in
    rising placed.place (length before) f own there.0 there.1 (before_place before own after)

module _ {S L P O R : Type 0} (F : Layouts S L P O R) (laws : AreLaws F) (declared : List L) (s : Joined L O R) (sound : IsSound F declared s) (c : ℕ)
    (there : c < many_callers s) where
  -- what stood before an own entry is below it
  pub stood_below : (f : Entry O R) → (is : StoodBefore s c f) → f.stamp < is.own.stamp
  stood_below f is =
      split_below is.before is.own is.after f
      (subst IsRising is.split (histories-rise s.turns is.number is.life is.history sound.cells.turns is.there)) is.stood

  -- what stood in the rows before the one that an own swap began is below it

  module _ (o : ℕ) (declaration : L) where
    last_below : (turn : Turn L P O R) (past : List (Turn L P O R)) → IsTurn F declaration o past turn → Leaves F (history_in s o (length past)) past turn.row
        → (p : ℕ) (f : Entry O R) → p < F.procs → In f (history_in s o (length past) p) → f.stamp < turn.done.stamp
    last_below turn past is left p f lt inside =
        ⊎_elim
        (λ (first : In f (first_of past)). first_low past turn.done f is.higher first)
        (λ (entry : In f (those_at F turn.row.layout p turn.row.entries)).
        all_at (λ (g : Entry O R). g.stamp < turn.done.stamp) turn.row.entries f is.last
        (in-from_filter (λ g. touches (reach_of F turn.row.layout g) p) f turn.row.entries entry).0)
        (in-append f (first_of past) (those_at F turn.row.layout p turn.row.entries) (subst (λ (h : List (Entry O R)). In f h) (left p lt) inside))
      where
        first_low : (past : List (Turn L P O R)) (done f : Entry O R) → IsAbove past done → In f (first_of past) → f.stamp < done.stamp
        first_low [] done f above none = absurd none
        first_low (turn ∷ past) done f above is = ⊎_elim (λ (same : f ≡ turn.done). let stamp = ap (λ (g : Entry O R). g.stamp) same in omega (arith, above, stamp)) (λ none. absurd none) is

    below_done : (turn : Turn L P O R) (past : List (Turn L P O R)) → IsTurn F declaration o past turn → ArePast F declaration o past
        → Leaves F (history_in s o (length past)) past turn.row → PastLeaves F (history_in s o) past
        → (row p : ℕ) (f : Entry O R) → row ≤ length past → p < F.procs → In f (history_in s o row p) → f.stamp < turn.done.stamp
    below_done turn [] is turns left before row p f le lt inside =
        let first : row ≡ 0 = omega (arith, le) in
        last_below turn [] is left p f lt (subst (λ r. In f (history_in s o r p)) first inside)
    below_done turn (last ∷ past) is turns left before row p f le lt inside =
        ⊎_elim
        (λ (same : row ≡ suc (length past)). last_below turn (last ∷ past) is left p f lt (subst (λ r. In f (history_in s o r p)) same inside))
        (λ (other : row ≢ suc (length past)).
        let low = below_done last past turns.0 turns.1 before.0 before.1 row p f (omega (arith, le, other)) lt inside in
        let high = is.higher in
        omega (arith, low, high))
        (cases_eq row (suc (length past)))

    in_done : (past : List (Turn L P O R)) (next : Row L P O R) → IsRow F declaration o past next → ArePast F declaration o past → PastLeaves F (history_in s o) past
        → (e : Entry O R) (n : ℕ) → (answer : e.answer ≡ Swapped n) → (call : is_call e.act ≡ false) → In e (past_entries past)
        → (row p : ℕ) (f : Entry O R) → row < n → p < F.procs → In f (history_in s o row p) → f.stamp < e.stamp
    in_done [] next is turns left e n answer call inside row p f less lt has = absurd inside
    in_done (turn ∷ past) next is turns left e n answer call inside row p f less lt has =
        ⊎_elim
        (λ (before : In e (past_entries past)). in_done past turn.row turns.0.row turns.1 left.1 e n answer call before row p f less lt has)
        (λ (here : In e (turn.row.entries ++ turn.done ∷ [])). ⊎_elim
        (λ (inside' : In e turn.row.entries). absurd (not_in_row F declaration o e n answer call past turn.row turns.0.row inside'))
        (λ (last : In e (turn.done ∷ [])). ⊎_elim
        (λ (same : e ≡ turn.done).
        let number = same_swap F declaration o e n answer call (suc (length past)) turn.done same is.begun.answer in
        let low = below_done turn past turns.0 turns.1 left.0 left.1 row p f (omega (arith, less, number)) lt has in
        let stamp = ap (λ (g : Entry O R). g.stamp) same in
        omega (arith, low, stamp))
        (λ none. absurd none) last)
        (in-append e turn.row.entries (turn.done ∷ []) here))
        (in-append e (past_entries past) (turn.row.entries ++ turn.done ∷ []) inside)

  pub handed_below : (f : Entry O R) → (is : WasHanded s c f) → f.stamp < is.own.stamp
  handed_below f is =
      let own = (sound.answers c there).each is.own is.drawn in
      let at = rows_at F laws declared s sound.cells.turns sound.cells.locks sound.cells.rows sound.answers is.own.object own.there in
      let call = no_call F laws declared s sound.cells.turns sound.cells.locks sound.cells.rows sound.answers c is.number is.own there is.drawn is.carried_out (is_call is.own.act) refl in
      let inside = entry_in_chain F laws declared s sound.cells.turns sound.cells.locks sound.cells.rows sound.answers c is.number is.own there is.drawn is.carried_out at in
      let fits = at.has.rows.fits in
      ⊎_elim
      (λ (before : In is.own (past_entries at.chain.past)).
      in_done is.own.object at.declaration at.chain.past at.chain.row fits.row fits.past fits.past_left is.own is.number is.carried_out call before
      is.row is.place f is.former (rw sound.cells.rows.told.procs is.within) is.stood)
      (λ (now : In is.own at.chain.row.entries).
      absurd (not_in_row F at.declaration is.own.object is.own is.number is.carried_out call at.chain.past at.chain.row fits.row now))
      (in-append is.own (past_entries at.chain.past) at.chain.row.entries inside)

  -- the entry that is drawn
  module _ (cells : List ℕ) (e : Entry O R) (next : IsNext s.turns c cells e) where
    seen_below : (f : Entry O R) → HasSeen s c f → f.stamp < e.stamp
    seen_below f seen =
        ⊎_elim (λ (own : In f (mine s c)). above_own s.turns sound.cells.turns c cells e next f own)
        (λ other. ⊎_elim
        (λ (stood : StoodBefore s c f).
        let low = stood_below f stood in
        let high = above_own s.turns sound.cells.turns c cells e next stood.own stood.drawn in
        omega (arith, low, high))
        (λ (was : WasHanded s c f).
        let low = handed_below f was in
        let high = above_own s.turns sound.cells.turns c cells e next was.own was.drawn in
        omega (arith, low, high)) other)
        seen

    all_below : (f : Entry O R) → HasSeen s c f ⊎ StandsAt s cells f → f.stamp < e.stamp
    all_below f known =
        ⊎_elim (λ seen. seen_below f seen)
        (λ (at : StandsAt s cells f). above_cell s.turns sound.cells.turns c cells e next at.number at.named f at.stands) known

module _ {S L P O R : Type 0} (F : Layouts S L P O R) (laws : AreLaws F) (declared : List L) (s : Joined L O R) (sound : IsSound F declared s) where
  drawn_above : (c : ℕ) (d drawn : Drawn O R) (g : Entry O R) → c < many_callers s → IsNext s.turns c d.cells d.entry → Some d ≡ Some drawn
      → HasSeen s c g ⊎ StandsAt s drawn.cells g → g.stamp < drawn.entry.stamp
  drawn_above c d drawn g there next is known =
      let same = same_Some d drawn is in
      all_below F laws declared s sound c there drawn.cells drawn.entry
      (subst (λ (x : Drawn O R). IsNext s.turns c x.cells x.entry) same next) g known

  pub seen_is_below : (event : Event L O R) (drawn : Drawn O R) (f : Entry O R) → IsPossible F declared s event → drawn_by event ≡ Some drawn
      → HasSeen s (caller_of event) f ⊎ StandsAt s drawn.cells f → f.stamp < drawn.entry.stamp
  seen_is_below (AtCells (Draw c ns entry)) drawn f possible is known =
      drawn_above c (record { cells = ns; entry = entry }) drawn f possible.caller (core_draw s.turns c ns entry possible.may.core).next is known
  seen_is_below (AtCells (Alone c entry)) drawn f possible is known =
      drawn_above c (record { cells = []; entry = entry }) drawn f possible.caller (next_parts s.turns c [] entry possible.may.core) is known
  seen_is_below (HandWith c from onto layout entry) drawn f possible is known =
      drawn_above c (record { cells = from ++ onto; entry = entry }) drawn f possible.caller
      (next_parts s.turns c (from ++ onto) entry (core_hand s.turns c from onto entry possible.may.core).next) is known
  seen_is_below (AtCells event) drawn f possible is known = absurd (cc)
  seen_is_below (AtPhases event) drawn f possible is known = absurd (cc)
