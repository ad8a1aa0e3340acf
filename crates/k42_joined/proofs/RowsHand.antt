-- A hand keeps the rows: the next one begins.
use Rattle.std.proofs.Common.{◌≡◌, ◌≢◌, ℕ, suc, ◌+◌, ◌-◌, ◌/◌, ◌%◌, ◌<◌, ◌≤◌, ◌⊎◌, ◌∙◌, Bool, true, false, cond, List, [], ◌∷◌, ◌++◌, Some, length, map, set, length-set, length-append, refl, sym, ap, subst, inl, inr, ⊎_elim, arith}
use Rattle.std.specs.List.{slice_get}
use Rattle.std.proofs.Math.Nat.{le_refl}
use Rattle.std.proofs.lemmas.Bool.{cases_eq}
use Rattle.std.proofs.lemmas.List.{length-map}
use Rattle.std.proofs.lemmas.Option.{same_Some, slice_get_within}
use Rattle.k42_kinds.specs.declared.entry.Answer.TheVariants.{Swapped}
use Rattle.k42_kinds.specs.declared.entry.Entry.{Entry}
use Rattle.k42_places.proofs.Written.{at_set, slice_get-set_here, slice_get-set_else}
use Rattle.phase_core.specs.Consequences.{IsReadyToMove}
use Rattle.phase_core.specs.Sound as phases
use Rattle.phase_core.proofs.InSound.{moved_is_ready}
use Rattle.turn_core.specs.Events.{cell_begun, cell_closed, caller_drawn}
use Rattle.turn_core.specs.Names.{names}
use Rattle.turn_core.specs.Plain.{Caller, Turns}
use Rattle.turn_core.specs.Sound as turns
use Rattle.turn_core.specs.State.{cell_at, change_cells, change_caller}
use Rattle.turn_core.proofs.Changed.{callers-change_cells}
use Rattle.turn_core.proofs.Drawing.{IsNext as IsNextStamp, next_parts}
use Rattle.k42_stamp.specs.Chains.{Turn, Chain}
use Rattle.k42_stamp.specs.Draws.{IsLater}
use Rattle.k42_stamp.specs.Fits.{Fits}
use Rattle.k42_stamp.specs.Hands.{IsHand, handed, begun_at}
use Rattle.k42_stamp.specs.Laws.{AreLaws}
use Rattle.k42_stamp.specs.Layouts.{Layouts}
use Rattle.k42_stamp.specs.Lists.{InHistory, AreThose, is_drawn}
use Rattle.k42_stamp.specs.Orders.{In}
use Rattle.k42_stamp.proofs.Handing.{begun_here, begun_else, hand_begins}
use Rattle.k42_joined.specs.Plain.{Joined}
use Rattle.k42_joined.specs.Event.{HandWith}
use Rattle.k42_joined.specs.Effects.{effect}
use Rattle.k42_joined.specs.Fitting.{lists_of, HasItsTag, HasRows, Fitting}
use Rattle.k42_joined.specs.Locks.{AreOfLives, AreLocked}
use Rattle.k42_joined.specs.Numbers.{cell_of}
use Rattle.k42_joined.specs.Possible.{MayHandOn}
use Rattle.k42_joined.specs.Rows.{history_in, AreRowsOf}
use Rattle.k42_joined.specs.State.{many_procs, many_callers, many_objects, object, incarnation, cell, cell_in, mine, layouts_of, many_hands}
use Rattle.k42_joined.proofs.CellNumbers.{row_names, cell_of-parity}
use Rattle.k42_joined.proofs.LocksHand.{IsCoreHand, core_hand, names_more, hands_now, at_present, at_next, at_other, hands_here, hands_else, hands_after}
use Rattle.k42_joined.proofs.RowsCalls.{some_at}
use Rattle.k42_joined.proofs.RowsCells.{list_here, lists_drawn}
use Rattle.k42_joined.proofs.RowsHistories.{fits_same, at_life, at_present_life, begun_past, begun_present}
use Rattle.k42_joined.proofs.RowsLists.{Grows, grown_those}
use Rattle.k42_joined.proofs.RowsStamps.{all_placed, above_cell}

in_begun : {O R : Type 0} (f e : Entry O R) (h : List (Entry O R)) (b : Bool) → In f (cond b (e ∷ []) h) → (f ≡ e) ⊎ In f h
in_begun f e h true is = ⊎_elim (λ same. inl same) (λ none. absurd none) is
in_begun f e h false is = inr is

module _ {S L P O R : Type 0} (F : Layouts S L P O R) (laws : AreLaws F) (declared : List L) (s : Joined L O R)
    (sound : phases.IsSound s.phases) (turns_sound : turns.IsSound s.turns) (locked : AreLocked s) (rows : Fitting F declared s)
    (c : ℕ) (from onto : List ℕ) (layout : L) (e : Entry O R) (there : c < many_callers s)
    (may : MayHandOn F declared s c from onto layout e) where
  abbrev o : ℕ
  o = e.object

  abbrev i : ℕ
  i = incarnation s e.object

  abbrev t : Joined L O R
  t = effect s (HandWith c from onto layout e)

  abbrev declaration : L
  declaration = may.beside.declaration

  declares : slice_get declared o ≡ Some declaration
  declares = may.beside.declares

  pub named : o < many_objects s
  named = rw (← rows.objects) (slice_get_within declared o declaration declares)

  in_procs : (p : ℕ) → p < F.procs → p < many_procs s
  in_procs p lt = rw (← rows.told.procs) lt

  now : many_hands s o ≡ i
  now = hands_now F declared s locked c from onto layout e may named

  module _ (x : Chain L P O R) (at : slice_get rows.chains o ≡ Some x) where
    has : HasRows F s o declaration x
    has = rows.each o declaration x declares at

    past_now : length x.past ≡ i
    past_now =
        let long = ap length has.rows.layouts in
        let mapped = length-map x.past (λ (turn : Turn L P O R). turn.row.layout) in
        let more = length-append (layouts_of s o) (declaration ∷ []) in
        let same = now in
        omega (arith, long, mapped, more, same)

    core : IsCoreHand s.turns c from onto e
    core = core_hand s.turns c from onto e may.core

    next : IsNextStamp s.turns c (from ++ onto) e
    next = next_parts s.turns c (from ++ onto) e core.next

    ready : IsReadyToMove (object s o)
    ready = moved_is_ready s.phases sound c o there may.beside.moved

    history_now : (p : ℕ) → p < many_procs s → history_in s o (length x.past) p ≡ (cell_in s o i p).history
    history_now p lt =
        ap (λ row. history_in s o row p) past_now ∙ at_present_life (cell_in s o i p) (i / 2) (locked.lives o p named lt).present.past

    tagged_now : F.tag_of x.row.layout ≡ (object s o).layout
    tagged_now =
        let same = now in
        has.tagged x.row.layout
        (ap (slice_get (layouts_of s o ++ declaration ∷ [])) (omega (arith, same)) ∙ ap (λ layouts. slice_get layouts 0) (sym has.rows.layouts))

    hand : IsHand F declaration o (history_in s o) x layout e
    hand = record {
      kind = may.beside.kind;
      known = may.beside.known;
      told = record {
        object = refl;
        act = may.beside.act;
        incarnation = ap suc (may.beside.present ∙ sym past_now);
        answer = may.beside.answer ∙ ap Swapped (let same = past_now in omega (arith, same));
      };
      later = λ p lt. all_placed (IsLater e) (history_in s o (length x.past) p)
          (λ f is.
          let n = cell_of o i p in
          let named_in : names (from ++ onto) n ≡ true = names_more from onto n (rw may.beside.closes (row_names (many_procs s) o i p (in_procs p lt))) in
          above_cell s.turns turns_sound c (from ++ onto) e next n named_in f (subst (λ (h : List (Entry O R)). In f h) (history_now p (in_procs p lt)) is));
      live =
          let low = ready.alive in
          let same = tagged_now in
          let many = ap length (has.shaped ∙ sym (laws.alike x.row.layout declaration has.rows.fits.row.kind)) in
          omega (arith, low, same, many);
      unspent = let low = ready.next in let same = past_now in omega (arith, low, same);
    }

    abbrev y : Chain L P O R
    y = handed F x layout e

    abbrev begun : ℕ → ℕ → List (Entry O R)
    begun = begun_at e (suc (length x.past)) (history_in s o)

    fits : Fits F declaration o begun y
    fits = hand_begins F declaration o (history_in s o) x layout e laws has.rows.fits hand

    lives : (p : ℕ) → p < many_procs s → AreOfLives i false (cell_in s o i p) (cell_in s o (i + 1) p)
    lives p lt = subst (λ b. AreOfLives i b (cell_in s o i p) (cell_in s o (i + 1) p)) may.beside.once (locked.lives o p named lt)

    history_next : (p : ℕ) → p < many_procs s → history_in t o (i + 1) p ≡ e ∷ []
    history_next p lt =
        ap (λ z. at_life z ((i + 1) / 2)) (at_next F declared s locked c from onto layout e may named p lt)
        ∙ begun_present i (cell_in s o i p) (cell_in s o (i + 1) p) e (lives p lt)

    history_same : (row p : ℕ) → row % 2 ≡ i % 2 → p < many_procs s → history_in t o row p ≡ history_in s o row p
    history_same row p parity lt =
        let same : cell_of o row p ≡ cell_of o i p = cell_of-parity o row i p parity in
        ap (λ n. at_life (cell_at t.turns n) (row / 2)) same
        ∙ ap (λ z. at_life z (row / 2)) (at_present F declared s locked c from onto layout e may named p lt)
        ∙ ap (λ n. at_life (cell s n) (row / 2)) (sym same)

    history_before : (row p : ℕ) → row < i + 1 → row % 2 ≢ i % 2 → p < many_procs s → history_in t o row p ≡ history_in s o row p
    history_before row p less parity lt =
        let same : cell_of o row p ≡ cell_of o (i + 1) p = cell_of-parity o row (i + 1) p (omega (arith, parity)) in
        ap (λ n. at_life (cell_at t.turns n) (row / 2)) same
        ∙ ap (λ z. at_life z (row / 2)) (at_next F declared s locked c from onto layout e may named p lt)
        ∙ begun_past i (cell_in s o i p) (cell_in s o (i + 1) p) e (row / 2) (lives p lt) (omega (arith, less, parity))
        ∙ ap (λ n. at_life (cell s n) (row / 2)) (sym same)

    history_old : (row p : ℕ) → row ≤ length x.past → p < many_procs s → history_in t o row p ≡ history_in s o row p
    history_old row p le lt =
        let same = past_now in
        ⊎_elim (λ parity. history_same row p parity lt) (λ parity. history_before row p (omega (arith, le, same)) parity lt)
        (cases_eq (row % 2) (i % 2))

    history_after : (row p : ℕ) → row ≤ suc (length x.past) → p < F.procs → history_in t o row p ≡ begun row p
    history_after row p le lt =
        ⊎_elim
        (λ (same : row ≡ suc (length x.past)).
        let one : suc (length x.past) ≡ i + 1 = let same = past_now in omega (arith, same) in
        subst (λ r. history_in t o r p ≡ begun r p) (sym same)
        (subst (λ r. history_in t o r p ≡ e ∷ []) (sym one) (history_next p (in_procs p lt)) ∙ sym (begun_here e (suc (length x.past)) (history_in s o) p)))
        (λ (other : row ≢ suc (length x.past)).
        history_old row p (omega (arith, le, other)) (in_procs p lt) ∙ sym (begun_else e (suc (length x.past)) (history_in s o) row p other))
        (cases_eq row (suc (length x.past)))

    history_else : (q row p : ℕ) → q ≢ o → p < many_procs s → history_in t q row p ≡ history_in s q row p
    history_else q row p other lt = ap (λ z. at_life z (row / 2)) (at_other F declared s locked c from onto layout e may named q row p lt other)

    abbrev newer : List (Chain L P O R)
    newer = set rows.chains o y

    y_there : slice_get newer o ≡ Some y
    y_there = slice_get-set_here rows.chains o y (slice_get_within rows.chains o x at)

    here_tagged : HasItsTag F declaration t o
    here_tagged lay is =
        let after = hands_after F declared s locked c from onto layout e may named in
        let same = now in
        let here = hands_here F declared s locked c from onto layout e may named in
        let one : many_hands t o - i ≡ 1 = omega (arith, after) in
        let zero_is : 0 ≡ many_hands s o - i = omega (arith, same) in
        let moved : slice_get (layout ∷ (layouts_of s o ++ declaration ∷ [])) 1 ≡ Some lay =
        subst (λ ls. slice_get (ls ++ declaration ∷ []) 1 ≡ Some lay) here (subst (λ n. slice_get (layouts_of t o ++ declaration ∷ []) n ≡ Some lay) one is) in
        has.tagged lay (subst (λ n. slice_get (layouts_of s o ++ declaration ∷ []) n ≡ Some lay) zero_is moved)

    here_rows : HasRows F t o declaration y
    here_rows = record {
      rows = record {
        fits = fits_same F begun (history_in t o) declaration o y (λ row p le lt. history_after row p le lt) fits;
        layouts = ap (λ ls. layout ∷ ls) has.rows.layouts
            ∙ sym (ap (λ ls. ls ++ declaration ∷ []) (hands_here F declared s locked c from onto layout e may named));
      };
      tagged = here_tagged;
      shaped = has.shaped;
    }

    rows_else : (q : ℕ) (other : L) (z : Chain L P O R) → q ≢ o → AreRowsOf F other s q z → AreRowsOf F other t q z
    rows_else q other z apart old = record {
      fits = fits_same F (history_in s q) (history_in t q) other q z (λ row p le lt. history_else q row p apart (in_procs p lt)) old.fits;
      layouts = old.layouts ∙ sym (ap (λ ls. ls ++ other ∷ []) (hands_else F declared s locked c from onto layout e may named q apart));
    }

    else_rows : (q : ℕ) (other : L) (z : Chain L P O R) → q ≢ o → HasRows F s q other z → HasRows F t q other z
    else_rows q other z apart old =
        let same = hands_else F declared s locked c from onto layout e may named q apart in
        record {
          rows = record {
            fits = fits_same F (history_in s q) (history_in t q) other q z (λ row p le lt. history_else q row p apart (in_procs p lt)) old.rows.fits;
            layouts = old.rows.layouts ∙ sym (ap (λ ls. ls ++ other ∷ []) same);
          };
          tagged = λ lay is. old.tagged lay (subst (λ ls. slice_get (ls ++ other ∷ []) (length ls - incarnation s q) ≡ Some lay) same is);
          shaped = old.shaped;
        }

    grows : Grows F.procs (history_in s) (history_in t) rows.chains newer e
    grows = record {
      chain = λ q z is. ⊎_elim {C = (w : Chain L P O R) × (slice_get newer q ≡ Some w) × (length z.past ≤ length w.past)}
          (λ (same : q ≡ o).
          let own : z ≡ x = same_Some z x (sym is ∙ ap (slice_get rows.chains) same ∙ at) in
          (y, ap (slice_get newer) same ∙ y_there, subst (λ (w : Chain L P O R). length w.past ≤ suc (length x.past)) (sym own) (omega arith)))
          (λ other. (z, slice_get-set_else rows.chains o q y other ∙ is, le_refl (length z.past)))
          (cases_eq q o);
      kept = λ q row p z f is le lt was. ⊎_elim
          (λ (same : q ≡ o).
          let own : z ≡ x = same_Some z x (sym is ∙ ap (slice_get rows.chains) same ∙ at) in
          subst (λ r. In f (history_in t r row p)) (sym same)
          (subst (λ (h : List (Entry O R)). In f h) (sym (history_old row p (subst (λ (w : Chain L P O R). row ≤ length w.past) own le) (in_procs p lt)))
          (subst (λ r. In f (history_in s r row p)) same was)))
          (λ other. subst (λ (h : List (Entry O R)). In f h) (sym (history_else q row p other (in_procs p lt))) was)
          (cases_eq q o);
      split = λ q row p z f is le lt is_in. ⊎_elim
          (λ (u : (q ≡ o) × (y ≡ z)).
          let le' : row ≤ suc (length x.past) = subst (λ (w : Chain L P O R). row ≤ length w.past) (sym u.1) le in
          let here : In f (begun row p) = subst (λ (h : List (Entry O R)). In f h) (history_after row p le' lt) (subst (λ r. In f (history_in t r row p)) u.0 is_in) in
          ⊎_elim
          (λ (same : row ≡ suc (length x.past)).
          let first : In f (e ∷ []) = subst (λ (h : List (Entry O R)). In f h) (begun_here e (suc (length x.past)) (history_in s o) p) (subst (λ r. In f (begun r p)) same here) in
          inl (⊎_elim {C = f ≡ e} (λ h. h) (λ none. absurd none) first))
          (λ (other : row ≢ suc (length x.past)).
          let old : In f (history_in s o row p) = subst (λ (h : List (Entry O R)). In f h) (begun_else e (suc (length x.past)) (history_in s o) row p other) here in
          inr (x, ap (slice_get rows.chains) u.0 ∙ at, (row, p, omega (arith, le', other), lt, subst (λ r. In f (history_in s r row p)) (sym u.0) old)))
          (cases_eq row (suc (length x.past))))
          (λ (u : (q ≢ o) × (slice_get rows.chains q ≡ Some z)).
          inr (z, u.1, (row, p, le, lt, subst (λ (h : List (Entry O R)). In f h) (history_else q row p u.0 (in_procs p lt)) is_in)))
          (at_set rows.chains o q y z is);
    }

    stands : InHistory F.procs (history_in t) newer e
    stands = record {
      chain = y;
      there = y_there;
      has = (
        suc (length x.past),
        0,
        le_refl (suc (length x.past)),
        laws.some,
        subst (λ (h : List (Entry O R)). In e h)
            (sym (history_after (suc (length x.past)) 0 (le_refl (suc (length x.past))) laws.some ∙ begun_here e (suc (length x.past)) (history_in s o) 0))
            (inl refl),
      );
    }

    abbrev drawing : Turns O R
    drawing = change_caller (caller_drawn e) s.turns c

    lists : lists_of t ≡ set (lists_of s) c (mine s c ++ e ∷ [])
    lists =
        ap (map (λ (z : Caller O R). z.mine))
        (callers-change_cells cell_closed (change_cells (cell_begun e) drawing onto) from ∙ callers-change_cells (cell_begun e) drawing onto)
        ∙ lists_drawn s.turns.callers c e

    rows_after : Fitting F declared t
    rows_after = record {
      told = record { procs = rows.told.procs; proc_of = rows.told.proc_of };
      objects = rows.objects;
      chains = newer;
      many = length-set rows.chains o y ∙ rows.many;
      each = λ q other z declares' is. ⊎_elim {C = HasRows F t q other z}
          (λ (u : (q ≡ o) × (y ≡ z)).
          let own : declaration ≡ other = same_Some declaration other (sym declares ∙ ap (slice_get declared) (sym u.0) ∙ declares') in
          subst (λ w. HasRows F t q other w) u.1 (subst (λ r. HasRows F t r other y) (sym u.0) (subst (λ l. HasRows F t o l y) own here_rows)))
          (λ (u : (q ≢ o) × (slice_get rows.chains q ≡ Some z)). else_rows q other z u.0 (rows.each q other z declares' u.1))
          (at_set rows.chains o q y z is);
      those = subst (λ ls. AreThose F.procs is_drawn ls (history_in t) newer) (sym lists)
          (grown_those F.procs is_drawn (lists_of s) c (mine s c) e (list_here s c (rw locked.many.callers there)) (history_in s) (history_in t) rows.chains newer
          grows (λ pass. stands) rows.those);
    }

  -- the object's rows before and after
  pub record IsHanded : Type 0 where
    pub chain : Chain L P O R
    pub was : AreRowsOf F declaration s o chain
    pub is : AreRowsOf F declaration t o (handed F chain layout e)
    pub others : (q : ℕ) (other : L) (z : Chain L P O R) → q ≢ o → AreRowsOf F other s q z → AreRowsOf F other t q z

  pub handed_rows : IsHanded
  handed_rows =
      let found = some_at rows.chains o (rw rows.many (slice_get_within declared o declaration declares)) in
      record { chain = found.0; was = (has found.0 found.1).rows; is = (here_rows found.0 found.1).rows; others = rows_else found.0 found.1 }

  pub hand_keeps_rows : Fitting F declared t
  hand_keeps_rows =
      let found = some_at rows.chains o (rw rows.many (slice_get_within declared o declaration declares)) in
      rows_after found.0 found.1
