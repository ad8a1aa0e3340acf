-- An entry drawn at cells of the present row keeps the rows.
use Rattle.std.proofs.Common.{◌≡◌, ◌≢◌, ℕ, ◌/◌, ◌%◌, ◌<◌, ◌≤◌, ◌⊎◌, ◌∙◌, Bool, true, false, ◌&&◌, cond, eqb, List, [], ◌∷◌, ◌++◌, Some, length, map, set, length-set, length-append, refl, sym, ap, subst, inl, inr, ⊎_elim, arith}
use Rattle.std.specs.List.{slice_get, list_all}
use Rattle.std.proofs.Math.Nat.{le_refl}
use Rattle.std.proofs.lemmas.Bool.{and_parts, eq-eqb, cases_eq, lt-ltb}
use Rattle.std.proofs.lemmas.Bool.Decides.{nat_tests}
use Rattle.std.proofs.lemmas.List.{length-map}
use Rattle.std.proofs.lemmas.Option.{same_Some, slice_get_within}
use Rattle.k42_shapes.specs.declared.shape.Shape.{Shape}
use Rattle.k42_kinds.specs.OneThread.{OneThread}
use Rattle.k42_kinds.specs.Rows.{IsWithin}
use Rattle.k42_kinds.specs.declared.entry.Act.{Act}
use Rattle.k42_kinds.specs.declared.entry.Act.TheVariants.{Call, Swap}
use Rattle.k42_kinds.specs.declared.entry.Answer.{Answer}
use Rattle.k42_kinds.specs.declared.entry.Answer.TheVariants.{Spent, Gone}
use Rattle.k42_kinds.specs.declared.entry.Entry.{Entry}
use Rattle.k42_places.proofs.Written.{at_set, slice_get-set_here, slice_get-set_else}
use Rattle.turn_core.specs.declared.event.TurnEvent.TheVariants.{Draw}
use Rattle.turn_core.specs.Events as turns
use Rattle.turn_core.specs.Events.{cell_told, caller_drawn, has_taken, has_open}
use Rattle.turn_core.specs.Names.{names, names_once}
use Rattle.turn_core.specs.Plain.{Caller, Turns}
use Rattle.turn_core.specs.Sound as turns_sound
use Rattle.turn_core.specs.State.{cell_at, change_caller}
use Rattle.turn_core.proofs.Changed.{callers-change_cells}
use Rattle.turn_core.proofs.Drawing.{IsNext as IsNextStamp, next_parts}
use Rattle.k42_stamp.specs.Chains.{Turn, Chain, past_entries, parts_of}
use Rattle.k42_stamp.specs.Draws.{IsLater, IsNext, drawn_at, chain_with, Draws}
use Rattle.k42_stamp.specs.Fits.{IsCallOrMark, IsEntryOf}
use Rattle.k42_stamp.specs.Laws.{AreLaws}
use Rattle.k42_stamp.specs.Layouts.{Layouts}
use Rattle.k42_stamp.specs.Lists.{InHistory, AreThose, is_drawn}
use Rattle.k42_stamp.specs.Orders.{In}
use Rattle.k42_stamp.specs.Parts.{reach_of, touches, part_steps}
use Rattle.k42_stamp.proofs.Drawing.{drawn_else, draw_keeps}
use Rattle.k42_stamp.proofs.Elements.{all_at, in_left, in_right, in-append}
use Rattle.k42_stamp.proofs.Needed.{needed}
use Rattle.k42_stamp.proofs.Rowed.{chain_in_rows}
use Rattle.k42_joined.specs.Plain.{Joined}
use Rattle.k42_joined.specs.Effects.{kept_drawn}
use Rattle.k42_joined.specs.Fitting.{lists_of, HasRows, Fitting}
use Rattle.k42_joined.specs.Locks.{is_closed_in, AreLocked}
use Rattle.k42_joined.specs.Numbers.{cell_of}
use Rattle.k42_joined.specs.Rows.{history_in, cells_reached, AreRowsOf}
use Rattle.k42_joined.specs.State.{many_procs, many_callers, many_objects, incarnation, cell, cell_in, mine, layouts_of, many_hands, is_handed}
use Rattle.k42_joined.proofs.CellChanges.{cell_at-else, cell_at-named}
use Rattle.k42_joined.proofs.CellNumbers.{same_cell, cell_there, cell_of-parity}
use Rattle.k42_joined.proofs.LocksCells.{AreOfRow}
use Rattle.k42_joined.proofs.LocksHand.{each_named}
use Rattle.k42_joined.proofs.RowsCells.{list_here, lists_drawn}
use Rattle.k42_joined.proofs.RowsHistories.{fits_same, at_life, at_present_life, told_present, told_past, names_reached, reached_in_row}
use Rattle.k42_joined.proofs.RowsLists.{Grows, grown_those}
use Rattle.k42_joined.proofs.RowsStamps.{all_placed, in_own, above_own, above_cell}

-- what the core asks of a draw
pub record IsCoreDraw {O R : Type 0} (s : Turns O R) (c : ℕ) (cells : List ℕ) (e : Entry O R) : Type 0 where
  pub once : names_once cells ≡ true
  pub opened : list_all (has_open s c) cells ≡ true
  pub next : IsNextStamp s c cells e

pub core_draw : {O R : Type 0} (s : Turns O R) (c : ℕ) (cells : List ℕ) (e : Entry O R) → turns.is_possible s (Draw c cells e) ≡ true → IsCoreDraw s c cells e
core_draw s c cells e can =
    let third = and_parts (turns.names_some cells && names_once cells && list_all (has_open s c) cells) (turns.is_next s c cells e) can in
    let second = and_parts (turns.names_some cells && names_once cells) (list_all (has_open s c) cells) third.0 in
    let first = and_parts (turns.names_some cells) (names_once cells) second.0 in
    record { once = first.1; opened = second.1; next = next_parts s c cells e third.1 }

-- each entry of a row was drawn at cells
served_drawn : {S O R : Type 0} (object : OneThread S O R) (shapes : List Shape) (tag number : ℕ) (act : Act O) (answer : Answer R)
    → IsCallOrMark object shapes tag number act answer → is_drawn act answer ≡ true
served_drawn object shapes tag number (Call op) answer served = refl
served_drawn object shapes tag number (Swap to) Spent served = refl
served_drawn object shapes tag number (Swap to) Gone served = refl
served_drawn object shapes tag number act answer served = absurd served

in_told : {O R : Type 0} (f e : Entry O R) (h : List (Entry O R)) (b : Bool) → In f (cond b (h ++ e ∷ []) h) → (f ≡ e) ⊎ In f h
in_told f e h true is = ⊎_elim (λ old. inr old) (λ new. ⊎_elim (λ same. inl same) (λ none. absurd none) new) (in-append f h (e ∷ []) is)
in_told f e h false is = inr is

told_in : {O R : Type 0} (f e : Entry O R) (h : List (Entry O R)) (b : Bool) → In f h → In f (cond b (h ++ e ∷ []) h)
told_in f e h true is = in_left f h (e ∷ []) is
told_in f e h false is = is

module _ {S L P O R : Type 0} (F : Layouts S L P O R) (laws : AreLaws F) (declared : List L) (s : Joined L O R)
    (sound : turns_sound.IsSound s.turns) (locked : AreLocked s) (rows : Fitting F declared s)
    (c : ℕ) (cells : List ℕ) (e : Entry O R) (there : c < many_callers s) (core : IsCoreDraw s.turns c cells e)
    (declaration : L) (x : Chain L P O R) (declares : slice_get declared e.object ≡ Some declaration)
    (at : slice_get rows.chains e.object ≡ Some x) (present : e.incarnation ≡ incarnation s e.object)
    (within : IsWithin F.procs (reach_of F x.row.layout e))
    (reached : cells ≡ cells_reached (many_procs s) e.object e.incarnation (reach_of F x.row.layout e)) where
  abbrev o : ℕ
  o = e.object

  abbrev i : ℕ
  i = incarnation s e.object

  has : HasRows F s o declaration x
  has = rows.each o declaration x declares at

  pub named : o < many_objects s
  named = rw (← rows.objects) (slice_get_within declared o declaration declares)

  few : many_procs s ≤ 8
  few = locked.many.few_procs

  in_procs : (p : ℕ) → p < F.procs → p < many_procs s
  in_procs p lt = rw (← rows.told.procs) lt

  within_here : IsWithin (many_procs s) (reach_of F x.row.layout e)
  within_here = subst (λ n. IsWithin n (reach_of F x.row.layout e)) rows.told.procs within

  reached_now : cells ≡ cells_reached (many_procs s) o i (reach_of F x.row.layout e)
  reached_now = reached ∙ ap (λ j. cells_reached (many_procs s) o j (reach_of F x.row.layout e)) present

  pub of_row : AreOfRow s o cells
  of_row n is = reached_in_row (many_procs s) o i n (reach_of F x.row.layout e) within_here (rw reached_now at is)

  names_is : (p : ℕ) → p < many_procs s → names cells (cell_of o i p) ≡ touches (reach_of F x.row.layout e) p
  names_is p lt = rw reached_now (names_reached (many_procs s) o i p (reach_of F x.row.layout e) few lt within_here)

  -- the row was not handed on, since its cells are open
  pub not_handed : is_handed s o ≡ false
  not_handed = by_test (is_handed s o) refl where
    by_test : (b : Bool) → is_handed s o ≡ b → b ≡ false
    by_test false is = refl
    by_test true is =
        let p = needed F.procs (reach_of F x.row.layout e) within in
        let lt = in_procs p.0 p.1 in
        let n = cell_of o i p.0 in
        let hit : names cells n ≡ true = names_is p.0 lt ∙ p.2 in
        let opens = (and_parts (has_taken s.turns c n) _ (each_named (has_open s.turns c) cells n core.opened hit)).1 in
        let past : is_closed_in i true i ≡ true = grind (arith, nat_tests) in
        let closed : (cell s n).closed ≡ true = (locked.lives o p.0 named lt).present.closed ∙ ap (λ b. is_closed_in i b i) is ∙ past in
        absurd (cc)

  pub hands_now : many_hands s o ≡ i
  hands_now =
      ⊎_elim (λ same. same)
      (λ more. let is = lt-ltb i (many_hands s o) (omega (arith, more)) in let not = not_handed in absurd (cc))
      (locked.counted o named).ahead

  pub past_now : length x.past ≡ i
  past_now =
      let long = ap length has.rows.layouts in
      let mapped = length-map x.past (λ (turn : Turn L P O R). turn.row.layout) in
      let more = length-append (layouts_of s o) (declaration ∷ []) in
      let now = hands_now in
      omega (arith, long, mapped, more, now)

  history_now : (p : ℕ) → p < many_procs s → history_in s o (length x.past) p ≡ (cell_in s o i p).history
  history_now p lt =
      ap (λ row. history_in s o row p) past_now ∙ at_present_life (cell_in s o i p) (i / 2) (locked.lives o p named lt).present.past

  module _ (served : IsCallOrMark (F.object_of x.row.layout) (F.shapes_of x.row.layout) (F.tag_of x.row.layout) (length x.past) e.act e.answer)
      (replied : (part_steps F x.row.layout).answers (parts_of F x.row) e ≡ (part_steps F x.row.layout).tells e) where
    next : IsNext F o (history_in s o) x e
    next = record {
      own = record { object = refl; incarnation = present ∙ sym past_now; served = served };
      later = λ p lt touch.
          all_placed (IsLater e) (history_in s o (length x.past) p)
          (λ f is. above_cell s.turns sound c cells e core.next (cell_of o i p) (names_is p (in_procs p lt) ∙ touch) f
          (subst (λ (h : List (Entry O R)). In f h) (history_now p (in_procs p lt)) is));
      after_own = all_placed (λ (other : Entry O R). other.caller ≡ e.caller → IsLater e other) x.row.entries
          (λ f is same.
          let inside = chain_in_rows F declaration o (history_in s o) laws x f has.rows.fits (in_right f (past_entries x.past) x.row.entries is) in
          let own : IsEntryOf F x.row.layout o (length x.past) f = all_at (IsEntryOf F x.row.layout o (length x.past)) x.row.entries f has.rows.fits.row.own is in
          let listed = in_own s.turns sound f (rows.those.given o x f at inside (served_drawn (F.object_of x.row.layout) (F.shapes_of x.row.layout) (F.tag_of x.row.layout) (length x.past) f.act f.answer own.served)) in
          above_own s.turns sound c cells e core.next f (subst (λ d. In f (mine s d)) (same ∙ core.next.caller) listed.1));
      replied = replied;
    }

    pub drew : Draws F declaration o (history_in s o) x e
    drew = draw_keeps F declaration o (history_in s o) x e laws has.rows.fits next

    abbrev pub y : Chain L P O R
    y = chain_with x (drew.front ++ e ∷ drew.back)

    abbrev pub t : Joined L O R
    t = record s { turns = turns.effect s.turns (Draw c cells e); kept = kept_drawn s c false }

    abbrev drawing : Turns O R
    drawing = change_caller (caller_drawn e) s.turns c

    cell_after : (n : ℕ) (b : Bool) → n < length s.turns.cells → names cells n ≡ b
        → cell_at t.turns n ≡ cond b (cell_told e (cell s n)) (cell s n)
    cell_after n true lt is = cell_at-named (cell_told e) drawing cells n core.once lt is
    cell_after n false lt is = cell_at-else (cell_told e) drawing cells n is

    in_range : (q row p : ℕ) → q < many_objects s → p < many_procs s → cell_of q row p < length s.turns.cells
    in_range q row p lt less =
        let cell_is = cell_there (many_objects s) q row p lt (omega (arith, less, few)) in
        let long = locked.many.cells in
        omega (arith, cell_is, long)

    -- a cell of another row or of another object is not named
    unnamed : (q row p : ℕ) → p < many_procs s → (q ≢ o) ⊎ (row % 2 ≢ i % 2) → names cells (cell_of q row p) ≡ false
    unnamed q row p lt apart = by_test (names cells (cell_of q row p)) refl where
      by_test : (b : Bool) → names cells (cell_of q row p) ≡ b → b ≡ false
      by_test false is = refl
      by_test true is =
          let among = of_row (cell_of q row p) is in
          let high = among.high in
          let one = same_cell q row p o i among.place (omega (arith, lt, few)) (omega (arith, high, few)) among.same in
          absurd (⊎_elim (λ other. other one.object) (λ other. other one.parity) apart)

    history_else : (q row p : ℕ) → p < many_procs s → (q ≢ o) ⊎ (row % 2 ≢ i % 2) → history_in t q row p ≡ history_in s q row p
    history_else q row p lt apart =
        ap (λ z. at_life z (row / 2)) (cell_at-else (cell_told e) drawing cells (cell_of q row p) (unnamed q row p lt apart))

    history_here : (p : ℕ) → p < many_procs s
        → history_in t o i p ≡ cond (touches (reach_of F x.row.layout e) p) (history_in s o i p ++ e ∷ []) (history_in s o i p)
    history_here p lt =
        let b = touches (reach_of F x.row.layout e) p in
        ap (λ z. at_life z (i / 2)) (cell_after (cell_of o i p) b (in_range o i p named lt) (names_is p lt))
        ∙ told_present e (cell_in s o i p) (i / 2) b (locked.lives o p named lt).present.past

    history_before : (row p : ℕ) → row < i → row % 2 ≡ i % 2 → p < many_procs s → history_in t o row p ≡ history_in s o row p
    history_before row p less parity lt =
        let same : cell_of o row p ≡ cell_of o i p = cell_of-parity o row i p parity in
        let b = touches (reach_of F x.row.layout e) p in
        let past = (locked.lives o p named lt).present.past in
        let short : row / 2 < length (cell_in s o i p).past = omega (arith, less, parity, past) in
        ap (λ n. at_life (cell_at t.turns n) (row / 2)) same
        ∙ ap (λ z. at_life z (row / 2)) (cell_after (cell_of o i p) b (in_range o i p named lt) (names_is p lt))
        ∙ told_past e (cell_in s o i p) (row / 2) b short
        ∙ ap (λ n. at_life (cell s n) (row / 2)) (sym same)

    abbrev drawn : ℕ → ℕ → List (Entry O R)
    drawn = drawn_at F x.row.layout e (length x.past) (history_in s o)

    history_after : (row p : ℕ) → row ≤ length x.past → p < F.procs → history_in t o row p ≡ drawn row p
    history_after row p le lt =
        ⊎_elim
        (λ (same : row ≡ length x.past).
        let first : drawn (length x.past) p ≡ cond (touches (reach_of F x.row.layout e) p) (history_in s o (length x.past) p ++ e ∷ []) (history_in s o (length x.past) p) =
        rw (eq-eqb (length x.past) (length x.past) refl) refl in
        let here : history_in t o (length x.past) p ≡ cond (touches (reach_of F x.row.layout e) p) (history_in s o (length x.past) p ++ e ∷ []) (history_in s o (length x.past) p) =
        subst (λ j. history_in t o j p ≡ cond (touches (reach_of F x.row.layout e) p) (history_in s o j p ++ e ∷ []) (history_in s o j p)) (sym past_now) (history_here p (in_procs p lt)) in
        subst (λ j. history_in t o j p ≡ drawn j p) (sym same) (here ∙ sym first))
        (λ (other : row ≢ length x.past).
        let now = past_now in
        let less : row < i = omega (arith, le, other, now) in
        before row p less (in_procs p lt) ∙ sym (drawn_else F declaration o (history_in s o) x e row p other))
        (cases_eq row (length x.past))
      where
        before : (row p : ℕ) → row < i → p < many_procs s → history_in t o row p ≡ history_in s o row p
        before row p less lt =
            ⊎_elim (λ parity. history_before row p less parity lt) (λ apart. history_else o row p lt (inr apart)) (cases_eq (row % 2) (i % 2))

    abbrev newer : List (Chain L P O R)
    newer = set rows.chains o y

    y_there : slice_get newer o ≡ Some y
    y_there = slice_get-set_here rows.chains o y (slice_get_within rows.chains o x at)

    pub here_rows : HasRows F t o declaration y
    here_rows = record {
      rows = record {
        fits = fits_same F drawn (history_in t o) declaration o y (λ row p le lt. history_after row p le lt) drew.fits;
        layouts = has.rows.layouts;
      };
      tagged = has.tagged;
      shaped = has.shaped;
    }

    -- the rows of another object stay
    pub rows_else : (q : ℕ) (other : L) (z : Chain L P O R) → q ≢ o → AreRowsOf F other s q z → AreRowsOf F other t q z
    rows_else q other z apart old = record {
      fits = fits_same F (history_in s q) (history_in t q) other q z (λ row p le lt. history_else q row p (in_procs p lt) (inl apart)) old.fits;
      layouts = old.layouts;
    }

    else_rows : (q : ℕ) (other : L) (z : Chain L P O R) → q ≢ o → HasRows F s q other z → HasRows F t q other z
    else_rows q other z apart old = record {
      rows = record {
        fits = fits_same F (history_in s q) (history_in t q) other q z (λ row p le lt. history_else q row p (in_procs p lt) (inl apart)) old.rows.fits;
        layouts = old.rows.layouts;
      };
      tagged = old.tagged;
      shaped = old.shaped;
    }

    grows : Grows F.procs (history_in s) (history_in t) rows.chains newer e
    grows = record {
      chain = λ q z is. ⊎_elim {C = (w : Chain L P O R) × (slice_get newer q ≡ Some w) × (length z.past ≤ length w.past)}
          (λ (same : q ≡ o).
          let own : z ≡ x = same_Some z x (sym is ∙ ap (slice_get rows.chains) same ∙ at) in
          (y, ap (slice_get newer) same ∙ y_there, subst (λ (w : Chain L P O R). length w.past ≤ length x.past) (sym own) (le_refl (length x.past))))
          (λ other. (z, slice_get-set_else rows.chains o q y other ∙ is, le_refl (length z.past)))
          (cases_eq q o);
      kept = λ q row p z f is le lt was. ⊎_elim
          (λ (same : q ≡ o).
          let own : z ≡ x = same_Some z x (sym is ∙ ap (slice_get rows.chains) same ∙ at) in
          subst (λ r. In f (history_in t r row p)) (sym same)
          (subst (λ (h : List (Entry O R)). In f h) (sym (history_after row p (subst (λ (w : Chain L P O R). row ≤ length w.past) own le) lt))
          (told_in f e (history_in s o row p) (eqb row (length x.past) && touches (reach_of F x.row.layout e) p) (subst (λ r. In f (history_in s r row p)) same was))))
          (λ other. subst (λ (h : List (Entry O R)). In f h) (sym (history_else q row p (in_procs p lt) (inl other))) was)
          (cases_eq q o);
      split = λ q row p z f is le lt now. ⊎_elim
          (λ (t' : (q ≡ o) × (y ≡ z)).
          let le' : row ≤ length x.past = subst (λ (w : Chain L P O R). row ≤ length w.past) (sym t'.1) le in
          let split = in_told f e (history_in s o row p) (eqb row (length x.past) && touches (reach_of F x.row.layout e) p)
          (subst (λ (h : List (Entry O R)). In f h) (history_after row p le' lt) (subst (λ r. In f (history_in t r row p)) t'.0 now)) in
          ⊎_elim (λ same. inl same)
          (λ was. inr (x, ap (slice_get rows.chains) t'.0 ∙ at, (row, p, le', lt, subst (λ r. In f (history_in s r row p)) (sym t'.0) was))) split)
          (λ (t' : (q ≢ o) × (slice_get rows.chains q ≡ Some z)).
          inr (z, t'.1, (row, p, le, lt, subst (λ (h : List (Entry O R)). In f h) (history_else q row p (in_procs p lt) (inl t'.0)) now)))
          (at_set rows.chains o q y z is);
    }

    stands : InHistory F.procs (history_in t) newer e
    stands =
        let p = needed F.procs (reach_of F x.row.layout e) within in
        let hit : (eqb (length x.past) (length x.past) && touches (reach_of F x.row.layout e) p.0) ≡ true = rw (eq-eqb (length x.past) (length x.past) refl) p.2 in
        record {
          chain = y;
          there = y_there;
          has = (
            length x.past,
            p.0,
            le_refl (length x.past),
            p.1,
            subst (λ (h : List (Entry O R)). In e h) (sym (history_after (length x.past) p.0 (le_refl (length x.past)) p.1))
                (subst (λ b. In e (cond b (history_in s o (length x.past) p.0 ++ e ∷ []) (history_in s o (length x.past) p.0))) (sym hit)
                (in_right e (history_in s o (length x.past) p.0) (e ∷ []) (inl refl))),
          );
        }

    callers_there : c < length s.turns.callers
    callers_there = rw locked.many.callers there

    pub draw_keeps_rows : Fitting F declared t
    draw_keeps_rows = record {
      told = record { procs = rows.told.procs; proc_of = rows.told.proc_of };
      objects = rows.objects;
      chains = newer;
      many = length-set rows.chains o y ∙ rows.many;
      each = λ q other z declares' is. ⊎_elim {C = HasRows F t q other z}
          (λ (t' : (q ≡ o) × (y ≡ z)).
          let own : declaration ≡ other = same_Some declaration other (sym declares ∙ ap (slice_get declared) (sym t'.0) ∙ declares') in
          subst (λ w. HasRows F t q other w) t'.1 (subst (λ r. HasRows F t r other y) (sym t'.0) (subst (λ l. HasRows F t o l y) own here_rows)))
          (λ (t' : (q ≢ o) × (slice_get rows.chains q ≡ Some z)). else_rows q other z t'.0 (rows.each q other z declares' t'.1))
          (at_set rows.chains o q y z is);
      those = subst (λ ls. AreThose F.procs is_drawn ls (history_in t) newer)
          (sym (ap (map (λ (z : Caller O R). z.mine)) (callers-change_cells (cell_told e) drawing cells) ∙ lists_drawn s.turns.callers c e))
          (grown_those F.procs is_drawn (lists_of s) c (mine s c) e (list_here s c callers_there) (history_in s) (history_in t) rows.chains newer
          grows (λ pass. stands) rows.those);
    }
