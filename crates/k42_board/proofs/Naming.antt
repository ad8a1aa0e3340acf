-- A row that a pass holds gets a seat of its own, or a pass takes in the seat of a row.
use Rattle.std.proofs.Common.{◌≡◌, ◌≢◌, ℕ, zero, suc, ◌+◌, ◌-◌, ◌<◌, ◌≤◌, ◌⊎◌, Bool, true, false, cond, eqb, ◌&&◌, List, [], ◌∷◌, ◌++◌, Some, length, get_or, set, min, take, inl, inr, sym, refl, ap, ◌∙◌, subst, ⊎_elim, arith, length-set}
use Rattle.std.specs.List.{slice_get}
use Rattle.std.proofs.lemmas.Bool.{and_parts, eqb-true, eq-eqb}
use Rattle.std.proofs.lemmas.List.{drop_all, drop_more, length-append, take-append-drop, take-append-le, take_all, take_min}
use Rattle.std.proofs.lemmas.Option.{same_Some, slice_get-get_or, slice_get_within}
use Rattle.std.proofs.Math.Seq.{get_or-append_seam, take-append_seam}
use Rattle.atomic_table.specs.Table.{State, Splits, Joins}
use Rattle.atomic_table.proofs.Lists.{at_set, set_else, set_again}
use Rattle.k42_places.specs.Places.{EachPlace}
use Rattle.k42_places.proofs.Appended.{at_push, slice_get-append_left, slice_get-append_seam}
use Rattle.k42_stamp.specs.Layouts.{Layouts}
use Rattle.k42_joined.specs.Plain.{Joined}
use Rattle.k42_board.specs.Queueing.{is_row, newest, older, with_again, with_newest, keeps_older, names_newest, takes_back, takes_in, AreGranted}
use Rattle.k42_board.specs.Phases.{IsOld, IsGranted}
use Rattle.k42_board.specs.Rule.{Beside, AreOnce, NamesRows, KnowsPass, Knows, Rule, Ruled}
use Rattle.k42_board.specs.Seen.{IsSeatOf}
use Rattle.k42_board.specs.Steps.{Seated}
use Rattle.k42_board.specs.declared.view.PassView.{PassView}
use Rattle.k42_board.specs.declared.view.Row.{Row}
use Rattle.k42_board.specs.declared.view.View.{View}
use Rattle.k42_board.specs.declared.view.View.TheVariants.{Crew, Kept, Named, Drew, Spent}
use Rattle.k42_board.specs.Cells.{Slot}
use Rattle.k42_board.proofs.Dealing.{at_end}
use Rattle.k42_board.proofs.Moves.{Stays, Finds}
use Rattle.k42_board.proofs.OnePass.{apart_alone, known}

-- the test of rows is that of equality

row_is : (row other : Row) → is_row row other ≡ true → other ≡ row
row_is row other e =
    let parts = and_parts (eqb other.object row.object) (eqb other.incarnation row.incarnation) e in
    let o = eqb-true other.object row.object parts.0 in let i = eqb-true other.incarnation row.incarnation parts.1 in
    λ k. record { object = o k; incarnation = i k }

itself : (row : Row) → is_row row row ≡ true
itself row = subst (λ b. (b && eqb row.incarnation row.incarnation) ≡ true) (sym (eq-eqb row.object row.object refl)) (eq-eqb row.incarnation row.incarnation refl)

-- the names, where one row is named by another seat

abbrev pub renamed : Row → ℕ → (Row → ℕ) → Row → ℕ
renamed row seat names other = cond (is_row row other) seat (names other)

renamed_here : (row : Row) (seat : ℕ) (names : Row → ℕ) → renamed row seat names row ≡ seat
renamed_here row seat names = ap (λ b. cond b seat (names row)) (itself row)

renamed_else : (row : Row) (seat : ℕ) (names : Row → ℕ) (other : Row) → other ≢ row → renamed row seat names other ≡ names other
renamed_else row seat names other not = by_test (is_row row other) refl where
  by_test : (b : Bool) → is_row row other ≡ b → cond b seat (names other) ≡ names other
  by_test true is = absurd (not (row_is row other is))
  by_test false is = refl

renamed_both : (row : Row) (seat : ℕ) (names : Row → ℕ) (other : Row) → names other ≡ seat → renamed row seat names other ≡ seat
renamed_both row seat names other same = by_test (is_row row other) where
  by_test : (b : Bool) → cond b seat (names other) ≡ seat
  by_test true = refl
  by_test false = same

abbrev pub beside_named : {P : Type 0} → Beside P → (Row → ℕ) → Beside P
beside_named beside names = record beside { row_seat = names }

module _ {L P O R : Type 0} (tag_of : L → ℕ) (s : Joined L O R) (beside : Beside P) (names : Row → ℕ) where
  -- a pass that holds other rows, by other names
  pub with_rows : (id : ℕ) (v : PassView P O R) (rows : List Row) (granted : ℕ) → KnowsPass tag_of s beside id v → NamesRows (beside_named beside names) id rows
      → EachPlace (λ place row. IsOld s.phases row) rows → EachPlace (λ place row. IsGranted v.visitor.noted row) (take granted rows)
      → KnowsPass tag_of s (beside_named beside names) id (record v { rows = rows; granted = granted })
  with_rows id v rows granted k named old grants = record {
    there = k.there;
    seat = k.seat;
    names = named;
    generations = record {
      turn = k.generations.turn;
      graces = k.generations.graces;
      base = k.generations.base;
    };
    phases = record {
      visitor = k.phases.visitor;
      shapes = k.phases.shapes;
      layout = k.phases.layout;
      learned = k.phases.learned;
      swap = record {
        turned = k.phases.swap.turned;
        layout_begun = k.phases.swap.layout_begun;
        begun = k.phases.swap.begun;
        next = k.phases.swap.next;
      };
      rows = record {
        old = old;
        granted = grants;
        swept = k.phases.rows.swept;
        spans = k.phases.rows.spans;
      };
    };
    cells = record {
      taker = k.cells.taker;
      notes = k.cells.notes;
      noted = k.cells.noted;
      out = k.cells.out;
      only = k.cells.only;
    };
    trace = record {
      kept = k.trace.kept;
      found = k.trace.found;
      over = k.trace.over;
      handed = k.trace.handed;
      unhanded = k.trace.unhanded;
      times = k.trace.times;
    };
  }

  -- names of another seat stay
  pub other_names : (j : ℕ) (view : View P O R) → ((row : Row) → beside.row_seat row ≡ j → names row ≡ j) → Knows tag_of s beside j view
      → Knows tag_of s (beside_named beside names) j view
  other_names j (Crew passes) same knows = (knows.0, each) where
    each : EachPlace (λ place v. KnowsPass tag_of s (beside_named beside names) j v) passes
    each place x e =
        let k = knows.1 place x e in
        with_rows j x x.rows x.granted k (record { named = λ at row f. same row (k.names.named at row f); once = k.names.once }) k.phases.rows.old k.phases.rows.granted
  other_names j (Kept told) same knows = tt
  other_names j (Named row) same knows = (knows.0, same row knows.1)
  other_names j (Drew stamp) same knows = knows
  other_names j Spent same knows = tt

none_there : {A : Type 0} (i : ℕ) (a : A) → slice_get [] i ≡ Some a → ⊥
none_there i a e = cc

-- what stands among the first elements stands there also if there are more behind
in_front : {A : Type 0} (n : ℕ) (xs ys : List A) (i : ℕ) (a : A) → slice_get (take n xs) i ≡ Some a → slice_get (take n (xs ++ ys)) i ≡ Some a
in_front zero xs ys i a e = e
in_front (suc n) [] ys i a e = absurd (none_there i a e)
in_front (suc n) (x ∷ xs) ys zero a e = e
in_front (suc n) (x ∷ xs) ys (suc i) a e = in_front n xs ys i a e

module _ {S L P O R : Type 0} (F : Layouts S L P O R) (declared : List L) (callers id : ℕ) (v : PassView P O R) where
  module _ (row : Row) (rest : List Row) (rows_are : v.rows ≡ rest ++ row ∷ []) where
    split : Splits (Rule F declared) id (Crew (v ∷ [])) (Crew (record v { rows = rest; granted = min v.granted (length rest) } ∷ [])) (Named row)
    split table r at = record {
      state = r.state;
      sound = r.sound;
      beside = beside_named r.beside names;
      shows = record {
        many_words = r.shows.many_words;
        many_slots = r.shows.many_slots;
        few_objects = r.shows.few_objects;
        few_entries = r.shows.few_entries;
        generations = r.shows.generations;
        objects = r.shows.objects;
        cells = r.shows.cells;
      };
      parts = r.parts;
      seats = λ j view e.
          ⊎_elim
          (λ new. subst (λ (z : ℕ × View P O R). Knows F.tag_of r.state (beside_named r.beside names) z.0 z.1) (λ i. (sym (new.0 ∙ length-set table.views id (Crew (w ∷ []))) i, new.1 i)) (old (length rest) row here, renamed_here row last r.beside.row_seat))
          (λ before.
          ⊎_elim
          (λ is. subst (λ (z : ℕ × View P O R). Knows F.tag_of r.state (beside_named r.beside names) z.0 z.1) (λ i. (sym is.0 i, is.1 i)) left)
          (λ else. other_names F.tag_of r.state r.beside names j view (other_same j else.0) (r.seats j view else.1))
          (at_set table.views id j (Crew (w ∷ [])) view before))
          (at_end (set table.views id (Crew (w ∷ []))) (Named row) view j e);
    } where
      last : ℕ
      last = length table.views

      names : Row → ℕ
      names = renamed row (length table.views) r.beside.row_seat

      w : PassView P O R
      w = record v { rows = rest; granted = min v.granted (length rest) }

      k : KnowsPass F.tag_of r.state r.beside id v
      k = known F declared table r id v at

      here : slice_get v.rows (length rest) ≡ Some row
      here = ap (λ (l : List Row). slice_get l (length rest)) rows_are ∙ slice_get-append_seam rest row []

      before : (place : ℕ) (other : Row) → slice_get rest place ≡ Some other → slice_get v.rows place ≡ Some other
      before place other e = ap (λ (l : List Row). slice_get l place) rows_are ∙ slice_get-append_left rest (row ∷ []) place other e

      old : EachPlace (λ place other. IsOld r.state.phases other) v.rows
      old = k.phases.rows.old

      left : Knows F.tag_of r.state (beside_named r.beside names) id (Crew (w ∷ []))
      left = (apart_alone w, each) where
        names_rest : NamesRows (beside_named r.beside names) id rest
        names_rest = record {
          named = λ place other e.
              renamed_else row (length table.views) r.beside.row_seat other
              (λ same.
              let one = k.names.once place (length rest) other (before place other e) (here ∙ ap Some (sym same)) in
              let within = slice_get_within rest place other e in absurd (omega (arith, one, within)))
              ∙ k.names.named place other (before place other e);
          once = λ i j other e f. k.names.once i j other (before i other e) (before j other f);
        }

        mine : KnowsPass F.tag_of r.state (beside_named r.beside names) id w
        mine =
            with_rows F.tag_of r.state r.beside names id v rest (min v.granted (length rest)) k names_rest (λ place other e. old place other (before place other e))
            (λ place other e.
            k.phases.rows.granted place other
            (ap (λ (l : List Row). slice_get (take v.granted l) place) rows_are
            ∙ in_front v.granted rest (row ∷ []) place other (ap (λ l. slice_get l place) (sym (take_min v.granted rest)) ∙ e)))

        each : (place : ℕ) (x : PassView P O R) → slice_get (w ∷ []) place ≡ Some x → KnowsPass F.tag_of r.state (beside_named r.beside names) id x
        each zero x e = subst (KnowsPass F.tag_of r.state (beside_named r.beside names) id) (same_Some w x e) mine
        each (suc place) x e = absurd (cc)

      other_same : (j : ℕ) → j ≢ id → (other : Row) → r.beside.row_seat other ≡ j → names other ≡ j
      other_same j not other is =
          renamed_else row (length table.views) r.beside.row_seat other (λ same. not (sym is ∙ ap r.beside.row_seat same ∙ k.names.named (length rest) row here)) ∙ is

    pub splits_row : Splits (Ruled F declared callers) id (Crew (v ∷ [])) (Crew (record v { rows = rest; granted = min v.granted (length rest) } ∷ [])) (Named row)
    unfolding split
    splits_row table ruled at = record { rule = split table ruled.rule at; many = ruled.many }

  -- the row of a seat goes to the rows of the pass
  module _ (other : ℕ) (row : Row) (rows : List Row) (granted : ℕ)
      (among : (i : ℕ) (x : Row) → slice_get rows i ≡ Some x → (x ≡ row) ⊎ ((place : ℕ) × (slice_get v.rows place ≡ Some x)))
      (once : AreOnce v.rows → ((place : ℕ) → slice_get v.rows place ≢ Some row) → AreOnce rows)
      (grants : EachPlace (λ place x. IsGranted v.visitor.noted x) (take v.granted v.rows) → EachPlace (λ place x. IsGranted v.visitor.noted x) (take granted rows)) where
    join : Joins (Rule F declared) id (Crew (v ∷ [])) other (Named row) (Crew (record v { rows = rows; granted = granted } ∷ [])) Spent
    join table r at apart at_other = record {
      state = r.state;
      sound = r.sound;
      beside = beside_named r.beside names;
      shows = record {
        many_words = r.shows.many_words;
        many_slots = r.shows.many_slots;
        few_objects = r.shows.few_objects;
        few_entries = r.shows.few_entries;
        generations = r.shows.generations;
        objects = r.shows.objects;
        cells = r.shows.cells;
      };
      parts = r.parts;
      seats = λ j view e.
          ⊎_elim
          (λ gone. subst (λ (z : View P O R). Knows F.tag_of r.state (beside_named r.beside names) j z) gone.1 tt)
          (λ else.
          ⊎_elim
          (λ is. subst (λ (z : ℕ × View P O R). Knows F.tag_of r.state (beside_named r.beside names) z.0 z.1) (λ i. (sym is.0 i, is.1 i)) joined)
          (λ before. other_names F.tag_of r.state r.beside names j view (other_same j else.0) (r.seats j view before.1))
          (at_set table.views id j (Crew (w ∷ [])) view else.1))
          (at_set (set table.views id (Crew (w ∷ []))) other j Spent view e);
    } where
      names : Row → ℕ
      names = renamed row id r.beside.row_seat

      w : PassView P O R
      w = record v { rows = rows; granted = granted }

      k : KnowsPass F.tag_of r.state r.beside id v
      k = known F declared table r id v at

      theirs : Knows F.tag_of r.state r.beside other (Named row)
      theirs = r.seats other (Named row) (sym (set_else table.views id other (Crew (w ∷ [])) apart) ∙ at_other)

      absent : (place : ℕ) → slice_get v.rows place ≢ Some row
      absent place e = apart (sym theirs.1 ∙ k.names.named place row e)

      joined : Knows F.tag_of r.state (beside_named r.beside names) id (Crew (w ∷ []))
      joined = (apart_alone w, each) where
        mine : KnowsPass F.tag_of r.state (beside_named r.beside names) id w
        mine =
            with_rows F.tag_of r.state r.beside names id v rows granted k
            (record {
              named = λ i x e.
                  ⊎_elim
                  (λ (is : x ≡ row). ap names is ∙ renamed_here row id r.beside.row_seat)
                  (λ there. renamed_both row id r.beside.row_seat x (k.names.named there.0 x there.1))
                  (among i x e);
              once = once k.names.once absent;
            })
            (λ i x e.
            ⊎_elim
            (λ (is : x ≡ row). subst (IsOld r.state.phases) (sym is) theirs.0)
            (λ there. k.phases.rows.old there.0 x there.1)
            (among i x e))
            (grants k.phases.rows.granted)

        each : (place : ℕ) (x : PassView P O R) → slice_get (w ∷ []) place ≡ Some x → KnowsPass F.tag_of r.state (beside_named r.beside names) id x
        each zero x e = subst (KnowsPass F.tag_of r.state (beside_named r.beside names) id) (same_Some w x e) mine
        each (suc place) x e = absurd (cc)

      other_same : (j : ℕ) → j ≢ other → (x : Row) → r.beside.row_seat x ≡ j → names x ≡ j
      other_same j not x is = renamed_else row id r.beside.row_seat x (λ same. not (sym is ∙ ap r.beside.row_seat same ∙ theirs.1)) ∙ is

    pub joins_row : Joins (Ruled F declared callers) id (Crew (v ∷ [])) other (Named row) (Crew (record v { rows = rows; granted = granted } ∷ [])) Spent
    unfolding join
    joins_row table ruled at apart at_other = record { rule = join table ruled.rule at apart at_other; many = ruled.many }

  -- as its newest
  joins_behind : (other : ℕ) (row : Row) (granted : ℕ)
      → (EachPlace (λ place x. IsGranted v.visitor.noted x) (take v.granted v.rows) → EachPlace (λ place x. IsGranted v.visitor.noted x) (take granted (v.rows ++ row ∷ [])))
      → Joins (Ruled F declared callers) id (Crew (v ∷ [])) other (Named row) (Crew (record v { rows = v.rows ++ row ∷ []; granted = granted } ∷ [])) Spent
  joins_behind other row granted =
      joins_row other row (v.rows ++ row ∷ []) granted
      (λ i x e. ⊎_elim (λ old. inr (i, old.1)) (λ new. inl (sym new.1)) (at_push v.rows row i x e))
      (λ once absent i j x e f.
      ⊎_elim
      (λ one. ⊎_elim (λ two. once i j x one.1 two.1) (λ two. absurd (absent i (one.1 ∙ ap Some (sym two.1)))) (at_push v.rows row j x f))
      (λ one. ⊎_elim (λ two. absurd (absent j (two.1 ∙ ap Some (sym one.1)))) (λ two. one.0 ∙ sym two.0) (at_push v.rows row j x f))
      (at_push v.rows row i x e))

  same_front : (row : Row) → v.granted ≤ length v.rows
      → EachPlace (λ place x. IsGranted v.visitor.noted x) (take v.granted v.rows) → EachPlace (λ place x. IsGranted v.visitor.noted x) (take v.granted (v.rows ++ row ∷ []))
  same_front row few grants place x e = grants place x (sym (ap (λ (l : List Row). slice_get l place) (take-append-le v.granted v.rows (row ∷ []) few)) ∙ e)

  pub joins_newest : (other : ℕ) (row : Row) → v.granted ≤ length v.rows
      → Joins (Ruled F declared callers) id (Crew (v ∷ [])) other (Named row) (Crew (with_newest row v ∷ [])) Spent
  joins_newest other row few = joins_behind other row v.granted (same_front row few)

  -- again, and it is granted if all others are
  pub joins_again : (other : ℕ) (row : Row) (more : ℕ) → more ≤ 1 → v.granted ≤ length v.rows
      → (0 < more → (v.granted ≡ length v.rows) × IsGranted v.visitor.noted row)
      → Joins (Ruled F declared callers) id (Crew (v ∷ [])) other (Named row) (Crew (with_again row more v ∷ [])) Spent
  joins_again other row more most few all = joins_behind other row (v.granted + more) (by_more more most all) where
    by_more : (m : ℕ) → m ≤ 1 → (0 < m → (v.granted ≡ length v.rows) × IsGranted v.visitor.noted row)
        → EachPlace (λ place x. IsGranted v.visitor.noted x) (take v.granted v.rows) → EachPlace (λ place x. IsGranted v.visitor.noted x) (take (v.granted + m) (v.rows ++ row ∷ []))
    by_more zero le more grants place x e = same_front row few grants place x (subst (λ n. slice_get (take n (v.rows ++ row ∷ [])) place ≡ Some x) (omega arith) e)
    by_more (suc zero) le more grants place x e =
        let is : v.granted ≡ length v.rows = (more (omega arith)).0 in
        ⊎_elim
        (λ old. grants place x (ap (λ (l : List Row). slice_get l place) (take_all v.granted v.rows (omega (arith, is))) ∙ old.1))
        (λ new. subst (IsGranted v.visitor.noted) new.1 (more (omega arith)).1)
        (at_push v.rows row place x
        (ap (λ (l : List Row). slice_get l place)
        (sym (take_all (v.granted + 1) (v.rows ++ row ∷ []) (let long = length-append v.rows (row ∷ []) in omega (arith, is, long)))) ∙ e))
    by_more (suc (suc m)) le more grants place x e = absurd (omega (arith, le))

set_same : (words : List ℕ) (i : ℕ) → set words i (get_or words i 0) ≡ words
set_same [] i = refl
set_same (x ∷ words) zero = refl
set_same (x ∷ words) (suc i) = ap (λ l. x ∷ l) (set_same words i)

-- the pass learns which of its rows are granted
module _ {S L P O R : Type 0} (F : Layouts S L P O R) (declared : List L) (id : ℕ) (v : PassView P O R) where
  pub finds_granted : Finds F declared 0 AreGranted id v
  finds_granted table r at = (known F declared table r id v at).phases.rows.granted

  pub stays_so : Stays F declared 0 (λ n. n) (λ found x. x) id v
  stays_so = record { from = λ table r at. subst (λ (t : State (Slot P O R) (View P O R)). (after : Rule F declared t) × (after.state ≡ r.state)) (λ i. record { words = sym (set_same table.words 0) i; homes = table.homes; views = sym (set_again table.views id (Crew (v ∷ [])) at) i }) (r, refl) }

-- a list of rows is its older ones and the newest

pub parts_of : (rows : List Row) → 0 < length rows → rows ≡ older rows ++ newest rows ∷ []
parts_of rows lt =
    sym (take-append-drop (length rows - 1) rows)
    ∙ ap (λ l. older rows ++ l)
    (drop_more rows (length rows - 1) (record { object = 0; incarnation = 0 }) (omega (arith, lt))
    ∙ ap (λ l. newest rows ∷ l) (drop_all (length rows - 1 + 1) rows (omega arith)))

pub older_is : (rest : List Row) (row : Row) (rows : List Row) → rows ≡ rest ++ row ∷ [] → older rows ≡ rest
older_is rest row rows are =
    let long = ap length are ∙ length-append rest (row ∷ []) in
    let less : length rows - 1 ≡ length rest = omega (arith, long) in
    (λ j. take (less j) (are j)) ∙ take-append_seam rest (row ∷ [])

pub newest_is : (rest : List Row) (row : Row) (rows : List Row) → rows ≡ rest ++ row ∷ [] → newest rows ≡ row
newest_is rest row rows are =
    let long = ap length are ∙ length-append rest (row ∷ []) in
    let less : length rows - 1 ≡ length rest = omega (arith, long) in
    (λ j. get_or (are j) (less j) (record { object = 0; incarnation = 0 })) ∙ get_or-append_seam rest row [] (record { object = 0; incarnation = 0 })

-- the same for seats

module _ {S L P O R : Type 0} (F : Layouts S L P O R) (declared : List L) (callers id : ℕ) (v : PassView P O R) (me : Seated P O R) (is : IsSeatOf me v) where
  pub splits_newest : 0 < length v.rows → Splits (Ruled F declared callers) id me.0 (keeps_older me.0) (names_newest me.0)
  splits_newest lt =
      subst (λ (m : Seated P O R). Splits (Ruled F declared callers) id m.0 (keeps_older m.0) (names_newest m.0)) (sym is)
      (splits_row F declared callers id v (newest v.rows) (older v.rows) (parts_of v.rows lt))

  module _ (other : ℕ) (row : Row) (own : Seated P O R) (named : own ≡ (Named row, [])) where
    pub joins_back : (more : ℕ) → more ≤ 1 → v.granted ≤ length v.rows → (0 < more → (v.granted ≡ length v.rows) × IsGranted v.visitor.noted row)
        → Joins (Ruled F declared callers) id me.0 other own.0 (takes_back more me.0 own.0) Spent
    joins_back more most few all =
        subst (λ (z : Seated P O R × Seated P O R). Joins (Ruled F declared callers) id z.0.0 other z.1.0 (takes_back more z.0.0 z.1.0) Spent)
        (λ i. (sym is i, sym named i)) (joins_again F declared callers id v other row more most few all)

    pub joins_in : v.granted ≤ length v.rows → Joins (Ruled F declared callers) id me.0 other own.0 (takes_in me.0 own.0) Spent
    joins_in few =
        subst (λ (z : Seated P O R × Seated P O R). Joins (Ruled F declared callers) id z.0.0 other z.1.0 (takes_in z.0.0 z.1.0) Spent)
        (λ i. (sym is i, sym named i)) (joins_newest F declared callers id v other row few)

-- the newest row is granted where all are
pub granted_newest : {P O R : Type 0} (v : PassView P O R) → AreGranted v 0 → length v.rows ≤ v.granted → 0 < length v.rows → IsGranted v.visitor.noted (newest v.rows)
granted_newest v are all lt =
    are (length v.rows - 1) (newest v.rows)
    (ap (λ (l : List Row). slice_get l (length v.rows - 1)) (take_all v.granted v.rows all)
    ∙ slice_get-get_or v.rows (length v.rows - 1) (record { object = 0; incarnation = 0 }) (omega (arith, lt)))
