-- A table whose seats have other views, and know the same state by other names.
use Rattle.std.proofs.Common.{◌≡◌, ◌≢◌, ℕ, zero, suc, ◌+◌, ◌<◌, ◌≤◌, Bool, true, false, cond, List, [], ◌∷◌, ◌++◌, Some, length, get_or, set, min, take, sym, refl, ap, ◌∙◌, subst, ⊎_elim, arith, le_refl}
use Rattle.std.specs.List.{slice_get}
use Rattle.std.proofs.lemmas.List.{length-append, take-append-le, take_all, take_min}
use Rattle.std.proofs.lemmas.Option.{same_Some, slice_get_within}
use mathlib.Core.Option.{some}
use lib.ListN.{get_elem?}
use Rattle.atomic_table.specs.Table.{State}
use Rattle.atomic_table.proofs.Lists.{set_again}
use Rattle.k42_places.specs.Places.{EachPlace}
use Rattle.k42_places.proofs.Appended.{at_push, slice_get-append_left, slice_get-append_seam}
use Rattle.k42_stamp.specs.Layouts.{Layouts}
use Rattle.k42_board.specs.Cells.{Slot}
use Rattle.k42_board.specs.Phases.{IsOld, IsGranted}
use Rattle.k42_board.specs.Queueing.{newest, older, with_again, with_newest, without_newest}
use Rattle.k42_board.specs.Rule.{Beside, AreOnce, NamesRows, KnowsPass, Knows, Rule}
use Rattle.k42_board.specs.Steps.{StateStays}
use Rattle.k42_board.specs.declared.view.PassView.{PassView}
use Rattle.k42_board.specs.declared.view.Row.{Row}
use Rattle.k42_board.specs.declared.view.View.{View}
use Rattle.k42_board.specs.declared.view.View.TheVariants.{Crew, Named, Spent}
use Rattle.k42_board.proofs.Naming.{renamed, beside_named, with_rows, other_names, parts_of}
use Rattle.k42_board.proofs.OnePass.{apart_alone, known}
use Rattle.table_laws.specs.Seating.{ShowsStill, SplitStays, JoinStays}
use Rattle.table_laws.proofs.Views.{each_after_split, each_after_join}
use Rattle.table_laws.proofs.Renamed.{renamed_here, renamed_else, renamed_both, in_front}

abbrev pub beside_seated : {P : Type 0} → Beside P → (ℕ → ℕ) → (Row → ℕ) → Beside P
beside_seated beside seat names = record beside { seat = seat; row_seat = names }

module _ {S L P O R : Type 0} (F : Layouts S L P O R) (declared : List L) where
  pub still : (table : State (Slot P O R) (View P O R)) (r : Rule F declared table) (seat : ℕ → ℕ) (names : Row → ℕ) (views : List (View P O R))
      → ((j : ℕ) (view : View P O R) → get_elem? views j ≡ some view → Knows F.tag_of r.state (beside_seated r.beside seat names) j view)
      → ShowsStill F declared r (record { words = table.words; homes = table.homes; views = views })
  still table r seat names views seats = record {
    after = record {
      state = r.state;
      sound = r.sound;
      beside = beside_seated r.beside seat names;
      shows = record {
        many_words = r.shows.many_words;
        many_slots = r.shows.many_slots;
        few_objects = r.shows.few_objects;
        few_entries = r.shows.few_entries;
        generations = r.shows.generations;
        objects = r.shows.objects;
        cells = r.shows.cells;
      };
      parts = r.parts;
      seats = seats;
    };
    state = refl;
    freed = λ o. le_refl _;
  }

  module _ (id : ℕ) (v : PassView P O R) where
    -- a row of the pass gets a seat
    module _ (row : Row) (rest : List Row) (rows_are : v.rows ≡ rest ++ row ∷ []) where
      pub row_named : SplitStays F declared id (Crew (v ∷ [])) (Crew (record v { rows = rest; granted = min v.granted (length rest) } ∷ [])) (Named row)
      row_named table r at =
          still table r r.beside.seat names (set table.views id (Crew (w ∷ [])) ++ Named row ∷ [])
          (each_after_split (Knows F.tag_of r.state (beside_named r.beside names)) table.views id (Crew (w ∷ [])) (Named row) left
          (old (length rest) row here, renamed_here row (length table.views) r.beside.row_seat)
          (λ j view not e. other_names F.tag_of r.state r.beside names j view (other_same j not) (r.seats j view e))) where
            names : Row → ℕ
            names = renamed row (length table.views) r.beside.row_seat

            w : PassView P O R
            w = record v { rows = rest; granted = min v.granted (length rest) }

            k : KnowsPass F.tag_of r.state r.beside id v
            k = known F declared table r id v at

            here : slice_get v.rows (length rest) ≡ Some row
            here = ap (λ (l : List Row). slice_get l (length rest)) rows_are ∙ slice_get-append_seam rest row []

            before : (place : ℕ) (other : Row) → slice_get rest place ≡ Some other → slice_get v.rows place ≡ Some other
            before place other e = ap (λ (l : List Row). slice_get l place) rows_are ∙ slice_get-append_left rest (row ∷ []) place other e

            old : EachPlace (λ place other. IsOld r.state.phases other) v.rows
            old = k.phases.rows.old

            left : Knows F.tag_of r.state (beside_named r.beside names) id (Crew (w ∷ []))
            left = (apart_alone w, each) where
              names_rest : NamesRows (beside_named r.beside names) id rest
              names_rest = record {
                named = λ place other e.
                    renamed_else row (length table.views) r.beside.row_seat other
                    (λ same.
                    let one = k.names.once place (length rest) other (before place other e) (here ∙ ap Some (sym same)) in
                    let within = slice_get_within rest place other e in absurd (omega (arith, one, within)))
                    ∙ k.names.named place other (before place other e);
                once = λ i j other e f. k.names.once i j other (before i other e) (before j other f);
              }

              mine : KnowsPass F.tag_of r.state (beside_named r.beside names) id w
              mine =
                  with_rows F.tag_of r.state r.beside names id v rest (min v.granted (length rest)) k names_rest (λ place other e. old place other (before place other e))
                  (λ place other e.
                  k.phases.rows.granted place other
                  (ap (λ (l : List Row). slice_get (take v.granted l) place) rows_are
                  ∙ in_front v.granted rest (row ∷ []) place other (ap (λ l. slice_get l place) (sym (take_min v.granted rest)) ∙ e)))

              each : (place : ℕ) (x : PassView P O R) → slice_get (w ∷ []) place ≡ Some x → KnowsPass F.tag_of r.state (beside_named r.beside names) id x
              each zero x e = subst (KnowsPass F.tag_of r.state (beside_named r.beside names) id) (same_Some w x e) mine
              each (suc place) x e = absurd (cc)

            other_same : (j : ℕ) → j ≢ id → (other : Row) → r.beside.row_seat other ≡ j → names other ≡ j
            other_same j not other is =
                renamed_else row (length table.views) r.beside.row_seat other (λ same. not (sym is ∙ ap r.beside.row_seat same ∙ k.names.named (length rest) row here)) ∙ is

    -- the row of a seat goes to the rows of the pass
    module _ (other : ℕ) (row : Row) (granted : ℕ)
        (grants : EachPlace (λ place x. IsGranted v.visitor.noted x) (take v.granted v.rows) → EachPlace (λ place x. IsGranted v.visitor.noted x) (take granted (v.rows ++ row ∷ []))) where
      row_taken : JoinStays F declared id (Crew (v ∷ [])) other (Named row) (Crew (record v { rows = v.rows ++ row ∷ []; granted = granted } ∷ []))
      row_taken table r at apart at_other =
          still table r r.beside.seat names (set (set table.views id (Crew (w ∷ []))) other Spent)
          (each_after_join (Knows F.tag_of r.state (beside_named r.beside names)) table.views id other (Crew (w ∷ [])) Spent joined (λ j. tt)
          (λ j view not not_other e. other_names F.tag_of r.state r.beside names j view (other_same j not_other) (r.seats j view e))) where
            names : Row → ℕ
            names = renamed row id r.beside.row_seat

            w : PassView P O R
            w = record v { rows = v.rows ++ row ∷ []; granted = granted }

            k : KnowsPass F.tag_of r.state r.beside id v
            k = known F declared table r id v at

            theirs : Knows F.tag_of r.state r.beside other (Named row)
            theirs = r.seats other (Named row) at_other

            absent : (place : ℕ) → slice_get v.rows place ≢ Some row
            absent place e = apart (sym theirs.1 ∙ k.names.named place row e)

            once : AreOnce (v.rows ++ row ∷ [])
            once i j x e f =
                ⊎_elim
                (λ one. ⊎_elim (λ two. k.names.once i j x one.1 two.1) (λ two. absurd (absent i (one.1 ∙ ap Some (sym two.1)))) (at_push v.rows row j x f))
                (λ one. ⊎_elim (λ two. absurd (absent j (two.1 ∙ ap Some (sym one.1)))) (λ two. one.0 ∙ sym two.0) (at_push v.rows row j x f))
                (at_push v.rows row i x e)

            joined : Knows F.tag_of r.state (beside_named r.beside names) id (Crew (w ∷ []))
            joined = (apart_alone w, each) where
              mine : KnowsPass F.tag_of r.state (beside_named r.beside names) id w
              mine =
                  with_rows F.tag_of r.state r.beside names id v (v.rows ++ row ∷ []) granted k
                  (record {
                    named = λ i x e.
                        ⊎_elim
                        (λ there. renamed_both row id r.beside.row_seat x (k.names.named i x there.1))
                        (λ new. ap names (sym new.1) ∙ renamed_here row id r.beside.row_seat)
                        (at_push v.rows row i x e);
                    once = once;
                  })
                  (λ i x e.
                  ⊎_elim
                  (λ there. k.phases.rows.old i x there.1)
                  (λ new. subst (IsOld r.state.phases) new.1 theirs.0)
                  (at_push v.rows row i x e))
                  (grants k.phases.rows.granted)

              each : (place : ℕ) (x : PassView P O R) → slice_get (w ∷ []) place ≡ Some x → KnowsPass F.tag_of r.state (beside_named r.beside names) id x
              each zero x e = subst (KnowsPass F.tag_of r.state (beside_named r.beside names) id) (same_Some w x e) mine
              each (suc place) x e = absurd (cc)

            other_same : (j : ℕ) → j ≢ other → (x : Row) → r.beside.row_seat x ≡ j → names x ≡ j
            other_same j not x is = renamed_else row id r.beside.row_seat x (λ same. not (sym is ∙ ap r.beside.row_seat same ∙ theirs.1)) ∙ is

    pub newest_named : 0 < length v.rows → SplitStays F declared id (Crew (v ∷ [])) (Crew (without_newest v ∷ [])) (Named (newest v.rows))
    newest_named some_ = row_named (newest v.rows) (older v.rows) (parts_of v.rows some_)

    same_front : (row : Row) → v.granted ≤ length v.rows
        → EachPlace (λ place x. IsGranted v.visitor.noted x) (take v.granted v.rows) → EachPlace (λ place x. IsGranted v.visitor.noted x) (take v.granted (v.rows ++ row ∷ []))
    same_front row few grants place x e = grants place x (sym (ap (λ (l : List Row). slice_get l place) (take-append-le v.granted v.rows (row ∷ []) few)) ∙ e)

    pub taken_in : (other : ℕ) (row : Row) → v.granted ≤ length v.rows
        → JoinStays F declared id (Crew (v ∷ [])) other (Named row) (Crew (with_newest row v ∷ []))
    taken_in other row few = row_taken other row v.granted (same_front row few)

    pub taken_back : (other : ℕ) (row : Row) (granted : Bool) → v.granted ≤ length v.rows → (granted ≡ true → v.granted ≡ length v.rows)
        → (granted ≡ true → IsGranted v.visitor.noted row)
        → JoinStays F declared id (Crew (v ∷ [])) other (Named row) (Crew (with_again row (cond granted 1 0) v ∷ []))
    taken_back other row true few all noted = row_taken other row (v.granted + 1) grants where
      grants : EachPlace (λ place x. IsGranted v.visitor.noted x) (take v.granted v.rows) → EachPlace (λ place x. IsGranted v.visitor.noted x) (take (v.granted + 1) (v.rows ++ row ∷ []))
      grants are place x e =
          let is : v.granted ≡ length v.rows = all refl in
          ⊎_elim
          (λ old. are place x (ap (λ (l : List Row). slice_get l place) (take_all v.granted v.rows (omega (arith, is))) ∙ old.1))
          (λ new. subst (IsGranted v.visitor.noted) new.1 (noted refl))
          (at_push v.rows row place x
          (ap (λ (l : List Row). slice_get l place)
          (sym (take_all (v.granted + 1) (v.rows ++ row ∷ []) (let long = length-append v.rows (row ∷ []) in omega (arith, is, long)))) ∙ e))
    taken_back other row false few all noted = row_taken other row (v.granted + 0) grants where
      grants : EachPlace (λ place x. IsGranted v.visitor.noted x) (take v.granted v.rows) → EachPlace (λ place x. IsGranted v.visitor.noted x) (take (v.granted + 0) (v.rows ++ row ∷ []))
      grants are place x e = same_front row few are place x (subst (λ n. slice_get (take n (v.rows ++ row ∷ [])) place ≡ Some x) (omega arith) e)

  set_same : (words : List ℕ) (i : ℕ) → set words i (get_or words i 0) ≡ words
  set_same [] i = refl
  set_same (x ∷ words) zero = refl
  set_same (x ∷ words) (suc i) = ap (λ l. x ∷ l) (set_same words i)

  pub read_stays : (word id found : ℕ) (v : PassView P O R) → StateStays F declared word (λ n. n) id v found v
  read_stays word id found v table r at is =
      subst (λ (t : State (Slot P O R) (View P O R)). (after : Rule F declared t) × (after.state ≡ r.state))
      (λ i. record { words = sym (ap (λ n. set table.words word n) (sym is) ∙ set_same table.words word) i; homes = table.homes; views = sym (set_again table.views id (Crew (v ∷ [])) at) i })
      (r, refl)
