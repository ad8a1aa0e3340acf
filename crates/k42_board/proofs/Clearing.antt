-- Giving up what is moved, and ending a swap.
use Rattle.std.proofs.Common.{◌≡◌, ◌⊎◌, inl, inr, ⊎_elim, ℕ, zero, suc, ◌+◌, ◌-◌, ◌^◌, ◌<◌, ◌≤◌, Bool, true, false, cond, ◌||◌, eqb, List, [], ◌∷◌, ◌++◌, Some, None, length, get_or, set, sym, refl, ap, ◌∙◌, subst, arith, take, length-set, get_or-set_same, get_or-set_other}
use Rattle.std.specs.Prelude.{◌&&◌}
use Rattle.std.specs.Int.RustNames.{bit_and}
use Rattle.std.specs.List.{slice_get}
use Rattle.std.proofs.lemmas.Bool.{eqb-true, eq-eqb, and_parts}
use Rattle.std.proofs.lemmas.List.{take-append-le}
use Rattle.std.proofs.lemmas.Option.{slice_get-get_or, same_Some}
use mathlib.Core.Option.{some}
use lib.ListN.{get_elem?}
use Rattle.atomic_table.specs.Table.{State, Step, Allows}
use Rattle.k42_places.specs.Places.{EachPlace}
use Rattle.phase_core.specs.Effects.{at_stage, unblocked, cleared}
use Rattle.phase_core.specs.Event.{Unblock, Clear}
use Rattle.phase_core.specs.Plain.{Object, Phases}
use Rattle.phase_core.specs.Stages.{named_by, object_named, is_moved, is_ended}
use Rattle.phase_core.specs.State.{object_at, fresh_object}
use Rattle.phase_core.specs.declared.caller.SwapAt.{SwapAt}
use Rattle.phase_core.specs.declared.caller.SwapAt.TheVariants.{Idle, Refused, Moved, Reopening, Opened}
use Rattle.turn_core.specs.Plain as turns
use Rattle.k42_stamp.specs.Laws.{AreLaws}
use Rattle.k42_stamp.specs.Layouts.{Layouts}
use Rattle.k42_joined.specs.Answers.{is_turned}
use Rattle.k42_joined.specs.Event.{AtPhases}
use Rattle.k42_joined.specs.Plain.{Kept, Joined}
use Rattle.k42_joined.specs.Possible.{IsPossible}
use Rattle.k42_joined.specs.State.{nothing_kept, kept_of, is_handed}
use Rattle.k42_joined.specs.Swapping.{holds_none, may_clear}
use Rattle.k42_board.specs.Cells.{Slot}
use Rattle.k42_board.specs.Phases.{IsOld, KnowsSwap}
use Rattle.k42_board.specs.Rule.{NamesRows, KnowsPass, Rule, Ruled}
use Rattle.k42_board.specs.Seen.{IsSeatOf}
use Rattle.k42_board.specs.Steps.{Seated, Tells, TellsWith}
use Rattle.k42_board.specs.Swapping.{object_swapped, at_swap, MayClearAt, MayClear, clear_event, kept_bits, clears, ClearFound, rows_ended, cleared_view}
use Rattle.k42_board.specs.Values.{incarnation_in}
use Rattle.k42_board.specs.Log.{took}
use Rattle.k42_board.specs.Views.{kept_in, pass_in, word_begun}
use Rattle.k42_board.specs.Words.{object_word}
use Rattle.k42_board.specs.declared.view.PassView.{PassView}
use Rattle.k42_board.specs.declared.view.StepName.TheVariants as steps
use Rattle.k42_board.specs.declared.view.Row.{Row}
use Rattle.k42_board.specs.declared.view.View.{View}
use Rattle.k42_board.specs.declared.view.View.TheVariants.{Crew}
use Rattle.k42_board.proofs.AtTables.{visited, Steps, visits, visits_naming, of_object, object_written, few_entries, written_shows}
use Rattle.k42_board.proofs.Fields.{object_fits, unblocked_value, cleared_value}
use Rattle.k42_board.proofs.Looking.{object_shown}
use Rattle.k42_board.proofs.Logged.{logged_moves}
use Rattle.k42_board.proofs.Moves.{Moves}
use Rattle.k42_board.proofs.OnePass.{with_pass, known}
use Rattle.k42_board.proofs.Restored.{clear_finds}
use Rattle.k42_board.proofs.Retold.{retold, retold_allowed_with}
use Rattle.k42_board.proofs.Staging.{IsStaged, stays_staged, stage_is, there, few, object_is, staged_effect, staged_visit, swap_staged, rows_staged, rows_old, own_staged}
use Rattle.k42_board.proofs.TurningOver.{stage, o_there, small, fits, unturned}

-- of a list with one more at its end
pushed : {A : Type 0} (xs : List A) (i : ℕ) (x y : A) → slice_get (xs ++ x ∷ []) i ≡ Some y → (slice_get xs i ≡ Some y) ⊎ ((i ≡ length xs) × (x ≡ y))
pushed [] zero x y e = inr (refl, same_Some x y e)
pushed [] (suc i) x y e = absurd (cc)
pushed (z ∷ xs) zero x y e = inl e
pushed (z ∷ xs) (suc i) x y e = ⊎_elim (λ h. inl h) (λ (h : (i ≡ length xs) × (x ≡ y)). inr (ap suc h.0, h.1)) (pushed xs i x y e)

or_true : (b : Bool) → b || true ≡ true
or_true true = refl
or_true false = refl

-- what is asked of a pass, by its stage

moved_may : {P O R : Type 0} (v : PassView P O R) (swap : SwapAt) → is_moved swap ≡ true → MayClearAt swap v → (v.handed ≡ None) × (holds_none v.taker.held ≡ true)
moved_may v (Moved o) e may = may
moved_may v swap e may = absurd (cc)

ended_may : {P O R : Type 0} (v : PassView P O R) (swap : SwapAt) → is_moved swap ≡ false → MayClearAt swap v → is_ended swap ≡ true
ended_may v (Refused o) e may = refl
ended_may v (Opened o) e may = refl
ended_may v (Moved o) e may = absurd (cc)
ended_may v swap e may = absurd may

clear_may : {P O R : Type 0} (v : PassView P O R) (k : Object) (swap : SwapAt) → is_ended swap ≡ true → MayClearAt swap v → v.turned ≡ is_turned swap k
    → may_clear swap k v.abandoned ≡ true
clear_may v k (Refused o) e may is = refl
clear_may v k (Opened o) e may is =
    ⊎_elim (λ (t : v.turned ≡ true). ap (λ b. b || v.abandoned) (sym is ∙ t)) (λ (a : v.abandoned ≡ true). ap (λ b. k.complete || b) a ∙ or_true k.complete) may
clear_may v k swap e may is = absurd (cc)

-- what an ended stage tells
record IsEnded (swap : SwapAt) : Type 0 where
  pub named : named_by swap ≡ Some (object_named swap)
  pub unmoved : is_moved swap ≡ false
  pub complete : (k : Object) → is_turned swap k ≡ true → k.complete ≡ true

ended_is : (swap : SwapAt) → is_ended swap ≡ true → IsEnded swap
ended_is (Refused o) e = record { named = refl; unmoved = refl; complete = λ k turned. absurd (cc) }
ended_is (Opened o) e = record { named = refl; unmoved = refl; complete = λ k turned. turned }
ended_is swap e = absurd (cc)

module _ {S L P O R : Type 0} (F : Layouts S L P O R) (laws : AreLaws F) (declared : List L)
    (table : State (Slot P O R) (View P O R)) (r : Rule F declared table) (id : ℕ) (v : PassView P O R)
    (at : get_elem? table.views id ≡ some (Crew (v ∷ []))) where
  abbrev s : Phases
  s = r.state.phases

  abbrev c : ℕ
  c = v.number

  abbrev o : ℕ
  o = object_swapped v

  abbrev k : Object
  k = object_at s o

  abbrev found : ℕ
  found = get_or table.words (object_word o) 0

  knows : KnowsPass F.tag_of r.state r.beside id v
  knows = known F declared table r id v at

  c_kept : c < length r.state.kept
  c_kept = let many = r.sound.cells.locks.many.kept in let lt = knows.there in omega (arith, many, lt)

  -- it gives up
  module _ (moves : is_moved v.visitor.swap ≡ true) (unhanded : v.handed ≡ None) (free : holds_none v.taker.held ≡ true) where
    abbrev u : Object
    u = unblocked k

    abbrev kept' : Kept R
    kept' = record (kept_of r.state c) { abandoned = false }

    abbrev kept : List (Kept R)
    kept = set r.state.kept c kept'

    given_up : IsStaged r.state o u
    given_up = stays_staged r.state o u (record { shapes = refl; layout = refl; incarnation = refl; freed = refl; complete = λ done. done })

    may_give_up : IsPossible F declared r.state (AtPhases (Unblock c))
    may_give_up = record {
      caller = knows.there;
      may = record {
        objects = tt;
        core = ap is_moved (stage_is F laws declared table r id v at) ∙ moves;
        beside =
            rw (
              ap (λ (z : turns.Caller O R). holds_none z.held) knows.cells.taker ∙ free,
              ap (λ z. is_handed r.state (object_named z)) (stage_is F laws declared table r id v at) ∙ knows.trace.unhanded unhanded moves,
            )
            refl;
      };
    }

    abbrev reopening : Joined L O R
    reopening = visited r.state (set s.objects o u) (set s.callers c (at_stage v.visitor (Reopening o 0))) kept

    abbrev giving_up : PassView P O R
    giving_up = record (at_swap v (Reopening o 0)) { abandoned = false }

    kept_is : kept_of reopening c ≡ kept_in giving_up
    kept_is =
        get_or-set_same r.state.kept c kept' nothing_kept c_kept
        ∙ (λ j. record { begun = (ap (λ (z : Kept R). z.begun) knows.trace.kept) j; found = (ap (λ (z : Kept R). z.found) knows.trace.kept) j; abandoned = false })

    pass_giving_up : KnowsPass F.tag_of reopening r.beside id giving_up
    pass_giving_up =
        let is = stage F laws declared table r id v at moves in let not = unturned F laws declared table r id v at moves in
        own_staged F laws declared table r id v at is.named (Unblock c) u kept (Reopening o 0) given_up false v.turned v.handed v.rows
        r.beside.row_seat knows.names
        (swap_staged F laws declared table r id v at is.named (Unblock c) u kept (Reopening o 0) given_up false v.turned v.handed v.rows
        (record {
          names = refl;
          turned_is = not;
          layout = knows.phases.swap.layout_begun o is.named;
          begun = knows.phases.swap.begun o is.named;
          next = knows.phases.swap.next o is.named;
        }))
        (rows_staged F laws declared table r id v at is.named (Unblock c) u kept (Reopening o 0) given_up false v.turned v.handed v.rows refl
        (rows_old F laws declared table r id v at is.named (Unblock c) u kept (Reopening o 0) given_up false v.turned v.handed v.rows))
        kept_is
        (λ tag e. absurd (let none = unhanded in cc))
        (λ moved. absurd (cc))

    gives_up : Steps F declared r.state (AtPhases (Unblock c))
        (with_pass table (set table.words (object_word o) (bit_and found (2 ^ 64 - 1 - 2 ^ 25 - 2 ^ 26))) table.homes id giving_up)
    gives_up =
        let is = stage F laws declared table r id v at moves in let lt = o_there F laws declared table r id v at moves in
        let low = small F laws declared table r id v at moves in
        let new : ℕ = bit_and found (2 ^ 64 - 1 - 2 ^ 25 - 2 ^ 26) in
        visits F laws declared table r id v at (Unblock c) (set s.objects o u) kept (at_stage v.visitor (Reopening o 0))
        (staged_visit F laws declared table r id v at is.named (Unblock c) u kept (Reopening o 0) given_up may_give_up
        (staged_effect F laws declared table r id v at is.named (λ q. Reopening q 0) (λ l. unblocked l) kept)
        (λ d not. get_or-set_other r.state.kept c d kept' nothing_kept not))
        (set table.words (object_word o) new) giving_up
        (written_shows F laws declared table r id v at (set s.objects o u) (at_stage v.visitor (Reopening o 0)) kept (object_word o) new giving_up
        (of_object o low) (length-set s.objects o u)
        (object_written table.words s.objects o k u new r.shows.many_words r.shows.few_objects
        (few_entries F laws declared table r id v at) low (slice_get-get_or s.objects o fresh_object lt) refl refl
        (unblocked_value k found (fits F laws declared table r id v at moves) (object_shown F laws declared table r id v at o lt)) r.shows.objects))
        pass_giving_up

  -- it ends its swap
  module _ (ended : is_ended v.visitor.swap ≡ true) (may : MayClearAt v.visitor.swap v) (few_granted : v.granted ≤ length v.rows) where
    abbrev l : Object
    l = cleared k

    is_end : IsEnded v.visitor.swap
    is_end = ended_is v.visitor.swap ended

    there' : o < length s.objects
    there' = there F laws declared table r id v at is_end.named

    low : o < 16
    low = few F laws declared table r id v at is_end.named

    over : IsStaged r.state o l
    over = stays_staged r.state o l (record { shapes = refl; layout = refl; incarnation = refl; freed = refl; complete = λ done. absurd (cc) })

    may_end : IsPossible F declared r.state (AtPhases (Clear c))
    may_end = record {
      caller = knows.there;
      may = record {
        objects = tt;
        core = ap is_ended (stage_is F laws declared table r id v at) ∙ ended;
        beside =
            ap (λ (z : SwapAt × Kept R). may_clear z.0 (object_at s (object_named z.0)) z.1.abandoned)
            (λ j. ((stage_is F laws declared table r id v at) j, knows.trace.kept j))
            ∙ clear_may v k v.visitor.swap ended may knows.phases.swap.turned;
      };
    }

    abbrev idle : Joined L O R
    idle = visited r.state (set s.objects o l) (set s.callers c (at_stage v.visitor Idle)) r.state.kept

    -- with these rows
    module _ (rows : List Row) (naming : Row → ℕ) where
      abbrev ending : PassView P O R
      ending = record (at_swap v Idle) { turned = false; rows = rows }

      knows_none : KnowsSwap idle.phases ending
      knows_none = record {
        turned = refl;
        layout_begun = λ q named. absurd (cc);
        begun = λ q named. absurd (cc);
        next = λ q named. absurd (cc);
      }

      ends : ((row : Row) → IsOld s row → naming row ≡ r.beside.row_seat row) → NamesRows (record r.beside { row_seat = naming }) id rows
          → take v.granted rows ≡ take v.granted v.rows → EachPlace (λ place row. IsOld idle.phases row) rows
          → Steps F declared r.state (AtPhases (Clear c))
          (with_pass table (set table.words (object_word o) (bit_and found (2 ^ 64 - 1 - 2 ^ 24 - 2 ^ 27))) table.homes id ending)
      ends same names granted old =
          let new : ℕ = bit_and found (2 ^ 64 - 1 - 2 ^ 24 - 2 ^ 27) in
          visits_naming F laws declared table r id v at (Clear c) (set s.objects o l) r.state.kept (at_stage v.visitor Idle)
          (staged_visit F laws declared table r id v at is_end.named (Clear c) l r.state.kept Idle over may_end
          (staged_effect F laws declared table r id v at is_end.named (λ q. Idle) (λ m. cleared m) r.state.kept) (λ d not. refl))
          naming same (set table.words (object_word o) new) ending
          (written_shows F laws declared table r id v at (set s.objects o l) (at_stage v.visitor Idle) r.state.kept (object_word o) new ending
          (of_object o low) (length-set s.objects o l)
          (object_written table.words s.objects o k l new r.shows.many_words r.shows.few_objects
          (few_entries F laws declared table r id v at) low (slice_get-get_or s.objects o fresh_object there') refl refl
          (cleared_value k found (object_fits s r.sound.phases o there') (object_shown F laws declared table r id v at o there')) r.shows.objects))
          (own_staged F laws declared table r id v at is_end.named (Clear c) l r.state.kept Idle over v.abandoned false v.handed rows
          naming names knows_none
          (rows_staged F laws declared table r id v at is_end.named (Clear c) l r.state.kept Idle over v.abandoned false v.handed rows granted old)
          knows.trace.kept
          (λ tag e. absurd (let was = (knows.trace.handed tag e).0 in let not = is_end.unmoved in cc))
          (λ moved. absurd (cc)))

    still_old : EachPlace (λ place row. IsOld idle.phases row) v.rows
    still_old = rows_old F laws declared table r id v at is_end.named (Clear c) l r.state.kept Idle over v.abandoned false v.handed v.rows

    -- the row that it has turned over
    abbrev row : Row
    row = record { object = o; incarnation = incarnation_in (word_begun v.last) }

    abbrev is_row : Row → Bool
    is_row other = eqb other.object o && eqb other.incarnation (incarnation_in (word_begun v.last))

    abbrev naming : Row → ℕ
    naming other = cond (is_row other) id (r.beside.row_seat other)

    module _ (turned : v.turned ≡ true) where
      next : incarnation_in (word_begun v.last) + 1 ≡ k.incarnation
      next = knows.phases.swap.next o is_end.named turned

      complete : k.complete ≡ true
      complete = is_end.complete k (sym knows.phases.swap.turned ∙ turned)

      -- nobody could name it before
      not_old : (other : Row) → other.object ≡ o → other.incarnation ≡ incarnation_in (word_begun v.last) → IsOld s other → ⊥
      not_old other same is old =
          let lt = old.1 (ap (λ z. (object_at s z).complete) same ∙ complete) in
          let here = ap (λ z. (object_at s z).incarnation) same in let n = next in absurd (omega (arith, lt, here, is, n))

      same_names : (other : Row) → IsOld s other → naming other ≡ r.beside.row_seat other
      same_names other old = by_test (is_row other) refl where
        by_test : (b : Bool) → is_row other ≡ b → cond b id (r.beside.row_seat other) ≡ r.beside.row_seat other
        by_test true e =
            let parts = and_parts (eqb other.object o) (eqb other.incarnation (incarnation_in (word_begun v.last))) e in
            absurd (not_old other (eqb-true other.object o parts.0) (eqb-true other.incarnation (incarnation_in (word_begun v.last)) parts.1) old)
        by_test false e = refl

      named_here : naming row ≡ id
      named_here = rw (eq-eqb o o refl, eq-eqb (incarnation_in (word_begun v.last)) (incarnation_in (word_begun v.last)) refl) refl

      held_old : (place : ℕ) (other : Row) → slice_get v.rows place ≡ Some other → row ≡ other → ⊥
      held_old place other e same =
          not_old other (ap (λ (z : Row). z.object) (sym same)) (ap (λ (z : Row). z.incarnation) (sym same)) (knows.phases.rows.old place other e)

      names_after : NamesRows (record r.beside { row_seat = naming }) id (v.rows ++ row ∷ [])
      names_after = record {
        named = λ place other e.
            ⊎_elim
            (λ here. same_names other (knows.phases.rows.old place other here) ∙ knows.names.named place other here)
            (λ (last : (place ≡ length v.rows) × (row ≡ other)). ap naming (sym last.1) ∙ named_here)
            (pushed v.rows place row other e);
        once = λ i j other e f.
            ⊎_elim
            (λ here.
            ⊎_elim (λ there. knows.names.once i j other here there)
            (λ (last : (j ≡ length v.rows) × (row ≡ other)). absurd (held_old i other here last.1))
            (pushed v.rows j row other f))
            (λ (last : (i ≡ length v.rows) × (row ≡ other)).
            ⊎_elim (λ there. absurd (held_old j other there last.1))
            (λ (also : (j ≡ length v.rows) × (row ≡ other)). last.0 ∙ sym also.0)
            (pushed v.rows j row other f))
            (pushed v.rows i row other e);
      }

      row_old : IsOld idle.phases row
      row_old =
          subst (λ (m : Object). (row.incarnation < m.incarnation) × (m.complete ≡ true → row.incarnation + 1 < m.incarnation))
          (sym (object_is F laws declared table r id v at is_end.named (Clear c) l r.state.kept Idle))
          ((let n = next in omega (arith, n)), λ done. absurd (cc))

      rows_after : EachPlace (λ place other. IsOld idle.phases other) (v.rows ++ row ∷ [])
      rows_after place other e =
          ⊎_elim (λ here. still_old place other here) (λ (last : (place ≡ length v.rows) × (row ≡ other)). subst (IsOld idle.phases) last.1 row_old)
          (pushed v.rows place row other e)

      ends_turned : Steps F declared r.state (AtPhases (Clear c))
          (with_pass table (set table.words (object_word o) (bit_and found (2 ^ 64 - 1 - 2 ^ 24 - 2 ^ 27))) table.homes id (ending (v.rows ++ row ∷ []) naming))
      ends_turned = ends (v.rows ++ row ∷ []) naming same_names names_after (take-append-le v.granted v.rows (row ∷ []) few_granted) rows_after

    by_turned : (b : Bool) → v.turned ≡ b → Steps F declared r.state (AtPhases (Clear c))
        (with_pass table (set table.words (object_word o) (bit_and found (2 ^ 64 - 1 - 2 ^ 24 - 2 ^ 27))) table.homes id
        (record (at_swap v Idle) { turned = false; rows = cond b (v.rows ++ row ∷ []) v.rows }))
    by_turned true is = ends_turned is
    by_turned false is = ends v.rows r.beside.row_seat (λ other old. refl) knows.names refl still_old

  clears_at : (b : Bool) → is_moved v.visitor.swap ≡ b → MayClear v → v.granted ≤ length v.rows
      → Steps F declared r.state (AtPhases (cond b (Unblock c) (Clear c)))
      (with_pass table (set table.words (object_word o) (bit_and found (cond b (2 ^ 64 - 1 - 2 ^ 25 - 2 ^ 26) (2 ^ 64 - 1 - 2 ^ 24 - 2 ^ 27)))) table.homes id
      (cond b (record (at_swap v (Reopening o 0)) { abandoned = false }) (record (at_swap v Idle) { turned = false; rows = rows_ended v })))
  clears_at true is may few_granted = let asked = moved_may v v.visitor.swap is may in gives_up is asked.0 asked.1
  clears_at false is may few_granted = by_turned (ended_may v v.visitor.swap is may) may few_granted v.turned refl

  pub clears_step : MayClear v → v.granted ≤ length v.rows → Steps F declared r.state (AtPhases (clear_event c v.visitor.swap))
      (with_pass table (set table.words (object_word o) (clears v.visitor.swap found)) table.homes id (cleared_view v))
  clears_step may few_granted = clears_at (is_moved v.visitor.swap) refl may few_granted

clear_goes : {S L P O R : Type 0} (F : Layouts S L P O R) → AreLaws F → (declared : List L) (id : ℕ) (v : PassView P O R) → MayClear v → v.granted ≤ length v.rows
    → Moves F declared (AtPhases (clear_event v.number v.visitor.swap)) (object_word (object_swapped v)) (clears v.visitor.swap) (λ found. cleared_view) id v
clear_goes F laws declared id v may few_granted = record { from = λ table r at. clears_step F laws declared table r id v at may few_granted }

pub clear_moves : {S L P O R : Type 0} (F : Layouts S L P O R) → AreLaws F → (declared : List L) (id : ℕ) (v : PassView P O R) → MayClear v → v.granted ≤ length v.rows
    → Moves F declared (AtPhases (clear_event v.number v.visitor.swap)) (object_word (object_swapped v)) (clears v.visitor.swap) (λ found x. took steps.Clear (object_word (object_swapped x)) found (cleared_view x))
    id v
clear_moves F laws declared id v may few_granted = record { from = (logged_moves steps.Clear (λ n. n) (λ found q before is. is) (clear_goes F laws declared id v may few_granted)).from }

-- as the play tells it, of what is left under this mask at the word that the step names
module _ {S L P O R : Type 0} (F : Layouts S L P O R) (laws : AreLaws F) (declared : List L) (id : ℕ)
    (me : Seated P O R) (is : IsSeatOf me (pass_in me.0)) (may : MayClear (pass_in me.0)) (few_granted : (pass_in me.0).granted ≤ length (pass_in me.0).rows)
    (word o : ℕ) (at : word ≡ object_word o) (same : object_swapped (pass_in me.0) ≡ o) (mask : ℕ) (keeps : mask ≡ kept_bits (pass_in me.0).visitor.swap) where
  clear_there : word ≡ object_word (object_swapped (pass_in me.0))
  clear_there = at ∙ ap object_word (sym same)

  abbrev clear_row : ℕ → PassView P O R → PassView P O R
  clear_row found x = took steps.Clear (object_word (object_swapped x)) found (cleared_view x)

  abbrev clear_play : ℕ → PassView P O R → PassView P O R
  clear_play found x = took steps.Clear word found (cleared_view x)

  clear_same : (found : ℕ) → clear_row found (pass_in me.0) ≡ clear_play found (pass_in me.0)
  clear_same found = ap (λ i. took steps.Clear i found (cleared_view (pass_in me.0))) (sym clear_there)

  pub clear_allowed : {callers : ℕ} (slots : ℕ) (step : Step (Slot P O R))
      → Allows (Ruled F declared callers) slots id me word (λ n. bit_and n mask) (TellsWith clear_play ClearFound step me)
  clear_allowed {callers} slots step =
      subst (λ (z : ℕ). Allows (Ruled F declared callers) slots id me word (λ n. bit_and n z) (TellsWith clear_play ClearFound step me)) (sym keeps)
      (retold_allowed_with clear_row clear_play clear_same (clear_moves F laws declared id (pass_in me.0) may few_granted) ClearFound
      (clear_finds F declared id (pass_in me.0)) me is word clear_there slots step)

  pub clear_told : (step : Step (Slot P O R)) (found : ℕ) (after : Seated P O R) → TellsWith clear_play ClearFound step me found after → Tells clear_row step me found after
  clear_told step found after told = retold clear_row clear_play clear_same me after is step found told.0
