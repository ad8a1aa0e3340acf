-- A caller whose place and rows alone change keeps every fact.
use Rattle.std.proofs.Common.{◌≡◌, ℕ, ◌+◌, ◌-◌, ◌<◌, ◌≤◌, ◌≢◌, ◌⊎◌, ◌∙◌, Bool, true, false, cond, List, [], Some, None, length, set, length-set, sym, refl, inl, inr, ⊎_elim, arith}
use Rattle.std.specs.List.{slice_get}
use Rattle.std.specs.Bool.{MatchBool}
use Rattle.std.proofs.lemmas.Option.{same_Some, slice_get_within}
use Rattle.std.proofs.lemmas.Bool.{and_parts, eqb-true, eq-eqb, ne_eqb}
use Rattle.gen_core.specs.Plain.{Caller}
use Rattle.k42_places.specs.Places.{EachPlace}
use Rattle.k42_places.proofs.EachPlaces.{EachPlace-set, EachPlace-set_else}
use Rattle.k42_places.proofs.Counts.{count_by-set_same, count_by-set_more, count_by-set_less}
use Rattle.phase_core.specs.declared.object.LocalEntry.{LocalEntry}
use Rattle.phase_core.specs.declared.caller.Place.{Place}
use Rattle.phase_core.specs.declared.caller.Place.TheVariants.{Out, Missed, Direct, AtMediator, Tracked, Blocked}
use Rattle.phase_core.specs.Callers.{IsInPresentRow, IsUncounted, IsAtPlace, IsRow, IsReadOnce, IsVisitor}
use Rattle.phase_core.specs.Effects.{at_place, looked_up, place_found, is_empty_at, direct_entry, knocked, counted_in, counted_out}
use Rattle.phase_core.specs.Objects.{bits_of, IsMediator, IsOpen, IsEntry, IsObject, counts_at, many_counted, IsCounted}
use Rattle.phase_core.specs.Outlooks.{Outlook, Scene, is_closed, is_mediated, behind}
use Rattle.phase_core.specs.Plain.{Object, Visitor, Phases}
use Rattle.phase_core.specs.Sound.{IsInScene}
use Rattle.phase_core.specs.State.{has_row, with_row, put_object, put_visitor, put_entry}
use Rattle.phase_core.proofs.Rows.{with_row_here, with_row_split, times_with_row}
use Rattle.k42_places.proofs.EachPairs.{EachPair-change}
use Rattle.phase_core.proofs.Swaps.{open_stage, moved_blocks, entry_recent, entry_closed, IsObject-count, IsObject-entry}

-- a caller whose place and rows alone change
abbrev pub moved_to : Visitor → Place → List (ℕ × ℕ) → Visitor
moved_to x place rows = record x { place = place; read = rows }

-- facts of a row that was read just now: that of an entry, or of the incarnation
pub record IsReadable (look : Outlook) (i : ℕ) : Type 0 where
  pub kept : look.freed ≤ i
  pub recent : (i ≡ look.incarnation) ⊎ (i + 1 ≡ look.incarnation)
  pub present : is_closed look.stage ≡ true → i ≡ look.incarnation
  pub noted : (n : ℕ) → look.noted ≡ Some n → n ≤ i

module _ (scene : Scene) (s : Phases) (h : IsInScene scene s) (c : ℕ) (g : Caller) (x : Visitor)
    (at_g : slice_get s.turns.callers c ≡ Some g) (at_x : slice_get s.callers c ≡ Some x) where
  pub known : IsVisitor scene c g x
  known = h.visitors c g x at_g at_x

  -- the frame: the caller's own facts are shown anew, and what changes of the objects
  pub keeps_visit : (place : Place) (rows : List (ℕ × ℕ)) (objects : List Object)
      → length objects ≡ scene.objects
      → EachPlace (λ o k. IsObject scene.course.procs scene.course.callers (scene.looks o) o k) objects
      → EachPlace (IsCounted (set s.callers c (moved_to x place rows))) objects
      → (g.active ≡ None → (place ≡ Out) × (rows ≡ []))
      → IsAtPlace scene g rows place
      → ((q i : ℕ) → has_row rows q i ≡ true → IsRow scene.course (scene.looks q) g i)
      → IsReadOnce scene.objects rows
      → IsInScene scene (record s { callers = set s.callers c (moved_to x place rows); objects = objects })
  keeps_visit place rows objects many each counted rest placed read once = record {
    in_course = h.in_course;
    many_objects = many;
    many_callers = length-set s.callers c (moved_to x place rows) ∙ h.many_callers;
    objects = each;
    counted = counted;
    visitors = EachPair-change (IsVisitor scene) (IsVisitor scene) s.turns.callers s.turns.callers s.callers c (moved_to x place rows)
        (λ i other. refl) h.visitors
        (λ g' at_g'.
        let same : g ≡ g' = same_Some g g' (sym at_g ∙ at_g') in
        rw (← same) (record {
          at_rest = rest;
          at_place = placed;
          rows_read = read;
          read_once = once;
          swap_alone = known.swap_alone;
          frees_alone = record {
            many_noted = known.frees_alone.many_noted;
            many_freeing = known.frees_alone.many_freeing;
            noted = known.frees_alone.noted;
            freeing = known.frees_alone.freeing;
          };
        }))
        (λ i g' z other at_g' at_z old. old);
  }

  -- counts of objects at which the caller is counted neither before nor after
  pub counted_same : (place : Place) (rows : List (ℕ × ℕ)) (q : ℕ) → counts_at place q ≡ counts_at x.place q
      → many_counted (set s.callers c (moved_to x place rows)) q ≡ many_counted s.callers q
  counted_same place rows q same = count_by-set_same (λ y. counts_at y.place q) s.callers c x (moved_to x place rows) at_x same

  -- no object changes, and the caller is not counted before or after
  pub keeps_uncounted : (place : Place) (rows : List (ℕ × ℕ))
      → ((q : ℕ) → counts_at place q ≡ counts_at x.place q)
      → (g.active ≡ None → (place ≡ Out) × (rows ≡ []))
      → IsAtPlace scene g rows place
      → ((q i : ℕ) → has_row rows q i ≡ true → IsRow scene.course (scene.looks q) g i)
      → IsReadOnce scene.objects rows
      → IsInScene scene (record s { callers = set s.callers c (moved_to x place rows) })
  keeps_uncounted place rows same rest placed read once =
      keeps_visit place rows s.objects h.many_objects h.objects
      (λ q k at_q. rw (counted_same place rows q (same q)) (h.counted q k at_q)) rest placed read once

  -- one more row that may be read
  pub rows_with : (o i : ℕ) → IsReadable (scene.looks o) i
      → (q j : ℕ) → has_row (with_row x.read o i) q j ≡ true → IsRow scene.course (scene.looks q) g j
  rows_with o i readable q j has =
      ⊎_elim (λ old. known.rows_read q j old)
      (λ (new : (q ≡ o) × (j ≡ i)).
      rw (new.0, new.1) (record {
        kept = readable.kept;
        recent = readable.recent;
        present = readable.present;
        older = λ n noted below. let least = readable.noted n noted in absurd (omega arith);
      }))
      (with_row_split x.read o i q j has)

  once_with : (o i : ℕ) → o < scene.objects → IsReadOnce scene.objects (with_row x.read o i)
  once_with o i lt = record {
    there = λ q j has. ⊎_elim (λ old. known.read_once.there q j old) (λ (new : (q ≡ o) × (j ≡ i)). rw new.0 lt) (with_row_split x.read o i q j has);
    once = times_with_row x.read o i known.read_once.once;
  }

  -- the call is over
  pub keeps_out : ((q : ℕ) → counts_at x.place q ≡ false)
      → IsInScene scene (record s { callers = set s.callers c (at_place x Out) })
  keeps_out uncounted =
      keeps_uncounted Out x.read (λ q. sym (uncounted q)) (λ inactive. (refl, (known.at_rest inactive).1)) tt known.rows_read known.read_once

  module _ (o : ℕ) (k : Object) (at_o : slice_get s.objects o ≡ Some k) (e : LocalEntry) (at_p : slice_get k.entries g.proc ≡ Some e) where
    object : IsObject scene.course.procs scene.course.callers (scene.looks o) o k
    object = h.objects o k at_o

    entry : IsEntry (scene.looks o).stage (scene.looks o).incarnation k.shapes k.layout g.proc e
    entry = object.entries_follow g.proc e at_p

    -- the row of an entry may be read
    pub entry_readable : IsReadable (scene.looks o) e.incarnation
    entry_readable = record {
      kept = object.freed_rows.freed_entries g.proc e at_p;
      recent = entry_recent (scene.looks o).stage (scene.looks o).incarnation k.shapes k.layout g.proc e entry;
      present = entry_closed (scene.looks o).stage (scene.looks o).incarnation k.shapes k.layout g.proc e entry;
      noted = λ n noted. object.freed_rows.noted_entries n noted g.proc e at_p;
    }

    object_there : o < scene.objects
    object_there = rw (← h.many_objects) (slice_get_within s.objects o k at_o)

    -- where a look-up leads
    found_by : (b : Bool) → is_mediated (scene.looks o).stage g.proc ≡ b
        → MatchBool b (IsMediator (scene.looks o).incarnation (behind (scene.looks o).stage) e) (IsOpen (scene.looks o).incarnation k.shapes k.layout g.proc e)
        → ((q : ℕ) → counts_at (place_found e.tag o e.incarnation) q ≡ false)
        × IsAtPlace scene g (with_row x.read o e.incarnation) (place_found e.tag o e.incarnation)
    found_by true mediated is = rw is.tag ((λ q. refl), object_there)
    found_by false mediated is =
        let stage = open_stage (scene.looks o).stage g.proc mediated in
        let inside : IsInPresentRow (scene.looks o) (with_row x.read o e.incarnation) o e.incarnation =
        record { read = with_row_here x.read o e.incarnation; present = is.number } in
        let uncounted : IsUncounted scene.course (scene.looks o) g =
        record { draining = λ drains. let not = stage.0 in absurd (cc); not_closed = stage.1 } in
        ⊎_elim
        (λ empty. rw empty.0 ((λ q. refl), (object_there, inside, uncounted)))
        (λ direct. rw direct.0 ((λ q. refl), (object_there, inside, uncounted)))
        is.tagged

    pub keeps_looked_up : x.place ≡ Out → (generation : ℕ) → g.active ≡ Some generation
        → IsInScene scene (put_visitor s c (looked_up x o e))
    keeps_looked_up out generation active =
        let found = found_by (is_mediated (scene.looks o).stage g.proc) refl entry in
        keeps_uncounted (place_found e.tag o e.incarnation) (with_row x.read o e.incarnation)
        (λ q. rw out (found.0 q)) (λ inactive. absurd (cc)) found.1 (rows_with o e.incarnation entry_readable) (once_with o e.incarnation object_there)

    -- the entry that was missed is still empty
    keeps_direct : (i : ℕ) → x.place ≡ Missed o i → e.tag ≡ 0
        → IsInScene scene (put_object (put_visitor s c (at_place x (Direct o i))) o (put_entry k g.proc (direct_entry k.shapes k.layout g.proc i)))
    keeps_direct i missed empty =
        let placed = rw missed at known.at_place in
        let inside = placed.1 in
        let unmediated : is_mediated (scene.looks o).stage g.proc ≡ false = not_mediated (is_mediated (scene.looks o).stage g.proc) refl entry in
        keeps_visit (Direct o i) x.read (set s.objects o (put_entry k g.proc (direct_entry k.shapes k.layout g.proc i)))
        (length-set s.objects o _ ∙ h.many_objects)
        (EachPlace-set (λ q l. IsObject scene.course.procs scene.course.callers (scene.looks q) q l) s.objects o _ h.objects
        (IsObject-entry scene.course.procs scene.course.callers (scene.looks o) o k object g.proc (direct_entry k.shapes k.layout g.proc i)
        (rw unmediated (record { tagged = inr (refl, refl, refl); number = inside.present }))
        (let least = object.freed_rows.freed in omega (arith, least, inside.present))
        (λ n noted. let least = object.freed_rows.noted n noted in omega (arith, least, inside.present))))
        (EachPlace-set (IsCounted (set s.callers c (at_place x (Direct o i)))) s.objects o _
        (λ q l at_q. rw (counted_same (Direct o i) x.read q (rw missed refl)) (h.counted q l at_q))
        (rw (counted_same (Direct o i) x.read o (rw missed refl)) (h.counted o k at_o)))
        (λ inactive. let out = (known.at_rest inactive).0 in absurd (cc))
        placed
        known.rows_read
        known.read_once
      where
        not_mediated : (b : Bool) → is_mediated (scene.looks o).stage g.proc ≡ b
            → MatchBool b (IsMediator (scene.looks o).incarnation (behind (scene.looks o).stage) e) (IsOpen (scene.looks o).incarnation k.shapes k.layout g.proc e)
            → is_mediated (scene.looks o).stage g.proc ≡ false
        not_mediated true mediated is = let two = is.tag in absurd (cc)
        not_mediated false mediated is = mediated

    pub keeps_installed : (i : ℕ) → x.place ≡ Missed o i → (b : Bool) → is_empty_at e i ≡ b
        → IsInScene scene (cond b (put_object (put_visitor s c (at_place x (Direct o i))) o (put_entry k g.proc (direct_entry k.shapes k.layout g.proc i))) (put_visitor s c (at_place x Out)))
    keeps_installed i missed true empty = keeps_direct i missed (eqb-true e.tag 0 (and_parts _ _ empty).0)
    keeps_installed i missed false other = keeps_out (λ q. rw missed refl)

  -- the count of one object changes with the caller's place
  module _ (o : ℕ) (k : Object) (at_o : slice_get s.objects o ≡ Some k) where
    object' : IsObject scene.course.procs scene.course.callers (scene.looks o) o k
    object' = h.objects o k at_o

    keeps_counting : (place : Place) (rows : List (ℕ × ℕ)) (n : ℕ) → n ≡ many_counted (set s.callers c (moved_to x place rows)) o
        → ((q : ℕ) → q ≢ o → counts_at place q ≡ counts_at x.place q)
        → (g.active ≡ None → (place ≡ Out) × (rows ≡ []))
        → IsAtPlace scene g rows place
        → ((q i : ℕ) → has_row rows q i ≡ true → IsRow scene.course (scene.looks q) g i)
        → IsReadOnce scene.objects rows
        → IsInScene scene (put_object (put_visitor s c (moved_to x place rows)) o (record k { count = n }))
    keeps_counting place rows n counts else rest placed read once =
        keeps_visit place rows (set s.objects o (record k { count = n }))
        (length-set s.objects o _ ∙ h.many_objects)
        (EachPlace-set (λ q l. IsObject scene.course.procs scene.course.callers (scene.looks q) q l) s.objects o _ h.objects
        (IsObject-count scene.course.procs scene.course.callers (scene.looks o) o k object' n))
        (EachPlace-set_else (IsCounted s.callers) (IsCounted (set s.callers c (moved_to x place rows))) s.objects o _ h.counted counts
        (λ q l other at_q old. rw (counted_same place rows q (else q other)) old))
        rest placed read once

    counted_more : (place : Place) (rows : List (ℕ × ℕ)) → counts_at x.place o ≡ false → counts_at place o ≡ true
        → k.count + 1 ≡ many_counted (set s.callers c (moved_to x place rows)) o
    counted_more place rows old new =
        let more = count_by-set_more (λ y. counts_at y.place o) s.callers c x (moved_to x place rows) at_x old new in
        let now = h.counted o k at_o in omega (arith, more, now)

    pub keeps_stepped_out : counts_at x.place o ≡ true → ((q : ℕ) → q ≢ o → counts_at x.place q ≡ false)
        → IsInScene scene (put_object (put_visitor s c (at_place x Out)) o (counted_out k))
    keeps_stepped_out counts else =
        let less = count_by-set_less (λ y. counts_at y.place o) s.callers c x (at_place x Out) at_x counts refl in
        let now = h.counted o k at_o in
        keeps_counting Out x.read (k.count - 1) (omega (arith, less, now)) (λ q other. sym (else q other))
        (λ inactive. (refl, (known.at_rest inactive).1)) tt known.rows_read known.read_once

    pub keeps_knocked : x.place ≡ AtMediator o → (b : Bool) → k.block ≡ b
        → IsInScene scene (put_object (put_visitor s c (knocked x o k.incarnation b)) o (counted_in k))
    keeps_knocked knocks true blocked =
        keeps_counting (Blocked o) x.read (k.count + 1)
        (counted_more (Blocked o) x.read (rw knocks refl) (eq-eqb o o refl))
        (λ q other. rw knocks (ne_eqb o q (λ same. other (sym same))))
        (λ inactive. let out = (known.at_rest inactive).0 in absurd (cc))
        (rw knocks at known.at_place) known.rows_read known.read_once
    keeps_knocked knocks false free =
        let same = object'.bits_follow.incarnation in
        keeps_counting (Tracked o k.incarnation) (with_row x.read o k.incarnation) (k.count + 1)
        (counted_more (Tracked o k.incarnation) (with_row x.read o k.incarnation) (rw knocks refl) (eq-eqb o o refl))
        (λ q other. rw knocks (ne_eqb o q (λ same. other (sym same))))
        (λ inactive. let out = (known.at_rest inactive).0 in absurd (cc)) (
          (rw knocks at known.at_place),
          record { read = with_row_here x.read o k.incarnation; present = same },
          moved_blocks (bits_of k) k.shapes k.layout k.incarnation (scene.looks o).stage object'.bits_follow.bits free,
        )
        (rows_with o k.incarnation (record {
          kept = let least = object'.freed_rows.freed in omega (arith, least, same);
          recent = inl same;
          present = λ closed. same;
          noted = λ n noted. let least = object'.freed_rows.noted n noted in omega (arith, least, same);
        }))
        (once_with o k.incarnation (rw knocks at known.at_place))
