-- Who touches a cell by its view may touch it in every state that the table shows.
use Rattle.std.proofs.Common.{◌≡◌, ◌⊎◌, ℕ, zero, suc, ◌+◌, ◌<◌, ◌≤◌, Bool, true, false, ◌||◌, ◌&&◌, eqb, leb, ltb, List, [], ◌∷◌, Option, Some, None, length, refl, sym, ap, ◌∙◌, subst, inl, inr, ⊎_elim, arith}
use Rattle.std.proofs.lemmas.Bool.{and_parts, eqb-true, eq-eqb, leb-true, ltb-true, ne_eqb, or_left}
use Rattle.std.proofs.lemmas.Bool.Decides.{nat_tests}
use mathlib.Core.Option.{some}
use lib.ListN.{get_elem?}
use Rattle.atomic_table.specs.Table.{State}
use Rattle.k42_limits.specs.declared.TheConstants.{LAST_INCARNATION, PROCESSORS}
use Rattle.k42_kinds.specs.declared.entry.Answer.{Answer}
use Rattle.k42_kinds.specs.declared.entry.Answer.TheVariants.{Spent, Gone}
use Rattle.phase_core.specs.Plain.{Object, Phases}
use Rattle.phase_core.specs.Sound as phases
use Rattle.phase_core.specs.Stages.{IsInside, named_by}
use Rattle.phase_core.specs.State.{object_at, visitor_at, span_at}
use Rattle.phase_core.specs.declared.caller.Place.{Place}
use Rattle.phase_core.specs.declared.caller.Place.TheVariants.{Missed, Direct, Tracked}
use Rattle.phase_core.specs.declared.caller.SwapAt.{SwapAt}
use Rattle.phase_core.specs.declared.caller.SwapAt.TheVariants.{Moved}
use Rattle.phase_core.specs.Effects.{is_over}
use Rattle.phase_core.proofs.InSound.{object_known, visitor_known, moved_is_ready, inside_is_present}
use Rattle.phase_core.proofs.Reached.{turn_there, moving_alone}
use Rattle.k42_stamp.specs.Laws.{AreLaws}
use Rattle.k42_stamp.specs.Layouts.{Layouts}
use Rattle.k42_joined.specs.Answers.{IsTrueOf}
use Rattle.k42_joined.specs.Found.{tells_over}
use Rattle.k42_joined.specs.Locks.{other_life}
use Rattle.k42_joined.specs.Numbers.{cell_of, object_of, place_of}
use Rattle.k42_joined.specs.Plain.{Kept, Joined}
use Rattle.k42_joined.specs.Possible.{MayTouch}
use Rattle.k42_joined.specs.State.{many_procs, many_callers, many_objects, object, incarnation, cell, cell_in, kept_of, is_handed}
use Rattle.k42_joined.specs.Touching.{is_inside, is_moving, is_freeing, is_over_in, has_way, may_touch, IsAloneAt}
use Rattle.k42_joined.proofs.AnswersRows.{handed_moved}
use Rattle.k42_joined.proofs.CellNumbers.{object_of-cell, place_of-cell, cell_of-parity}
use Rattle.k42_joined.proofs.OneAtATime.{one_at_a_time}
use Rattle.k42_joined.proofs.RowsCalls.{inside_is}
use Rattle.k42_joined.proofs.SafeStates.{inside_there, sound_safe}
use Rattle.k42_board.specs.Rule.{KnowsPass, Rule}
use Rattle.k42_board.specs.Cells.{Slot}
use Rattle.k42_board.specs.Steps.{Always}
use Rattle.k42_board.specs.Taking.{Touches, TouchesInside, TouchesMoved, TouchesFreed, TouchesOver}
use Rattle.k42_board.specs.Values.{incarnation_in}
use Rattle.k42_board.specs.Views.{begun_of, word_begun, object_begun, answer_begun, live_at}
use Rattle.k42_board.specs.declared.view.LastBegin.{LastBegin}
use Rattle.k42_board.specs.declared.view.PassView.{PassView}
use Rattle.k42_board.specs.declared.view.View.{View}
use Rattle.k42_board.specs.declared.view.View.TheVariants.{Crew}
use Rattle.k42_board.proofs.OnePass.{known}

or_right : (a b : Bool) → b ≡ true → a || b ≡ true
or_right true b e = refl
or_right false b e = e

both : (a b : Bool) → a ≡ true → b ≡ true → a && b ≡ true
both a b e f = rw (e, f) refl

inside_told : (place : Place) (o i : ℕ) → IsInside place o i → is_inside place o i ≡ true
inside_told (Missed q j) o i is = let o' = eq-eqb q o is.0 in let i' = eq-eqb j i is.1 in rw (o', i') refl
inside_told (Direct q j) o i is = let o' = eq-eqb q o is.0 in let i' = eq-eqb j i is.1 in rw (o', i') refl
inside_told (Tracked q j) o i is = let o' = eq-eqb q o is.0 in let i' = eq-eqb j i is.1 in rw (o', i') refl
inside_told place o i is = absurd is

moving_named : (swap : SwapAt) (o : ℕ) → is_moving swap o ≡ true → swap ≡ Moved o
moving_named (Moved q) o is = ap Moved (eqb-true q o is)
moving_named swap o is = absurd (cc)

span_within : (spans : List (ℕ × ℕ)) (o : ℕ) → (span_at spans o).0 < (span_at spans o).1 → o < length spans
span_within [] o lt = absurd (omega (arith, lt))
span_within (span ∷ spans) zero lt = omega arith
span_within (span ∷ spans) (suc o) lt = let rest = span_within spans o lt in omega (arith, rest)

-- an object of which rows were freed has not been handed on since
module _ (s : Phases) (sound : phases.IsSound s) (o : ℕ) (named : o < length s.objects) where
  settled_by : (c : ℕ) → c < length s.callers → (visitor_at s c).swap ≡ Moved o → (sound.scene.looks o).settled ≡ true
  settled_by c there at =
      let stage = ((visitor_known s sound c there).swap_alone.owned o (ap named_by at)).1 ∙ at in
      rw stage at (object_known s sound o named).freed_rows.stage

  unsettled_by : (c : ℕ) → c < length s.callers → (span_at (visitor_at s c).freeing o).0 < (span_at (visitor_at s c).freeing o).1
      → (sound.scene.looks o).settled ≡ false
  unsettled_by c there rows = ((visitor_known s sound c there).frees_alone.freeing o rows).3

-- no Begin was answered where none was made
nothing_begun : {R : Type 0} (live : ℕ → ℕ) (answer : Answer R) → answer_begun live None ≡ Some answer → ⊥
nothing_begun live answer e = cc

one_of : (a b : Bool) → a || b ≡ true → (a ≡ true) ⊎ (b ≡ true)
one_of true b e = inl refl
one_of false b e = inr e

-- a live object is not over
not_over : (k : Object) (i : ℕ) → k.layout < length k.shapes → k.incarnation < LAST_INCARNATION → is_over_in k i ≡ true → ⊥
not_over k i alive next over =
    let dead : eqb k.layout (length k.shapes) ≡ false = ne_eqb k.layout (length k.shapes) (λ same. omega (arith, alive, same)) in
    let last : eqb k.incarnation LAST_INCARNATION ≡ false = grind (arith, nat_tests, next) in
    let none : is_over k ≡ false = rw (dead, last) refl in
    let is = (and_parts (is_over k) (eqb k.incarnation i) over).0 in cc

present_by : (k : Object) (i : ℕ) → is_over_in k i ≡ true → i ≡ k.incarnation
present_by k i over = sym (eqb-true k.incarnation i (and_parts (is_over k) (eqb k.incarnation i) over).1)

-- the answer tells that the object is over
over_known : {R : Type 0} (k : Object) (i : ℕ) (answer : Answer R) → tells_over answer ≡ true → IsTrueOf k i answer → is_over_in k k.incarnation ≡ true
over_known k i Spent tells is =
    both (is_over k) (eqb k.incarnation k.incarnation) (or_right (eqb k.layout (length k.shapes)) (eqb k.incarnation LAST_INCARNATION) (eq-eqb k.incarnation LAST_INCARNATION is.1))
    (eq-eqb k.incarnation k.incarnation refl)
over_known k i Gone tells is =
    both (is_over k) (eqb k.incarnation k.incarnation) (or_left (eqb k.layout (length k.shapes)) (eqb k.incarnation LAST_INCARNATION) (eq-eqb k.layout (length k.shapes) is.1))
    (eq-eqb k.incarnation k.incarnation refl)
over_known k i answer tells is = absurd (cc)

module _ {S L P O R : Type 0} (F : Layouts S L P O R) (laws : AreLaws F) (declared : List L)
    (table : State (Slot P O R) (View P O R)) (r : Rule F declared table) (id : ℕ) (v : PassView P O R)
    (at : get_elem? table.views id ≡ some (Crew (v ∷ []))) (n : ℕ) where
  abbrev s : Joined L O R
  s = r.state

  abbrev c : ℕ
  c = v.number

  knows : KnowsPass F.tag_of s r.beside id v
  knows = known F declared table r id v at

  few : many_procs s ≤ 8
  few = r.sound.cells.locks.many.few_procs

  within : (p : ℕ) → p < F.procs → p < many_procs s
  within p lt = subst (λ k. p < k) r.sound.cells.rows.told.procs lt

  visitor : visitor_at s.phases c ≡ v.visitor
  visitor = knows.phases.visitor

  -- a cell of a row, in the life that the caller may touch
  at_row : (o i p : ℕ) → n ≡ cell_of o i p → o < many_objects s → p < F.procs
      → may_touch s.phases c o (cell_in s o i p).life ≡ true → MayTouch s c n
  at_row o i p same named lt allowed =
      let small : p < 8 = let lt' = within p lt in let few' = few in omega (arith, lt', few') in
      subst (MayTouch s c) (sym same) (record {
        object = subst (λ q. q < many_objects s) (sym (object_of-cell o i p small)) named;
        place = subst (λ q. q < many_procs s) (sym (place_of-cell o i p small)) (within p lt);
        allowed = subst (λ q. may_touch s.phases c q (cell_in s o i p).life ≡ true) (sym (object_of-cell o i p small)) allowed;
      })

  by_way : (o i : ℕ) → has_way v.visitor o i ≡ true → may_touch s.phases c o i ≡ true
  by_way o i e = or_left (has_way (visitor_at s.phases c) o i) (is_over_in (object_at s.phases o) i) (ap (λ x. has_way x o i) visitor ∙ e)

  touch_inside : TouchesInside F.procs n v → MayTouch s c n
  touch_inside is =
      let inside : IsInside (visitor_at s.phases c).place is.object is.row = subst (λ x. IsInside x.place is.object is.row) (sym visitor) is.inside in
      let named = inside_there s.phases r.sound.phases c is.object is.row knows.there inside in
      let life = ((sound_safe F laws declared s r.sound).inside_open c is.object is.row is.place knows.there inside (within is.place is.there)).life in
      at_row is.object is.row is.place is.cell named is.there
      (by_way is.object (cell_in s is.object is.row is.place).life
      (or_left (is_inside v.visitor.place is.object (cell_in s is.object is.row is.place).life) _
      (subst (λ i. is_inside v.visitor.place is.object i ≡ true) (sym life) (inside_told v.visitor.place is.object is.row is.inside))))

  -- the object of its last Begin is there
  begun_there : (o : ℕ) → begun_of v.last ≡ Some o → o < many_objects s
  begun_there o e = (r.sound.answers c knows.there).kept.there o (ap (λ (k : Kept R). k.begun) knows.trace.kept ∙ e)

  pub swapped_there : (o : ℕ) → named_by v.visitor.swap ≡ Some o → o < many_objects s
  swapped_there o e =
      let is = (r.sound.answers c knows.there).kept in
      is.there o (is.begun o (ap (λ x. named_by x.swap) visitor ∙ e))

  touch_moved : TouchesMoved F.procs n v → MayTouch s c n
  touch_moved is =
      let swap = moving_named v.visitor.swap (object_of n) is.moves in
      record {
        object = swapped_there (object_of n) (ap named_by swap);
        place = within (place_of n) is.there;
        allowed =
            by_way (object_of n) (cell s n).life
            (or_right (is_inside v.visitor.place (object_of n) (cell s n).life) _ (or_left (is_moving v.visitor.swap (object_of n)) _ is.moves));
      }

  -- the cell is in the life of the row that was freed, which is the last before the present one
  pub record IsFreed (is : TouchesFreed F.procs n v) : Type 0 where
    pub named : is.object < many_objects s
    pub before : is.row + 1 ≡ incarnation s is.object
    pub life : (cell_in s is.object is.row is.place).life ≡ is.row
    pub gone : is.row < (object s is.object).freed

  module _ (is : TouchesFreed F.procs n v) where
    abbrev o : ℕ
    o = is.object

    abbrev i : ℕ
    i = is.row

    abbrev span : ℕ × ℕ
    span = span_at v.visitor.freeing o

    low : span.0 ≤ i
    low = leb-true span.0 i (and_parts (leb span.0 i) (ltb i span.1) is.freed).0

    high : i < span.1
    high = ltb-true i span.1 (and_parts (leb span.0 i) (ltb i span.1) is.freed).1

    some_rows : span.0 < span.1
    some_rows = omega (arith, low, high)

    last : i + 1 ≡ incarnation s o
    last = let one = (knows.phases.rows.spans o some_rows).one in let end = (knows.phases.rows.spans o some_rows).last in omega (arith, low, high, one, end)

    named : o < many_objects s
    named =
        let many = (visitor_known s.phases r.sound.phases c knows.there).frees_alone.many_freeing in
        let all = r.sound.phases.in_scene.many_objects in
        let own : length (visitor_at s.phases c).freeing ≡ length v.visitor.freeing = ap (λ x. length x.freeing) visitor in
        let there = span_within v.visitor.freeing o some_rows in omega (arith, many, all, own, there)

    some_span : (span_at (visitor_at s.phases c).freeing o).0 < (span_at (visitor_at s.phases c).freeing o).1
    some_span = subst (λ x. (span_at x.freeing o).0 < (span_at x.freeing o).1) (sym visitor) some_rows

    gone : i < (object s o).freed
    gone =
        let upto = ((visitor_known s.phases r.sound.phases c knows.there).frees_alone.freeing o some_span).1 in
        let all = (object_known s.phases r.sound.phases o named).bits_follow.freed in
        let own : (span_at (visitor_at s.phases c).freeing o).1 ≡ span.1 = ap (λ x. (span_at x.freeing o).1) visitor in
        omega (arith, high, upto, all, own)

    unhanded : is_handed s o ≡ false
    unhanded = go (is_handed s o) refl where
      go : (b : Bool) → is_handed s o ≡ b → b ≡ false
      go false e = refl
      go true e =
          let mover = handed_moved F laws declared s r.sound.cells.turns r.sound.cells.locks r.sound.cells.rows r.sound.answers o named e in
          let yes = settled_by s.phases r.sound.phases o named mover.caller mover.there mover.moves in
          let no = unsettled_by s.phases r.sound.phases o named c knows.there some_span in
          absurd (cc)

    life : (cell_in s o i is.place).life ≡ i
    life =
        let same : cell_of o i is.place ≡ cell_of o (incarnation s o + 1) is.place = cell_of-parity o i (incarnation s o + 1) is.place (omega (arith, last)) in
        let other = (r.sound.cells.locks.lives o is.place named (within is.place is.there)).other.life in
        let former : other_life (incarnation s o) false ≡ i = subst (λ j. other_life j false ≡ i) last (grind (arith, nat_tests)) in
        ap (λ m. (cell s m).life) same ∙ other ∙ ap (other_life (incarnation s o)) unhanded ∙ former

    pub freed : IsFreed is
    freed = record { named = named; before = last; life = life; gone = gone }

  touch_freed : TouchesFreed F.procs n v → MayTouch s c n
  touch_freed is =
      let has = freed is in
      at_row is.object is.row is.place is.cell has.named is.there
      (by_way is.object (cell_in s is.object is.row is.place).life
      (or_right (is_inside v.visitor.place is.object (cell_in s is.object is.row is.place).life) _ (or_right (is_moving v.visitor.swap is.object) _
      (subst (λ j. is_freeing v.visitor.freeing is.object j ≡ true) (sym has.life) is.freed))))

  touch_over : TouchesOver F.procs n v → MayTouch s c n
  touch_over is = go v.last refl where
    go : (last : Option LastBegin) → v.last ≡ last → MayTouch s c n
    go None e = absurd (nothing_begun (live_at v) is.answer (ap (λ l. answer_begun (live_at v) l) (sym e) ∙ knows.trace.found is.answer is.found))
    go (Some begin) e =
        let o : ℕ = object_begun v.last in let i : ℕ = incarnation_in (word_begun v.last) in
        let begun : begun_of v.last ≡ Some o = ap begun_of e ∙ ap (λ l. Some (object_begun l)) (sym e) in
        let named = begun_there o begun in
        let present : i ≡ incarnation s o = knows.trace.over is.answer is.found is.over in
        let kept_begun : (kept_of s c).begun ≡ Some o = ap (λ (k : Kept R). k.begun) knows.trace.kept ∙ begun in
        let kept_found : (kept_of s c).found ≡ Some is.answer = ap (λ (k : Kept R). k.found) knows.trace.kept ∙ is.found in
        let true_of = ((r.sound.answers c knows.there).found o is.answer kept_begun kept_found).over in
        let over = over_known (object s o) (incarnation s o) is.answer is.over true_of in
        let life : (cell_in s o i is.place).life ≡ incarnation s o =
        ap (λ j. (cell_in s o j is.place).life) present ∙ (r.sound.cells.locks.lives o is.place named (within is.place is.there)).present.life in
        at_row o i is.place is.cell named is.there
        (or_right (has_way (visitor_at s.phases c) o (cell_in s o i is.place).life) _ (subst (λ j. is_over_in (object s o) j ≡ true) (sym life) over))

  pub touch : Touches F.procs n v → MayTouch s c n
  touch (inl is) = touch_inside is
  touch (inr (inl is)) = touch_moved is
  touch (inr (inr (inl is))) = touch_freed is
  touch (inr (inr (inr is))) = touch_over is

  -- where it moves the object or has freed the row, no other caller may touch the cell

  alone : (o d : ℕ) → o < many_objects s → d < many_callers s → IsAloneAt s.phases c o → IsAloneAt s.phases d o → d ≡ c
  alone o d named there first second = sym (one_at_a_time s.phases r.sound.phases o named c d knows.there there first second)

  alone_by : (o i d : ℕ) → o < many_objects s → d < many_callers s → IsAloneAt s.phases c o
      → (IsInside (visitor_at s.phases d).place o i → ⊥) → (is_over_in (object_at s.phases o) i ≡ true → ⊥) → may_touch s.phases d o i ≡ true → d ≡ c
  alone_by o i d named there first outside live may =
      let x = visitor_at s.phases d in
      ⊎_elim
      (λ (way : has_way x o i ≡ true).
      ⊎_elim
      (λ (inside : is_inside x.place o i ≡ true). absurd (outside (inside_is x.place o i inside)))
      (λ (other : is_moving x.swap o || is_freeing x.freeing o i ≡ true).
      ⊎_elim (λ (moves : is_moving x.swap o ≡ true). alone o d named there first (inl moves))
      (λ (frees : is_freeing x.freeing o i ≡ true). alone o d named there first (inr (i, frees)))
      (one_of (is_moving x.swap o) (is_freeing x.freeing o i) other))
      (one_of (is_inside x.place o i) (is_moving x.swap o || is_freeing x.freeing o i) way))
      (λ (over : is_over_in (object_at s.phases o) i ≡ true). absurd (live over))
      (one_of (has_way x o i) (is_over_in (object_at s.phases o) i) may)

  alone_moved : TouchesMoved F.procs n v → (d : ℕ) → d < many_callers s → MayTouch s d n → d ≡ c
  alone_moved is d there may =
      let o = object_of n in
      let swap = moving_named v.visitor.swap o is.moves in
      let own : (visitor_at s.phases c).swap ≡ Moved o = ap (λ x. x.swap) visitor ∙ swap in
      let named = swapped_there o (ap named_by swap) in
      let known' = object_known s.phases r.sound.phases o named in
      let stage = ((visitor_known s.phases r.sound.phases c knows.there).swap_alone.owned o (ap named_by own)).1 ∙ own in
      let moving = (rw stage at known'.bits_follow.bits).0.1 in
      let ready = moved_is_ready s.phases r.sound.phases c o knows.there own in
      alone_by o (cell s n).life d named there (inl (ap (λ x. is_moving x.swap o) visitor ∙ is.moves))
      (λ inside. moving_alone s.phases d o r.sound.phases (turn_there s.phases r.sound.phases d there) named moving (cell s n).life inside)
      (λ over. not_over (object s o) (cell s n).life ready.alive ready.next over) may.allowed

  alone_freed : TouchesFreed F.procs n v → (d : ℕ) → d < many_callers s → MayTouch s d n → d ≡ c
  alone_freed is d there may =
      let o = is.object in let has = freed is in
      let small : is.place < 8 = let lt' = within is.place is.there in let few' = few in omega (arith, lt', few') in
      let object_is : object_of n ≡ o = ap object_of is.cell ∙ object_of-cell o is.row is.place small in
      let life : (cell s n).life ≡ is.row = ap (λ m. (cell s m).life) is.cell ∙ has.life in
      let before = has.before in
      alone_by o is.row d has.named there (inr (is.row, ap (λ x. is_freeing x.freeing o is.row) visitor ∙ is.freed))
      (λ inside. let present = (inside_is_present s.phases r.sound.phases d o is.row there inside).1 in omega (arith, before, present))
      (λ over. let present = present_by (object s o) is.row over in omega (arith, before, present))
      (subst (λ (z : ℕ × ℕ). may_touch s.phases d z.0 z.1 ≡ true) (λ k. (object_is k, life k)) may.allowed)

  pub alone_at : TouchesMoved PROCESSORS n v ⊎ TouchesFreed PROCESSORS n v → (d : ℕ) → d < many_callers s → MayTouch s d n → d ≡ c
  alone_at (inl is) d there may =
      alone_moved (record { there = subst (λ k. place_of n < k) (sym r.sound.cells.rows.told.procs) may.place; moves = is.moves }) d there may
  alone_at (inr is) d there may =
      let place : place_of n ≡ is.place = ap place_of is.cell ∙ place_of-cell is.object is.row is.place is.there in
      let lt : is.place < many_procs s = subst (λ k. k < many_procs s) place may.place in
      alone_freed (record {
        object = is.object;
        row = is.row;
        place = is.place;
        cell = is.cell;
        there = subst (λ k. is.place < k) (sym r.sound.cells.rows.told.procs) lt;
        freed = is.freed;
      }) d there may

pub touch_always : {S L P O R : Type 0} (F : Layouts S L P O R) → AreLaws F → (declared : List L) (id n : ℕ) (v : PassView P O R) → Touches F.procs n v
    → Always F declared id v (λ s. MayTouch s v.number n)
touch_always F laws declared id n v is table r at = touch F laws declared table r id v at n is
