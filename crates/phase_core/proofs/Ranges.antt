-- What the code of an event needs: that places are there, that numbers fit, and that there is room.
use Rattle.std.proofs.Common.{ap, ◌≡◌, ℕ, ◌⊎◌, inl, ⊎_elim, ◌+◌, ◌*◌, ◌^◌, ◌<◌, ◌≤◌, ◌∙◌, true, length, Some, sym, refl, arith}
use Rattle.std.proofs.lemmas.List.{set-get_or}
use Rattle.std.proofs.lemmas.Option.{slice_get-get_or}
use Rattle.k42_limits.specs.declared.TheConstants.{PROCESSORS}
use Rattle.gen_core.specs.declared.event.GenEvent.{GenEvent}
use Rattle.gen_core.specs.Sound as gen
use Rattle.gen_core.proofs.Alone.{happens_only}
use Rattle.phase_core.specs.Turns.{turning, turns_happened}
use Rattle.gen_core.specs.State.{caller_at}
use Rattle.k42_places.proofs.Counts.{count_by_some}
use Rattle.std.proofs.lemmas.Bool.{eq-eqb}
use Rattle.phase_core.specs.declared.caller.Place.TheVariants.{Tracked, Blocked}
use Rattle.phase_core.specs.declared.caller.SwapAt.{SwapAt}
use Rattle.phase_core.specs.declared.caller.SwapAt.TheVariants.{Refused, Begun, Interposing, Opening, Reopening, Opened, Interposed, Drained, Blocking, Moved}
use Rattle.phase_core.specs.Callers.{IsVisitor}
use Rattle.phase_core.specs.Objects.{counts_at, IsWithin, IsObject}
use Rattle.phase_core.specs.Plain.{Object, Phases}
use Rattle.phase_core.specs.Sound.{IsSound}
use Rattle.phase_core.specs.Stages.{named_by}
use Rattle.phase_core.specs.State.{empty_entry, fresh_object, fresh_visitor, object_at, visitor_at, entry_at, with_row, put_visitor}
use Rattle.std.proofs.lemmas.List.Sums.{count_by-le-length}
use Rattle.phase_core.proofs.Rows.{with_row_split, times_with_row, few_rows}
use Rattle.phase_core.proofs.Swaps.{entry_recent}
use Rattle.phase_core.proofs.Reached.{same_callers}

module _ (s : Phases) (sound : IsSound s) where
  pub caller_there : (c : ℕ) → c < length s.turns.callers → c < length s.callers
  caller_there c there = rw (same_callers s sound) there

  object_of : (o : ℕ) → o < length s.objects → IsObject sound.scene.course.procs sound.scene.course.callers (sound.scene.looks o) o (object_at s o)
  object_of o named = sound.in_scene.objects o (object_at s o) (slice_get-get_or s.objects o fresh_object named)

  pub entry_there : (c o : ℕ) → c < length s.turns.callers → o < length s.objects
      → (caller_at s.turns c).proc < length (object_at s o).entries
  entry_there c o there named =
      rw (object_of o named).many_entries
      (sound.in_scene.in_course.placed c (caller_at s.turns c) (slice_get-get_or s.turns.callers c _ there)).proc

  module _ (c o : ℕ) (there : c < length s.turns.callers) (named : o < length s.objects) where
    visitor : IsVisitor sound.scene c (caller_at s.turns c) (visitor_at s c)
    visitor =
        sound.in_scene.visitors c (caller_at s.turns c) (visitor_at s c) (slice_get-get_or s.turns.callers c _ there)
        (slice_get-get_or s.callers c fresh_visitor (caller_there c there))

    -- a row of the object's incarnation, or of the one before, finds room
    room_for : (i : ℕ) → (i ≡ (sound.scene.looks o).incarnation) ⊎ (i + 1 ≡ (sound.scene.looks o).incarnation)
        → length (with_row (visitor_at s c).read o i) ≤ 2 * length (visitor_at s c).noted
    room_for i recent =
        let rows = (visitor_at s c).read in
        let lt : o < sound.scene.objects = rw (← sound.in_scene.many_objects) named in
        rw visitor.frees_alone.many_noted
        (few_rows (with_row rows o i) sound.scene.objects (λ q. (sound.scene.looks q).incarnation)
        (λ q j has. ⊎_elim (λ old. visitor.read_once.there q j old) (λ (new : (q ≡ o) × (j ≡ i)). rw new.0 lt) (with_row_split rows o i q j has))
        (times_with_row rows o i visitor.read_once.once)
        (λ q j has. ⊎_elim (λ old. (visitor.rows_read q j old).recent) (λ (new : (q ≡ o) × (j ≡ i)). rw (new.0, new.1) recent) (with_row_split rows o i q j has)))

    pub room_looked : length (with_row (visitor_at s c).read o (entry_at (object_at s o) (caller_at s.turns c).proc).incarnation) ≤ 2 * length (visitor_at s c).noted
    room_looked =
        let k : Object = object_at s o in
        let p : ℕ = (caller_at s.turns c).proc in
        let look = sound.scene.looks o in
        room_for (entry_at k p).incarnation
        (entry_recent look.stage look.incarnation k.shapes k.layout p (entry_at k p)
        ((object_of o named).entries_follow p (entry_at k p) (slice_get-get_or k.entries p (empty_entry 0) (entry_there c o there named))))

    pub room_knocked : length (with_row (visitor_at s c).read o (object_at s o).incarnation) ≤ 2 * length (visitor_at s c).noted
    room_knocked = room_for (object_at s o).incarnation (inl (object_of o named).bits_follow.incarnation)

  -- one more caller can be counted
  pub count_fits : (o : ℕ) → o < length s.objects → (object_at s o).count + 1 < 2 ^ 32
  count_fits o named =
      let counted = sound.in_scene.counted o (object_at s o) (slice_get-get_or s.objects o fresh_object named) in
      let few = count_by-le-length (λ x. counts_at x.place o) s.callers in
      omega (arith, counted, few, sound.in_scene.many_callers, sound.in_scene.in_course.limits.few_callers)

  -- the object of a swap is there
  swap_there : (c o : ℕ) (swap : SwapAt) → c < length s.turns.callers → (visitor_at s c).swap ≡ swap → named_by swap ≡ Some o → o < length s.objects
  swap_there c o swap there at_swap named =
      let is = sound.in_scene.visitors c (caller_at s.turns c) (visitor_at s c) (slice_get-get_or s.turns.callers c _ there)
      (slice_get-get_or s.callers c fresh_visitor (caller_there c there)) in
      rw sound.in_scene.many_objects (is.swap_alone.there o (rw at_swap named))

  pub drained_there : (c o : ℕ) → c < length s.turns.callers → (visitor_at s c).swap ≡ Drained o → o < length s.objects
  drained_there c o there at_swap = swap_there c o (Drained o) there at_swap refl

  pub blocking_there : (c o : ℕ) → c < length s.turns.callers → (visitor_at s c).swap ≡ Blocking o → o < length s.objects
  blocking_there c o there at_swap = swap_there c o (Blocking o) there at_swap refl

  pub moved_there : (c o : ℕ) → c < length s.turns.callers → (visitor_at s c).swap ≡ Moved o → o < length s.objects
  moved_there c o there at_swap = swap_there c o (Moved o) there at_swap refl

  -- no incarnation passes its field
  pub incarnation_fits : (o : ℕ) → o < length s.objects → (object_at s o).incarnation + 1 < 2 ^ 32
  incarnation_fits o named = let last = (object_of o named).bits_follow.last in omega (arith, last)

  pub interposed_there : (c o : ℕ) → c < length s.turns.callers → (visitor_at s c).swap ≡ Interposed o → o < length s.objects
  interposed_there c o there at_swap = swap_there c o (Interposed o) there at_swap refl

  -- a caller notes a number for each object
  pub many_noted : (c : ℕ) → c < length s.turns.callers → length (visitor_at s c).noted ≡ length s.objects
  many_noted c there =
      let is = sound.in_scene.visitors c (caller_at s.turns c) (visitor_at s c) (slice_get-get_or s.turns.callers c _ there)
      (slice_get-get_or s.callers c fresh_visitor (caller_there c there)) in
      is.frees_alone.many_noted ∙ sym sound.in_scene.many_objects

  -- what is known of the object of a swap
  swapped : (c o : ℕ) (swap : SwapAt) → c < length s.turns.callers → (visitor_at s c).swap ≡ swap → named_by swap ≡ Some o
      → (o < length s.objects) × IsWithin sound.scene.course.procs swap × (length (object_at s o).entries ≡ sound.scene.course.procs)
  swapped c o swap there at_swap named =
      let is = sound.in_scene.visitors c (caller_at s.turns c) (visitor_at s c) (slice_get-get_or s.turns.callers c _ there)
      (slice_get-get_or s.callers c fresh_visitor (caller_there c there)) in
      let lt = swap_there c o swap there at_swap named in
      let stage : (sound.scene.looks o).stage ≡ swap = (is.swap_alone.owned o (rw at_swap named)).1 ∙ at_swap in
      (lt, rw stage at (object_of o lt).within, (object_of o lt).many_entries)

  pub begun_there : (c o : ℕ) → c < length s.turns.callers → (visitor_at s c).swap ≡ Begun o → o < length s.objects
  begun_there c o there at_swap = swap_there c o (Begun o) there at_swap refl

  pub some_procs : 0 < length s.turns.procs
  some_procs = rw sound.in_scene.in_course.many_procs sound.in_scene.in_course.limits.some_procs

  -- an object has an entry for each processor
  pub proc_there : (o p : ℕ) → o < length s.objects → p < length s.turns.procs → p < length (object_at s o).entries
  proc_there o p named lt = rw ((object_of o named).many_entries, ← sound.in_scene.in_course.many_procs) lt

  pub interposing_there : (c o p : ℕ) → c < length s.turns.callers → (visitor_at s c).swap ≡ Interposing o p → o < length s.objects
  interposing_there c o p there at_swap = swap_there c o (Interposing o p) there at_swap refl

  pub interposing_proc : (c o p : ℕ) → c < length s.turns.callers → (visitor_at s c).swap ≡ Interposing o p → p < length s.turns.procs
  interposing_proc c o p there at_swap = rw sound.in_scene.in_course.many_procs (swapped c o (Interposing o p) there at_swap refl).1

  pub opening_there : (c o p : ℕ) → c < length s.turns.callers → (visitor_at s c).swap ≡ Opening o p → o < length s.objects
  opening_there c o p there at_swap = swap_there c o (Opening o p) there at_swap refl

  pub opening_proc : (c o p : ℕ) → c < length s.turns.callers → (visitor_at s c).swap ≡ Opening o p → p < length s.turns.procs
  opening_proc c o p there at_swap = rw sound.in_scene.in_course.many_procs (swapped c o (Opening o p) there at_swap refl).1

  pub reopening_there : (c o p : ℕ) → c < length s.turns.callers → (visitor_at s c).swap ≡ Reopening o p → o < length s.objects
  reopening_there c o p there at_swap = swap_there c o (Reopening o p) there at_swap refl

  pub reopening_proc : (c o p : ℕ) → c < length s.turns.callers → (visitor_at s c).swap ≡ Reopening o p → p < length s.turns.procs
  reopening_proc c o p there at_swap = rw sound.in_scene.in_course.many_procs (swapped c o (Reopening o p) there at_swap refl).1

  pub begun_entry : (c o : ℕ) → c < length s.turns.callers → (visitor_at s c).swap ≡ Begun o → 0 < length (object_at s o).entries
  begun_entry c o there at_swap = proc_there o 0 (begun_there c o there at_swap) some_procs

  pub interposing_entry : (c o p : ℕ) → c < length s.turns.callers → (visitor_at s c).swap ≡ Interposing o p → p < length (object_at s o).entries
  interposing_entry c o p there at_swap = proc_there o p (interposing_there c o p there at_swap) (interposing_proc c o p there at_swap)

  pub opening_entry : (c o p : ℕ) → c < length s.turns.callers → (visitor_at s c).swap ≡ Opening o p → p < length (object_at s o).entries
  opening_entry c o p there at_swap = proc_there o p (opening_there c o p there at_swap) (opening_proc c o p there at_swap)

  pub reopening_entry : (c o p : ℕ) → c < length s.turns.callers → (visitor_at s c).swap ≡ Reopening o p → p < length (object_at s o).entries
  reopening_entry c o p there at_swap = proc_there o p (reopening_there c o p there at_swap) (reopening_proc c o p there at_swap)

  pub refused_there : (c o : ℕ) → c < length s.turns.callers → (visitor_at s c).swap ≡ Refused o → o < length s.objects
  refused_there c o there at_swap = swap_there c o (Refused o) there at_swap refl

  pub opened_there : (c o : ℕ) → c < length s.turns.callers → (visitor_at s c).swap ≡ Opened o → o < length s.objects
  opened_there c o there at_swap = swap_there c o (Opened o) there at_swap refl

  pub few_procs : length s.turns.procs ≤ PROCESSORS
  few_procs = rw sound.in_scene.in_course.many_procs sound.in_scene.in_course.limits.few_procs

  -- a caller that is counted
  pub tracked_there : (c o i : ℕ) → c < length s.turns.callers → (visitor_at s c).place ≡ Tracked o i → o < length s.objects
  tracked_there c o i there at =
      let is = sound.in_scene.visitors c (caller_at s.turns c) (visitor_at s c) (slice_get-get_or s.turns.callers c _ there)
      (slice_get-get_or s.callers c fresh_visitor (caller_there c there)) in
      rw sound.in_scene.many_objects (rw at at is.at_place).0

  pub blocked_there : (c o : ℕ) → c < length s.turns.callers → (visitor_at s c).place ≡ Blocked o → o < length s.objects
  blocked_there c o there at =
      let is = sound.in_scene.visitors c (caller_at s.turns c) (visitor_at s c) (slice_get-get_or s.turns.callers c _ there)
      (slice_get-get_or s.callers c fresh_visitor (caller_there c there)) in
      rw sound.in_scene.many_objects (rw at at is.at_place)

  counted_some : (c o : ℕ) → c < length s.turns.callers → o < length s.objects → counts_at (visitor_at s c).place o ≡ true → 1 ≤ (object_at s o).count
  counted_some c o there named counts =
      let some = count_by_some (λ x. counts_at x.place o) s.callers c (visitor_at s c) (slice_get-get_or s.callers c fresh_visitor (caller_there c there)) counts in
      let counted = sound.in_scene.counted o (object_at s o) (slice_get-get_or s.objects o fresh_object named) in
      omega (arith, some, counted)

  pub tracked_some : (c o i : ℕ) → c < length s.turns.callers → (visitor_at s c).place ≡ Tracked o i → 1 ≤ (object_at s o).count
  tracked_some c o i there at = counted_some c o there (tracked_there c o i there at) (rw at (eq-eqb o o refl))

  pub blocked_some : (c o : ℕ) → c < length s.turns.callers → (visitor_at s c).place ≡ Blocked o → 1 ≤ (object_at s o).count
  blocked_some c o there at = counted_some c o there (blocked_there c o there at) (rw at (eq-eqb o o refl))

-- what the code of a caller that steps out cites
pub ruleset out_ranges = (caller_there, tracked_there, blocked_there, tracked_some, blocked_some)

-- what the code of entries cites
pub ruleset entry_ranges = (caller_there, entry_there, begun_there, some_procs, begun_entry, interposing_entry, opening_entry, reopening_entry, interposing_there, interposing_proc, opening_there, opening_proc, reopening_there, reopening_proc, refused_there, opened_there, few_procs)

-- what the code of a swap cites
pub ruleset swap_ranges = (caller_there, interposed_there, drained_there, blocking_there, moved_there, incarnation_fits)

-- what the code of a look-up and of a knock cites
pub ruleset call_ranges = (caller_there, entry_there, room_looked, room_knocked, count_fits)

-- a caller that is put back as it was changes nothing
pub put_same : (s : Phases) (c : ℕ) → put_visitor s c (visitor_at s c) ≡ s
put_same s c = ap (λ l. record s { callers = l }) (set-get_or s.callers c fresh_visitor)

-- the generations of a sound state are sound
pub turns_sound : (s : Phases) → IsSound s → gen.IsSound s.turns
turns_sound s sound = record { course = sound.scene.course; in_course = sound.in_scene.in_course }

-- an event of generations keeps how many callers there are
pub happened_there : (s : Phases) (event : GenEvent) → turning event < length s.turns.callers
    → length (turns_happened s event).callers ≡ length s.turns.callers
happened_there s event there = (happens_only s.turns event there).many_callers

pub ruleset turn_ranges = (caller_there, put_same, turns_sound, happened_there)

pub ruleset take_ranges = (caller_there, turns_sound, many_noted)

module _ (s : Phases) (sound : IsSound s) (c o : ℕ) (there : c < length s.turns.callers) (named : o < length s.objects) where
  pub note_there : o < length (visitor_at s c).noted
  note_there = rw ((visitor s sound c o there named).frees_alone.many_noted, ← sound.in_scene.many_objects) named

  pub freeing_there : o < length (visitor_at s c).freeing
  freeing_there = rw ((visitor s sound c o there named).frees_alone.many_freeing, ← sound.in_scene.many_objects) named

pub ruleset free_ranges = (caller_there, note_there, freeing_there)
