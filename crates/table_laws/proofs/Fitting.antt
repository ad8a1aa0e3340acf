-- The bounds of a state, by what its callers have begun and drawn.
use Rattle.std.proofs.Common.{◌≡◌, ℕ, ◌^◌, ◌<◌, ◌≤◌, ◌⊎◌, List, [], Some, length, get_or, sym, ◌∙◌, subst, inl, inr, arith}
use Rattle.std.specs.List.{slice_get}
use Rattle.std.proofs.lemmas.Bool.{cases_lt}
use Rattle.std.proofs.lemmas.List.{get_or_past}
use Rattle.std.proofs.lemmas.List.Sums.{sum_by-le}
use Rattle.std.proofs.lemmas.Option.{same_Some, slice_get-get_or, slice_get_within}
use Rattle.atomic_table.specs.Table.{State}
use Rattle.k42_kinds.specs.declared.entry.Entry.{Entry}
use Rattle.gen_core.specs.Plain.{Generations}
use Rattle.gen_core.specs.State.{proc_at, fresh_proc}
use Rattle.gen_core.proofs.Reached.{role_there}
use Rattle.phase_core.specs.Plain.{Phases}
use Rattle.phase_core.specs.State.{object_at, entry_at, fresh_object, empty_entry}
use Rattle.phase_core.proofs.InSound.{object_known}
use Rattle.phase_core.proofs.Ranges.{turns_sound}
use Rattle.turn_core.specs.Plain.{Caller, Turns}
use Rattle.turn_core.specs.Sound.{drawn_by, entries_drawn, StandsIn}
use Rattle.turn_core.specs.State.{fresh_caller}
use Rattle.k42_stamp.specs.Layouts.{Layouts}
use Rattle.k42_joined.specs.Answers.{IsAnswer}
use Rattle.k42_joined.proofs.RowsStamps.{place_in}
use Rattle.k42_board.specs.Cells.{Slot}
use Rattle.k42_board.specs.Rule.{Rule}
use Rattle.k42_board.specs.declared.view.View.{View}
use Rattle.k42_board.proofs.Begun.{few_begun}
use Rattle.k42_board.proofs.Fields.{object_fits, entry_known}
use Rattle.table_laws.specs.Numbers.{ProcessorFits, LocalFits, ObjectFits, EntryFits, HolderFits, AllFit, NumbersFit}

module _ {S L P O R : Type 0} (F : Layouts S L P O R) (declared : List L) (table : State (Slot P O R) (View P O R)) (r : Rule F declared table) where
  abbrev s : Phases
  s = r.state.phases

  abbrev g : Generations
  g = r.state.phases.turns

  abbrev t : Turns O R
  t = r.state.turns

  few_callers : length g.callers ≤ 16
  few_callers = let long = r.sound.phases.in_scene.in_course.many_callers in let few = r.sound.phases.in_scene.in_course.limits.few_callers in omega (arith, long, few)

  few_drawers : length t.callers ≤ 16
  few_drawers =
      let many = r.sound.cells.locks.many.callers in let long = r.sound.phases.in_scene.many_callers in
      let few = r.sound.phases.in_scene.in_course.limits.few_callers in omega (arith, many, long, few)

  processor_fits : (p : ℕ) → p < length g.procs → ProcessorFits p (proc_at g p)
  processor_fits p there =
      let flipped = (r.shows.generations.begun p (proc_at g p) (slice_get-get_or g.procs p fresh_proc there)).flipped in
      let graces = few_begun (length g.callers) r.beside.counts.graces few_callers r.shows.generations.graces in
      record { generation = omega (arith, flipped, graces) }

  -- what a processor's table has of an object that is there
  local_fits : (o : ℕ) → o < length s.objects → (p : ℕ) → p < length (object_at s o).entries → LocalFits p (entry_at (object_at s o) p)
  local_fits o there p near =
      let procs : p < length g.procs =
      let many = r.sound.phases.in_scene.in_course.many_procs in let long = (object_known s r.sound.phases o there).many_entries in
      omega (arith, many, long, near) in
      let is = entry_known s r.sound.phases o there p procs in
      record { tag = is.fits.tag; layout = let few = is.fits.layout in omega (arith, few); cell = is.fits.cell; incarnation = is.last }

  object_fits_at : (o : ℕ) → o < length s.objects → ObjectFits o (object_at s o)
  object_fits_at o there =
      let fits = object_fits s r.sound.phases o there in let known = object_known s r.sound.phases o there in
      record {
        count = fits.count;
        layout = let few = fits.layout in omega (arith, few);
        incarnation = fits.incarnation;
        freed =
            let freed = known.bits_follow.freed in let incarnation = known.bits_follow.incarnation in let most = known.freed_rows.freed in
            omega (arith, freed, incarnation, most);
        entries = λ p e at.
            let near = slice_get_within (object_at s o).entries p e at in
            subst (LocalFits p) (same_Some (entry_at (object_at s o) p) e (sym (slice_get-get_or (object_at s o).entries p (empty_entry 0) near) ∙ at))
            (local_fits o there p near);
      }

  role_fits : HolderFits g.role
  role_fits c is =
      let sound = turns_sound s r.sound.phases in
      let there = (role_there sound.course sound.course.stage c sound.in_course.stage (sym sound.in_course.role ∙ is)).0 in
      let few = sound.in_course.limits.few_callers in omega (arith, there, few)

  few_entries : entries_drawn t.callers ≤ 2 ^ 62
  few_entries =
      let most = sum_by-le (λ (x : Caller O R). length x.mine) (2 ^ 58) t.callers (λ i d lt. r.shows.few_entries i (get_or t.callers i d) (slice_get-get_or t.callers i d lt)) in
      let few = few_drawers in omega (arith, most, few)

  answered : (c : ℕ) (x : Caller O R) → slice_get t.callers c ≡ Some x → (place : ℕ) (entry : Entry O R) → slice_get x.mine place ≡ Some entry → IsAnswer r.state c entry
  answered c x at place entry e =
      let within = slice_get_within t.callers c x at in let many = r.sound.cells.locks.many.callers in
      let same : get_or t.callers c fresh_caller ≡ x = same_Some (get_or t.callers c fresh_caller) x (sym (slice_get-get_or t.callers c fresh_caller within) ∙ at) in
      (r.sound.answers c (omega (arith, within, many))).each entry
      (place_in entry (drawn_by t.callers c) place (subst (λ (z : Caller O R). slice_get z.mine place ≡ Some entry) (sym same) e))

  list_fits : (c : ℕ) (x : Caller O R) → slice_get t.callers c ≡ Some x → AllFit x.mine
  list_fits c x at place entry e =
      let known = r.sound.cells.turns.callers c x at in
      let small = known.bounded place entry e in let most = few_entries in
      let own = known.own place entry e in let caller = own.caller in let index = own.index in
      let within = slice_get_within t.callers c x at in let few = few_drawers in let told = answered c x at place entry e in
      let near = slice_get_within x.mine place entry e in let room = r.shows.few_entries c x at in
      record {
        stamp = omega (arith, small, most);
        caller = omega (arith, caller, within, few);
        index = omega (arith, index, near, room);
        object = let there = told.there in let few = r.shows.few_objects in omega (arith, there, few);
        incarnation = let known = told.known in let last = (object_fits s r.sound.phases entry.object told.there).incarnation in omega (arith, known, last);
      }

  none_there : (i : ℕ) (entry : Entry O R) → slice_get [] i ≡ Some entry → EntryFits entry
  none_there i entry e = absurd (cc)

  -- an entry of a history stands in a caller's list
  standing_fits : (entry : Entry O R) → StandsIn t.callers entry → EntryFits entry
  standing_fits entry stands = by_caller (cases_lt entry.caller (length t.callers)) where
    by_caller : (entry.caller < length t.callers) ⊎ (length t.callers ≤ entry.caller) → EntryFits entry
    by_caller (inl there) =
        list_fits entry.caller (get_or t.callers entry.caller fresh_caller) (slice_get-get_or t.callers entry.caller fresh_caller there) entry.index entry stands
    by_caller (inr past) =
        none_there entry.index entry (subst (λ (x : Caller O R). slice_get x.mine entry.index ≡ Some entry) (get_or_past t.callers entry.caller fresh_caller past) stands)

  pub numbers_are : NumbersFit r.state
  numbers_are = record {
    processors = λ p k e.
        let there = slice_get_within g.procs p k e in
        subst (ProcessorFits p) (same_Some (proc_at g p) k (sym (slice_get-get_or g.procs p fresh_proc there) ∙ e)) (processor_fits p there);
    objects = λ o k e.
        let there = slice_get_within s.objects o k e in
        subst (ObjectFits o) (same_Some (object_at s o) k (sym (slice_get-get_or s.objects o fresh_object there) ∙ e)) (object_fits_at o there);
    role = role_fits;
    locks = λ n x e c is. let there = (r.sound.cells.turns.cells n x e).holder c is in let few = few_drawers in omega (arith, there, few);
    lists = list_fits;
    histories = λ n x e life history f place entry at.
        standing_fits entry (((r.sound.cells.turns.cells n x e).histories life history f).drawn place entry at);
  }
