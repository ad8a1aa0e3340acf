-- Where passes are new and words blank, just the new state is told.
use Rattle.std.proofs.Common.{◌≡◌, ℕ, ◌%◌, ◌<◌, ◌^◌, ◌∙◌, List, Some, length, map, replicate, get_or, refl, sym, ap, ⊎_elim, arith}
use Rattle.std.specs.List.{slice_get}
use Rattle.std.proofs.lemmas.List.{ext_get_or, get_or-map, length-map, length-replicate}
use Rattle.std.proofs.Math.ListN.{get_or-replicate}
use Rattle.std.proofs.lemmas.Option.{slice_get-get_or, slice_get_within}
use Rattle.atomic_table.specs.Table.{State}
use Rattle.k42_limits.specs.declared.TheConstants.{PROCESSORS}
use Rattle.k42_shapes.specs.declared.shape.Shape.{Shape}
use Rattle.gen_core.specs.State.{fresh_proc}
use Rattle.gen_core.specs.declared.state.GenProc.{GenProc}
use Rattle.phase_core.specs.Effects.{direct_entry}
use Rattle.phase_core.specs.Plain.{ObjectPlan}
use Rattle.phase_core.specs.State.{fresh_object, new_object, empty_entry}
use Rattle.phase_core.specs.declared.object.LocalEntry.{LocalEntry}
use Rattle.turn_core.specs.State.{fresh_cell}
use Rattle.k42_stamp.specs.Layouts.{Layouts}
use Rattle.k42_joined.specs.Fresh.{fresh}
use Rattle.k42_joined.specs.Numbers.{place_of}
use Rattle.k42_joined.specs.Plain.{Joined}
use Rattle.k42_joined.specs.State.{many_objects, object}
use Rattle.k42_board.specs.Cells.{Slot}
use Rattle.k42_board.specs.Rule.{Ruled}
use Rattle.k42_board.specs.Values.{local_value}
use Rattle.k42_board.specs.declared.view.View.{View}
use Rattle.table_laws.specs.Opening.{AreNewPasses, AreBlank, IsAsMade, IsNew, proc_in_words, state_in_words}
use Rattle.table_laws.proofs.NewState.{new_state, as_new, made_is}

-- an entry that leads to a row has a word above 0
blank_entry : (e : LocalEntry) (shapes : List Shape) (layout p i : ℕ) → local_value e ≡ 0 → (e ≡ direct_entry shapes layout p i) → e ≡ empty_entry i
blank_entry e shapes layout p i value is =
    let tag : e.tag ≡ 1 = ap (λ (d : LocalEntry). d.tag) is in absurd (omega (arith, value, tag))

-- computed: a processor that was entered and left 2 ^ 64 times shows nothing, one that was entered and left once does
many_unshown : proc_in_words (record { generation = 0; entered = 2 ^ 64; exits_even = 2 ^ 64; exits_odd = 0 }) ≡ fresh_proc
many_unshown = refl

one_shown : proc_in_words (record { generation = 0; entered = 1; exits_even = 1; exits_odd = 0 }) ≡ fresh_proc → ⊥
one_shown is = let one = ap (λ (k : GenProc). k.entered) is in omega (arith, one)

module _ {S L P O R : Type 0} (F : Layouts S L P O R) (declared : List L) (callers : List ℕ) (table : State (Slot P O R) (View P O R))
    (r : Ruled F declared (length callers) table) (new : AreNewPasses F.procs (map F.shapes_of declared) callers table.views)
    (blank : AreBlank F.procs (length declared) table.words) (all : F.procs ≡ PROCESSORS) where
  abbrev s : Joined L O R
  s = r.rule.state

  abbrev n : Joined L O R
  n = fresh F declared callers

  like : IsNew F declared callers s
  like = new_state F declared callers table r new

  module _ (o : ℕ) (there : o < many_objects s) where
    made_of : (plan : ObjectPlan) → IsAsMade (new_object F.procs plan) (object s o) → object s o ≡ new_object F.procs plan
    made_of plan as_made = as_made.is ∙ (λ j. record (new_object F.procs plan) { entries = entries_are j }) where
      none_leads : (p : ℕ) → p < length (object s o).entries → get_or (object s o).entries p (empty_entry 0) ≡ empty_entry 0
      none_leads p lt =
          let e : LocalEntry = get_or (object s o).entries p (empty_entry 0) in
          let at : slice_get (object s o).entries p ≡ Some e = slice_get-get_or (object s o).entries p (empty_entry 0) lt in
          let near : p < F.procs = rw (as_made.many ∙ length-replicate F.procs (empty_entry 0)) at lt in
          let shown = (r.rule.shows.objects o (object s o) (slice_get-get_or s.phases.objects o fresh_object there)).entries p e at in
          let value : local_value e ≡ 0 = sym shown ∙ blank.entries o p (rw (← r.rule.sound.cells.rows.objects) at there) near in
          ⊎_elim (λ empty. empty) (λ leads. blank_entry e plan.shapes plan.layout p 0 value leads) (as_made.entries p e at)

      entries_are : (object s o).entries ≡ replicate F.procs (empty_entry 0)
      entries_are =
          ext_get_or (empty_entry 0) (object s o).entries (replicate F.procs (empty_entry 0)) as_made.many
          (λ p lt. none_leads p lt ∙ sym (get_or-replicate F.procs p (empty_entry 0) (empty_entry 0) (rw (as_made.many ∙ length-replicate F.procs (empty_entry 0)) at lt)))

    object_is : object s o ≡ object n o
    object_is = made_of _ (as_new F declared callers table r new o there) ∙ sym (made_is F declared callers table r new o there)

  objects_are : s.phases.objects ≡ n.phases.objects
  objects_are = ext_get_or fresh_object s.phases.objects n.phases.objects like.many object_is

  near_of : (m : ℕ) → place_of m < F.procs
  near_of m = let eight : F.procs ≡ 8 = all in omega (arith, eight)

  cells_are : s.turns.cells ≡ n.turns.cells
  cells_are = ext_get_or (fresh_cell 0) s.turns.cells n.turns.cells like.many_cells (λ m lt. like.cells m (near_of m))

  -- a processor that shows nothing
  proc_blank : (p : ℕ) (k : GenProc) → slice_get s.phases.turns.procs p ≡ Some k → proc_in_words k ≡ fresh_proc
  proc_blank p k at =
      let near : p < F.procs = rw (like.many_procs ∙ length-replicate F.procs fresh_proc) at (slice_get_within s.phases.turns.procs p k at) in
      let shown = r.rule.shows.generations.procs p k at in let zeros = blank.processors p near in
      let entered : k.entered % 2 ^ 32 ≡ 0 = let value = sym shown.generation ∙ zeros.generation in omega (arith, value) in
      (λ j. record {
        generation = (like.vacant p k at).generation j;
        entered = entered j;
        exits_even = (sym shown.even ∙ zeros.even) j;
        exits_odd = (sym shown.odd ∙ zeros.odd) j;
      })

  procs_are : map proc_in_words s.phases.turns.procs ≡ replicate F.procs fresh_proc
  procs_are =
      ext_get_or fresh_proc (map proc_in_words s.phases.turns.procs) (replicate F.procs fresh_proc) (length-map s.phases.turns.procs proc_in_words ∙ like.many_procs)
      (λ p lt. let there : p < length s.phases.turns.procs = rw (length-map s.phases.turns.procs proc_in_words) at lt in
      get_or-map proc_in_words s.phases.turns.procs p fresh_proc _ there
      ∙ proc_blank p (get_or s.phases.turns.procs p fresh_proc) (slice_get-get_or s.phases.turns.procs p fresh_proc there)
      ∙ sym (get_or-replicate F.procs p fresh_proc fresh_proc (rw (like.many_procs ∙ length-replicate F.procs fresh_proc) at there)))

  pub just_new : state_in_words s ≡ fresh F declared callers
  just_new = λ j. record {
    phases = record {
      turns = record { procs = procs_are j; callers = like.turning j; role = like.role j };
      objects = objects_are j;
      callers = like.visitors j;
    };
    turns = record { cells = cells_are j; callers = like.callers j };
    hands = like.hands j;
    kept = like.kept j;
  }
