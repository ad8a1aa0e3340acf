-- A table whose passes are new shows the new state.
use Rattle.std.proofs.Common.{◌≡◌, ℕ, ◌-◌, ◌<◌, ◌⊎◌, ◌∙◌, inl, inr, Bool, true, false, List, [], ◌∷◌, ◌++◌, Option, Some, None, length, map, replicate, refl, sym, ap, subst, ⊎_elim, arith}
use Rattle.std.specs.List.{slice_get}
use Rattle.std.specs.Option.{is_some}
use Rattle.std.specs.Prelude.{option_map}
use Rattle.std.proofs.lemmas.List.{length-map, length-replicate}
use Rattle.std.proofs.lemmas.Option.{same_Some, slice_get-get_or, slice_get-map, slice_get_within, get_or_from_slice_get}
use Rattle.atomic_table.specs.Table.{State}
use Rattle.k42_places.proofs.Counts.{count_by_none}
use Rattle.k42_shapes.specs.declared.shape.Shape.{Shape}
use Rattle.phase_core.specs.Effects.{direct_entry, root_of}
use Rattle.phase_core.specs.Objects.{AreClear, BitsFollow, bits_of, IsObject, IsEntry, IsOpen, IsNamed, IsTagged, counts_at}
use Rattle.phase_core.specs.Outlooks.{Outlook}
use Rattle.phase_core.specs.Plain.{Object, ObjectPlan, Visitor}
use Rattle.phase_core.specs.Stages.{named_by}
use Rattle.phase_core.specs.State.{visitor_at, fresh_object, fresh_visitor, new_object, new_visitor, empty_entry}
use Rattle.phase_core.specs.declared.caller.SwapAt.{SwapAt}
use Rattle.phase_core.specs.declared.caller.SwapAt.TheVariants.{Idle}
use Rattle.phase_core.specs.declared.object.LocalEntry.{LocalEntry}
use Rattle.phase_core.proofs.InSound.{object_known, count_is, one_swap}
use Rattle.k42_stamp.specs.Layouts.{Layouts}
use Rattle.k42_joined.specs.Fresh.{fresh, plan_of}
use Rattle.k42_joined.specs.Plain.{Joined}
use Rattle.k42_joined.specs.State.{many_objects, many_hands, object, incarnation, layouts_of}
use Rattle.k42_board.specs.Cells.{Slot}
use Rattle.k42_board.specs.Rule.{Ruled}
use Rattle.k42_board.specs.declared.view.View.{View}
use Rattle.table_laws.specs.Opening.{AreNewPasses, IsAsMade, IsNew}
use Rattle.table_laws.proofs.NewPasses.{turning_is, role_is, many_procs_are, procs_vacant, visitors_are, visitor_is, drawing_are, kept_are}
use Rattle.table_laws.proofs.NewCells.{first_row, no_hands, first_incarnation, hands_are, many_cells_are, cell_new, all_unused}

-- an object that nobody swaps
idle_stage : (swapper : Option ℕ) (stage : SwapAt) (o : ℕ) → is_some swapper ≡ false → IsNamed swapper stage o → stage ≡ Idle
idle_stage None stage o none named = named
idle_stage (Some c) stage o none named = absurd (cc)

entry_is : (shapes : List Shape) (layout p i : ℕ) (e : LocalEntry) → e.incarnation ≡ i → IsTagged shapes layout p e → (e ≡ empty_entry i) ⊎ (e ≡ direct_entry shapes layout p i)
entry_is shapes layout p i e number tagged = ⊎_elim
    (λ (is : (e.tag ≡ 0) × (e.layout ≡ 0) × (e.cell ≡ 0)). inl (λ j. record { tag = is.0 j; layout = is.1 j; cell = is.2 j; incarnation = number j }))
    (λ (is : (e.tag ≡ 1) × (e.layout ≡ layout) × (e.cell ≡ root_of shapes layout p)). inr (λ j. record { tag = is.0 j; layout = is.1 j; cell = is.2 j; incarnation = number j }))
    tagged

-- what makes an object a new one but for its entries
record IsQuiet (plan : ObjectPlan) (k : Object) : Type 0 where
  shapes : k.shapes ≡ plan.shapes
  count : k.count ≡ 0
  swap : k.swap ≡ false
  clear : AreClear (bits_of k)
  tag : k.layout ≡ plan.layout
  first : k.incarnation ≡ 0
  freed : k.freed ≡ 0

quiet_is : (procs : ℕ) (plan : ObjectPlan) (k : Object) → IsQuiet plan k → k ≡ record (new_object procs plan) { entries = k.entries }
quiet_is procs plan k quiet = λ j. record {
  shapes = quiet.shapes j;
  count = quiet.count j;
  swap = quiet.swap j;
  block = quiet.clear.0 j;
  moving = quiet.clear.1 j;
  complete = quiet.clear.2 j;
  layout = quiet.tag j;
  incarnation = quiet.first j;
  entries = k.entries;
  freed = quiet.freed j;
}

module _ {S L P O R : Type 0} (F : Layouts S L P O R) (declared : List L) (callers : List ℕ) (table : State (Slot P O R) (View P O R))
    (r : Ruled F declared (length callers) table) (new : AreNewPasses F.procs (map F.shapes_of declared) callers table.views) where
  abbrev s : Joined L O R
  s = r.rule.state

  -- no caller is counted at a mediator
  count_none : (o : ℕ) → o < many_objects s → (object s o).count ≡ 0
  count_none o there =
      count_is s.phases r.rule.sound.phases o there
      ∙ count_by_none (λ (x : Visitor). counts_at x.place o) s.phases.callers
      (λ c x at.
      let within = slice_get_within s.phases.callers c x at in
      let same : visitor_at s.phases c ≡ x = same_Some (visitor_at s.phases c) x (sym (slice_get-get_or s.phases.callers c fresh_visitor within) ∙ at) in
      ap (λ (y : Visitor). counts_at y.place o) (sym same ∙ visitor_is F declared callers table r new c within))

  swap_none : (o : ℕ) → o < many_objects s → (object s o).swap ≡ false
  swap_none o there = by_swap (object s o).swap refl where
    by_swap : (swap : Bool) → (object s o).swap ≡ swap → (object s o).swap ≡ false
    by_swap false e = e
    by_swap true e =
        let who = (one_swap s.phases r.rule.sound.phases o there).swapper e in
        let none : None ≡ Some o = sym (ap (λ (x : Visitor). named_by x.swap) (visitor_is F declared callers table r new who.0 who.1)) ∙ who.2 in
        absurd (cc)

  module _ (o : ℕ) (there : o < many_objects s) where
    abbrev look : Outlook
    look = r.rule.sound.phases.scene.looks o

    known : IsObject r.rule.sound.phases.scene.course.procs r.rule.sound.phases.scene.course.callers look o (object s o)
    known = object_known s.phases r.rule.sound.phases o there

    stage_is : look.stage ≡ Idle
    stage_is = idle_stage look.swapper look.stage o (sym known.bits_follow.swap ∙ swap_none o there) known.bits_follow.named

    first : incarnation s o ≡ 0
    first = first_incarnation F declared callers table r new o there

    abbrev declaration : L
    declaration = (first_row F declared callers table r new o there).declaration

    tag_is : (object s o).layout ≡ F.tag_of declaration
    tag_is =
        let row = first_row F declared callers table r new o there in
        let first_is = first in let none = no_hands F declared callers table r new o there in
        let zero_is : many_hands s o - incarnation s o ≡ 0 = omega (arith, first_is, none) in
        sym (row.tagged declaration
        (subst (λ n. slice_get (layouts_of s o ++ declaration ∷ []) n ≡ Some declaration) (sym zero_is)
        (subst (λ (layouts : List L). slice_get (layouts ++ declaration ∷ []) 0 ≡ Some declaration) (sym row.hands) refl)))

    shapes_are : (object s o).shapes ≡ F.shapes_of declaration
    shapes_are = (first_row F declared callers table r new o there).shaped

    quiet : IsQuiet (plan_of F declaration) (object s o)
    quiet = record {
      shapes = shapes_are;
      count = count_none o there;
      swap = swap_none o there;
      clear = subst (λ stage. BitsFollow (bits_of (object s o)) (object s o).shapes (object s o).layout (incarnation s o) stage) stage_is known.bits_follow.bits;
      tag = tag_is;
      first = first;
      freed =
          let first_is = first in let freed = known.bits_follow.freed in let number = known.bits_follow.incarnation in
          let most = known.freed_rows.freed in omega (arith, first_is, freed, number, most);
    }

    open_entry : (p : ℕ) (e : LocalEntry) → slice_get (object s o).entries p ≡ Some e → IsOpen look.incarnation (object s o).shapes (object s o).layout p e
    open_entry p e at = subst (λ stage. IsEntry stage look.incarnation (object s o).shapes (object s o).layout p e) stage_is (known.entries_follow p e at)

    pub made_is : object (fresh F declared callers) o ≡ new_object F.procs (plan_of F declaration)
    made_is =
        get_or_from_slice_get (map (new_object F.procs) (map (plan_of F) declared)) o (new_object F.procs (plan_of F declaration)) fresh_object
        (slice_get-map (new_object F.procs) (map (plan_of F) declared) o
        ∙ ap (option_map (new_object F.procs)) (slice_get-map (plan_of F) declared o ∙ ap (option_map (plan_of F)) (first_row F declared callers table r new o there).declares))

    pub as_new : IsAsMade (new_object F.procs (plan_of F declaration)) (object s o)
    as_new = record {
      is = quiet_is F.procs (plan_of F declaration) (object s o) quiet;
      many = known.many_entries ∙ sym r.rule.sound.phases.in_scene.in_course.many_procs ∙ sym r.rule.sound.cells.rows.told.procs
          ∙ sym (length-replicate F.procs (empty_entry 0));
      entries = λ p e at.
          let is = open_entry p e at in
          let number : e.incarnation ≡ 0 = is.number ∙ sym known.bits_follow.incarnation ∙ first in
          entry_is (F.shapes_of declaration) (F.tag_of declaration) p 0 e number
          (subst (λ layout. IsTagged (F.shapes_of declaration) layout p e) tag_is
          (subst (λ shapes. IsTagged shapes (object s o).layout p e) shapes_are is.tagged));
    }

    pub as_made : IsAsMade (object (fresh F declared callers) o) (object s o)
    as_made = subst (λ (made : Object). IsAsMade made (object s o)) (sym made_is) as_new

  many_objects_are : many_objects s ≡ many_objects (fresh F declared callers)
  many_objects_are =
      sym r.rule.sound.cells.rows.objects ∙ sym (length-map declared (plan_of F)) ∙ sym (length-map (map (plan_of F) declared) (new_object F.procs))

  pub new_state : IsNew F declared callers s
  new_state = record {
    role = role_is F declared callers table r new;
    turning = turning_is F declared callers table r new;
    many_procs = many_procs_are F declared callers table r new;
    vacant = procs_vacant F declared callers table r new;
    visitors =
        visitors_are F declared callers table r new
        ∙ ap (λ n. replicate (length callers) (new_visitor n)) (length-map declared F.shapes_of ∙ sym (length-map declared (plan_of F)));
    many = many_objects_are;
    objects = as_made;
    callers = drawing_are F declared callers table r new;
    many_cells = many_cells_are F declared callers table r new;
    cells = cell_new F declared callers table r new;
    unused = all_unused F declared callers table r new;
    hands = hands_are F declared callers table r new;
    kept = kept_are F declared callers table r new;
  }
