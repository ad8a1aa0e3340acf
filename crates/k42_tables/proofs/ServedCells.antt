-- Who is inside a row is at its cell.
use Rattle.std.proofs.Common.{◌≡◌, ℕ, ◌<◌, Bool, true, false, cond, eqb, List, [], ◌∷◌, Some, None, refl, sym, ap, ◌∙◌, subst}
use Rattle.std.specs.Prelude.{unwrap_or}
use Rattle.std.proofs.lemmas.Bool.{eqb-true}
use mathlib.Core.Option.{some}
use lib.ListN.{get_elem?}
use Rattle.atomic_table.specs.Table.{State}
use Rattle.k42_shapes.specs.declared.shape.Shape.{Shape}
use Rattle.k42_shapes.specs.Shapes.{shape_at}
use Rattle.k42_shapes.proofs.ShapeLaws.{cell_few}
use Rattle.phase_core.specs.Effects.{root_of, place_found}
use Rattle.phase_core.specs.Plain.{Visitor}
use Rattle.phase_core.specs.Stages.{IsInside, object_of, row_of}
use Rattle.phase_core.specs.declared.caller.Place.TheVariants.{Direct}
use Rattle.k42_stamp.specs.Layouts.{Layouts}
use Rattle.k42_joined.specs.Safe.{IsSafe, IsOpenRow}
use Rattle.k42_joined.specs.State.{object, incarnation}
use Rattle.k42_board.specs.Cells.{Slot}
use Rattle.k42_board.specs.Log.{took}
use Rattle.k42_board.specs.Phases.{is_served}
use Rattle.k42_board.specs.Rule.{KnowsPass, Rule}
use Rattle.k42_board.specs.Steps.{Always}
use Rattle.k42_board.specs.Tabling.{entry_in, EntryFound, looked_up_view}
use Rattle.k42_board.specs.Views.{shapes_at}
use Rattle.k42_board.specs.declared.view.PassView.{PassView}
use Rattle.k42_board.specs.declared.view.StepName.TheVariants as steps
use Rattle.k42_board.specs.declared.view.View.{View}
use Rattle.k42_board.specs.declared.view.View.TheVariants.{Crew}
use Rattle.k42_board.proofs.OnePass.{known}
use Rattle.k42_rule.specs.Laws.{IsPresent}
use Rattle.k42_tables.specs.Entries.{entered_by, IfDirect}
use Rattle.k42_tables.specs.Serving.{IsServed}
use Rattle.k42_tables.specs.declared.answers.Entered.TheVariants as entered

pub root_there : (shapes : List Shape) (layout proc procs : ℕ) → proc < procs → root_of shapes layout proc < procs
root_there shapes layout proc procs lt = cell_few (shape_at shapes layout) proc procs lt

module _ {S L P O R : Type 0} (F : Layouts S L P O R) (declared : List L) where
  -- the cells of a row are open for who is inside
  pub open_inside : (id o i p : ℕ) (v : PassView P O R) (table : State (Slot P O R) (View P O R)) (r : Rule F declared table) → get_elem? table.views id ≡ some (Crew (v ∷ []))
      → IsSafe r.state → IsInside v.visitor.place o i → p < F.procs → IsOpenRow r.state o i p
  open_inside id o i p v table r at safe inside lt =
      let knows : KnowsPass F.tag_of r.state r.beside id v = known F declared table r id v at in
      safe.inside_open v.number o i p knows.there (subst (λ (x : Visitor). IsInside x.place o i) (sym knows.phases.visitor) inside)
      (subst (λ k. p < k) r.sound.cells.rows.told.procs lt)

  -- what the laws of the table tell of who is inside a row
  abbrev pub ArePresent : Type 0
  ArePresent =
      (table : State (Slot P O R) (View P O R)) (r : Rule F declared table) (id : ℕ) (v : PassView P O R)
      → get_elem? table.views id ≡ some (Crew (v ∷ [])) → is_served v.visitor.place ≡ true → IsPresent v r.state

  abbrev pub AreOpen : Type 0
  AreOpen =
      (id o i p : ℕ) (v : PassView P O R) → IsInside v.visitor.place o i → p < F.procs
      → Always F declared id v (λ s. IsOpenRow s o i p)

  pub direct_served : ArePresent → AreOpen → (id o i l cell : ℕ) (w : PassView P O R) → w.turn.proc < F.procs → w.visitor.place ≡ Direct o i → w.layout ≡ Some l
      → cell ≡ root_of (shapes_at w o) l w.turn.proc → Always F declared id w (IsServed o cell w)
  direct_served present opened id o i l cell w home place learned named table r at =
      let is = present table r id w at (ap is_served place) in
      let inside : IsInside w.visitor.place o i = subst (λ q. IsInside q o i) (sym place) (refl, refl) in
      let row : i ≡ incarnation r.state o = ap row_of (sym place) ∙ is.incarnation_is ∙ ap (λ q. incarnation r.state (object_of q)) place in
      let layout : l ≡ (object r.state o).layout = ap (λ m. unwrap_or m 0) (sym learned) ∙ is.layout_is ∙ ap (λ q. (object r.state (object_of q)).layout) place in
      let there : cell < F.procs = subst (λ k. k < F.procs) (sym named) (root_there (shapes_at w o) l w.turn.proc F.procs home) in
      let shapes : shapes_at w o ≡ (object r.state o).shapes = (known F declared table r id w at).phases.shapes o in
      record {
        inside = subst (IsInside w.visitor.place o) row inside;
        learned = learned ∙ ap Some layout;
        named = named ∙ (λ k. root_of (shapes k) (layout k) w.turn.proc);
        is_open = subst (λ k. IsOpenRow r.state o k cell) row (opened id o i cell w inside there table r at);
      }

  pub look_up_served : ArePresent → AreOpen → (id o found word : ℕ) (v w : PassView P O R) → v.turn.proc < F.procs → w ≡ took steps.LookUp word found (looked_up_view o found v) → EntryFound o v found
      → IfDirect (entered_by (entry_in found)) (λ cell. Always F declared id w (IsServed o cell w))
  look_up_served present opened id o found word v w home is facts = go (eqb (entry_in found).tag 0) (eqb (entry_in found).tag 1) refl refl where
    go : (a b : Bool) → eqb (entry_in found).tag 0 ≡ a → eqb (entry_in found).tag 1 ≡ b
        → IfDirect (cond a entered.Missed (cond b (entered.Direct (entry_in found).cell) entered.Mediated)) (λ cell. Always F declared id w (IsServed o cell w))
    go true b e f = tt
    go false false e f = tt
    go false true e f =
        let direct : place_found (entry_in found).tag o (entry_in found).incarnation ≡ Direct o (entry_in found).incarnation = rw (e, f) refl in
        direct_served present opened id o (entry_in found).incarnation (entry_in found).layout (entry_in found).cell w
        (subst (λ (x : PassView P O R). x.turn.proc < F.procs) (sym is) home)
        (ap (λ (x : PassView P O R). x.visitor.place) is ∙ direct)
        (ap (λ (x : PassView P O R). x.layout) is ∙ ap (λ b. cond b (Some (entry_in found).layout) None) f)
        (facts.cell (eqb-true (entry_in found).tag 1 f) ∙ ap (λ (x : PassView P O R). root_of (shapes_at x o) (entry_in found).layout x.turn.proc) (sym is))
