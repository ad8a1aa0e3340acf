-- The layout of the row that a pass missed, as it has learned it, and the cell that its root names there.
use Rattle.std.proofs.Common.{◌≡◌, ℕ, ◌<◌, true, List, [], Some, get_or, refl, sym, ap, ◌∙◌, subst}
use Rattle.std.specs.List.{slice_get}
use Rattle.std.specs.Prelude.{is_some}
use Rattle.k42_shapes.specs.declared.shape.Shape.{Shape}
use Rattle.k42_shapes.specs.Shapes.{IsKnownTag, cell_called, cells_of, shape_at}
use Rattle.k42_shapes.proofs.ShapeLaws.{cell_few, cell_within}
use Rattle.phase_core.specs.Effects.{root_of}
use Rattle.phase_core.specs.Stages.{IsInside, is_missed, row_of}
use Rattle.phase_core.specs.declared.caller.Place.{Place}
use Rattle.k42_stamp.specs.Layouts.{Layouts, IsKnown, shape_of}
use Rattle.k42_joined.specs.Numbers.{cell_of}
use Rattle.k42_joined.specs.Swapping.{holds_none}
use Rattle.k42_board.specs.Log.{took}
use Rattle.k42_board.specs.Tabling.{MayInstall, RootFound, layout_learned, rooted_view}
use Rattle.k42_board.specs.Taking.{locked_view}
use Rattle.k42_board.specs.Values.{incarnation_in, layout_in}
use Rattle.k42_board.specs.Views.{shapes_at}
use Rattle.k42_board.specs.Words.{lock_word, object_word}
use Rattle.k42_board.specs.declared.view.PassView.{PassView}
use Rattle.k42_board.specs.declared.view.StepName.TheVariants as steps
use Rattle.k42_board.proofs.Looking.{missed_is}
use Rattle.k42_tables.specs.Filling.{IsOfItsRow}
use Rattle.k42_tables.specs.Missing.{MayMiss}
use Rattle.k42_tables.proofs.Missed.{IsTried}

missed_inside : (place : Place) (o row : ℕ) → is_missed place o ≡ true → row ≡ row_of place → IsInside place o row
missed_inside place o row missed is =
    let there = missed_is place o missed in
    subst (λ p. IsInside p o row) (sym there.1) (refl, sym (is ∙ ap row_of there.1))

module _ {S L P O R : Type 0} (F : Layouts S L P O R) (declared : List L) (o root : ℕ) (v : PassView P O R) (layout : L) where
  pub record IsLearned : Type 0 where
    pub facts : RootFound o v root
    pub declaration : L
    pub declares : slice_get declared o ≡ Some declaration
    pub kind : F.object_of layout ≡ F.object_of declaration
    pub tagged : F.tag_of layout ≡ layout_in root
    pub told : shapes_at v o ≡ F.shapes_of layout

  pub learned_by : ((one other : L) → F.object_of one ≡ F.object_of other → F.shapes_of one ≡ F.shapes_of other)
      → RootFound o v root → (declaration : L) → slice_get declared o ≡ Some declaration → F.object_of layout ≡ F.object_of declaration
      → (tag : ℕ) → F.tag_of layout ≡ tag → tag ≡ layout_in root → (shapes : List (List Shape)) → v.shapes ≡ shapes → get_or shapes o [] ≡ F.shapes_of declaration → IsLearned
  learned_by alike facts declaration declares kind tag tagged is shapes told own = record {
    facts = facts;
    declaration = declaration;
    declares = declares;
    kind = kind;
    tagged = tagged ∙ is;
    told = ap (λ (all : List (List Shape)). get_or all o []) told ∙ own ∙ sym (alike layout declaration kind);
  }

  module _ (is : IsLearned) where
    pub shape_learned : shape_of F layout ≡ shape_at (shapes_at v o) (layout_in root)
    shape_learned = λ j. shape_at (sym is.told j) (is.tagged j)

    known : IsKnown F layout
    known = subst (λ (z : List Shape × ℕ). IsKnownTag z.0 z.1) (λ j. (is.told j, sym is.tagged j)) is.facts.word.layout

    -- once the pass has the lock of that cell
    pub in_its_row : (row home place n holder : ℕ) (shape : Shape) (u w : PassView P O R) → is_missed v.visitor.place o ≡ true → v.turn.proc < F.procs
        → row ≡ incarnation_in root → shape ≡ shape_of F layout → home ≡ u.turn.proc → place ≡ cell_called shape home → n ≡ cell_of o row place
        → u ≡ took steps.LoadRoot (object_word o) root (rooted_view root v) → w ≡ took steps.Lock (lock_word n) holder (locked_view n holder u)
        → IsOfItsRow F declared n place layout w
    in_its_row row home place n holder shape u w missed there row_is shape_is home_is place_is cell rooted locked =
        let u_is = took steps.LoadRoot (object_word o) root (rooted_view root v) in
        let stands : w ≡ took steps.Lock (lock_word n) holder (locked_view n holder u_is) =
        locked ∙ ap (λ (x : PassView P O R). took steps.Lock (lock_word n) holder (locked_view n holder x)) rooted in
        let near : home < F.procs = subst (λ p. p < F.procs) (sym (home_is ∙ ap (λ (x : PassView P O R). x.turn.proc) rooted)) there in
        let named : place ≡ cell_called (shape_of F layout) home = place_is ∙ ap (λ s. cell_called s home) shape_is in
        record {
          object = o;
          row = row;
          inside =
              subst (λ (x : PassView P O R). IsInside x.visitor.place o row) (sym stands) (missed_inside v.visitor.place o row missed (row_is ∙ is.facts.row));
          cell = cell;
          declaration = is.declaration;
          declares = is.declares;
          kind = is.kind;
          learned = ap (λ (x : PassView P O R). x.layout) stands ∙ ap Some (sym is.tagged);
          known = known;
          there = subst (λ k. k < cells_of (shape_of F layout) F.procs) (sym named) (cell_within (shape_of F layout) home F.procs near);
          few = subst (λ k. k < F.procs) (sym named) (cell_few (shape_of F layout) home F.procs near);
        }

-- once it has tried, the cell may be installed
pub may_install : {P O R : Type 0} (objects o root row place : ℕ) (v x : PassView P O R) → MayMiss objects o v → IsTried o root row place v x → MayInstall objects o place x
may_install {P} {O} {R} objects o root row place v x may tried = record {
  missed = ap (λ (z : PassView P O R). is_missed z.visitor.place o) tried.view ∙ may.missed;
  there = may.there;
  rooted = ap (λ (z : PassView P O R). is_some z.layout) tried.view;
  named = tried.place_is ∙ ap (λ (z : PassView P O R). root_of (shapes_at z o) (layout_learned z) z.turn.proc) (sym tried.view);
  free = ap (λ (z : PassView P O R). holds_none z.taker.held) tried.view ∙ may.free;
}
