-- A cell that was taken is put back with its part.
use Rattle.std.proofs.Common.{◌≡◌, ◌⊎◌, ℕ, ◌<◌, Bool, true, false, not, ◌||◌, cond, eqb, List, [], ◌∷◌, ◌++◌, Option, Some, None, Result, Ok, Err, refl, sym, ap, ◌∙◌, subst, inl, inr}
use Rattle.std.specs.Prelude.{is_some, unwrap_or, OnOk, OnErr}
use Rattle.std.proofs.lemmas.Bool.{eq-eqb}
use Rattle.turn_core.specs.Names.{names}
use Rattle.k42_stamp.specs.Laws.{AreLaws}
use Rattle.k42_stamp.specs.Layouts.{Layouts}
use Rattle.k42_board.specs.Cells.{cells_noted}
use Rattle.k42_board.specs.Log.{took, logs, put_at, steps_through}
use Rattle.k42_board.specs.Parts.{IsPart}
use Rattle.k42_board.specs.Steps.{Always}
use Rattle.k42_board.specs.Taking.{CELLS, HoldsHome, MayPut, noted, without, lifted_view, taken_view, unlocked_view, gave_back, reaching_view, put_view}
use Rattle.k42_board.specs.Words.{lock_word}
use Rattle.k42_board.specs.declared.cell.Content.{Content}
use Rattle.k42_board.specs.declared.view.Note.{Note}
use Rattle.k42_board.specs.declared.view.PassView.{PassView}
use Rattle.k42_board.specs.declared.view.StepName.TheVariants as steps
use Rattle.k42_board.proofs.PartLaws.{AreOneWay, noted_always, empty_inside_always}
use Rattle.k42_rule.proofs.PutBack.{AgreesWithNotes, may_put, taken_agrees}
use Rattle.k42_tables.specs.Filling.{IsOfItsRow, handled_view}

-- notes of other cells stay

rest_without : {P O R : Type 0} (n : ℕ) (note : Note P O R) (notes : List (Note P O R)) (b : Bool) → eqb note.cell n ≡ b → b ≡ false
    → without n (note ∷ notes) ≡ note ∷ without n notes
rest_without n note notes b is apart = let other = is ∙ apart in rw other refl

pub without_none : {P O R : Type 0} (n : ℕ) (notes : List (Note P O R)) → names (cells_noted notes) n ≡ false → without n notes ≡ notes
without_none n [] none = refl
without_none n (note ∷ notes) none = go (eqb note.cell n) (names (cells_noted notes) n) refl none (without_none n notes) where
  go : (b d : Bool) → eqb note.cell n ≡ b → b || d ≡ false → (d ≡ false → without n notes ≡ notes) → without n (note ∷ notes) ≡ note ∷ notes
  go true d is none' rest = absurd (cc)
  go false d is none' rest = rest_without n note notes false is refl ∙ ap (λ more. note ∷ more) (rest none')

pub without_first : {P O R : Type 0} (n : ℕ) (note : Note P O R) (notes : List (Note P O R)) → note.cell ≡ n → without n (note ∷ notes) ≡ without n notes
without_first n note notes same = let is = eq-eqb note.cell n same in rw is refl

pub none_without : {P O R : Type 0} (n : ℕ) (notes : List (Note P O R)) → names (cells_noted (without n notes)) n ≡ false
none_without n [] = refl
none_without n (note ∷ notes) = go (eqb note.cell n) refl (none_without n notes) where
  go : (b : Bool) → eqb note.cell n ≡ b → names (cells_noted (without n notes)) n ≡ false
      → names (cells_noted (cond (not b) (note ∷ without n notes) (without n notes))) n ≡ false
  go true is rest = rest
  go false is rest = rw (is, rest) refl

-- the pass that has taken the cell, and the one that has put it back then, with a part or without

abbrev pub out_view : {P O R : Type 0} → ℕ → Content P O R → PassView P O R → PassView P O R
out_view n content v = gave_back (lock_word n) (took steps.Lift (lock_word n) 0 (lifted_view content v))

abbrev pub back_view : {P O R : Type 0} → ℕ → Content P O R → PassView P O R → PassView P O R
back_view n content u = logs (put_at (lock_word n) (is_some content.part)) (put_view n (took steps.Reach (lock_word n) 0 (reaching_view n u)))

abbrev pub left_view : {P O R : Type 0} → ℕ → PassView P O R → PassView P O R
left_view n u = took steps.Unlock (lock_word n) 0 (unlocked_view n u)

module _ {P O R : Type 0} (n : ℕ) (content filled : Content P O R) (v : PassView P O R) (number : content.number ≡ n) (is : HoldsHome n v) where
  pub holds_back : HoldsHome n (back_view n filled (out_view n content v))
  holds_back = record { cell = is.cell; held = is.held; home = none_without n (noted content ∷ v.notes) }

  -- a settled pass is as it was, but for the lock
  pub handled : v.out ≡ None → (full : Bool) → is_some filled.part ≡ full
      → left_view n (back_view n filled (out_view n content v)) ≡ handled_view n full v
  handled settled full has =
      let notes = without_first n (noted content) v.notes number ∙ without_none n v.notes is.home in
      λ k. record (unlocked_view n v) { notes = notes k; out = sym settled k; log = steps_through n (has k) ++ v.log }

module _ {S L P O R : Type 0} (F : Layouts S L P O R) (laws : AreLaws F) (one_way : AreOneWay F) (declared : List L) (id n place : ℕ) (layout : L) (v : PassView P O R)
    (row : IsOfItsRow F declared n place layout v) (content : Content P O R) (number : content.number ≡ n) where
  abbrev taken : PassView P O R
  taken = out_view n content v

  kept_part : (own : Option P) → own ≡ content.part → Always F declared id taken (λ s. IsPart F declared s n own)
  kept_part own same =
      subst (λ (z : ℕ × Option P). Always F declared id taken (λ s. IsPart F declared s z.0 z.1)) (λ k. (number k, sym same k))
      (noted_always F laws declared id taken 0 (noted content) refl)

  empty_part : content.part ≡ None → Always F declared id taken (λ s. IsPart F declared s n (Some ((F.ways_of layout).empty F.procs place)))
  empty_part none =
      subst (λ m. Always F declared id taken (λ s. IsPart F declared s m (Some ((F.ways_of layout).empty F.procs place)))) number
      (empty_inside_always F laws declared id taken one_way 0 (noted content) refl none row.object row.row place row.inside (number ∙ row.cell) row.few row.declaration layout row.declares
      row.kind row.learned row.there)

  due_part : (own : Option P) → (own ≡ content.part) ⊎ (own ≡ Some (unwrap_or content.part ((F.ways_of layout).empty F.procs place)))
      → Always F declared id taken (λ s. IsPart F declared s n own)
  due_part own (inl same) = kept_part own same
  due_part own (inr filled) = go content.part refl filled where
    go : (part : Option P) → content.part ≡ part → own ≡ Some (unwrap_or part ((F.ways_of layout).empty F.procs place))
        → Always F declared id taken (λ s. IsPart F declared s n own)
    go (Some part) has filled' = kept_part own (filled' ∙ sym has)
    go None none filled' = subst (λ part. Always F declared id taken (λ s. IsPart F declared s n part)) (sym filled') (empty_part none)

  pub may_put_filled : (filled : Content P O R) → filled ≡ record content { part = filled.part } → n < CELLS
      → (filled.part ≡ content.part) ⊎ (filled.part ≡ Some (unwrap_or content.part ((F.ways_of layout).empty F.procs place)))
      → MayPut F declared id n filled taken
  may_put_filled filled same few due =
      let agrees : AgreesWithNotes (taken_view content v).notes content = taken_agrees content v in
      may_put F declared id n taken filled (ap (λ (c : Content P O R). c.number) same ∙ number) few
      (subst (AgreesWithNotes taken.notes) (sym same) (record { noted = agrees.noted; history = agrees.history; closed = agrees.closed }))
      (due_part filled.part due)

-- the part that is put back, where one was made, or none

pub part_back : {X E P : Type 0} (r : Result X E) (old new due : Option P) → OnOk r (new ≡ due) → OnErr r ((old ≡ None) × (new ≡ None)) → (new ≡ old) ⊎ (new ≡ due)
part_back (Ok x) old new due ok err = inr ok
part_back (Err e) old new due ok err = inl (err.1 ∙ sym err.0)

pub on_ok : {X E A B : Type 0} (r : Result X E) → OnOk r A → (A → B) → OnOk r B
on_ok (Ok x) ok then = then ok
on_ok (Err e) ok then = tt

pub on_err : {X E A B : Type 0} (r : Result X E) → OnErr r A → (A → B) → OnErr r B
on_err (Ok x) err then = tt
on_err (Err e) err then = then err
