-- Steps of activities and graces after which a pass is one of the system as before, and holds no cell.
use Rattle.std.proofs.Common.{◌≡◌, ℕ, Option, Some, None, length, refl, sym, ap, ◌∙◌, subst}
use Rattle.std.proofs.lemmas.List.{length-replicate}
use Rattle.k42_board.specs.Generating.{left_view}
use Rattle.k42_board.specs.Gracing.{HasGiven}
use Rattle.k42_board.specs.Log.{took}
use Rattle.k42_board.specs.Seen.{SysSeen, PassSeen, IsPassOf, IsSamePass}
use Rattle.k42_board.specs.declared.view.PassView.{PassView}
use Rattle.k42_board.specs.declared.view.StepName.TheVariants.{Leave}
use Rattle.k42_quiesce.specs.Gracing.{GoesOn, with_role}
use Rattle.k42_quiesce.specs.Reclaiming.{reclaimed_view}
use Rattle.table_crews.proofs.Alike.{IsAlike, free_alike}
use Rattle.table_crews.specs.Ready.{HoldsNoCell}

-- where it has ended its activity
pub left_free : {L P O R : Type 0} (sys : SysSeen L) (old new : PassSeen P O R) (word found : ℕ) → HoldsNoCell sys old → IsSamePass old new
    → new.view ≡ took Leave word found (left_view old.view) → HoldsNoCell sys new
left_free sys old new word found is same e =
    free_alike sys old new is same.table same.queue same.keep (subst (IsAlike old.view) (sym e) (record {
      proc = refl;
      waits = refl;
      noted = refl;
      freeing = refl;
      held = refl;
      notes = refl;
      shapes = refl;
    }))

-- the role changes neither its cells nor its notes
role_kept : {P O R : Type 0} (holder : Option ℕ) (v : PassView P O R) → ((with_role holder v).taker.held ≡ v.taker.held) × ((with_role holder v).notes ≡ v.notes)
role_kept None v = (refl, refl)
role_kept (Some holder) v = (refl, refl)

-- where its grace has gone on
pub stepped_free : {L P O R : Type 0} (sys : SysSeen L) (old new : PassSeen P O R) (holder : Option ℕ) → HoldsNoCell sys old → IsPassOf sys new
    → GoesOn (with_role holder old.view) new.view → HoldsNoCell sys new
stepped_free sys old new holder is ours goes = record {
  ours = ours;
  held = ap (λ (v : PassView _ _ _). v.taker.held) goes.rest ∙ (role_kept holder old.view).0 ∙ is.held;
  notes = ap (λ (v : PassView _ _ _). v.notes) goes.rest ∙ (role_kept holder old.view).1 ∙ is.notes;
}

-- where it has freed what its grace noted
pub reclaimed_free : {L P O R : Type 0} (sys : SysSeen L) (old new : PassSeen P O R) → HoldsNoCell sys old → HasGiven old new
    → new.view ≡ reclaimed_view old.view new.view → HoldsNoCell sys new
reclaimed_free sys old new is given e =
    free_alike sys old new is given.table given.queue given.keep (subst (IsAlike old.view) (sym e) (record {
      proc = refl;
      waits = refl;
      noted = refl;
      freeing = length-replicate (length old.view.visitor.freeing) (0, 0);
      held = refl;
      notes = refl;
      shapes = refl;
    }))
