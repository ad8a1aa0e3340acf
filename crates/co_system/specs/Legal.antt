-- What is legal of the objects of the plan's layouts is legal of those of their kinds.
use Rattle.std.proofs.Common.{◌≡◌, ℕ, List, Some, ◌∙◌, ap}
use Rattle.std.specs.List.{slice_get}
use Rattle.std.specs.Option.{option_map}
use Rattle.std.proofs.lemmas.Option.{slice_get-map}
use Rattle.k42_kinds.specs.Legal.{IsLegalAmongObjects, IsLegalHistory, IsLegalHistoryOf, IsSoFarAmongObjects}
use Rattle.k42_kinds.specs.Watched.{watched_object}
use Rattle.k42_kinds.specs.declared.entry.Entry.{Entry}
use Rattle.k42_kinds.specs.declared.operation.KindName.{KindName}
use Rattle.k42_kinds.specs.declared.operation.Op.{Op}
use Rattle.k42_kinds.specs.declared.operation.Reply.{Reply}
use Rattle.co_system.specs.Systems.{PlanSeen, SystemLayout, kinds_of, object_in}

abbrev kind_in : SystemLayout → KindName
kind_in layout = layout.inner.kind

-- the kind of the object that a layout declares
pub kind_at : (plan : PlanSeen) (o : ℕ) (layout : SystemLayout) → slice_get plan.objects o ≡ Some layout → slice_get (kinds_of plan) o ≡ Some (kind_in layout)
kind_at plan o layout is = slice_get-map kind_in plan.objects o ∙ ap (option_map kind_in) is

module _ (plan : PlanSeen) where
  pub so_far : (before : List (Entry Op Reply)) (entry : Entry Op Reply) (after : List (Entry Op Reply))
      → IsSoFarAmongObjects object_in plan.objects before entry after
      → IsSoFarAmongObjects watched_object (kinds_of plan) before entry after
  so_far before entry after is = record {
    kind = kind_in is.kind;
    declared = kind_at plan entry.object is.kind is.declared;
    legal = is.legal;
  }

  among : (before : List (Entry Op Reply)) (entry : Entry Op Reply) (after : List (Entry Op Reply))
      → IsLegalAmongObjects object_in plan.objects before entry after
      → IsLegalAmongObjects watched_object (kinds_of plan) before entry after
  among before entry after is = record {
    kind = kind_in is.kind;
    declared = kind_at plan entry.object is.kind is.declared;
    legal = is.legal;
  }

  pub legal : (history : List (Entry Op Reply)) → IsLegalHistoryOf object_in plan.objects history → IsLegalHistory (kinds_of plan) history
  legal history is = record {
    numbered = is.numbered;
    legal = λ before entry after parts. among before entry after (is.legal before entry after parts);
  }
