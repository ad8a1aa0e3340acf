-- Groups with one number are kept in one way.
use Rattle.std.specs.Prelude.{◌≡◌, ℕ, List}
use Rattle.std.proofs.Common.{subst}
use Rattle.k42_kinds.specs.Rows.{Ways}
use Rattle.k42_kinds.specs.LayoutLaws.{Agree}
use Rattle.k42_copies.specs.Spaced.{number_of, one_number, shape_of}
use Rattle.k42_copies.specs.declared.spaced.Spaced.{Spaced}
use Rattle.co_groups.specs.Grouped.{grouped, IsGrouped}
use Rattle.co_groups.specs.GroupedLaws.{grouped_alike}

pub spaced_groups : {S P O R : Type 0} (spaced another : Spaced) (these those : Ways S P O R) (Whole Other : ℕ → List P → Type 0) (Serves OtherServes : S → Type 0)
    → number_of spaced ≡ number_of another → Agree these those Whole Other Serves OtherServes
    → Agree (grouped (shape_of spaced) these) (grouped (shape_of another) those) (IsGrouped (shape_of spaced) Whole) (IsGrouped (shape_of another) Other) Serves OtherServes
spaced_groups spaced another these those Whole Other Serves OtherServes numbers agree =
    subst (λ (it : Spaced). Agree (grouped (shape_of spaced) these) (grouped (shape_of it) those) (IsGrouped (shape_of spaced) Whole) (IsGrouped (shape_of it) Other) Serves OtherServes)
    (one_number spaced another numbers) (grouped_alike (shape_of spaced) these those Whole Other Serves OtherServes agree).agree
