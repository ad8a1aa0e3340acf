-- Layouts of one object side by side: their numbers, their parts, and the states that all of them keep.
use Rattle.std.specs.Prelude.{ℕ, ◌+◌, Bool, true, false, List, length, Option, Some, None}
use Rattle.k42_shapes.specs.declared.shape.Shape.{Shape}
use Rattle.k42_kinds.specs.Rows.{Ways}
use Rattle.k42_choice.specs.Lifting.{Side, same_states, lifted, IsOwnRow}
use Rattle.k42_choice.specs.declared.choice_part.ChoicePart.{ChoicePart}
use Rattle.k42_choice.specs.declared.choice_part.ChoicePart.TheVariants.{First, Second}

-- the numbers of the second's layouts come behind those of the first's
abbrev pub choice_tag : Bool → List Shape → ℕ → ℕ → ℕ
choice_tag false before first second = first
choice_tag true before first second = length before + second

abbrev pub chosen : {X : Type 0} → Bool → X → X → X
chosen false first second = first
chosen true first second = second

abbrev pub first_part : {P Q : Type 0} → ChoicePart P Q → Option P
first_part (First part) = Some part
first_part (Second part) = None

abbrev pub second_part : {P Q : Type 0} → ChoicePart P Q → Option Q
second_part (First part) = None
second_part (Second part) = Some part

abbrev pub first_parts : {P Q : Type 0} → Side P (ChoicePart P Q)
first_parts = record { part_of = First; own_part = first_part }

abbrev pub second_parts : {P Q : Type 0} → Side Q (ChoicePart P Q)
second_parts = record { part_of = Second; own_part = second_part }

abbrev pub choice_ways : {S P Q O R : Type 0} → Bool → R → Ways S P O R → Ways S Q O R → Ways S (ChoicePart P Q) O R
choice_ways false gone first second = lifted first_parts same_states gone first
choice_ways true gone first second = lifted second_parts same_states gone second

-- the other keeps the state for which the row stands, too
pub record IsServedRow {S P O R : Type 0} (ways : Ways S P O R) (Whole : ℕ → List P → Type 0) (Serves : S → Type 0) (procs : ℕ) (row : List P)
    : Type 0 where
  pub whole : Whole procs row
  pub served : Serves (ways.combine row)

abbrev pub ChoiceRow : {S P Q O R : Type 0} → Bool → Ways S P O R → (ℕ → List P → Type 0) → (S → Type 0)
    → Ways S Q O R → (ℕ → List Q → Type 0) → (S → Type 0) → ℕ → List (ChoicePart P Q) → Type 0
ChoiceRow false first FirstWhole FirstServes second SecondWhole SecondServes = IsOwnRow first_parts (IsServedRow first FirstWhole SecondServes)
ChoiceRow true first FirstWhole FirstServes second SecondWhole SecondServes = IsOwnRow second_parts (IsServedRow second SecondWhole FirstServes)

-- both keep the state
pub record ServesBoth {S : Type 0} (FirstServes SecondServes : S → Type 0) (state : S) : Type 0 where
  pub first : FirstServes state
  pub second : SecondServes state
