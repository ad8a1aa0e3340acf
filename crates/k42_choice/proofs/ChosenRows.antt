-- Rows of layouts side by side: which of the two a part and a row are of.
use Rattle.std.proofs.Common.{◌≡◌, ℕ, Bool, true, false, List, [], ◌++◌, map, OnOk, OnErr, refl, sym, ap, subst, ◌∙◌}
use Rattle.std.specs.declared.result.Result.{Result}
use Rattle.std.specs.declared.result.Result.TheVariants.{Ok, Err}
use Rattle.k42_memory.specs.declared.Memory.{Memory}
use Rattle.k42_kinds.specs.Rows.{Ways}
use Rattle.k42_kinds.specs.LayoutLaws.{IsReached, IsWholeRow}
use Rattle.k42_choice.specs.Lifting.{Side, same_states, own_parts, IsOwnRow}
use Rattle.k42_choice.specs.LiftedLaws.{own_reached, none_reached}
use Rattle.k42_choice.specs.Choices.{first_parts, second_parts, choice_ways, IsServedRow, ChoiceRow}
use Rattle.k42_choice.specs.declared.choice_part.ChoicePart.{ChoicePart}
use Rattle.k42_choice.specs.declared.choice_part.ChoicePart.TheVariants.{First, Second}

pub on_err : {X A B : Type 0} (result : Result X Memory) → (A → B) → OnErr result A → OnErr result B
on_err (Ok value) leads holds = tt
on_err (Err memory) leads holds = leads holds

served_reached : {S P O R : Type 0} (ways : Ways S P O R) (Whole : ℕ → List P → Type 0) (Serves : S → Type 0) (part : P) (op : O) → IsReached ways (IsServedRow ways Whole Serves) part op → IsReached ways Whole part op
served_reached ways Whole Serves part op reached = record {
  procs = reached.procs;
  proc = reached.proc;
  parts = reached.parts;
  cell = reached.cell;
  known = reached.known;
  whole = reached.whole.whole;
  needed = reached.needed;
  there = reached.there;
}

-- what an operation does to a part of one of the two, and is replied there
pub record StepsOne {S P Q O R : Type 0} (these : Ways S Q O R) (own : Ways S P O R) (Whole : ℕ → List P → Type 0) (part_of : P → Q) (part : P) (now : Q) (op : O) : Type 0 where
  pub reached : IsReached own Whole part op
  pub moved : these.part_after now op ≡ part_of (own.part_after part op)
  pub replied : these.part_reply now op ≡ own.part_reply part op

-- the part that it was made there stands among the others
pub moved_there : {S P Q O R X : Type 0} (these : Ways S Q O R) (own : Ways S P O R) (Whole : ℕ → List P → Type 0) (part_of : P → Q) (part after : P) (now : Q) (op : O) (result : Result X Memory)
    → StepsOne these own Whole part_of part now op → OnOk result (after ≡ own.part_after part op) → OnOk result (part_of after ≡ these.part_after now op)
moved_there these own Whole part_of part after now op (Ok reply) steps moved = ap part_of moved ∙ sym steps.moved
moved_there these own Whole part_of part after now op (Err memory) steps moved = tt

module _ {S P Q O R : Type 0} (gone : R)
    (first : Ways S P O R) (FirstWhole : ℕ → List P → Type 0) (FirstServes : S → Type 0)
    (second : Ways S Q O R) (SecondWhole : ℕ → List Q → Type 0) (SecondServes : S → Type 0) where
  pub at_first : (at_second : Bool) (now : ChoicePart P Q) (part : P) (op : O) → now ≡ First part
      → IsReached (choice_ways at_second gone first second) (ChoiceRow at_second first FirstWhole FirstServes second SecondWhole SecondServes) now op
      → StepsOne (choice_ways at_second gone first second) first FirstWhole First part now op
  at_first false now part op is reached = record {
    reached = served_reached first FirstWhole SecondServes part op
        (own_reached first_parts (λ part. refl) same_states gone first (IsServedRow first FirstWhole SecondServes) part op
        (subst (λ (one : ChoicePart P Q). IsReached (choice_ways false gone first second) (ChoiceRow false first FirstWhole FirstServes second SecondWhole SecondServes) one op) is reached));
    moved = ap (λ (one : ChoicePart P Q). (choice_ways false gone first second).part_after one op) is;
    replied = ap (λ (one : ChoicePart P Q). (choice_ways false gone first second).part_reply one op) is;
  }
  at_first true now part op is reached =
      absurd (none_reached second_parts (λ part. refl) same_states gone second (IsServedRow second SecondWhole FirstServes) (First part) op refl
      (subst (λ (one : ChoicePart P Q). IsReached (choice_ways true gone first second) (ChoiceRow true first FirstWhole FirstServes second SecondWhole SecondServes) one op) is reached))

  pub at_second : (at_second : Bool) (now : ChoicePart P Q) (part : Q) (op : O) → now ≡ Second part
      → IsReached (choice_ways at_second gone first second) (ChoiceRow at_second first FirstWhole FirstServes second SecondWhole SecondServes) now op
      → StepsOne (choice_ways at_second gone first second) second SecondWhole Second part now op
  at_second true now part op is reached = record {
    reached = served_reached second SecondWhole FirstServes part op
        (own_reached second_parts (λ part. refl) same_states gone second (IsServedRow second SecondWhole FirstServes) part op
        (subst (λ (one : ChoicePart P Q). IsReached (choice_ways true gone first second) (ChoiceRow true first FirstWhole FirstServes second SecondWhole SecondServes) one op) is reached));
    moved = ap (λ (one : ChoicePart P Q). (choice_ways true gone first second).part_after one op) is;
    replied = ap (λ (one : ChoicePart P Q). (choice_ways true gone first second).part_reply one op) is;
  }
  at_second false now part op is reached =
      absurd (none_reached first_parts (λ part. refl) same_states gone first (IsServedRow first FirstWhole SecondServes) (Second part) op refl
      (subst (λ (one : ChoicePart P Q). IsReached (choice_ways false gone first second) (ChoiceRow false first FirstWhole FirstServes second SecondWhole SecondServes) one op) is reached))

  -- a row of the one that is chosen
  pub first_row : (at_second : Bool) (row : List (ChoicePart P Q)) → at_second ≡ false → IsWholeRow (ChoiceRow at_second first FirstWhole FirstServes second SecondWhole SecondServes) row
      → IsWholeRow (IsOwnRow first_parts (IsServedRow first FirstWhole SecondServes)) row
  first_row true row is whole = absurd cc
  first_row false row is whole = whole

  pub second_row : (at_second : Bool) (row : List (ChoicePart P Q)) → at_second ≡ true → IsWholeRow (ChoiceRow at_second first FirstWhole FirstServes second SecondWhole SecondServes) row
      → IsWholeRow (IsOwnRow second_parts (IsServedRow second SecondWhole FirstServes)) row
  second_row true row is whole = whole
  second_row false row is whole = absurd cc

pub own_whole : {S P Q O R : Type 0} (side : Side P Q) (ways : Ways S P O R) (Whole : ℕ → List P → Type 0) (Serves : S → Type 0) (row : List Q) (own : List P)
    → IsWholeRow (IsOwnRow side (IsServedRow ways Whole Serves)) row → own ≡ own_parts side row → IsWholeRow Whole own
own_whole side ways Whole Serves row own whole taken = record { procs = whole.procs; some = whole.some; whole = subst (Whole whole.procs) (sym taken) whole.whole.whole.whole }

-- parts that were not changed in between stand as they stood
pub back_again : {P Q : Type 0} (side : Side P Q) (Whole : ℕ → List P → Type 0) (procs : ℕ) (row left new : List Q) (own after : List P) → IsOwnRow side Whole procs row
    → own ≡ own_parts side row → left ≡ [] → new ≡ left ++ map side.part_of after → after ≡ own → new ≡ row
back_again side Whole procs row left new own after stood taken empty put same = put ∙ ((λ i. empty i ++ map side.part_of ((same ∙ taken) i)) ∙ sym stood.own)
