-- Parts and rows of the one kind, where its layout is the one that keeps them.
use Rattle.std.proofs.Common.{◌≡◌, ℕ, List, Option, Some, option_map, refl, sym, ap, subst, ◌∙◌}
use Rattle.std.specs.Prelude.{unwrap_or, IsTrue, OnErr}
use Rattle.std.specs.declared.result.Result.{Result}
use Rattle.std.specs.declared.result.Result.TheVariants.{Ok, Err}
use Rattle.k42_memory.specs.declared.Memory.{Memory}
use Rattle.k42_shapes.specs.declared.shape.Shape.{Shape}
use Rattle.k42_shapes.specs.Shapes.{IsKnownTag}
use Rattle.k42_kinds.specs.declared.entry.Reach.TheVariants.{One}
use Rattle.k42_kinds.specs.OneThread.{OneThread}
use Rattle.k42_kinds.specs.Rows.{Ways}
use Rattle.k42_kinds.specs.LayoutLaws.{IsReached, IsWholeRow}
use Rattle.k42_choice.specs.Lifting.{Side, own_parts, IsOwnRow}
use Rattle.k42_choice.specs.LiftedLaws.{own_reached}
use Rattle.k42_either.specs.Eithers.{by_kind, either_object}
use Rattle.k42_either.specs.EitherRows.{first_parts, second_parts, asked, ways_among, either_ways, EitherRow}
use Rattle.k42_either.specs.EitherLaws.{Among, the_first, the_second}
use Rattle.k42_either.specs.declared.either.Either.{Either}
use Rattle.k42_either.specs.declared.either.Either.TheVariants.{First, Second}

-- the part is reached in the row of its kind, by the operation of its kind
own_reached_by : {S P O R T Q U V : Type 0} (kind : Among S P O R T Q U V) (gone : V) (ways : Ways S P O R) (Whole : ℕ → List P → Type 0) (part : P) (op : U) (own : O)
    → kind.calls.own_op op ≡ Some own
    → IsReached (ways_among kind.parts kind.states kind.calls gone ways) (IsOwnRow kind.parts Whole) (kind.parts.part_of part) op → IsReached ways Whole part own
own_reached_by {O} kind gone ways Whole part op own is reached =
    let there = own_reached kind.parts kind.part_back kind.states gone (asked kind.calls gone ways) Whole part op reached in
    record {
      procs = there.procs;
      proc = there.proc;
      parts = there.parts;
      cell = there.cell;
      known = there.known;
      whole = there.whole;
      needed = sym (ap (λ (may : Option O). unwrap_or (option_map (λ own. ways.reach there.procs own there.proc) may) (One 0)) is) ∙ there.needed;
      there = there.there;
    }

module _ {A B S T P Q O U R V : Type 0} (gone : Either R V) (first : A → Ways S P O R) (second : B → Ways T Q U V)
    (FirstWhole : A → ℕ → List P → Type 0) (SecondWhole : B → ℕ → List Q → Type 0) (layout : Either A B) (now : Either P Q) (op : Either O U)
    (reached : IsReached (either_ways gone first second layout) (EitherRow FirstWhole SecondWhole layout) now op) where
  pub first_reached : (one : A) (part : P) (own : O) → layout ≡ First one → now ≡ First part → op ≡ First own → IsReached (first one) (FirstWhole one) part own
  first_reached one part own is part_is op_is =
      own_reached_by the_first gone (first one) (FirstWhole one) part (First own) own refl
      (subst (λ (op : Either O U). IsReached (either_ways gone first second (First one)) (EitherRow FirstWhole SecondWhole (First one)) (First part) op) op_is
      (subst (λ (now : Either P Q). IsReached (either_ways gone first second (First one)) (EitherRow FirstWhole SecondWhole (First one)) now op) part_is
      (subst (λ (layout : Either A B). IsReached (either_ways gone first second layout) (EitherRow FirstWhole SecondWhole layout) now op) is reached)))

  pub second_reached : (one : B) (part : Q) (own : U) → layout ≡ Second one → now ≡ Second part → op ≡ Second own → IsReached (second one) (SecondWhole one) part own
  second_reached one part own is part_is op_is =
      own_reached_by the_second gone (second one) (SecondWhole one) part (Second own) own refl
      (subst (λ (op : Either O U). IsReached (either_ways gone first second (Second one)) (EitherRow FirstWhole SecondWhole (Second one)) (Second part) op) op_is
      (subst (λ (now : Either P Q). IsReached (either_ways gone first second (Second one)) (EitherRow FirstWhole SecondWhole (Second one)) now op) part_is
      (subst (λ (layout : Either A B). IsReached (either_ways gone first second layout) (EitherRow FirstWhole SecondWhole layout) now op) is reached)))

-- what holds of both holds of the one kind
module _ {A B S T O U R V : Type 0} (gone : Either R V) (first : A → OneThread S O R) (second : B → OneThread T U V)
    (layout : Either A B) (op : Either O U) (takes : IsTrue ((either_object gone first second layout).takes op)) where
  pub first_takes : (one : A) (own : O) → layout ≡ First one → op ≡ First own → IsTrue ((first one).takes own)
  first_takes one own is op_is =
      subst (λ (op : Either O U). IsTrue ((either_object gone first second (First one)).takes op)) op_is
      (subst (λ (layout : Either A B). IsTrue ((either_object gone first second layout).takes op)) is takes)

  pub second_takes : (one : B) (own : U) → layout ≡ Second one → op ≡ Second own → IsTrue ((second one).takes own)
  second_takes one own is op_is =
      subst (λ (op : Either O U). IsTrue ((either_object gone first second (Second one)).takes op)) op_is
      (subst (λ (layout : Either A B). IsTrue ((either_object gone first second layout).takes op)) is takes)

module _ {A B : Type 0} (first : A → List Shape) (second : B → List Shape) (first_tag : A → ℕ) (second_tag : B → ℕ)
    (layout : Either A B) (known : IsKnownTag (by_kind first second layout) (by_kind first_tag second_tag layout)) where
  pub first_known : (one : A) → layout ≡ First one → IsKnownTag (first one) (first_tag one)
  first_known one is = subst (λ (layout : Either A B). IsKnownTag (by_kind first second layout) (by_kind first_tag second_tag layout)) is known

  pub second_known : (one : B) → layout ≡ Second one → IsKnownTag (second one) (second_tag one)
  second_known one is = subst (λ (layout : Either A B). IsKnownTag (by_kind first second layout) (by_kind first_tag second_tag layout)) is known

module _ {A B P Q : Type 0} (FirstWhole : A → ℕ → List P → Type 0) (SecondWhole : B → ℕ → List Q → Type 0)
    (layout : Either A B) (row : List (Either P Q)) (whole : IsWholeRow (EitherRow FirstWhole SecondWhole layout) row) where
  pub first_row : (one : A) → layout ≡ First one → IsWholeRow (IsOwnRow first_parts (FirstWhole one)) row
  first_row one is = subst (λ (layout : Either A B). IsWholeRow (EitherRow FirstWhole SecondWhole layout) row) is whole

  pub second_row : (one : B) → layout ≡ Second one → IsWholeRow (IsOwnRow second_parts (SecondWhole one)) row
  second_row one is = subst (λ (layout : Either A B). IsWholeRow (EitherRow FirstWhole SecondWhole layout) row) is whole

pub own_whole : {P Q : Type 0} (side : Side P Q) (Whole : ℕ → List P → Type 0) (row : List Q) (own : List P)
    → IsWholeRow (IsOwnRow side Whole) row → own ≡ own_parts side row → IsWholeRow Whole own
own_whole side Whole row own whole taken = record { procs = whole.procs; some = whole.some; whole = subst (Whole whole.procs) (sym taken) whole.whole.whole }

pub on_any_err : {X A : Type 0} (result : Result X Memory) → A → OnErr result A
on_any_err (Ok value) holds = tt
on_any_err (Err memory) holds = holds
