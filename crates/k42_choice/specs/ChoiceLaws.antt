-- Layouts of one object side by side keep the laws of layouts.
use Rattle.std.specs.Prelude.{◌≡◌, ℕ, ◌+◌, ◌<◌, ◌≤◌, Bool, true, false, IsTrue, List, ◌++◌, length, refl}
use Rattle.std.proofs.Common.{ap, sym, subst, ◌∙◌, arith}
use Rattle.std.proofs.lemmas.List.{length-append, get_or_append_left, get_or-append-add}
use Rattle.k42_shapes.specs.declared.shape.Shape.{Shape}
use Rattle.k42_shapes.specs.declared.shape.Shape.TheVariants as shapes
use Rattle.k42_shapes.specs.Shapes.{IsLiveTag, cells_of, shape_at}
use Rattle.k42_kinds.specs.declared.entry.Reach.{Reach}
use Rattle.k42_kinds.specs.declared.entry.Reach.TheVariants.{All}
use Rattle.k42_kinds.specs.declared.entry.To.{To}
use Rattle.k42_kinds.specs.OneThread.{OneThread}
use Rattle.k42_kinds.specs.Rows.{Ways, IsWithin}
use Rattle.k42_kinds.specs.LayoutLaws.{StepsRow, StandsFor, Imports, Agree}
use Rattle.k42_choice.specs.Living.{IsRowOfNew, AreOneObject}
use Rattle.k42_choice.specs.Lifting.{same_states, own_parts}
use Rattle.k42_choice.specs.LiftedLaws.{Follows, lifted_steps, lifted_stands, lifted_begins, lifted_imports, lifted_agree}
use Rattle.k42_choice.specs.Choices.{choice_tag, chosen, first_parts, second_parts, choice_ways, IsServedRow, ChoiceRow, ServesBoth}
use Rattle.k42_choice.specs.declared.choice_part.ChoicePart.{ChoicePart}

-- objects that do the same, have no end of their own and are left by swaps, are one
pub one_object : {S O R : Type 0} (one other : OneThread S O R) → AreOneObject one other → ((state : S) → one.is_ended state ≡ false) → ((state : S) (to : To) → one.swapped state to ≡ state)
    → ((state : S) → other.is_ended state ≡ false) → ((state : S) (to : To) → other.swapped state to ≡ state) → one ≡ other
one_object one other same endless stays other_endless other_stays = λ i. record {
  start = same.0 i;
  takes = λ op. same.1 op i;
  after = λ state op. same.2 state op i;
  reply = λ state op. same.3 state op i;
  swapped = λ state to. (stays state to ∙ sym (other_stays state to)) i;
  is_ended = λ state. (endless state ∙ sym (other_endless state)) i;
}

-- The states that a layout keeps are those in which the object can be: its steps lead from one of them to another.
module _ {S P O R : Type 0} (object : OneThread S O R) (ways : Ways S P O R) (Whole : ℕ → List P → Type 0) (Serves : S → Type 0) (shape : Shape)
    (stands : (procs : ℕ) (row : List P) → 0 < procs → Whole procs row → StandsFor ways Serves shape procs row) where
  pub served_after :
      ((procs : ℕ) (row : List P) (op : O) → 0 < procs → IsTrue (object.takes op) → Whole procs row → StepsRow object ways (Whole procs) row op All)
      → ((procs : ℕ) (state : S) → 0 < procs → Serves state → Imports ways (Whole procs) procs state)
      → (op : O) → IsTrue (object.takes op) → (state : S) → Serves state → Serves (object.after state op)
  served_after steps imports op takes state served =
      let some : 0 < 1 = omega arith in
      let row = ways.imported 1 state in
      let made = imports 1 state some served in
      let stepped = steps 1 row op some takes made.whole in
      subst Serves (stepped.moved ∙ ap (λ (old : S). object.after old op) made.back) (stands 1 (ways.row_after row op) some stepped.whole).served

  pub served_start : ((procs : ℕ) → 0 < procs → IsRowOfNew object ways (Whole procs) shape procs) → Serves object.start
  served_start begins =
      let some : 0 < 1 = omega arith in
      let new = begins 1 some in
      subst Serves new.empty (stands 1 _ some new.whole).served

-- a row that the other serves, too, is one of the layout, and stays one
module _ {S P O R : Type 0} (object : OneThread S O R) (ways : Ways S P O R) (Whole : ℕ → List P → Type 0) (Serves : S → Type 0) where
  served_steps : (procs : ℕ) (row : List P) (op : O) (reach : Reach) → ((state : S) → Serves state → Serves (object.after state op))
      → IsServedRow ways Whole Serves procs row → StepsRow object ways (Whole procs) row op reach → StepsRow object ways (IsServedRow ways Whole Serves procs) row op reach
  served_steps procs row op reach stays kept steps = record {
    whole = record { whole = steps.whole; served = subst Serves (sym steps.moved) (stays (ways.combine row) kept.served) };
    moved = steps.moved;
    replied = steps.replied;
  }

  served_begins : (shape : Shape) (procs : ℕ) → Serves object.start → IsRowOfNew object ways (Whole procs) shape procs → IsRowOfNew object ways (IsServedRow ways Whole Serves procs) shape procs
  served_begins shape procs start begins = record {
    whole = record { whole = begins.whole; served = subst Serves (sym begins.empty) start };
    empty = begins.empty;
  }

  served_imports : (procs : ℕ) (state : S) → Serves state → Imports ways (Whole procs) procs state → Imports ways (IsServedRow ways Whole Serves procs) procs state
  served_imports procs state served imports = record {
    whole = record { whole = imports.whole; served = subst Serves (sym imports.back) served };
    back = imports.back;
  }

same_follows : {S O R : Type 0} (object : OneThread S O R) → Follows (λ (state : S). state) object object
same_follows object = record { start = refl; after = λ state op. refl; reply = λ state op. refl }

-- the same of what two layouts of one object do
pub takes_too : {S O R : Type 0} (object other : OneThread S O R) → object ≡ other → (op : O) → IsTrue (object.takes op) → IsTrue (other.takes op)
takes_too object other same op takes = subst (λ (one : OneThread _ _ _). IsTrue (one.takes op)) same takes

module _ {S P Q O R : Type 0} (object other : OneThread S O R) (same : object ≡ other) (gone : R)
    (first : Ways S P O R) (FirstWhole : ℕ → List P → Type 0) (FirstServes : S → Type 0)
    (second : Ways S Q O R) (SecondWhole : ℕ → List Q → Type 0) (SecondServes : S → Type 0) where
  pub choice_steps : (at_second : Bool) (procs proc : ℕ) (row : List (ChoicePart P Q)) (op : O)
      → ((state : S) → FirstServes state → FirstServes (object.after state op)) → ((state : S) → SecondServes state → SecondServes (other.after state op))
      → ChoiceRow at_second first FirstWhole FirstServes second SecondWhole SecondServes procs row
      → ((own : List P) → FirstWhole procs own → StepsRow object first (FirstWhole procs) own op (first.reach procs op proc))
      → ((own : List Q) → SecondWhole procs own → StepsRow other second (SecondWhole procs) own op (second.reach procs op proc))
      → StepsRow object (choice_ways at_second gone first second) (ChoiceRow at_second first FirstWhole FirstServes second SecondWhole SecondServes procs) row op
      ((choice_ways at_second gone first second).reach procs op proc)
  choice_steps false procs proc row op first_stays second_stays kept first_steps second_steps =
      lifted_steps first_parts (λ part. refl) same_states gone first (IsServedRow first FirstWhole SecondServes) object object (same_follows object) procs row op (first.reach procs op proc) kept
      (served_steps object first FirstWhole SecondServes procs (own_parts first_parts row) op (first.reach procs op proc) (subst (λ (one : OneThread S O R). (state : S) → SecondServes state
      → SecondServes (one.after state op)) (sym same) second_stays) kept.whole (first_steps (own_parts first_parts row) kept.whole.whole))
  choice_steps true procs proc row op first_stays second_stays kept first_steps second_steps =
      lifted_steps second_parts (λ part. refl) same_states gone second (IsServedRow second SecondWhole FirstServes) object object (same_follows object) procs row op (second.reach procs op proc) kept
      (served_steps object second SecondWhole FirstServes procs (own_parts second_parts row) op (second.reach procs op proc) first_stays kept.whole (subst (λ
      (one : OneThread S O R). StepsRow one second (SecondWhole procs) (own_parts second_parts row) op (second.reach procs op proc)) (sym same) (second_steps
      (own_parts second_parts row) kept.whole.whole)))

  pub choice_steps_all : (at_second : Bool) (procs : ℕ) (row : List (ChoicePart P Q)) (op : O)
      → ((state : S) → FirstServes state → FirstServes (object.after state op)) → ((state : S) → SecondServes state → SecondServes (other.after state op))
      → ChoiceRow at_second first FirstWhole FirstServes second SecondWhole SecondServes procs row
      → ((own : List P) → FirstWhole procs own → StepsRow object first (FirstWhole procs) own op All)
      → ((own : List Q) → SecondWhole procs own → StepsRow other second (SecondWhole procs) own op All)
      → StepsRow object (choice_ways at_second gone first second) (ChoiceRow at_second first FirstWhole FirstServes second SecondWhole SecondServes procs) row op All
  choice_steps_all false procs row op first_stays second_stays kept first_steps second_steps =
      lifted_steps first_parts (λ part. refl) same_states gone first (IsServedRow first FirstWhole SecondServes) object object (same_follows object) procs row op All kept
      (served_steps object first FirstWhole SecondServes procs (own_parts first_parts row) op All (subst (λ (one : OneThread S O R). (state : S) → SecondServes state → SecondServes
      (one.after state op)) (sym same) second_stays) kept.whole (first_steps (own_parts first_parts row) kept.whole.whole))
  choice_steps_all true procs row op first_stays second_stays kept first_steps second_steps =
      lifted_steps second_parts (λ part. refl) same_states gone second (IsServedRow second SecondWhole FirstServes) object object (same_follows object) procs row op All kept
      (served_steps object second SecondWhole FirstServes procs (own_parts second_parts row) op All first_stays kept.whole (subst (λ (one : OneThread S O R). StepsRow one second
      (SecondWhole procs) (own_parts second_parts row) op All) (sym same) (second_steps (own_parts second_parts row) kept.whole.whole)))

  pub choice_imports : (at_second : Bool) (procs : ℕ) (state : S) → ServesBoth FirstServes SecondServes state
      → (FirstServes state → Imports first (FirstWhole procs) procs state) → (SecondServes state → Imports second (SecondWhole procs) procs state)
      → Imports (choice_ways at_second gone first second) (ChoiceRow at_second first FirstWhole FirstServes second SecondWhole SecondServes procs) procs state
  choice_imports false procs state served first_imports second_imports =
      lifted_imports first_parts (λ part. refl) same_states gone first (IsServedRow first FirstWhole SecondServes) procs state refl
      (served_imports object first FirstWhole SecondServes procs state served.second (first_imports served.first))
  choice_imports true procs state served first_imports second_imports =
      lifted_imports second_parts (λ part. refl) same_states gone second (IsServedRow second SecondWhole FirstServes) procs state refl
      (served_imports object second SecondWhole FirstServes procs state served.first (second_imports served.second))

  module _ (before behind : List Shape) (tag next : ℕ) (numbered : IsLiveTag before tag) where
    pub shape_chosen : (at_second : Bool) → shape_at (before ++ behind) (choice_tag at_second before tag next) ≡ chosen at_second (shape_at before tag) (shape_at behind next)
    shape_chosen false = get_or_append_left before behind shapes.One tag numbered
    shape_chosen true = get_or-append-add before behind next shapes.One

    pub choice_reaches : (at_second : Bool) (procs proc : ℕ) (op : O) → IsWithin (cells_of (shape_at before tag) procs) (first.reach procs op proc)
        → IsWithin (cells_of (shape_at behind next) procs) (second.reach procs op proc)
        → IsWithin (cells_of (shape_at (before ++ behind) (choice_tag at_second before tag next)) procs) ((choice_ways at_second gone first second).reach procs op proc)
    choice_reaches false procs proc op first_reaches second_reaches =
        subst (λ (shape : Shape). IsWithin (cells_of shape procs) (first.reach procs op proc)) (sym (shape_chosen false)) first_reaches
    choice_reaches true procs proc op first_reaches second_reaches =
        subst (λ (shape : Shape). IsWithin (cells_of shape procs) (second.reach procs op proc)) (sym (shape_chosen true)) second_reaches

    pub choice_stands : (at_second : Bool) (procs : ℕ) (row : List (ChoicePart P Q))
        → ChoiceRow at_second first FirstWhole FirstServes second SecondWhole SecondServes procs row
        → ((own : List P) → FirstWhole procs own → StandsFor first FirstServes (shape_at before tag) procs own)
        → ((own : List Q) → SecondWhole procs own → StandsFor second SecondServes (shape_at behind next) procs own)
        → StandsFor (choice_ways at_second gone first second) (ServesBoth FirstServes SecondServes) (shape_at (before ++ behind) (choice_tag at_second before tag next)) procs row
    choice_stands false procs row kept first_stands second_stands =
        let stands = first_stands (own_parts first_parts row) kept.whole.whole in
        subst (λ (shape : Shape). StandsFor (choice_ways false gone first second) (ServesBoth FirstServes SecondServes) shape procs row) (sym (shape_chosen false))
        (lifted_stands first_parts (λ part. refl) same_states gone first (IsServedRow first FirstWhole SecondServes) (ServesBoth FirstServes SecondServes) (ServesBoth FirstServes SecondServes)
        (shape_at before tag) procs row (λ state served. served) kept (record { sized = stands.sized; served = record { first = stands.served; second = kept.whole.served } }))
    choice_stands true procs row kept first_stands second_stands =
        let stands = second_stands (own_parts second_parts row) kept.whole.whole in
        subst (λ (shape : Shape). StandsFor (choice_ways true gone first second) (ServesBoth FirstServes SecondServes) shape procs row) (sym (shape_chosen true))
        (lifted_stands second_parts (λ part. refl) same_states gone second (IsServedRow second SecondWhole FirstServes) (ServesBoth FirstServes SecondServes) (ServesBoth FirstServes SecondServes)
        (shape_at behind next) procs row (λ state served. served) kept (record { sized = stands.sized; served = record { first = kept.whole.served; second = stands.served } }))

    pub choice_begins : (at_second : Bool) (procs : ℕ) → FirstServes object.start → SecondServes other.start
        → IsRowOfNew object first (FirstWhole procs) (shape_at before tag) procs → IsRowOfNew other second (SecondWhole procs) (shape_at behind next) procs
        → IsRowOfNew object (choice_ways at_second gone first second) (ChoiceRow at_second first FirstWhole FirstServes second SecondWhole SecondServes procs)
        (shape_at (before ++ behind) (choice_tag at_second before tag next)) procs
    choice_begins false procs first_start second_start first_begins second_begins =
        subst (λ (shape : Shape). IsRowOfNew object (choice_ways false gone first second) (ChoiceRow false first FirstWhole FirstServes second SecondWhole SecondServes procs) shape procs)
        (sym (shape_chosen false))
        (lifted_begins first_parts (λ part. refl) same_states gone first (IsServedRow first FirstWhole SecondServes) object object (same_follows object) (shape_at before tag) procs
        (served_begins object first FirstWhole SecondServes (shape_at before tag) procs (subst (λ (one : OneThread S O R). SecondServes one.start) (sym same) second_start) first_begins))
    choice_begins true procs first_start second_start first_begins second_begins =
        subst (λ (shape : Shape). IsRowOfNew object (choice_ways true gone first second) (ChoiceRow true first FirstWhole FirstServes second SecondWhole SecondServes procs) shape procs) (sym
        (shape_chosen true))
        (lifted_begins second_parts (λ part. refl) same_states gone second (IsServedRow second SecondWhole FirstServes) object object (same_follows object) (shape_at behind next) procs
        (served_begins object second SecondWhole FirstServes (shape_at behind next) procs first_start (subst (λ (one : OneThread S O R). IsRowOfNew one second (SecondWhole procs)
        (shape_at behind next) procs) (sym same) second_begins)))

-- each number is one of those of both
pub choice_numbered : (at_second : Bool) (before behind : List Shape) (tag next : ℕ) → IsLiveTag before tag → IsLiveTag behind next → IsLiveTag (before ++ behind)
    (choice_tag at_second before tag next)
choice_numbered false before behind tag next numbered other_numbered = omega (arith, length-append before behind, numbered)
choice_numbered true before behind tag next numbered other_numbered = omega (arith, length-append before behind, other_numbered)

-- both together have not too many
pub choice_few : {most : ℕ} (before behind : List Shape) → length before + length behind ≤ most → length (before ++ behind) ≤ most
choice_few before behind few = omega (arith, length-append before behind, few)

-- states that both kept are kept by others of the same objects
pub both_keep : {S : Type 0} (FirstServes SecondServes FirstServed SecondServed : S → Type 0) (state : S)
    → (FirstServes state → FirstServed state) → (SecondServes state → SecondServed state) → ServesBoth FirstServes SecondServes state → ServesBoth FirstServed SecondServed state
both_keep FirstServes SecondServes FirstServed SecondServed state first second served = record { first = first served.first; second = second served.second }

still_served : {S P O R : Type 0} (these those : Ways S P O R) (Whole Other : ℕ → List P → Type 0) (Serves Served : S → Type 0) (procs : ℕ) (row : List P) → these ≡ those
    → (Whole procs row → Other procs row) → ((state : S) → Serves state → Served state) → IsServedRow these Whole Serves procs row → IsServedRow those Other Served procs row
still_served these those Whole Other Serves Served procs row same whole keeps kept = record {
  whole = whole kept.whole;
  served = subst (λ (ways : Ways _ _ _ _). Served (ways.combine row)) same (keeps (these.combine row) kept.served);
}

-- two choices of one object that have one number choose the same
module _ {S P Q O R : Type 0} (gone : R)
    (first : Ways S P O R) (FirstWhole : ℕ → List P → Type 0) (FirstServes : S → Type 0)
    (second : Ways S Q O R) (SecondWhole : ℕ → List Q → Type 0) (SecondServes : S → Type 0)
    (one : Ways S P O R) (OneWhole : ℕ → List P → Type 0) (OneServes : S → Type 0)
    (other : Ways S Q O R) (OtherWhole : ℕ → List Q → Type 0) (OtherServes : S → Type 0)
    (first_keeps : (state : S) → FirstServes state → OneServes state) (second_keeps : (state : S) → SecondServes state → OtherServes state) where
  both : (state : S) → ServesBoth FirstServes SecondServes state → ServesBoth OneServes OtherServes state
  both state served = record { first = first_keeps state served.first; second = second_keeps state served.second }

  pub choice_agree : (at_second other_second : Bool) (before behind all : List Shape) (tag next one_tag other_next : ℕ)
      → IsLiveTag before tag → IsLiveTag all one_tag → before ≡ all
      → (tag ≡ one_tag → Agree first one FirstWhole OneWhole FirstServes OneServes) → (next ≡ other_next → Agree second other SecondWhole OtherWhole SecondServes OtherServes)
      → choice_tag at_second before tag next ≡ choice_tag other_second all one_tag other_next
      → Agree (choice_ways at_second gone first second) (choice_ways other_second gone one other)
      (ChoiceRow at_second first FirstWhole FirstServes second SecondWhole SecondServes) (ChoiceRow other_second one OneWhole OneServes other OtherWhole OtherServes)
      (ServesBoth FirstServes SecondServes) (ServesBoth OneServes OtherServes)
  choice_agree false false before behind all tag next one_tag other_next numbered one_numbered same first_agree second_agree tags =
      let is = first_agree tags in
      lifted_agree first_parts same_states gone first one (IsServedRow first FirstWhole SecondServes) (IsServedRow one OneWhole OtherServes) (ServesBoth FirstServes SecondServes)
      (ServesBoth OneServes OtherServes)
      is.ways (λ procs row kept. still_served first one FirstWhole OneWhole SecondServes OtherServes procs row is.ways (is.whole procs row) second_keeps kept) both
  choice_agree true true before behind all tag next one_tag other_next numbered one_numbered same first_agree second_agree tags =
      let is = second_agree (omega (arith, ap length same, tags)) in
      lifted_agree second_parts same_states gone second other (IsServedRow second SecondWhole FirstServes) (IsServedRow other OtherWhole OneServes) (ServesBoth FirstServes SecondServes)
      (ServesBoth OneServes OtherServes)
      is.ways (λ procs row kept. still_served second other SecondWhole OtherWhole FirstServes OneServes procs row is.ways (is.whole procs row) first_keeps kept) both
  choice_agree false true before behind all tag next one_tag other_next numbered one_numbered same first_agree second_agree tags = absurd (omega (arith, ap length same, tags, numbered))
  choice_agree true false before behind all tag next one_tag other_next numbered one_numbered same first_agree second_agree tags = absurd (omega (arith, ap length same, tags, one_numbered))
