-- Layouts with a dead one behind them keep the laws of layouts.
use Rattle.std.specs.Prelude.{◌≡◌, ℕ, ◌<◌, Bool, true, false, IsTrue, nat_le, List, [], ◌∷◌, length, refl}
use Rattle.std.proofs.Common.{ap, sym, subst, ◌∙◌, arith}
use Rattle.std.proofs.lemmas.Bool.Decides.{nat_tests}
use Rattle.std.proofs.lemmas.List.{get_or_past}
use Rattle.k42_shapes.specs.declared.shape.Shape.{Shape}
use Rattle.k42_shapes.specs.declared.shape.Shape.TheVariants as shapes
use Rattle.k42_shapes.specs.Shapes.{IsKnownTag, IsLiveTag, cells_of, is_dead_tag, shape_at}
use Rattle.k42_kinds.specs.declared.entry.Reach.TheVariants.{One, All}
use Rattle.k42_kinds.specs.declared.entry.To.{To}
use Rattle.k42_kinds.specs.Histories.{is_call}
use Rattle.k42_kinds.specs.OneThread.{OneThread}
use Rattle.k42_kinds.specs.Rows.{Ways, IsWithin, empty_row}
use Rattle.k42_kinds.specs.LayoutLaws.{StepsRow, StandsFor, Begins, Imports, AdmitsAsSwapped, Agree}
use Rattle.k42_choice.specs.Living.{IsRowOfNew}
use Rattle.k42_choice.specs.Lifting.{own_parts}
use Rattle.k42_choice.specs.LiftedLaws.{Follows, lifted_steps, lifted_stands, lifted_begins, lifted_imports, lifted_agree}
use Rattle.k42_choice.specs.Mortals.{is_dead, mortal_object, alive_parts, alive_states, dead_ways, mortal_ways, MortalRow, ServesMortal, admitted_mortal, mortal_tag, mortal_act}
use Rattle.k42_choice.specs.declared.mortal.MortalPart.{MortalPart}
use Rattle.k42_choice.specs.declared.mortal.MortalPart.TheVariants as parts
use Rattle.k42_choice.specs.declared.mortal.MortalState.{MortalState}
use Rattle.k42_choice.specs.declared.mortal.MortalState.TheVariants.{Alive, Dead}

-- behind the last of the shapes there is one cell
pub past_shapes : (all : List Shape) → shape_at all (length all) ≡ shapes.One
past_shapes all = get_or_past all (length all) shapes.One (omega arith)

pub dead_at_length : (all : List Shape) → is_dead_tag all (length all) ≡ true
dead_at_length all = grind (arith, nat_tests)

pub not_dead_below : (all : List Shape) (tag : ℕ) → IsLiveTag all tag → is_dead_tag all tag ≡ false
not_dead_below all tag live = grind (arith, nat_tests, live)

-- no number is missing
pub has_all_tags : (all : List Shape) (tag : ℕ) → IsKnownTag all tag → IsTrue (nat_le tag (length all))
has_all_tags all tag known = grind (arith, nat_tests, known)

pub known_tag : (dead : Bool) (all : List Shape) (tag : ℕ) → IsLiveTag all tag → IsKnownTag all (mortal_tag dead all tag)
known_tag true all tag numbered = omega arith
known_tag false all tag numbered = omega (arith, numbered)

mortal_follows : {S O R : Type 0} (gone : R) (object : OneThread S O R) → Follows Alive (mortal_object gone object) object
mortal_follows gone object = record { start = refl; after = λ state op. refl; reply = λ state op. refl }

-- what the object alive tells of itself; where it has none, its state is this
abbrev living_or : {S : Type 0} → S → MortalState S → S
living_or none (Alive state) = state
living_or none Dead = none

abbrev bare_object : {S O R : Type 0} → S → OneThread (MortalState S) O R → OneThread S O R
bare_object none mortal = record {
  start = living_or none mortal.start;
  takes = mortal.takes;
  after = λ state op. living_or none (mortal.after (Alive state) op);
  reply = λ state op. mortal.reply (Alive state) op;
  swapped = λ state to. state;
  is_ended = λ state. false;
}

module _ {S O R : Type 0} (none : S) (gone : R) (object : OneThread S O R) (endless : (state : S) → object.is_ended state ≡ false) (stays : (state : S) (to : To)
    → object.swapped state to ≡ state) where
  bare_back : bare_object none (mortal_object gone object) ≡ object
  bare_back = λ i. record {
    start = object.start;
    takes = object.takes;
    after = object.after;
    reply = object.reply;
    swapped = λ state to. (sym (stays state to)) i;
    is_ended = λ state. (sym (endless state)) i;
  }

-- objects are one where the mortal ones are
pub same_alive : {S O R : Type 0} (gone : R) (one other : OneThread S O R) → ((state : S) → one.is_ended state ≡ false) → ((state : S) (to : To) → one.swapped state to ≡ state)
    → ((state : S) → other.is_ended state ≡ false) → ((state : S) (to : To) → other.swapped state to ≡ state)
    → mortal_object gone one ≡ mortal_object gone other → one ≡ other
same_alive gone one other endless stays other_endless other_stays same =
    sym (bare_back one.start gone one endless stays) ∙ (ap (bare_object one.start) same ∙ bare_back one.start gone other other_endless other_stays)

module _ {S P O R : Type 0} (gone : R) (object : OneThread S O R) (ways : Ways S P O R) (Whole : ℕ → List P → Type 0) where
  dead_steps : (procs : ℕ) (row : List (MortalPart P)) (op : O) → row ≡ parts.Dead ∷ [] → StepsRow (mortal_object gone object) (dead_ways gone) (MortalRow true Whole procs) row op (One 0)
  dead_steps procs [] op whole = absurd (cc whole)
  dead_steps procs (part ∷ []) op whole = record { whole = whole; moved = refl; replied = refl }
  dead_steps procs (part ∷ other ∷ row) op whole = absurd (cc whole)

  pub mortal_steps : (dead : Bool) (procs proc : ℕ) (row : List (MortalPart P)) (op : O) → MortalRow dead Whole procs row
      → (Whole procs (own_parts alive_parts row) → StepsRow object ways (Whole procs) (own_parts alive_parts row) op (ways.reach procs op proc))
      → StepsRow (mortal_object gone object) (mortal_ways dead gone ways) (MortalRow dead Whole procs) row op ((mortal_ways dead gone ways).reach procs op proc)
  mortal_steps true procs proc row op whole steps = dead_steps procs row op whole
  mortal_steps false procs proc row op whole steps =
      lifted_steps alive_parts (λ part. refl) alive_states gone ways Whole (mortal_object gone object) object (mortal_follows gone object) procs row op (ways.reach procs op proc) whole
      (steps whole.whole)

  pub mortal_steps_all : (dead : Bool) (procs : ℕ) (row : List (MortalPart P)) (op : O) → MortalRow dead Whole procs row
      → (Whole procs (own_parts alive_parts row) → StepsRow object ways (Whole procs) (own_parts alive_parts row) op All)
      → StepsRow (mortal_object gone object) (mortal_ways dead gone ways) (MortalRow dead Whole procs) row op All
  mortal_steps_all true procs row op whole steps = record { whole = whole; moved = refl; replied = refl }
  mortal_steps_all false procs row op whole steps =
      lifted_steps alive_parts (λ part. refl) alive_states gone ways Whole (mortal_object gone object) object (mortal_follows gone object) procs row op All whole (steps whole.whole)

  module _ (all : List Shape) (tag : ℕ) where
    pub mortal_reaches : (dead : Bool) (procs proc : ℕ) (op : O) → IsWithin (cells_of (shape_at all tag) procs) (ways.reach procs op proc)
        → IsWithin (cells_of (shape_at all (mortal_tag dead all tag)) procs) ((mortal_ways dead gone ways).reach procs op proc)
    mortal_reaches true procs proc op within = subst (λ (shape : Shape). 0 < cells_of shape procs) (sym (past_shapes all)) (omega arith)
    mortal_reaches false procs proc op within = within

    pub mortal_stands : (Serves : S → Type 0) (dead : Bool) (procs : ℕ) (row : List (MortalPart P)) → MortalRow dead Whole procs row
        → (Whole procs (own_parts alive_parts row) → StandsFor ways Serves (shape_at all tag) procs (own_parts alive_parts row))
        → StandsFor (mortal_ways dead gone ways) (ServesMortal dead Serves) (shape_at all (mortal_tag dead all tag)) procs row
    mortal_stands Serves true procs row whole stands = record {
      sized = ap length whole ∙ sym (ap (λ (shape : Shape). cells_of shape procs) (past_shapes all));
      served = tt;
    }
    mortal_stands Serves false procs row whole stands =
        lifted_stands alive_parts (λ part. refl) alive_states gone ways Whole Serves (ServesMortal false Serves) (shape_at all tag) procs row (λ state served. served) whole (stands whole.whole)

    pub mortal_begins : (dead : Bool) (procs : ℕ) → IsRowOfNew object ways (Whole procs) (shape_at all tag) procs
        → Begins (mortal_object gone object) (mortal_ways dead gone ways) (MortalRow dead Whole procs) all (mortal_tag dead all tag) procs
    mortal_begins true procs begins = record {
      whole = ap (λ (shape : Shape). empty_row (mortal_ways true gone ways) shape procs) (past_shapes all);
      empty = λ live. absurd (omega (arith, live));
    }
    mortal_begins false procs begins =
        let lifted = lifted_begins alive_parts (λ part. refl) alive_states gone ways Whole (mortal_object gone object) object (mortal_follows gone object) (shape_at all tag) procs begins in
        record { whole = lifted.whole; empty = λ live. lifted.empty }

    pub mortal_ends : (Serves : S → Type 0) (dead : Bool) (state : MortalState S) → IsLiveTag all tag → ServesMortal dead Serves state → is_dead state ≡ is_dead_tag all (mortal_tag dead all tag)
    mortal_ends Serves true (Alive state) numbered served = absurd served
    mortal_ends Serves true Dead numbered served = sym (dead_at_length all)
    mortal_ends Serves false (Alive state) numbered served = sym (not_dead_below all tag numbered)
    mortal_ends Serves false Dead numbered served = absurd served

    pub mortal_admits : (Serves Served : S → Type 0) (dead was_dead : Bool) (state : MortalState S) → IsLiveTag all (mortal_tag was_dead all tag) → ((state : S) → Served state → Serves state)
        → ServesMortal was_dead Served state → ServesMortal dead Serves (admitted_mortal dead state)
    mortal_admits Serves Served true was_dead state live keeps served = tt
    mortal_admits Serves Served false true state live keeps served = absurd (omega (arith, live))
    mortal_admits Serves Served false false (Alive state) live keeps served = keeps state served
    mortal_admits Serves Served false false Dead live keeps served = absurd served

  pub mortal_imports : (Serves : S → Type 0) (dead : Bool) (procs : ℕ) (state : MortalState S) → ServesMortal dead Serves state
      → ((state : S) → Serves state → Imports ways (Whole procs) procs state)
      → Imports (mortal_ways dead gone ways) (MortalRow dead Whole procs) procs state
  mortal_imports Serves true procs (Alive state) served imports = absurd served
  mortal_imports Serves true procs Dead served imports = record { whole = refl; back = refl }
  mortal_imports Serves false procs (Alive state) served imports =
      lifted_imports alive_parts (λ part. refl) alive_states gone ways Whole procs state refl (imports state served)
  mortal_imports Serves false procs Dead served imports = absurd served

  pub mortal_swaps : (dead : Bool) (tag : ℕ) (state : MortalState S) → AdmitsAsSwapped (mortal_object gone object) (mortal_act dead tag) state (admitted_mortal dead state)
  mortal_swaps true tag state number = refl
  mortal_swaps false tag state number = refl

pub mortal_asks : (O : Type 0) (dead : Bool) (tag : ℕ) → is_call (mortal_act {O = O} dead tag) ≡ false
mortal_asks O true tag = refl
mortal_asks O false tag = refl

still_dead : {S : Type 0} (Serves OtherServes : S → Type 0) (state : MortalState S) → ServesMortal true Serves state → ServesMortal true OtherServes state
still_dead Serves OtherServes (Alive state) served = absurd served
still_dead Serves OtherServes Dead served = tt

still_alive : {S : Type 0} (Serves OtherServes : S → Type 0) → ((state : S) → Serves state → OtherServes state) → (state : MortalState S) → ServesMortal false Serves state
    → ServesMortal false OtherServes state
still_alive Serves OtherServes keeps (Alive state) served = keeps state served
still_alive Serves OtherServes keeps Dead served = absurd served

pub mortal_agree : {S P O R : Type 0} (gone : R) (these those : Ways S P O R) (Whole Other : ℕ → List P → Type 0) (Serves OtherServes : S → Type 0)
    (dead other_dead : Bool) (all other_all : List Shape) (tag other_tag : ℕ) → IsLiveTag all tag → IsLiveTag other_all other_tag → all ≡ other_all
    → (tag ≡ other_tag → Agree these those Whole Other Serves OtherServes) → mortal_tag dead all tag ≡ mortal_tag other_dead other_all other_tag
    → Agree (mortal_ways dead gone these) (mortal_ways other_dead gone those) (MortalRow dead Whole) (MortalRow other_dead Other) (ServesMortal dead Serves) (ServesMortal other_dead OtherServes)
mortal_agree gone these those Whole Other Serves OtherServes true true all other_all tag other_tag numbered other_numbered same agree tags =
    record { ways = refl; whole = λ procs row whole. whole; served = still_dead Serves OtherServes }
mortal_agree gone these those Whole Other Serves OtherServes true false all other_all tag other_tag numbered other_numbered same agree tags =
    absurd (omega (arith, ap length same, tags, other_numbered))
mortal_agree gone these those Whole Other Serves OtherServes false true all other_all tag other_tag numbered other_numbered same agree tags =
    absurd (omega (arith, ap length same, tags, numbered))
mortal_agree gone these those Whole Other Serves OtherServes false false all other_all tag other_tag numbered other_numbered same agree tags =
    let is = agree tags in
    lifted_agree alive_parts alive_states gone these those Whole Other (ServesMortal false Serves) (ServesMortal false OtherServes) is.ways is.whole (still_alive Serves OtherServes is.served)
