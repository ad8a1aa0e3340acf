-- Passes that skip to the greatest of their clocks.
use Rattle.std.proofs.Common.{◌≡◌, ℕ, zero, suc, ◌≤◌, ltb, true, List, [], ◌∷◌, get_or, length, map, refl, sym, ap, ◌∙◌, subst, arith}
use lib.ListN.{set}
use Rattle.std.specs.Prelude.{max}
use Rattle.std.proofs.Math.Nat.{le-max_left, le-max_right, max-eq_left, max-le}
use Rattle.std.proofs.lemmas.Bool.Decides.{nat_tests}
use Rattle.std.proofs.lemmas.Option.{same_Some}
use Rattle.atomic_table.specs.Seated.{TableId}
use Rattle.k42_places.specs.Places.{EachPlace}
use Rattle.k42_places.proofs.EachPlaces.{EachPlace-map}
use Rattle.k42_board.specs.Seen.{PassSeen}
use Rattle.k42_board.specs.Skipping.{greatest_clock}
use Rattle.k42_rule.specs.Finishing.{views_of}
use Rattle.k42_rule.specs.Sections.{skipped, skipped_on}

-- the greater of two is the second
later : (clock stamp : ℕ) → clock ≤ stamp → max clock stamp ≡ stamp
later clock stamp low = grind (arith, nat_tests, low)

-- of a pass and of others
pub greatest_on : (clock others told : ℕ) → max others (max clock told) ≡ max (max clock others) told
greatest_on clock others told = grind (arith, nat_tests)

module _ {A : Type 0} (P : A → Type 0) (xs : List A) (x : A) (rest : List A) (is : xs ≡ x ∷ rest) (each : EachPlace (λ place y. P y) xs) where
  pub each_first : P x
  each_first = subst (EachPlace (λ place y. P y)) is each 0 x refl

  pub each_other : EachPlace (λ place y. P y) rest
  each_other place y at = subst (EachPlace (λ place y. P y)) is each (suc place) y at

pub each_both : {A : Type 0} (P : A → Type 0) (xs : List A) (x : A) (rest : List A) → xs ≡ x ∷ rest → P x → EachPlace (λ place y. P y) rest → EachPlace (λ place y. P y) xs
each_both {A} P xs x rest is first others = subst (EachPlace (λ place y. P y)) (sym is) both where
  both : EachPlace (λ place y. P y) (x ∷ rest)
  both zero y at = subst P (same_Some x y at) first
  both (suc place) y at = others place y at

-- the first of a list that has one
pub at_first : {A : Type 0} (xs : List A) (x : A) → true ≡ ltb 0 (length xs) → x ≡ get_or xs 0 x → (rest : List A) × (xs ≡ x ∷ rest)
at_first [] x some is = absurd (cc)
at_first (y ∷ rest) x some is = (rest, ap (λ z. z ∷ rest) (sym is))

-- which is put back as it was
pub first_put : {A : Type 0} (xs : List A) (x put : A) → true ≡ ltb 0 (length xs) → x ≡ get_or xs 0 x → put ≡ x → set xs 0 put ≡ xs
first_put [] x put some is same = absurd (cc)
first_put (y ∷ rest) x put some is same = ap (λ z. z ∷ rest) (same ∙ is)

module _ {P : Type 0} where
  -- told again, now of the greatest clock, each pass has that
  skipped_again : {O R : Type 0} (stamp greatest : ℕ) (passes : List (PassSeen P O R)) → stamp ≤ greatest → greatest_clock (views_of passes) ≤ greatest
      → skipped_on greatest (skipped_on stamp passes) ≡ map (skipped greatest) passes
  skipped_again stamp greatest [] low most = refl
  skipped_again stamp greatest (pass ∷ passes) low most =
      λ i. record pass { view = record pass.view { taker = record pass.view.taker { clock = clock_is i } } }
      ∷ (ap (λ n. skipped_on n (skipped_on own passes)) (later own greatest own_low) ∙ skipped_again own greatest passes own_low rest_low) i where
        own : ℕ
        own = max pass.view.taker.clock stamp

        clock_low : pass.view.taker.clock ≤ greatest
        clock_low = let first = le-max_left pass.view.taker.clock (greatest_clock (views_of passes)) in omega (arith, first, most)

        rest_low : greatest_clock (views_of passes) ≤ greatest
        rest_low = let rest = le-max_right pass.view.taker.clock (greatest_clock (views_of passes)) in omega (arith, rest, most)

        own_low : own ≤ greatest
        own_low = max-le clock_low low

        clock_is : max own greatest ≡ max pass.view.taker.clock greatest
        clock_is = later own greatest own_low ∙ sym (later pass.view.taker.clock greatest clock_low)

  -- of the lists that the calls leave, one after the other
  pub raised_twice : {O R : Type 0} (passes told once twice : List (PassSeen P O R)) (clock stamp : ℕ) → told ≡ passes → clock ≤ greatest_clock (views_of passes) → once ≡ skipped_on clock told
      → stamp ≡ max (greatest_clock (views_of told)) clock → twice ≡ skipped_on stamp once → twice ≡ map (skipped (greatest_clock (views_of passes))) passes
  raised_twice {O} {R} passes told once twice clock stamp same low once_is stamp_is twice_is =
      let greatest = greatest_clock (views_of passes) in
      twice_is ∙ ap (skipped_on stamp) (once_is ∙ ap (skipped_on clock) same)
      ∙ ap (λ n. skipped_on n (skipped_on clock passes)) (stamp_is ∙ ap (λ (all : List (PassSeen P O R)). max (greatest_clock (views_of all)) clock) same ∙ max-eq_left low)
      ∙ skipped_again clock greatest passes low (omega arith)

  -- the first clock is not above the greatest
  pub first_low : {O R : Type 0} (passes rest : List (PassSeen P O R)) (first : PassSeen P O R) (clock : ℕ) → passes ≡ first ∷ rest → clock ≡ first.view.taker.clock → clock ≤ greatest_clock (views_of passes)
  first_low {O} {R} passes rest first clock is same =
      subst (λ (all : List (PassSeen P O R)). clock ≤ greatest_clock (views_of all)) (sym is)
      (let low = le-max_left first.view.taker.clock (greatest_clock (views_of rest)) in omega (arith, low, same))

  -- each is of the same table as before
  pub skipped_ours : {O R : Type 0} (table : TableId) (stamp : ℕ) (passes : List (PassSeen P O R)) → EachPlace (λ c (pass : PassSeen P O R). pass.table ≡ table) passes
      → EachPlace (λ c (pass : PassSeen P O R). pass.table ≡ table) (skipped_on stamp passes)
  skipped_ours table stamp [] ours c other at = ours c other at
  skipped_ours {O} {R} table stamp (pass ∷ passes) ours zero other at = ap (λ (x : PassSeen P O R). x.table) (sym (same_Some (skipped stamp pass) other at)) ∙ ours 0 pass refl
  skipped_ours table stamp (pass ∷ passes) ours (suc c) other at =
      skipped_ours table (max pass.view.taker.clock stamp) passes (λ d x e. ours (suc d) x e) c other at

  -- no clock is above the greatest
  pub clocks_low : {O R : Type 0} (passes : List (PassSeen P O R)) → EachPlace (λ c pass. pass.view.taker.clock ≤ greatest_clock (views_of passes)) passes
  clocks_low [] c pass at = absurd (cc)
  clocks_low {O} {R} (first ∷ passes) zero pass at =
      let is = ap (λ (x : PassSeen P O R). x.view.taker.clock) (same_Some first pass at) in
      let low = le-max_left first.view.taker.clock (greatest_clock (views_of passes)) in omega (arith, is, low)
  clocks_low (first ∷ passes) (suc c) pass at =
      let low = clocks_low passes c pass at in
      let rest = le-max_right first.view.taker.clock (greatest_clock (views_of passes)) in omega (arith, low, rest)

  pub all_even : {O R : Type 0} (passes : List (PassSeen P O R))
      → EachPlace (λ c pass. pass.view.taker.clock ≡ greatest_clock (views_of passes)) (map (skipped (greatest_clock (views_of passes))) passes)
  all_even {O} {R} passes =
      let greatest = greatest_clock (views_of passes) in
      EachPlace-map (λ c (pass : PassSeen P O R). pass.view.taker.clock ≡ greatest) (skipped greatest) passes
      (λ c pass at. later pass.view.taker.clock greatest (clocks_low passes c pass at))
