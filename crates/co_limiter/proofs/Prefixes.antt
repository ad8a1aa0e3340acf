-- Prefixes and their routes.
use Rattle.std.proofs.Common.{◌≡◌, ℕ, ◌<◌, ◌≤◌, ◌==◌, Bool, true, false, ◌&&◌, not, nat_lt, cond, if◌then◌else◌, List, [], ◌∷◌, Option, Some, None, option_map, refl, sym, ap, subst, ◌∙◌, arith}
use Rattle.std.specs.Prelude.{filter, fold}
use Rattle.std.specs.List.{AllByRecursion, find}
use Rattle.std.proofs.lemmas.Bool.{and_parts, eqb-true, eq-eqb, ltb-true, ltb-false}
use Rattle.co_limiter.specs.declared.table.Route.{Route}
use Rattle.co_limiter.specs.declared.routing.RouteOp.{RouteOp}
use Rattle.co_limiter.specs.declared.routing.RouteOp.TheVariants.{Find, Add, Remove}
use Rattle.co_limiter.specs.Routes.{first_bits, hop_for, is_for, is_of, route_of, routes_after, same_prefix, with_route, without}
use Rattle.co_limiter.specs.Longest.{IsByLongest, hop_of}

and_same : (a b c : Bool) → (a ≡ true → b ≡ c) → (a && b) ≡ (a && c)
and_same true b c same = same refl
and_same false b c same = refl

-- what is known of two that are one prefix
bits_same : (p b q c : ℕ) → same_prefix p b q c ≡ true → b ≡ c
bits_same p b q c same = eqb-true b c (and_parts (b == c) (first_bits c p == first_bits c q) same).0

first_same : (p b q c : ℕ) → same_prefix p b q c ≡ true → first_bits c p ≡ first_bits c q
first_same p b q c same = eqb-true (first_bits c p) (first_bits c q) (and_parts (b == c) (first_bits c p == first_bits c q) same).1

-- one prefix is the same as a third where the other is
same_third : (p b q c r d : ℕ) → same_prefix p b q c ≡ true → same_prefix p b r d ≡ same_prefix q c r d
same_third p b q c r d same =
    ap (λ (n : ℕ). (n == d) && (first_bits d p == first_bits d r)) (bits_same p b q c same)
    ∙ and_same (c == d) (first_bits d p == first_bits d r) (first_bits d q == first_bits d r)
    (λ is. ap (λ (n : ℕ). n == first_bits d r) (subst (λ (n : ℕ). first_bits n p ≡ first_bits n q) (eqb-true c d is) (first_same p b q c same)))

both_same : (p b q c r d : ℕ) → same_prefix p b r d ≡ true → same_prefix q c r d ≡ true → same_prefix p b q c ≡ true
both_same p b q c r d one other =
    let bits = bits_same p b r d one ∙ sym (bits_same q c r d other) in
    let first : first_bits c p ≡ first_bits c q =
    subst (λ (n : ℕ). first_bits n p ≡ first_bits n q) (sym (bits_same q c r d other)) (first_same p b r d one ∙ sym (first_same q c r d other)) in
    λ i. eq-eqb b c bits i && eq-eqb (first_bits c p) (first_bits c q) first i

hop_by : (passes : Bool) (route : Route) (rest : Option Route) → option_map (λ (route : Route). route.hop) (cond passes (Some route) rest) ≡ cond passes (Some route.hop) (option_map (λ (route : Route). route.hop) rest)
hop_by true route rest = refl
hop_by false route rest = refl

hop_of-cons : (route : Route) (rest : List Route) (prefix bits : ℕ) → hop_of (route ∷ rest) prefix bits ≡ cond (is_of prefix bits route) (Some route.hop) (hop_of rest prefix bits)
hop_of-cons route rest prefix bits = hop_by (is_of prefix bits route) route (find (is_of prefix bits) rest)

hop_for-cons : (route : Route) (rest : List Route) (address : ℕ) → hop_for (route ∷ rest) address ≡ cond (is_for address route) (Some route.hop) (hop_for rest address)
hop_for-cons route rest address = hop_by (is_for address route) route (find (is_for address) rest)

-- two routes that are not of one prefix can be asked in either order
either_order : (one other : Bool) (first second : Option ℕ) (rest : Option ℕ) → (one ≡ true → other ≡ true → ⊥)
    → cond one first (cond other second rest) ≡ cond other second (cond one first rest)
either_order true true first second rest apart = absurd (apart refl refl)
either_order true false first second rest apart = refl
either_order false true first second rest apart = refl
either_order false false first second rest apart = refl

in_place : (one other : Bool) (first second rest : Option ℕ) → other ≡ one → cond one first rest ≡ cond one first (cond other second rest)
in_place true other first second rest same = refl
in_place false other first second rest same = sym (ap (λ (b : Bool). cond b second rest) same)

true_false : {b : Bool} → b ≡ true → b ≡ false → ⊥
true_false is not_so = cc (sym is ∙ not_so)

module _ (route : Route) (prefix bits : ℕ) where
  added_by : (same shorter : Bool) (first : Route) (rest : List Route)
      → is_of route.prefix route.bits first ≡ same
      → hop_of (with_route rest route) prefix bits ≡ cond (is_of prefix bits route) (Some route.hop) (hop_of rest prefix bits)
      → hop_of (if same then route ∷ rest else if shorter then route ∷ first ∷ rest else first ∷ with_route rest route) prefix bits
      ≡ cond (is_of prefix bits route) (Some route.hop) (hop_of (first ∷ rest) prefix bits)
  added_by true shorter first rest is others =
      hop_of-cons route rest prefix bits
      ∙ in_place (is_of prefix bits route) (is_of prefix bits first) (Some route.hop) (Some first.hop) (hop_of rest prefix bits)
      (same_third first.prefix first.bits route.prefix route.bits prefix bits is)
      ∙ ap (cond (is_of prefix bits route) (Some route.hop)) (sym (hop_of-cons first rest prefix bits))
  added_by false true first rest is others = hop_of-cons route (first ∷ rest) prefix bits
  added_by false false first rest is others =
      hop_of-cons first (with_route rest route) prefix bits
      ∙ ap (cond (is_of prefix bits first) (Some first.hop)) others
      ∙ either_order (is_of prefix bits first) (is_of prefix bits route) (Some first.hop) (Some route.hop) (hop_of rest prefix bits)
      (λ one other. true_false (both_same first.prefix first.bits route.prefix route.bits prefix bits one other) is)
      ∙ ap (cond (is_of prefix bits route) (Some route.hop)) (sym (hop_of-cons first rest prefix bits))

  pub added : (routes : List Route) → hop_of (with_route routes route) prefix bits ≡ cond (is_of prefix bits route) (Some route.hop) (hop_of routes prefix bits)
  added [] = hop_of-cons route [] prefix bits
  added (first ∷ rest) = added_by (is_of route.prefix route.bits first) (nat_lt first.bits route.bits) first rest refl (added rest)

module _ (gone_prefix gone_bits prefix bits : ℕ) where
  removed_by : (gone : Bool) (first : Route) (rest : List Route)
      → is_of gone_prefix gone_bits first ≡ gone
      → hop_of (without rest gone_prefix gone_bits) prefix bits ≡ cond (same_prefix gone_prefix gone_bits prefix bits) None (hop_of rest prefix bits)
      → hop_of (cond (not gone) (first ∷ without rest gone_prefix gone_bits) (without rest gone_prefix gone_bits)) prefix bits
      ≡ cond (same_prefix gone_prefix gone_bits prefix bits) None (hop_of (first ∷ rest) prefix bits)
  removed_by true first rest is others =
      others
      ∙ in_place (same_prefix gone_prefix gone_bits prefix bits) (is_of prefix bits first) None (Some first.hop) (hop_of rest prefix bits)
      (same_third first.prefix first.bits gone_prefix gone_bits prefix bits is)
      ∙ ap (cond (same_prefix gone_prefix gone_bits prefix bits) None) (sym (hop_of-cons first rest prefix bits))
  removed_by false first rest is others =
      hop_of-cons first (without rest gone_prefix gone_bits) prefix bits
      ∙ ap (cond (is_of prefix bits first) (Some first.hop)) others
      ∙ either_order (is_of prefix bits first) (same_prefix gone_prefix gone_bits prefix bits) (Some first.hop) None (hop_of rest prefix bits)
      (λ one other. true_false (both_same first.prefix first.bits gone_prefix gone_bits prefix bits one other) is)
      ∙ ap (cond (same_prefix gone_prefix gone_bits prefix bits) None) (sym (hop_of-cons first rest prefix bits))

  either_way : (b : Bool) (hop : Option ℕ) → hop ≡ cond b hop hop
  either_way true hop = refl
  either_way false hop = refl

  pub removed : (routes : List Route) → hop_of (without routes gone_prefix gone_bits) prefix bits ≡ cond (same_prefix gone_prefix gone_bits prefix bits) None (hop_of routes prefix bits)
  removed [] = either_way (same_prefix gone_prefix gone_bits prefix bits) None
  removed (first ∷ rest) = removed_by (is_of gone_prefix gone_bits first) first rest refl (removed rest)

abbrev AreAtMost : ℕ → List Route → Type 0
AreAtMost bits routes = AllByRecursion (λ (route : Route). route.bits ≤ bits) routes

-- no route stands before a longer one
abbrev pub IsLongestFirst : List Route → Type 0
IsLongestFirst [] = Unit {0}
IsLongestFirst (first ∷ rest) = AreAtMost first.bits rest × IsLongestFirst rest

fewer_still : (few many : ℕ) (routes : List Route) → few ≤ many → AreAtMost few routes → AreAtMost many routes
fewer_still few many [] more most = tt
fewer_still few many (first ∷ rest) more most = (omega (arith, more, most.0), fewer_still few many rest more most.1)

module _ (route : Route) where
  most_by : (bits : ℕ) (same shorter : Bool) (first : Route) (rest : List Route) → route.bits ≤ bits → AreAtMost bits (first ∷ rest) → AreAtMost bits (with_route rest route)
      → AreAtMost bits (if same then route ∷ rest else if shorter then route ∷ first ∷ rest else first ∷ with_route rest route)
  most_by bits true shorter first rest within most others = (within, most.1)
  most_by bits false true first rest within most others = (within, most)
  most_by bits false false first rest within most others = (most.0, others)

  most_with : (bits : ℕ) (routes : List Route) → route.bits ≤ bits → AreAtMost bits routes → AreAtMost bits (with_route routes route)
  most_with bits [] within most = (within, tt)
  most_with bits (first ∷ rest) within most =
      most_by bits (is_of route.prefix route.bits first) (nat_lt first.bits route.bits) first rest within most (most_with bits rest within most.1)

  ordered_by : (same shorter : Bool) (first : Route) (rest : List Route)
      → is_of route.prefix route.bits first ≡ same → nat_lt first.bits route.bits ≡ shorter
      → IsLongestFirst (first ∷ rest) → IsLongestFirst (with_route rest route)
      → IsLongestFirst (if same then route ∷ rest else if shorter then route ∷ first ∷ rest else first ∷ with_route rest route)
  ordered_by true shorter first rest is less ordered others =
      (subst (λ (bits : ℕ). AreAtMost bits rest) (bits_same first.prefix first.bits route.prefix route.bits is) ordered.0, ordered.1)
  ordered_by false true first rest is less ordered others =
      let fewer = ltb-true first.bits route.bits less in
      ((omega (arith, fewer), fewer_still first.bits route.bits rest (omega (arith, fewer)) ordered.0), ordered)
  ordered_by false false first rest is less ordered others =
      let more = ltb-false first.bits route.bits less in
      (most_with first.bits rest (omega (arith, more)) ordered.0, others)

  ordered_with : (routes : List Route) → IsLongestFirst routes → IsLongestFirst (with_route routes route)
  ordered_with [] ordered = (tt, tt)
  ordered_with (first ∷ rest) ordered =
      ordered_by (is_of route.prefix route.bits first) (nat_lt first.bits route.bits) first rest refl refl ordered (ordered_with rest ordered.1)

module _ (keeps : Route → Bool) where
  most_kept_by : (bits : ℕ) (kept : Bool) (first : Route) (rest : List Route) → first.bits ≤ bits → AreAtMost bits rest → AreAtMost bits (cond kept (first ∷ rest) rest)
  most_kept_by bits true first rest within most = (within, most)
  most_kept_by bits false first rest within most = most

  most_kept : (bits : ℕ) (routes : List Route) → AreAtMost bits routes → AreAtMost bits (filter keeps routes)
  most_kept bits [] most = tt
  most_kept bits (first ∷ rest) most = most_kept_by bits (keeps first) first (filter keeps rest) most.0 (most_kept bits rest most.1)

  ordered_kept_by : (kept : Bool) (first : Route) (rest : List Route) → AreAtMost first.bits rest → IsLongestFirst rest → IsLongestFirst (cond kept (first ∷ rest) rest)
  ordered_kept_by true first rest most ordered = (most, ordered)
  ordered_kept_by false first rest most ordered = ordered

  ordered_kept : (routes : List Route) → IsLongestFirst routes → IsLongestFirst (filter keeps routes)
  ordered_kept [] ordered = tt
  ordered_kept (first ∷ rest) ordered = ordered_kept_by (keeps first) first (filter keeps rest) (most_kept first.bits rest ordered.0) (ordered_kept rest ordered.1)

ordered_step : (routes : List Route) (op : RouteOp) → IsLongestFirst routes → IsLongestFirst (routes_after routes op)
ordered_step routes (Find address) ordered = ordered
ordered_step routes (Add prefix bits hop) ordered = ordered_with (route_of prefix bits hop) routes ordered
ordered_step routes (Remove prefix bits) ordered = ordered_kept (λ route. not (is_of prefix bits route)) routes ordered

pub ordered_always : (ops : List RouteOp) (routes : List Route) → IsLongestFirst routes → IsLongestFirst (fold routes_after routes ops)
ordered_always [] routes ordered = ordered
ordered_always (op ∷ ops) routes ordered = ordered_always ops (routes_after routes op) (ordered_step routes op ordered)

-- a route of fewer bits is not that of a longer prefix
not_longer : (route : Route) (prefix bits : ℕ) → route.bits < bits → is_of prefix bits route ≡ false
not_longer route prefix bits fewer =
    elim (is_of prefix bits route) as (λ b. is_of prefix bits route ≡ b → is_of prefix bits route ≡ false) [
      | true ↦ λ is. absurd (let same = bits_same route.prefix route.bits prefix bits is in omega (arith, same, fewer))
      | false ↦ λ is. is
    ] refl

none_longer : (routes : List Route) (most prefix bits : ℕ) → most < bits → AreAtMost most routes → hop_of routes prefix bits ≡ None
none_longer [] most prefix bits more within = refl
none_longer (first ∷ rest) most prefix bits more within =
    hop_of-cons first rest prefix bits
    ∙ ap (λ (b : Bool). cond b (Some first.hop) (hop_of rest prefix bits)) (not_longer first prefix bits (omega (arith, within.0, more)))
    ∙ none_longer rest most prefix bits more within.1

-- a route that is for the address is that of a prefix of it
own_prefix : (route : Route) (address : ℕ) → is_for address route ≡ true → is_of address route.bits route ≡ true
own_prefix route address for = λ i. eq-eqb route.bits route.bits refl i && for i

-- and one that is not is that of none
no_prefix : (route : Route) (address bits : ℕ) → is_for address route ≡ false → is_of address bits route ≡ false
no_prefix route address bits other =
    elim (is_of address bits route) as (λ b. is_of address bits route ≡ b → is_of address bits route ≡ false) [
      | true ↦ λ is. absurd (
          true_false (subst (λ (n : ℕ). (first_bits n route.prefix == first_bits n address) ≡ true) (sym (bits_same route.prefix route.bits address bits is))
          (eq-eqb (first_bits bits route.prefix) (first_bits bits address) (first_same route.prefix route.bits address bits is))) other)
      | false ↦ λ is. is
    ] refl

past_other : (routes others : List Route) (address : ℕ) (hop : Option ℕ) → ((bits : ℕ) → hop_of routes address bits ≡ hop_of others address bits)
    → IsByLongest others address hop → IsByLongest routes address hop
past_other routes others address (Some hop) same found = record {
  bits = found.bits;
  there = same found.bits ∙ found.there;
  longest = λ more longer. same more ∙ found.longest more longer;
}
past_other routes others address None same found = λ bits. same bits ∙ found bits

longest_by : (for : Bool) (first : Route) (rest : List Route) (address : ℕ) → is_for address first ≡ for → IsLongestFirst (first ∷ rest)
    → IsByLongest rest address (hop_for rest address) → IsByLongest (first ∷ rest) address (cond for (Some first.hop) (hop_for rest address))
longest_by true first rest address is ordered found = record {
  bits = first.bits;
  there =
      hop_of-cons first rest address first.bits
      ∙ ap (λ (b : Bool). cond b (Some first.hop) (hop_of rest address first.bits)) (own_prefix first address is);
  longest = λ more longer. none_longer (first ∷ rest) first.bits address more longer (omega arith, ordered.0);
}
longest_by false first rest address is ordered found =
    past_other (first ∷ rest) rest address (hop_for rest address)
    (λ bits. hop_of-cons first rest address bits ∙ ap (λ (b : Bool). cond b (Some first.hop) (hop_of rest address bits)) (no_prefix first address bits is))
    found

pub by_longest : (routes : List Route) (address : ℕ) → IsLongestFirst routes → IsByLongest routes address (hop_for routes address)
by_longest [] address ordered = λ bits. refl
by_longest (first ∷ rest) address ordered =
    subst (IsByLongest (first ∷ rest) address) (sym (hop_for-cons first rest address))
    (longest_by (is_for address first) first rest address refl ordered (by_longest rest address ordered.1))
