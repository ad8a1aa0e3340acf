-- Where a route is put into a table.
use Rattle.std.proofs.Common.{◌≡◌, ℕ, suc, ◌+◌, ◌<◌, Bool, true, false, ◌||◌, not, nat_lt, cond, if◌then◌else◌, List, [], ◌∷◌, length, get_or, refl, sym, ap, subst, ◌∙◌, arith}
use Rattle.std.specs.List.{insert}
use Rattle.std.proofs.Math.ListN.{set}
use Rattle.co_limiter.specs.declared.table.Route.{Route}
use Rattle.co_limiter.specs.Routes.{is_of, place_of, with_route}

module _ (route : Route) where
  -- past a route that does not yield
  placed_by : (rest : List Route) (first : Route) (same shorter : Bool) → is_of route.prefix route.bits first ≡ same → nat_lt first.bits route.bits ≡ shorter
      → place_of (first ∷ rest) route ≡ cond (not (same || shorter)) (suc (place_of rest route)) 0
  placed_by rest first same shorter is less =
      (λ i. cond (not (is i || less i)) (1 + place_of rest route) 0)
      ∙ ap (λ (n : ℕ). cond (not (same || shorter)) n 0) (omega arith)

  replaced_by : (same shorter : Bool) (first : Route) (rest : List Route) (default : Route)
      → is_of route.prefix route.bits first ≡ same
      → cond (not (same || shorter)) (suc (place_of rest route)) 0 < length (first ∷ rest)
      → is_of route.prefix route.bits (get_or (first ∷ rest) (cond (not (same || shorter)) (suc (place_of rest route)) 0) default) ≡ true
      → (place_of rest route < length rest → is_of route.prefix route.bits (get_or rest (place_of rest route) default) ≡ true → set rest (place_of rest route) route ≡ with_route rest route)
      → set (first ∷ rest) (cond (not (same || shorter)) (suc (place_of rest route)) 0) route
      ≡ (if same then route ∷ rest else if shorter then route ∷ first ∷ rest else first ∷ with_route rest route)
  replaced_by true shorter first rest default is within there others = refl
  replaced_by false true first rest default is within there others = absurd (cc (sym is ∙ there))
  replaced_by false false first rest default is within there others = ap (λ (routes : List Route). first ∷ routes) (others (omega (arith, within)) there)

  pub replaced : (routes : List Route) (default : Route) → place_of routes route < length routes
      → is_of route.prefix route.bits (get_or routes (place_of routes route) default) ≡ true → set routes (place_of routes route) route ≡ with_route routes route
  replaced [] default within there = absurd (omega arith)
  replaced (first ∷ rest) default within there =
      let same = is_of route.prefix route.bits first in
      let shorter = nat_lt first.bits route.bits in
      let place = placed_by rest first same shorter refl refl in
      ap (λ (n : ℕ). set (first ∷ rest) n route) place
      ∙ replaced_by same shorter first rest default refl (subst (λ (n : ℕ). n < length (first ∷ rest)) place within)
      (subst (λ (n : ℕ). is_of route.prefix route.bits (get_or (first ∷ rest) n default) ≡ true) place there)
      (replaced rest default)

  inserted_by : (same shorter : Bool) (first : Route) (rest : List Route) (default : Route)
      → is_of route.prefix route.bits first ≡ same
      → (cond (not (same || shorter)) (suc (place_of rest route)) 0 < length (first ∷ rest)
      → is_of route.prefix route.bits (get_or (first ∷ rest) (cond (not (same || shorter)) (suc (place_of rest route)) 0) default) ≡ false)
      → ((place_of rest route < length rest → is_of route.prefix route.bits (get_or rest (place_of rest route) default) ≡ false) → insert rest (place_of rest route) route ≡ with_route rest route)
      → insert (first ∷ rest) (cond (not (same || shorter)) (suc (place_of rest route)) 0) route
      ≡ (if same then route ∷ rest else if shorter then route ∷ first ∷ rest else first ∷ with_route rest route)
  inserted_by true shorter first rest default is other others = absurd (cc (sym is ∙ other (omega arith)))
  inserted_by false true first rest default is other others = refl
  inserted_by false false first rest default is other others = ap (λ (routes : List Route). first ∷ routes) (others (λ within. other (omega (arith, within))))

  pub inserted : (routes : List Route) (default : Route)
      → (place_of routes route < length routes → is_of route.prefix route.bits (get_or routes (place_of routes route) default) ≡ false)
      → insert routes (place_of routes route) route ≡ with_route routes route
  inserted [] default other = refl
  inserted (first ∷ rest) default other =
      let same = is_of route.prefix route.bits first in
      let shorter = nat_lt first.bits route.bits in
      let place = placed_by rest first same shorter refl refl in
      ap (λ (n : ℕ). insert (first ∷ rest) n route) place
      ∙ inserted_by same shorter first rest default refl
      (subst (λ (n : ℕ). n < length (first ∷ rest) → is_of route.prefix route.bits (get_or (first ∷ rest) n default) ≡ false) place other)
      (inserted rest default)
