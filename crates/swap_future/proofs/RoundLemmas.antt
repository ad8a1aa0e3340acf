-- Rounds of turns, and the polls that they make.
use Rattle.std.proofs.Common.{◌≡◌, ◌≢◌, ⊎_elim, inl, inr, ◌⊎◌, ℕ, zero, suc, ◌+◌, ◌<◌, ◌≤◌, List, [], ◌∷◌, ◌++◌, Option, Some, None, Result, length, IsSomeAnd, refl, sym, ap, subst, ◌∙◌, arith}
use Rattle.std.specs.Prelude.{slice_get}
use Rattle.std.proofs.lemmas.Bool.{cases_lt}
use Rattle.std.proofs.lemmas.List.{append-nil}
use Rattle.std.proofs.lemmas.Option.{same_Some, slice_get_within}
use Rattle.k42_kinds.specs.declared.entry.To.{To}
use Rattle.k42_places.specs.Places.{EachPlace}
use Rattle.co_system.specs.Systems.{SystemSeen, SystemPass}
use Rattle.k42_runtime.specs.declared.swaps.NoSwap.{NoSwap}
use Rattle.k42_runtime.specs.declared.swaps.Swapped.{Swapped}
use Rattle.swap_future.specs.Polling.{new_swap}
use Rattle.swap_future.specs.Rolling.{RollSeen, Agrees, HasGotOn, IsRolling, items_of}
use Rattle.swap_future.specs.Rounds.{HasEndedNone, HasGoneRound, HasHadTurn, HasMadeStep, HasTurned, IsRising}
use Rattle.swap_future.specs.declared.rolling.Flight.{Flight}
use Rattle.swap_future.proofs.Places.{each_append, items_of-append, no_item_of_others, no_items_below, one_counted, rising_next, there}
use Rattle.swap_future.proofs.Rolls.{agrees_before, stays, stays_takers, then, then_takers}

-- the passes in front of this place have had their turns
pub record IsRoundTo (system : SystemSeen) (place : ℕ) (a b : RollSeen) : Type 0 where
  pub rolls : IsRolling system b
  pub got_on : HasGotOn system a b
  pub fewer : b.left ≤ a.left
  pub behind : (other : ℕ) → place ≤ other
      → (slice_get b.flights other ≡ slice_get a.flights other) × (slice_get b.passes other ≡ slice_get a.passes other)
  pub below : EachPlace (λ i taker. taker < place) got_on.takers
  pub in_order : IsRising got_on.takers
  pub turns : (answers : List (Result Swapped NoSwap)) → Agrees b answers → (other : ℕ) → other < place → (f : Option Flight) (old : SystemPass)
      (g : Option Flight) (new : SystemPass) → slice_get a.flights other ≡ Some f → slice_get a.passes other ≡ Some old
      → slice_get b.flights other ≡ Some g → slice_get b.passes other ≡ Some new
      → HasHadTurn system b answers (items_of other a.taken got_on.takers) f old g new
  pub idle : b.left ≡ a.left → (other : ℕ) → other < place → slice_get b.flights other ≡ Some None → b.taken ≡ length b.plan

pub no_turn : (system : SystemSeen) (a : RollSeen) → IsRolling system a → IsRoundTo system 0 a a
no_turn system a is = record {
  rolls = is;
  got_on = stays system a;
  fewer = omega arith;
  behind = λ other less. (refl, refl);
  below = subst (λ ts. EachPlace (λ i taker. taker < 0) ts) (sym (stays_takers system a)) (λ i taker at. absurd (cc));
  in_order = subst (λ ts. IsRising ts) (sym (stays_takers system a)) (λ i p q at_p at_q. absurd (cc));
  turns = λ answers agrees other less. absurd (omega arith);
  idle = λ same other less. absurd (omega arith);
}

-- a turn is a turn still, once others have had theirs
had_later : (system : SystemSeen) (b c : RollSeen) (answers : List (Result Swapped NoSwap)) (items : List ℕ) (f : Option Flight) (old : SystemPass)
    (g : Option Flight) (new : SystemPass) → c.plan ≡ b.plan → b.taken ≤ c.taken → c.taken ≤ length c.plan
    → HasHadTurn system b answers items f old g new → HasHadTurn system c answers items f old g new
had_later system b c answers [] (Some f) old g new plan later few is = is
had_later system b c answers [] None old g new plan later few is =
    (is.0, is.1, let taken = is.2 in let many = ap (λ (p : List (ℕ × To)). length p) plan in omega (arith, taken, many, later, few))
had_later system b c answers (item ∷ []) None old g new plan later few is =
    subst (λ (p : List (ℕ × To)). IsSomeAnd (slice_get p item) (λ asked. HasMadeStep system answers (new_swap asked.0 asked.1) item old g new)) (sym plan) is
had_later system b c answers (item ∷ []) (Some f) old g new plan later few is = absurd is
had_later system b c answers (item ∷ next ∷ items) None old g new plan later few is = absurd is
had_later system b c answers (item ∷ next ∷ items) (Some f) old g new plan later few is = absurd is

module _ (system : SystemSeen) (place : ℕ) (a b c : RollSeen) (is : IsRoundTo system place a b) (turn : HasTurned system place b c) where
  before_or_at : (other : ℕ) → other < place + 1 → (other < place) ⊎ (other ≡ place)
  before_or_at other less = ⊎_elim (λ h. inl h) (λ h. inr (omega (arith, h, less))) (cases_lt other place)

  abbrev got : HasGotOn system a c
  got = then system a b c is.got_on turn.got_on

  takers_are : got.takers ≡ is.got_on.takers ++ turn.got_on.takers
  takers_are = then_takers system a b c is.got_on turn.got_on

  one_below : (takers : List ℕ) → (takers ≡ []) ⊎ (takers ≡ place ∷ []) → EachPlace (λ i taker. taker < place + 1) takers
  one_below takers takes =
      ⊎_elim (λ (e : takers ≡ []). subst (λ ts. EachPlace (λ i taker. taker < place + 1) ts) (sym e) (λ i taker at. absurd (cc)))
      (λ (e : takers ≡ place ∷ []). subst (λ ts. EachPlace (λ i taker. taker < place + 1) ts) (sym e) one) takes
    where
      one : (i taker : ℕ) → slice_get (place ∷ []) i ≡ Some taker → taker < place + 1
      one zero taker at = let same = same_Some place taker at in omega (arith, same)
      one (suc i) taker at = absurd (cc)

  below_next : EachPlace (λ i taker. taker < place + 1) got.takers
  below_next =
      subst (λ ts. EachPlace (λ i taker. taker < place + 1) ts) (sym takers_are)
      (each_append (λ taker. taker < place + 1) is.got_on.takers turn.got_on.takers
      (λ i taker at. let less = is.below i taker at in omega (arith, less)) (one_below turn.got_on.takers turn.takes))

  rising : IsRising got.takers
  rising =
      subst (λ ts. IsRising ts) (sym takers_are)
      (⊎_elim
      (λ (e : turn.got_on.takers ≡ []).
      subst (λ ts. IsRising ts) (sym ((λ j. is.got_on.takers ++ e j) ∙ append-nil is.got_on.takers)) is.in_order)
      (λ (e : turn.got_on.takers ≡ place ∷ []).
      subst (λ ts. IsRising (is.got_on.takers ++ ts)) (sym e) (rising_next place is.got_on.takers is.in_order is.below)) turn.takes)

  -- what a pass in front has taken
  items_before : (other : ℕ) → other ≢ place → items_of other a.taken got.takers ≡ items_of other a.taken is.got_on.takers
  items_before other differs =
      ap (λ ts. items_of other a.taken ts) takers_are ∙ items_of-append other a.taken is.got_on.takers turn.got_on.takers
      ∙ (λ j. items_of other a.taken is.got_on.takers ++ none j) ∙ append-nil (items_of other a.taken is.got_on.takers)
    where
      none : items_of other (a.taken + length is.got_on.takers) turn.got_on.takers ≡ []
      none =
          ⊎_elim (λ (e : turn.got_on.takers ≡ []). ap (λ ts. items_of other (a.taken + length is.got_on.takers) ts) e)
          (λ (e : turn.got_on.takers ≡ place ∷ []).
          ap (λ ts. items_of other (a.taken + length is.got_on.takers) ts) e
          ∙ no_item_of_others other place (a.taken + length is.got_on.takers) differs) turn.takes

  -- and what the pass at the place has
  items_now : items_of place a.taken got.takers ≡ items_of place b.taken turn.got_on.takers
  items_now =
      ap (λ ts. items_of place a.taken ts) takers_are ∙ items_of-append place a.taken is.got_on.takers turn.got_on.takers
      ∙ (λ j. no_items_below place a.taken is.got_on.takers is.below j ++ items_of place (sym is.got_on.taken j) turn.got_on.takers)

  turns_next : (answers : List (Result Swapped NoSwap)) → Agrees c answers → (other : ℕ) → other < place + 1 → (f : Option Flight) (old : SystemPass)
      (g : Option Flight) (new : SystemPass) → slice_get a.flights other ≡ Some f → slice_get a.passes other ≡ Some old
      → slice_get c.flights other ≡ Some g → slice_get c.passes other ≡ Some new
      → HasHadTurn system c answers (items_of other a.taken got.takers) f old g new
  turns_next answers agrees other less f old g new at_f at_old at_g at_new =
      ⊎_elim
      (λ (h : other < place).
      let differs : other ≢ place = λ e. omega (arith, h, e) in
      let taken = turn.got_on.taken in
      subst (λ items. HasHadTurn system c answers items f old g new) (sym (items_before other differs))
      (had_later system b c answers (items_of other a.taken is.got_on.takers) f old g new turn.got_on.plan (omega (arith, taken)) turn.rolls.taken
      (is.turns answers (agrees_before system b c turn.got_on answers agrees) other h f old g new at_f at_old
      (sym (turn.flights other differs) ∙ at_g) (sym (turn.passes other differs) ∙ at_new))))
      (λ (h : other ≡ place).
      let behind = is.behind other (omega (arith, h)) in
      subst (λ p. HasHadTurn system c answers (items_of p a.taken got.takers) f old g new) (sym h)
      (subst (λ items. HasHadTurn system c answers items f old g new) (sym items_now)
      (turn.turn answers agrees f old g new
      (ap (λ p. slice_get b.flights p) (sym h) ∙ behind.0 ∙ at_f) (ap (λ p. slice_get b.passes p) (sym h) ∙ behind.1 ∙ at_old)
      (ap (λ p. slice_get c.flights p) (sym h) ∙ at_g) (ap (λ p. slice_get c.passes p) (sym h) ∙ at_new))))
      (before_or_at other less)

  idle_next : c.left ≡ a.left → (other : ℕ) → other < place + 1 → slice_get c.flights other ≡ Some None → c.taken ≡ length c.plan
  idle_next same other less at =
      ⊎_elim
      (λ (h : other < place).
      let differs : other ≢ place = λ e. omega (arith, h, e) in
      let all = is.idle (let one = is.fewer in let two = turn.fewer in omega (arith, one, two, same)) other h (sym (turn.flights other differs) ∙ at) in
      let taken = turn.got_on.taken in let few = turn.rolls.taken in let many = ap (λ (p : List (ℕ × To)). length p) turn.got_on.plan in
      omega (arith, all, taken, few, many))
      (λ (h : other ≡ place).
      turn.idle (let one = is.fewer in let two = turn.fewer in omega (arith, one, two, same)) (ap (λ p. slice_get c.flights p) (sym h) ∙ at))
      (before_or_at other less)

  pub next_turn : IsRoundTo system (place + 1) a c
  next_turn = record {
    rolls = turn.rolls;
    got_on = got;
    fewer = let one = is.fewer in let two = turn.fewer in omega (arith, one, two);
    behind = λ other less.
        let differs : other ≢ place = λ e. omega (arith, less, e) in let before = is.behind other (omega (arith, less)) in
        (turn.flights other differs ∙ before.0, turn.passes other differs ∙ before.1);
    below = below_next;
    in_order = rising;
    turns = turns_next;
    idle = idle_next;
  }

module _ (system : SystemSeen) (a b : RollSeen) (is : IsRoundTo system (length a.passes) a b) where
  -- all passes have had their turns
  pub gone_round : HasGoneRound system a b
  gone_round = record {
    rolls = is.rolls;
    got_on = is.got_on;
    in_order = is.in_order;
    turns = λ place f old g new at_f at_old at_g at_new.
        is.turns b.answers (λ item less free. refl) place (slice_get_within a.passes place old at_old) f old g new at_f at_old at_g at_new;
  }

  -- and have ended no swap of a roll that is not over
  module _ (some : 0 < a.left) (same : b.left ≡ a.left) where
    by_first : (g : Option Flight) → slice_get b.flights 0 ≡ Some g → (place : ℕ) × (flight : Flight) × (slice_get b.flights place ≡ Some (Some flight))
    by_first (Some g) at = (0, g, at)
    by_first None at =
        let many : 0 < length a.passes = (let n = is.rolls.some in let m = is.got_on.passes in omega (arith, n, m)) in
        let all = is.idle same 0 many at in let left = is.rolls.left in
        one_counted b.flights (omega (arith, all, left, some, same))

    pub ended_none : HasEndedNone a b
    ended_none =
        let first = there b.flights 0 (let n = is.rolls.some in let m = is.rolls.flights in omega (arith, n, m)) in let one = by_first first.0 first.1 in
        record { none = same; place = one.0; flight = one.1; some = one.2 }
