-- What befalls one pass of a roll: it takes an item, its swap waits, or its swap ends.
use Rattle.std.proofs.Common.{◌≡◌, ◌≢◌, ⊎_elim, ℕ, zero, suc, ◌+◌, ◌-◌, ◌<◌, List, [], ◌∷◌, Option, Some, None, Result, length, length-set, set, IsSomeAnd, refl, sym, ap, subst, ◌∙◌, arith}
use Rattle.std.specs.Prelude.{slice_get, is_some}
use Rattle.std.proofs.lemmas.Option.{same_Some, slice_get_within}
use Rattle.k42_places.proofs.Counts.{count_by-set_more, count_by-set_less, count_by-set_same, count_by_some}
use Rattle.k42_places.proofs.Written.{at_set, slice_get-set_here, slice_get-set_else}
use Rattle.k42_runtime.specs.Phases.{last_step}
use Rattle.k42_runtime.specs.Swaps.{SwapSeen, HasStepped}
use Rattle.co_system.specs.Systems.{SystemSeen, SystemPass}
use Rattle.k42_runtime.specs.declared.swaps.Cause.{Cause}
use Rattle.k42_runtime.specs.declared.swaps.Step.TheVariants.{Again}
use Rattle.k42_runtime.specs.declared.swaps.NoSwap.{NoSwap}
use Rattle.k42_runtime.specs.declared.swaps.Swapped.{Swapped}
use Rattle.k42_kinds.specs.declared.entry.To.{To}
use Rattle.swap_future.specs.Polling.{Ends}
use Rattle.swap_future.specs.Rolling.{RollSeen, HasGotOn, IsRolling, IsLane, IsNotFlown, Agrees, Carries, GetsOn, first_flight, items_of}
use Rattle.swap_future.specs.declared.rolling.Flight.{Flight}
use Rattle.swap_future.proofs.Places.{item_of_taker, no_item_of_others, set_here, there}
use Rattle.swap_future.proofs.Polled.{ends_by, leads_on}
use Rattle.swap_future.proofs.Rolls.{same_lane}
use Rattle.swap_future.proofs.Waited.{not_moved}

-- what a roll is when its pass at a place has taken an item, has this swap in flight, or has ended it with an answer
abbrev pub with_taken : ℕ → Flight → RollSeen → RollSeen
with_taken place f r = record r { taken = r.taken + 1; flights = set r.flights place (Some f) }

abbrev pub with_flight : ℕ → Flight → SystemPass → RollSeen → RollSeen
with_flight place f pass r = record r { flights = set r.flights place (Some f); passes = set r.passes place pass }

abbrev pub with_answer : ℕ → ℕ → Result Swapped NoSwap → SystemPass → RollSeen → RollSeen
with_answer place item answer pass r = record r {
  left = r.left - 1;
  flights = set r.flights place None;
  passes = set r.passes place pass;
  answers = set r.answers item answer;
}

module _ (system : SystemSeen) (a : RollSeen) (place : ℕ) (is : IsRolling system a) where
  -- the other places are as they were
  other_lane : (answers : List (Result Swapped NoSwap)) (f' : Option Flight) (pass' : SystemPass) (other : ℕ) (f g : Option Flight) (old new : SystemPass) → other ≢ place
      → slice_get a.flights other ≡ Some f → slice_get a.passes other ≡ Some old
      → slice_get (set a.flights place f') other ≡ Some g → slice_get (set a.passes place pass') other ≡ Some new → GetsOn system answers f old g new
  other_lane answers f' pass' other f g old new differs at_f at_old at_g at_new =
      same_lane system answers f g old new a.flights a.passes other at_f at_old
      (sym (slice_get-set_else a.flights place other f' differs) ∙ at_g) (sym (slice_get-set_else a.passes place other pass' differs) ∙ at_new)

  -- the pass has no swap in flight, and there is an item left
  module _ (pass : SystemPass) (asked : ℕ × To) (at_flight : slice_get a.flights place ≡ Some None) (at_pass : slice_get a.passes place ≡ Some pass)
      (next : slice_get a.plan a.taken ≡ Some asked) where
    abbrev taking : Flight
    taking = first_flight asked a.taken

    here_less : place < length a.flights
    here_less = slice_get_within a.flights place None at_flight

    few : a.taken < length a.plan
    few = slice_get_within a.plan a.taken asked next

    later_lane : (f : Option Flight) (old : SystemPass) → IsLane system a f old → IsLane system (with_taken place taking a) f old
    later_lane None old lane = lane
    later_lane (Some f) old lane = (lane.0, let n = lane.1 in omega (arith, n), lane.2)

    pub taken_lane : IsLane system (with_taken place taking a) (Some taking) pass
    taken_lane =
        let lane = is.lanes place None pass at_flight at_pass in (
          record {
            here = lane.0;
            stage = (
              refl,
              record {
                rests = lane.1;
                there = is.objects a.taken asked next;
              },
            );
            going = refl;
            leads = is.leads a.taken asked next;
          },
          omega arith,
          subst (λ (o : Option (ℕ × To)). IsSomeAnd o (λ other. (asked.0 ≡ other.0) × (asked.1 ≡ other.1))) (sym next) (refl, refl),
        )

    flying_less : (q : ℕ) (g : Flight) → slice_get a.flights q ≡ Some (Some g) → g.item < a.taken
    flying_less q g at =
        let mid = there a.passes q (let less = slice_get_within a.flights q (Some g) at in let many = is.flights in omega (arith, less, many)) in
        (is.lanes q (Some g) mid.0 at mid.1).1

    apart_now : (p q : ℕ) (f g : Flight) → slice_get (set a.flights place (Some taking)) p ≡ Some (Some f)
        → slice_get (set a.flights place (Some taking)) q ≡ Some (Some g) → f.item ≡ g.item → p ≡ q
    apart_now p q f g at_f at_g same =
        ⊎_elim
        (λ (t : (p ≡ place) × (Some taking ≡ Some f)).
        ⊎_elim (λ (u : (q ≡ place) × (Some taking ≡ Some g)). t.0 ∙ sym u.0)
        (λ (u : (q ≢ place) × (slice_get a.flights q ≡ Some (Some g))). absurd (younger q g f u.1 t.1 (sym same))) (at_set a.flights place q (Some taking) (Some g) at_g))
        (λ (t : (p ≢ place) × (slice_get a.flights p ≡ Some (Some f))).
        ⊎_elim (λ (u : (q ≡ place) × (Some taking ≡ Some g)). absurd (younger p f g t.1 u.1 same))
        (λ (u : (q ≢ place) × (slice_get a.flights q ≡ Some (Some g))). is.apart p q f g t.1 u.1 same) (at_set a.flights place q (Some taking) (Some g) at_g))
        (at_set a.flights place p (Some taking) (Some f) at_f)
      where
        younger : (q : ℕ) (g f : Flight) → slice_get a.flights q ≡ Some (Some g) → Some taking ≡ Some f → g.item ≡ f.item → ⊥
        younger q g f at is_f same =
            let item : a.taken ≡ f.item = ap (λ (h : Flight). h.item) (same_Some taking f is_f) in
            let less = flying_less q g at in omega (arith, item, same, less)

    pub rolls_taken : IsRolling system (with_taken place taking a)
    rolls_taken = record {
      some = is.some;
      flights = length-set a.flights place (Some taking) ∙ is.flights;
      answers = is.answers;
      taken = let less = few in omega (arith, less);
      left =
          let more = count_by-set_more is_some a.flights place None (Some taking) at_flight refl refl in let left = is.left in
          omega (arith, more, left);
      objects = is.objects;
      leads = is.leads;
      lanes = λ other f old at_f at_old.
          ⊎_elim
          (λ (t : (other ≡ place) × (Some taking ≡ f)).
          let same : pass ≡ old = same_Some pass old (sym at_pass ∙ ap (λ p. slice_get a.passes p) (sym t.0) ∙ at_old) in
          subst (λ (x : Option Flight × SystemPass). IsLane system (with_taken place taking a) x.0 x.1) (λ j. (t.1 j, same j)) taken_lane)
          (λ (t : (other ≢ place) × (slice_get a.flights other ≡ Some f)). later_lane f old (is.lanes other f old t.1 at_old))
          (at_set a.flights place other (Some taking) f at_f);
      apart = apart_now;
    }

    taken_carries : (answers : List (Result Swapped NoSwap)) → Carries system a.plan answers (a.taken ∷ []) None pass (Some taking) pass
    taken_carries answers = (
      pass,
      refl,
      subst (λ (o : Option (ℕ × To)). IsSomeAnd o (λ asked. Carries system a.plan answers [] (Some (first_flight asked a.taken)) pass (Some taking) pass)) (sym next)
          (not_moved system answers (Some taking) pass),
    )

    pub got_taken : HasGotOn system a (with_taken place taking a)
    got_taken = record {
      plan = refl;
      takers = place ∷ [];
      taken = refl;
      theirs = λ i taker at. one_taker i taker at;
      passes = refl;
      flights = length-set a.flights place (Some taking);
      answers = refl;
      kept = λ item less free. refl;
      flown = λ other g at less.
          ⊎_elim
          (λ (t : (other ≡ place) × (Some taking ≡ Some g)).
          absurd (let item : a.taken ≡ g.item = ap (λ (h : Flight). h.item) (same_Some taking g t.1) in omega (arith, item, less)))
          (λ (t : (other ≢ place) × (slice_get a.flights other ≡ Some (Some g))). (g, t.1, refl))
          (at_set a.flights place other (Some taking) (Some g) at);
      each = λ answers agrees other f old g new at_f at_old at_g at_new.
          ⊎_elim
          (λ (t : (other ≡ place) × (Some taking ≡ g)).
          let flight : None ≡ f = same_Some None f (sym at_flight ∙ ap (λ p. slice_get a.flights p) (sym t.0) ∙ at_f) in
          let was : pass ≡ old = same_Some pass old (sym at_pass ∙ ap (λ p. slice_get a.passes p) (sym t.0) ∙ at_old) in
          let now : pass ≡ new = same_Some pass new (sym at_pass ∙ ap (λ p. slice_get a.passes p) (sym t.0) ∙ at_new) in
          subst (λ (x : List ℕ × Option Flight × SystemPass × Option Flight × SystemPass). Carries system a.plan answers x.0 x.1 x.2 x.3 x.4)
          (λ j. ((sym (item_of_taker place a.taken) ∙ ap (λ p. items_of p a.taken (place ∷ [])) (sym t.0)) j, flight j, was j, t.1 j, now j))
          (taken_carries answers))
          (λ (t : (other ≢ place) × (slice_get a.flights other ≡ Some g)).
          subst (λ items. Carries system a.plan answers items f old g new) (sym (no_item_of_others other place a.taken t.0))
          (same_lane system answers f g old new a.flights a.passes other at_f at_old t.1 at_new))
          (at_set a.flights place other (Some taking) g at_g);
    }
      where
        one_taker : (i taker : ℕ) → slice_get (place ∷ []) i ≡ Some taker → taker < length a.passes
        one_taker zero taker at = let same = same_Some place taker at in let less = here_less in let many = is.flights in omega (arith, same, less, many)
        one_taker (suc i) taker at = absurd (cc)

    pub taken_by : got_taken.takers ≡ place ∷ []
    unfolding got_taken
    taken_by = refl

  -- a swap in flight is one of those that are left
  pub some_left : (f : Flight) → slice_get a.flights place ≡ Some (Some f) → 0 < a.left
  some_left f at_flight =
      let flying = count_by_some is_some a.flights place (Some f) at_flight refl in let left = is.left in let taken = is.taken in
      omega (arith, flying, left, taken)

  -- it has this swap in flight, of which a step was made
  module _ (f : Flight) (t : SwapSeen) (old new : SystemPass) (at_flight : slice_get a.flights place ≡ Some (Some f)) (at_pass : slice_get a.passes place ≡ Some old) where
    lane : IsLane system a (Some f) old
    lane = is.lanes place (Some f) old at_flight at_pass

    flight_here : (other : ℕ) (g : Option Flight) → other ≡ place → slice_get a.flights other ≡ Some g → Some f ≡ g
    flight_here other g same at = same_Some (Some f) g (sym at_flight ∙ ap (λ p. slice_get a.flights p) (sym same) ∙ at)

    pass_here : (other : ℕ) (pass : SystemPass) → other ≡ place → slice_get a.passes other ≡ Some pass → old ≡ pass
    pass_here other pass same at = same_Some old pass (sym at_pass ∙ ap (λ p. slice_get a.passes p) (sym same) ∙ at)

    module _ (cause : Cause) (step : HasStepped system (Again cause) f.swap t old new) where
      abbrev waiting : Flight
      waiting = record { swap = t; item = f.item; cause = Some cause }

      pub waits_lane : IsLane system a (Some waiting) new
      waits_lane = (
        record {
          here = step.here;
          stage = step.stage;
          going = step.over;
          leads = leads_on system f.swap t (Again cause) old new lane.0.leads step;
        },
        lane.1,
        same_item (slice_get a.plan f.item) lane.2,
      )
        where
          same_item : (o : Option (ℕ × To)) → IsSomeAnd o (λ asked. (f.swap.object ≡ asked.0) × (f.swap.to ≡ asked.1))
              → IsSomeAnd o (λ asked. (t.object ≡ asked.0) × (t.to ≡ asked.1))
          same_item (Some asked) is = (step.object ∙ is.0, step.to ∙ is.1)
          same_item None is = is

      flew : (p : ℕ) (g : Flight) → slice_get (set a.flights place (Some waiting)) p ≡ Some (Some g)
          → (h : Flight) × (slice_get a.flights p ≡ Some (Some h)) × (h.item ≡ g.item)
      flew p g at =
          ⊎_elim
          (λ (u : (p ≡ place) × (Some waiting ≡ Some g)). (f, ap (λ q. slice_get a.flights q) u.0 ∙ at_flight, ap (λ (h : Flight). h.item) (same_Some waiting g u.1)))
          (λ (u : (p ≢ place) × (slice_get a.flights p ≡ Some (Some g))). (g, u.1, refl)) (at_set a.flights place p (Some waiting) (Some g) at)

      pub rolls_waiting : IsRolling system (with_flight place waiting new a)
      rolls_waiting = record {
        some = let many = length-set a.passes place new in let some = is.some in omega (arith, many, some);
        flights = length-set a.flights place (Some waiting) ∙ is.flights ∙ sym (length-set a.passes place new);
        answers = is.answers;
        taken = is.taken;
        left =
            let same = count_by-set_same is_some a.flights place (Some f) (Some waiting) at_flight refl in let left = is.left in
            omega (arith, same, left);
        objects = is.objects;
        leads = is.leads;
        lanes = λ other g pass at_g at_new.
            ⊎_elim
            (λ (u : (other ≡ place) × (Some waiting ≡ g)).
            subst (λ (x : Option Flight × SystemPass). IsLane system a x.0 x.1) (λ j. (u.1 j, set_here a.passes place other new pass u.0 at_new j)) waits_lane)
            (λ (u : (other ≢ place) × (slice_get a.flights other ≡ Some g)).
            is.lanes other g pass u.1 (sym (slice_get-set_else a.passes place other new u.0) ∙ at_new))
            (at_set a.flights place other (Some waiting) g at_g);
        apart = λ p q g h at_g at_h same.
            let was = flew p g at_g in let were = flew q h at_h in
            is.apart p q was.0 were.0 was.1 were.1 (was.2 ∙ same ∙ sym were.2);
      }

      pub got_waiting : HasGotOn system a (with_flight place waiting new a)
      got_waiting = record {
        plan = refl;
        takers = [];
        taken = omega arith;
        theirs = λ i taker at. absurd (cc);
        passes = length-set a.passes place new;
        flights = length-set a.flights place (Some waiting);
        answers = refl;
        kept = λ item less free. refl;
        flown = λ p g at less. flew p g at;
        each = λ answers agrees other g was h now at_g at_was at_h at_now.
            ⊎_elim
            (λ (u : (other ≡ place) × (Some waiting ≡ h)).
            subst (λ (x : Option Flight × SystemPass × Option Flight × SystemPass). GetsOn system answers x.0 x.1 x.2 x.3)
            (λ j. (flight_here other g u.0 at_g j, pass_here other was u.0 at_was j, u.1 j, set_here a.passes place other new now u.0 at_now j))
            (refl, cause ∷ [], refl, (f.swap, old, (refl, refl), step)))
            (λ (u : (other ≢ place) × (slice_get a.flights other ≡ Some h)).
            other_lane answers (Some waiting) new other g h was now u.0 at_g at_was at_h at_now)
            (at_set a.flights place other (Some waiting) h at_h);
      }

      pub taken_by_none : got_waiting.takers ≡ []
      unfolding got_waiting
      taken_by_none = refl

    module _ (answer : Result Swapped NoSwap) (step : HasStepped system (last_step answer) f.swap t old new) where
      ends : Ends system f.swap old answer new
      ends = ends_by system f.swap t old new answer step

      abbrev answered : RollSeen
      answered = with_answer place f.item answer new a

      pub ended_lane : IsLane system a None new
      ended_lane = (ends.here, ends.rests)

      flies_else : (p : ℕ) (g : Flight) → slice_get (set a.flights place None) p ≡ Some (Some g) → (p ≢ place) × (slice_get a.flights p ≡ Some (Some g))
      flies_else p g at =
          ⊎_elim (λ (u : (p ≡ place) × (None ≡ Some g)). absurd (let e = u.1 in cc)) (λ u. u) (at_set a.flights place p None (Some g) at)

      pub rolls_answered : IsRolling system answered
      rolls_answered = record {
        some = let many = length-set a.passes place new in let some = is.some in omega (arith, many, some);
        flights = length-set a.flights place None ∙ is.flights ∙ sym (length-set a.passes place new);
        answers = length-set a.answers f.item answer ∙ is.answers;
        taken = is.taken;
        left =
            let less = count_by-set_less is_some a.flights place (Some f) None at_flight refl refl in let left = is.left in let some = some_left f at_flight in
            omega (arith, less, left, some);
        objects = is.objects;
        leads = is.leads;
        lanes = λ other g pass at_g at_new.
            ⊎_elim
            (λ (u : (other ≡ place) × (None ≡ g)).
            subst (λ (x : Option Flight × SystemPass). IsLane system a x.0 x.1) (λ j. (u.1 j, set_here a.passes place other new pass u.0 at_new j)) ended_lane)
            (λ (u : (other ≢ place) × (slice_get a.flights other ≡ Some g)).
            is.lanes other g pass u.1 (sym (slice_get-set_else a.passes place other new u.0) ∙ at_new))
            (at_set a.flights place other None g at_g);
        apart = λ p q g h at_g at_h same. is.apart p q g h (flies_else p g at_g).1 (flies_else q h at_h).1 same;
      }

      -- nobody else has its item
      landed : IsNotFlown (set a.flights place None) f.item
      landed p g at same =
          let u = flies_else p g at in u.0 (is.apart p place g f u.1 at_flight same)

      pub its_answer : (answers : List (Result Swapped NoSwap)) → Agrees answered answers → slice_get answers f.item ≡ Some answer
      its_answer answers agrees =
          agrees f.item lane.1 landed
          ∙ slice_get-set_here a.answers f.item answer
          (let less = lane.1 in let taken = is.taken in let many = is.answers in omega (arith, less, taken, many))

      pub got_answer : HasGotOn system a answered
      got_answer = record {
        plan = refl;
        takers = [];
        taken = omega arith;
        theirs = λ i taker at. absurd (cc);
        passes = length-set a.passes place new;
        flights = length-set a.flights place None;
        answers = length-set a.answers f.item answer;
        kept = λ item less free.
            slice_get-set_else a.answers f.item item answer (λ same. free place f at_flight (sym same));
        flown = λ p g at less. (g, (flies_else p g at).1, refl);
        each = λ answers agrees other g was h now at_g at_was at_h at_now.
            ⊎_elim
            (λ (u : (other ≡ place) × (None ≡ h)).
            subst (λ (x : Option Flight × SystemPass × Option Flight × SystemPass). GetsOn system answers x.0 x.1 x.2 x.3)
            (λ j. (flight_here other g u.0 at_g j, pass_here other was u.0 at_was j, u.1 j, set_here a.passes place other new now u.0 at_now j))
            (subst (λ (o : Option (Result Swapped NoSwap)). IsSomeAnd o (λ answer. Ends system f.swap old answer new)) (sym (its_answer answers agrees)) ends))
            (λ (u : (other ≢ place) × (slice_get a.flights other ≡ Some h)).
            other_lane answers None new other g h was now u.0 at_g at_was at_h at_now)
            (at_set a.flights place other None h at_h);
      }

      pub taken_by_nobody : got_answer.takers ≡ []
      unfolding got_answer
      taken_by_nobody = refl
