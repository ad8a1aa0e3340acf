-- A turn of one pass of a roll, and the beginning and end of a roll.
use Rattle.std.proofs.Common.{◌≡◌, ◌≢◌, ⊎_elim, inl, inr, ◌⊎◌, ℕ, ◌+◌, ◌-◌, ◌<◌, ◌≤◌, false, List, [], ◌∷◌, ◌++◌, Option, Some, None, Result, Err, length, get_or, set, replicate, IsSomeAnd, refl, sym, ap, subst, ◌∙◌, arith}
use Rattle.std.specs.Prelude.{slice_get, is_some}
use Rattle.std.proofs.lemmas.List.{append-nil, length-replicate}
use Rattle.std.proofs.lemmas.Option.{same_Some, slice_get_read, slice_get_within}
use Rattle.k42_places.specs.Places.{EachPlace}
use Rattle.k42_places.proofs.Counts.{count_by_none, count_by_zero}
use Rattle.k42_places.proofs.EachPlaces.{EachPlace-replicate}
use Rattle.k42_places.proofs.Written.{slice_get-set_else, slice_get-set_here}
use Rattle.k42_runtime.specs.Phases.{last_step}
use Rattle.k42_runtime.specs.Swaps.{SwapSeen, HasStepped}
use Rattle.co_system.specs.Systems.{SystemSeen, SystemPass, MayLead}
use Rattle.k42_runtime.specs.Systems.{IsPassHere, IsAtRest}
use Rattle.k42_runtime.specs.declared.swaps.Cause.{Cause}
use Rattle.k42_runtime.specs.declared.swaps.Step.TheVariants.{Again}
use Rattle.k42_runtime.specs.declared.swaps.NoSwap.{NoSwap}
use Rattle.k42_runtime.specs.declared.swaps.NoSwap.TheVariants.{Memory}
use Rattle.k42_runtime.specs.declared.swaps.Swapped.{Swapped}
use Rattle.k42_kinds.specs.declared.entry.To.{To}
use Rattle.swap_future.specs.Polling.{IsGoing, new_swap}
use Rattle.swap_future.specs.Rolling.{RollSeen, Agrees, Carries, HasGotOn, HasRolled, IsAtHand, IsLane, IsRolling, MayRoll, first_flight, items_of, new_roll}
use Rattle.swap_future.specs.Rounds.{HasHadTurn, HasMadeStep, HasTurned}
use Rattle.swap_future.specs.declared.rolling.Flight.{Flight}
use Rattle.swap_future.proofs.Events.{with_taken, with_flight, with_answer, rolls_taken, got_taken, taken_by, rolls_waiting, got_waiting, taken_by_none, rolls_answered, got_answer, taken_by_nobody, its_answer, some_left}
use Rattle.swap_future.proofs.Places.{item_of_taker, set_here, set-set, set_same, there}
use Rattle.swap_future.proofs.Rolls.{stays, stays_takers, then, then_takers}
use Rattle.swap_future.proofs.Waited.{some_then}

-- where a flight is at hand, the roll in which its pass has it in flight
pub record HasInFlight (system : SystemSeen) (place : ℕ) (a : RollSeen) (f : Flight) (b v : RollSeen) : Type 0 where
  pub rolls : IsRolling system v
  pub got_on : HasGotOn system a v
  pub at : slice_get v.flights place ≡ Some (Some f)
  pub now : b ≡ record v { flights = set v.flights place None }
  pub flights : (other : ℕ) → other ≢ place → slice_get v.flights other ≡ slice_get a.flights other
  pub passes : v.passes ≡ a.passes
  pub left : v.left ≡ a.left
  pub origin :
      ((got_on.takers ≡ []) × (slice_get a.flights place ≡ Some (Some f)))
      ⊎ ((got_on.takers ≡ place ∷ []) × (slice_get a.flights place ≡ Some None) × (f.item ≡ a.taken)
      × IsSomeAnd (slice_get v.plan f.item) (λ asked. f.swap ≡ new_swap asked.0 asked.1))

module _ (system : SystemSeen) (place : ℕ) (a : RollSeen) (is : IsRolling system a) where
  has_taken : (f : Flight) (b : RollSeen) (asked : ℕ × To) → slice_get a.flights place ≡ Some None → slice_get a.plan a.taken ≡ Some asked
      → f ≡ first_flight asked a.taken → b ≡ record a { taken = a.taken + 1 } → (v : RollSeen) × HasInFlight system place a f b v
  has_taken f b asked at next taking now =
      let mid = there a.passes place (let less = slice_get_within a.flights place None at in let many = is.flights in omega (arith, less, many)) in
      let first : Flight = first_flight asked a.taken in (
        with_taken place first a,
        record {
          rolls = rolls_taken system a place is mid.0 asked at mid.1 next;
          got_on = got_taken system a place is mid.0 asked at mid.1 next;
          at = slice_get-set_here a.flights place (Some first) (slice_get_within a.flights place None at) ∙ (λ j. Some (Some (sym taking j)));
          now = now ∙ (λ j. record a { taken = a.taken + 1; flights = (sym (set_same a.flights place None at) ∙ sym (set-set a.flights place (Some first) None)) j });
          flights = λ other differs. slice_get-set_else a.flights place other (Some first) differs;
          passes = refl;
          left = refl;
          origin = inr (
            taken_by system a place is mid.0 asked at mid.1 next,
            at,
            ap (λ (g : Flight). g.item) taking,
            subst (λ (g : Flight). IsSomeAnd (slice_get a.plan g.item) (λ asked. g.swap ≡ new_swap asked.0 asked.1)) (sym taking)
                (subst (λ (o : Option (ℕ × To)). IsSomeAnd o (λ other. new_swap asked.0 asked.1 ≡ new_swap other.0 other.1)) (sym next) refl),
          );
        },
      )

  pub in_flight : (f : Flight) (b : RollSeen) → IsAtHand place a f b → (v : RollSeen) × HasInFlight system place a f b v
  in_flight f b hand =
      ⊎_elim
      (λ (h : (slice_get a.flights place ≡ Some (Some f)) × (b ≡ record a { flights = set a.flights place None })). (
        a,
        record {
          rolls = is;
          got_on = stays system a;
          at = h.0;
          now = h.1;
          flights = λ other differs. refl;
          passes = refl;
          left = refl;
          origin = inl (stays_takers system a, h.0);
        },
      ))
      (λ (h : (slice_get a.flights place ≡ Some None) × (asked : ℕ × To) × (slice_get a.plan a.taken ≡ Some asked) × (f ≡ first_flight asked a.taken)
      × (b ≡ record a { taken = a.taken + 1 })). has_taken f b h.1 h.0 h.2 h.3 h.4)
      hand

  module _ (f : Flight) (b v : RollSeen) (has : HasInFlight system place a f b v) (old new : SystemPass) (at_pass : slice_get b.passes place ≡ Some old) (t : SwapSeen) where
    at_old : slice_get v.passes place ≡ Some old
    at_old = ap (λ (r : RollSeen). slice_get r.passes place) (sym has.now) ∙ at_pass

    -- there is a place for its answer
    fits : (f.item < length b.answers) × (0 < b.left)
    fits =
        let lane = (has.rolls.lanes place (Some f) old has.at at_old).1 in let taken = has.rolls.taken in let many = has.rolls.answers in
        subst (λ (r : RollSeen). (f.item < length r.answers) × (0 < r.left)) (sym has.now)
        (omega (arith, lane, taken, many), some_left system v place has.rolls f has.at)

    was_old : (pass : SystemPass) → slice_get a.passes place ≡ Some pass → old ≡ pass
    was_old pass at = same_Some old pass (sym at_old ∙ ap (λ ps. slice_get ps place) has.passes ∙ at)

    -- one step of its swap is the turn of the pass that had it in flight, or took it
    had_turn : (after : RollSeen) (answers : List (Result Swapped NoSwap)) (g : Option Flight) (new : SystemPass) (takers : List ℕ) → after.plan ≡ v.plan
        → takers ≡ has.got_on.takers → HasMadeStep system answers f.swap f.item old g new → (h : Option Flight) (was : SystemPass)
        → slice_get a.flights place ≡ Some h → slice_get a.passes place ≡ Some was → HasHadTurn system after answers (items_of place a.taken takers) h was g new
    had_turn after answers g new takers plan is made h was at at_was =
        subst (λ (x : List ℕ × SystemPass). HasHadTurn system after answers (items_of place a.taken x.0) h x.1 g new) (λ j. (sym is j, was_old was at_was j))
        (⊎_elim
        (λ (o : (has.got_on.takers ≡ []) × (slice_get a.flights place ≡ Some (Some f))).
        subst (λ (x : List ℕ × Option Flight). HasHadTurn system after answers (items_of place a.taken x.0) x.1 old g new)
        (λ j. (sym o.0 j, same_Some (Some f) h (sym o.1 ∙ at) j)) made)
        (λ (o : (has.got_on.takers ≡ place ∷ []) × (slice_get a.flights place ≡ Some None) × (f.item ≡ a.taken)
        × IsSomeAnd (slice_get v.plan f.item) (λ asked. f.swap ≡ new_swap asked.0 asked.1)).
        subst (λ (x : List ℕ × Option Flight). HasHadTurn system after answers x.0 x.1 old g new)
        (λ j. ((sym (item_of_taker place a.taken) ∙ ap (λ ts. items_of place a.taken ts) (sym o.0)) j, same_Some None h (sym o.1 ∙ at) j))
        (some_then (slice_get after.plan a.taken) (λ asked. f.swap ≡ new_swap asked.0 asked.1)
        (λ asked. HasMadeStep system answers (new_swap asked.0 asked.1) a.taken old g new)
        (subst (λ (x : List (ℕ × To) × ℕ). IsSomeAnd (slice_get x.0 x.1) (λ asked. f.swap ≡ new_swap asked.0 asked.1)) (λ j. (sym plan j, o.2 j)) o.3)
        (λ asked is_new. subst (λ (x : SwapSeen × ℕ). HasMadeStep system answers x.0 x.1 old g new) (λ j. (is_new j, o.2 j)) made)))
        has.origin)

    takes_so : (takers : List ℕ) → takers ≡ has.got_on.takers → (takers ≡ []) ⊎ (takers ≡ place ∷ [])
    takes_so takers is =
        ⊎_elim (λ (o : (has.got_on.takers ≡ []) × (slice_get a.flights place ≡ Some (Some f))). inl (is ∙ o.0))
        (λ (o : (has.got_on.takers ≡ place ∷ []) × (slice_get a.flights place ≡ Some None) × (f.item ≡ a.taken)
        × IsSomeAnd (slice_get v.plan f.item) (λ asked. f.swap ≡ new_swap asked.0 asked.1)). inr (is ∙ o.0)) has.origin

    module _ (after : RollSeen) (second : HasGotOn system v after) (none : second.takers ≡ []) where
      same_takers : (then system a v after has.got_on second).takers ≡ has.got_on.takers
      same_takers =
          then_takers system a v after has.got_on second ∙ (λ j. has.got_on.takers ++ none j) ∙ append-nil has.got_on.takers

    module _ (cause : Cause) (step : HasStepped system (Again cause) f.swap t old new) where
      abbrev waiting : Flight
      waiting = record { swap = t; item = f.item; cause = Some cause }

      abbrev after : RollSeen
      after = with_flight place waiting new v

      turned_after : HasTurned system place a after
      turned_after =
          let second = got_waiting system v place has.rolls f t old new has.at at_old cause step in
          let got = then system a v after has.got_on second in
          let takers : got.takers ≡ has.got_on.takers =
          same_takers after second (taken_by_none system v place has.rolls f t old new has.at at_old cause step) in
          record {
            rolls = rolls_waiting system v place has.rolls f t old new has.at at_old cause step;
            got_on = got;
            fewer = let left = has.left in omega (arith, left);
            flights = λ other differs. slice_get-set_else v.flights place other (Some waiting) differs ∙ has.flights other differs;
            passes = λ other differs. slice_get-set_else v.passes place other new differs ∙ ap (λ ps. slice_get ps other) has.passes;
            takes = takes_so got.takers takers;
            turn = λ answers agrees h was g now at_h at_was at_g at_now.
                subst (λ (x : Option Flight × SystemPass). HasHadTurn system after answers (items_of place a.taken got.takers) h was x.0 x.1)
                (λ j. (set_here v.flights place place (Some waiting) g refl at_g j, set_here v.passes place place new now refl at_now j))
                (had_turn after answers (Some waiting) new got.takers refl takers (refl, step) h was at_h at_was);
            idle = λ same at_none. absurd (let e = set_here v.flights place place (Some waiting) None refl at_none in cc);
          }

      pub turned_waiting : HasTurned system place a (record b { flights = set b.flights place (Some waiting); passes = set b.passes place new })
      turned_waiting =
          subst (λ (r : RollSeen). HasTurned system place a r)
          (sym ((λ j. record (has.now j) { flights = set (has.now j).flights place (Some waiting); passes = set (has.now j).passes place new })
          ∙ (λ j. record v { flights = set-set v.flights place None (Some waiting) j; passes = set v.passes place new }))) turned_after

    module _ (answer : Result Swapped NoSwap) (step : HasStepped system (last_step answer) f.swap t old new) where
      abbrev ended : RollSeen
      ended = with_answer place f.item answer new v

      made : (answers : List (Result Swapped NoSwap)) → Agrees ended answers → HasMadeStep system answers f.swap f.item old None new
      made answers agrees =
          subst (λ (o : Option (Result Swapped NoSwap)). IsSomeAnd o (λ answer. (t : SwapSeen) × HasStepped system (last_step answer) f.swap t old new))
          (sym (its_answer system v place has.rolls f t old new has.at at_old answer step answers agrees)) (t, step)

      turned_ended : HasTurned system place a ended
      turned_ended =
          let second = got_answer system v place has.rolls f t old new has.at at_old answer step in
          let got = then system a v ended has.got_on second in
          let takers : got.takers ≡ has.got_on.takers =
          same_takers ended second (taken_by_nobody system v place has.rolls f t old new has.at at_old answer step) in
          record {
            rolls = rolls_answered system v place has.rolls f t old new has.at at_old answer step;
            got_on = got;
            fewer = let left = has.left in omega (arith, left);
            flights = λ other differs. slice_get-set_else v.flights place other None differs ∙ has.flights other differs;
            passes = λ other differs. slice_get-set_else v.passes place other new differs ∙ ap (λ ps. slice_get ps other) has.passes;
            takes = takes_so got.takers takers;
            turn = λ answers agrees h was g now at_h at_was at_g at_now.
                subst (λ (x : Option Flight × SystemPass). HasHadTurn system ended answers (items_of place a.taken got.takers) h was x.0 x.1)
                (λ j. (set_here v.flights place place None g refl at_g j, set_here v.passes place place new now refl at_now j))
                (had_turn ended answers None new got.takers refl takers (made answers agrees) h was at_h at_was);
            idle = λ same. absurd (let left = has.left in let some = some_left system v place has.rolls f has.at in omega (arith, left, some, same));
          }

      pub turned_answered : HasTurned system place a (record b { left = b.left - 1; passes = set b.passes place new; answers = set b.answers f.item answer })
      turned_answered =
          subst (λ (r : RollSeen). HasTurned system place a r)
          (sym (λ j. record (has.now j) { left = (has.now j).left - 1; passes = set (has.now j).passes place new; answers = set (has.now j).answers f.item answer }))
          turned_ended

  -- what a turn needs and leaves, by the flight that was taken out and the pass that stands there
  module _ (f : Flight) (b : RollSeen) (hand : IsAtHand place a f b) (old : SystemPass) (less : place < length a.passes) (value : old ≡ get_or b.passes place old) where
    v : RollSeen
    v = (in_flight f b hand).0

    has : HasInFlight system place a f b v
    unfolding v in_flight
    has = (in_flight f b hand).1

    stands : slice_get b.passes place ≡ Some old
    stands =
        let same : b.passes ≡ a.passes = ap (λ (r : RollSeen). r.passes) has.now ∙ has.passes in
        slice_get_read b.passes (length b.passes) place old refl (let many = ap (λ (ps : List SystemPass). length ps) same in omega (arith, less, many)) value

    pub going_now : IsGoing system f.swap old
    going_now = (has.rolls.lanes place (Some f) old has.at (at_old f b v has old old stands f.swap)).0

    pub fits_now : (f.item < length b.answers) × (0 < b.left)
    fits_now = fits f b v has old old stands f.swap

    pub waits_now : (t : SwapSeen) (new : SystemPass) (cause : Cause) → HasStepped system (Again cause) f.swap t old new
        → HasTurned system place a (record b { flights = set b.flights place (Some (record { swap = t; item = f.item; cause = Some cause })); passes = set b.passes place new })
    waits_now t new cause step = turned_waiting f b v has old new stands t cause step

    pub ends_now : (t : SwapSeen) (new : SystemPass) (answer : Result Swapped NoSwap) → HasStepped system (last_step answer) f.swap t old new
        → HasTurned system place a (record b { left = b.left - 1; passes = set b.passes place new; answers = set b.answers f.item answer })
    ends_now t new answer step = turned_answered f b v has old new stands t answer step

  -- nothing is left for it to do
  pub turned_idle : slice_get a.flights place ≡ Some None → length a.plan ≤ a.taken → HasTurned system place a a
  turned_idle at all = record {
    rolls = is;
    got_on = stays system a;
    fewer = omega arith;
    flights = λ other differs. refl;
    passes = λ other differs. refl;
    takes = inl (stays_takers system a);
    turn = λ answers agrees f old g new at_f at_old at_g at_new.
        subst (λ (x : List ℕ × Option Flight). HasHadTurn system a answers (items_of place a.taken x.0) x.1 old g new)
        (λ j. (sym (stays_takers system a) j, same_Some None f (sym at ∙ at_f) j))
        (same_Some g None (sym at_g ∙ at), same_Some new old (sym at_new ∙ at_old), all_taken);
    idle = λ same free. all_taken;
  }
    where
      all_taken : a.taken ≡ length a.plan
      all_taken = let taken = is.taken in omega (arith, taken, all)

-- a roll whose items are all finished
pub rolled_now : (system : SystemSeen) (b : RollSeen) → IsRolling system b → b.left ≡ 0 → HasRolled system b b.answers b.passes
rolled_now system b is none = record {
  takers = [];
  taken = let left = is.left in let taken = is.taken in omega (arith, left, taken, none);
  theirs = λ i taker at. absurd (cc);
  passes_are = refl;
  answers_are = is.answers;
  kept = λ item less free. refl;
  rest = λ place pass at_pass.
      let f = there b.flights place (let less = slice_get_within b.passes place pass at_pass in let many = is.flights in omega (arith, less, many)) in
      resting f.0 pass (idles place f.0 f.1) (is.lanes place f.0 pass f.1 at_pass);
  each = λ place f old new at_f at_old at_new.
      idle f old new (idles place f at_f)
      (same_Some new old (sym at_new ∙ at_old));
}
  where
    idles : (place : ℕ) (f : Option Flight) → slice_get b.flights place ≡ Some f → is_some f ≡ false
    idles place f at_f =
        count_by_zero is_some b.flights (let left = is.left in let taken = is.taken in omega (arith, left, taken, none)) place f at_f

    resting : (f : Option Flight) (pass : SystemPass) → is_some f ≡ false → IsLane system b f pass → IsPassHere system pass × IsAtRest pass.view
    resting None pass free lane = (lane.0, lane.1)
    resting (Some f) pass free lane = absurd (cc)

    idle : (f : Option Flight) (old new : SystemPass) → is_some f ≡ false → new ≡ old → Carries system b.plan b.answers [] f old None new
    idle None old new free same = same
    idle (Some f) old new free same = absurd (cc)

-- a roll that has not begun
pub new_rolls : (system : SystemSeen) (plan : List (ℕ × To)) (passes : List SystemPass) → 0 < length passes
    → EachPlace (λ i. MayRoll system) passes → EachPlace (λ i asked. asked.0 < length system.plan.objects) plan
    → EachPlace (λ i asked. MayLead system.plan asked.0 asked.1) plan → length system.sys.shapes ≡ length system.plan.objects
    → IsRolling system (new_roll plan passes)
new_rolls system plan passes some each objects leads shaped = record {
  some = some;
  flights = length-replicate (length passes) None;
  answers = length-replicate (length plan) unanswered;
  taken = omega arith;
  left =
      let none = count_by_none is_some (replicate (length passes) None) (EachPlace-replicate (λ i (f : Option Flight). is_some f ≡ false) (length passes) None (λ i. refl)) in
      omega (arith, none);
  objects = λ i asked at. let less = objects i asked at in omega (arith, less, shaped);
  leads = leads;
  lanes = λ place f pass at_f at_pass.
      let may = each place pass at_pass in
      subst (λ (g : Option Flight). IsLane system (new_roll plan passes) g pass) (sym (idle place f at_f))
      (may.here, may.rests);
  apart = λ p q f g at_f at_g same. absurd (let none = idle p (Some f) at_f in cc);
}
  where
    unanswered : Result Swapped NoSwap
    unanswered = Err Memory

    idle : (place : ℕ) (f : Option Flight) → slice_get (replicate (length passes) None) place ≡ Some f → f ≡ None
    idle place f at_f = EachPlace-replicate (λ i (g : Option Flight). g ≡ None) (length passes) None (λ i. refl) place f at_f
