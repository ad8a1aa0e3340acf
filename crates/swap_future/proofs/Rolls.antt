-- A roll that has got on, and gets on further.
use Rattle.std.proofs.Common.{◌≡◌, ℕ, ◌+◌, ◌<◌, List, [], ◌++◌, Option, Some, None, Result, length, length-append, refl, sym, ap, subst, ◌∙◌, arith}
use Rattle.std.specs.Prelude.{slice_get}
use Rattle.std.proofs.lemmas.Option.{same_Some, slice_get_within}
use Rattle.co_system.specs.Systems.{SystemSeen, SystemPass}
use Rattle.k42_runtime.specs.declared.swaps.NoSwap.{NoSwap}
use Rattle.k42_runtime.specs.declared.swaps.Swapped.{Swapped}
use Rattle.k42_kinds.specs.declared.entry.To.{To}
use Rattle.swap_future.specs.Rolling.{RollSeen, HasGotOn, HasRolled, Agrees, IsNotFlown, Carries, GetsOn, items_of}
use Rattle.swap_future.specs.declared.rolling.Flight.{Flight}
use Rattle.swap_future.proofs.Places.{there, each_append, items_of-append}
use Rattle.swap_future.proofs.Waited.{not_moved, carries_then}

module _ (system : SystemSeen) where
  -- one place, seen twice
  pub same_lane : (answers : List (Result Swapped NoSwap)) (f g : Option Flight) (old new : SystemPass) (flights : List (Option Flight)) (passes : List SystemPass) (place : ℕ)
      → slice_get flights place ≡ Some f → slice_get passes place ≡ Some old → slice_get flights place ≡ Some g → slice_get passes place ≡ Some new
      → GetsOn system answers f old g new
  same_lane answers f g old new flights passes place at_f at_old at_g at_new =
      subst (λ (x : Option Flight × SystemPass). GetsOn system answers f old x.0 x.1)
      (λ j. (same_Some f g (sym at_f ∙ at_g) j, same_Some old new (sym at_old ∙ at_new) j)) (not_moved system answers f old)

  pub stays : (a : RollSeen) → HasGotOn system a a
  stays a = record {
    plan = refl;
    takers = [];
    taken = omega arith;
    theirs = λ i taker at. absurd (cc);
    passes = refl;
    flights = refl;
    answers = refl;
    kept = λ item less free. refl;
    flown = λ place g at less. (g, at, refl);
    each = λ answers agrees place f old g new at_f at_old at_g at_new.
        same_lane answers f g old new a.flights a.passes place at_f at_old at_g at_new;
  }

  pub stays_takers : (a : RollSeen) → (stays a).takers ≡ []
  unfolding stays
  stays_takers a = refl

  module _ (a b : RollSeen) (first : HasGotOn system a b) where
    -- an item that nobody has in flight is not taken up again
    not_flown : (item : ℕ) → item < a.taken → IsNotFlown a.flights item → IsNotFlown b.flights item
    not_flown item less free place g at same =
        let f = first.flown place g at (omega (arith, same, less)) in free place f.0 f.1 (f.2 ∙ same)

    longer : (item : ℕ) → item < a.taken → item < b.taken
    longer item less = let taken = first.taken in omega (arith, taken)

    -- answers that agree later agree by now
    pub agrees_before : (answers : List (Result Swapped NoSwap)) → Agrees b answers → Agrees a answers
    agrees_before answers agrees item less free =
        agrees item (longer item less) (not_flown item less free) ∙ first.kept item less free

    mid_lane : (place : ℕ) (f : Option Flight) (old : SystemPass) → slice_get a.flights place ≡ Some f → slice_get a.passes place ≡ Some old
        → ((g : Option Flight) × (slice_get b.flights place ≡ Some g)) × ((mid : SystemPass) × (slice_get b.passes place ≡ Some mid))
    mid_lane place f old at_f at_old = (
      there b.flights place (let less = slice_get_within a.flights place f at_f in let many = first.flights in omega (arith, less, many)),
      there b.passes place (let less = slice_get_within a.passes place old at_old in let many = first.passes in omega (arith, less, many)),
    )

    -- what a pass did by now, and what it does later with the items that these takers leave to it
    carried : (answers : List (Result Swapped NoSwap)) (more : List ℕ) (place : ℕ) (f g h : Option Flight) (old mid new : SystemPass) → Agrees b answers
        → slice_get a.flights place ≡ Some f → slice_get a.passes place ≡ Some old → slice_get b.flights place ≡ Some g → slice_get b.passes place ≡ Some mid
        → Carries system b.plan answers (items_of place b.taken more) g mid h new
        → Carries system a.plan answers (items_of place a.taken (first.takers ++ more)) f old h new
    carried answers more place f g h old mid new agrees at_f at_old at_g at_mid is =
        subst (λ items. Carries system a.plan answers items f old h new) (sym (items_of-append place a.taken first.takers more))
        (carries_then system answers a.plan (items_of place a.taken first.takers) (items_of place (a.taken + length first.takers) more) f g h old mid new
        (first.each answers agrees place f old g mid at_f at_old at_g at_mid)
        (subst (λ (x : List (ℕ × To) × ℕ). Carries system x.0 answers (items_of place x.1 more) g mid h new) (λ j. (first.plan j, first.taken j)) is))

  pub then : (a b c : RollSeen) → HasGotOn system a b → HasGotOn system b c → HasGotOn system a c
  then a b c first second = record {
    plan = second.plan ∙ first.plan;
    takers = first.takers ++ second.takers;
    taken =
        let one = first.taken in let two = second.taken in
        omega (arith, one, two, length-append first.takers second.takers);
    theirs =
        each_append (λ taker. taker < length a.passes) first.takers second.takers first.theirs
        (λ i taker at. let less = second.theirs i taker at in let many = first.passes in omega (arith, less, many));
    passes = second.passes ∙ first.passes;
    flights = second.flights ∙ first.flights;
    answers = second.answers ∙ first.answers;
    kept = λ item less free.
        second.kept item (longer a b first item less) (not_flown a b first item less free) ∙ first.kept item less free;
    flown = λ place h at less.
        let g = second.flown place h at (longer a b first h.item less) in
        let f = first.flown place g.0 g.1 (let same = g.2 in omega (arith, less, same)) in
        (f.0, f.1, f.2 ∙ g.2);
    each = λ answers agrees place f old h new at_f at_old at_h at_new.
        let mids = mid_lane a b first place f old at_f at_old in
        carried a b first answers second.takers place f mids.0.0 h old mids.1.0 new (agrees_before b c second answers agrees) at_f at_old mids.0.1 mids.1.1
        (second.each answers agrees place mids.0.0 mids.1.0 h new mids.0.1 mids.1.1 at_h at_new);
  }

  pub then_takers : (a b c : RollSeen) (first : HasGotOn system a b) (second : HasGotOn system b c) → (then a b c first second).takers ≡ first.takers ++ second.takers
  unfolding then
  then_takers a b c first second = refl

  -- the end of a roll that has got on is its end from before
  pub rolled_before : (a b : RollSeen) → HasGotOn system a b → (answers : List (Result Swapped NoSwap)) (passes : List SystemPass) → HasRolled system b answers passes
      → HasRolled system a answers passes
  rolled_before a b first answers passes is = record {
    takers = first.takers ++ is.takers;
    taken =
        let one = first.taken in let two = is.taken in let plan = ap (λ (p : List (ℕ × To)). length p) first.plan in
        omega (arith, one, two, plan, length-append first.takers is.takers);
    theirs =
        each_append (λ taker. taker < length a.passes) first.takers is.takers first.theirs
        (λ i taker at. let less = is.theirs i taker at in let many = first.passes in omega (arith, less, many));
    passes_are = is.passes_are ∙ first.passes;
    answers_are = is.answers_are ∙ ap (λ (p : List (ℕ × To)). length p) first.plan;
    kept = agrees_before a b first answers is.kept;
    rest = is.rest;
    each = λ place f old new at_f at_old at_new.
        let mids = mid_lane a b first place f old at_f at_old in
        carried a b first answers is.takers place f mids.0.0 None old mids.1.0 new is.kept at_f at_old mids.0.1 mids.1.1
        (is.each place mids.0.0 mids.1.0 new mids.0.1 mids.1.1 at_new);
  }
