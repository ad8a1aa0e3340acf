use Rattle.std.proofs.Common.{◌≡◌, false, inl, inr, rules, refl}
use Rattle.std.specs.Arc.{arc_value}
use Rattle.std.specs.Prelude.{IfSome, is_none}
use Rattle.k42_crews.specs.Ready.{AreFree}
use Rattle.k42_handles.specs.Parking.{HaveTried, IsAt, is_section}
use Rattle.k42_handles.proofs.GivenBack.{place_found, tried_fresh}
use Rattle.k42_handles.proofs.parking.try_again.Goals as goal

pub returns-then-is_none : goal.returns-then-is_none
returns-then-is_none c =
    let fresh : is_section c.args.parks.section.value ≡ false = search rules in
    tried_fresh c.args.parks _ _ fresh (inr (inr (refl, refl)))

pub returns : goal.returns
returns c =
    let system = (arc_value c.args.parks.home).system in
    let fresh : is_section c.args.parks.section.value ≡ false = search rules in
    let free : AreFree system c.in-Some.passes.items = search rules in
    let some : is_none c.place_at.result ≡ false = search rules in
    let at : IfSome c.place_at.result (IsAt c.args.parks.caller c.in-Some.passes.items) = search rules in
    let there = place_found c.args.parks.caller c.in-Some.passes.items c.place_at.result some at in
    let given : HaveTried system c.in-Some.passes.items c.give-told.new.passes.items c.args.parks.section.value c.give-told.new.end c.give-told.result = search rules in
    tried_fresh c.args.parks _ _ fresh (inl (record {
      passes = c.in-Some.passes.items;
      free = free;
      place = there.0;
      at = there.1;
      parked = record { kept = _; seat_is = refl; home_is = refl; caller_is = refl; new = c.give-told.new.passes.items; given = given };
    }))
