use Rattle.std.proofs.Common.{◌≡◌, Some, inl, rules, refl, sym, subst}
use Rattle.std.specs.Arc.{arc_value}
use Rattle.std.specs.Option.{IsSomeAnd}
use Rattle.k42_board.specs.declared.keep.Keep.TheVariants.{Sections}
use Rattle.k42_handles.specs.Closing.{AreGiven, IsAdded}
use Rattle.k42_handles.specs.Gathering.{NoneIsLost}
use Rattle.k42_handles.specs.Parking.{HaveTried}
use Rattle.k42_handles.specs.declared.seat.End.TheVariants.{Open}
use Rattle.k42_handles.proofs.Gathered.{one_came}
use Rattle.k42_handles.proofs.parking.park.Goals as goal

pub put_back-requires-2-clause-follows : goal.put_back-requires-2-clause-follows
put_back-requires-2-clause-follows c =
    let taken : c.in-Some.loan.taken ≡ Some c.in-Some.passes = search rules in
    let added = subst (λ xs. IsAdded xs c.into_inner.result c.add.new.passes.items) c.reserve.ensures.items c.add.ensures.added in
    let key = c.deref-6.result.now.desk.key in
    let lost = one_came key c.in-Some.passes.items c.into_inner.result c.add.new.passes.items c.give-told.new.passes.items added c.give-told.ensures.callers in
    subst (λ t. IsSomeAnd t (λ taken. NoneIsLost key taken.items c.give-told.new.passes.items)) (sym taken) lost

pub returns : goal.returns
returns c =
    let keeps : (arc_value c.args.rests.home).system.plan.keep ≡ Sections = search rules in
    let there : AreGiven (arc_value c.args.rests.home).system c.args.rests.pass.value c.add.new.passes.items = search rules in
    let given : HaveTried (arc_value c.args.rests.home).system c.add.new.passes.items c.give-told.new.passes.items Open c.give-told.new.end c.give-told.result = search rules in
    let caller : c.caller-caller.result ≡ c.args.rests.pass.value.view.number = search rules in
    record {
      none = λ other. absurd (other keeps);
      some = λ _. inl (record {
        passes = c.add.new.passes.items;
        there = there;
        parked = record { kept = _; seat_is = refl; home_is = refl; caller_is = caller; new = c.give-told.new.passes.items; given = given };
      });
    }
