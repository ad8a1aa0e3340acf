use Rattle.std.proofs.Common.{◌≡◌, List, Some, rules, refl, sym, ap, ◌∙◌, subst}
use Rattle.std.specs.Arc.{arc_value}
use Rattle.std.specs.List.{slice_get}
use Rattle.std.specs.Option.{IsSomeAnd}
use Rattle.k42_crews.specs.Ready.{IsFree, AreFree}
use Rattle.co_system.specs.Systems.{SystemPass}
use Rattle.k42_handles.specs.Gathering.{NoneIsLost}
use Rattle.k42_handles.specs.Parking.{IsAt}
use Rattle.k42_handles.proofs.Gathered.{one_back, one_taken}
use Rattle.k42_handles.proofs.GivenBack.{one_free, others_free, removed_at}
use Rattle.k42_handles.proofs.parking.take_up.Goals as goal

pub put_back-requires-in-Ok-clause-fits : goal.put_back-requires-in-Ok-clause-fits
put_back-requires-in-Ok-clause-fits c =
    let key = c.deref-in-Ok.result.now.desk.key in
    let free : AreFree key c.in-Some.passes.items = search rules in
    subst (λ (xs : List SystemPass). AreFree key xs) (sym c.remove.ensures.items) (others_free key c.in-Some-place_at.place c.in-Some.passes.items free)

pub invariant_of-result : goal.invariant_of-result
invariant_of-result c =
    let system = (arc_value c.args.parks.home).system in
    let free : AreFree system c.in-Some.passes.items = search rules in
    let at : IsAt c.args.parks.caller c.in-Some.passes.items c.in-Some-place_at.place = search rules in
    let there = removed_at c.args.parks.caller c.in-Some.passes.items c.in-Some-place_at.place c.remove.result at c.remove.ensures.value in
    let boxed : c.in-Ok.pass.value ≡ c.remove.result = search rules in
    record {
      free = subst (λ (p : SystemPass). IsFree system p) (sym boxed) (one_free system c.in-Some-place_at.place c.in-Some.passes.items c.remove.result free there.0);
    }

pub add-requires-clause-others : goal.add-requires-clause-others
add-requires-clause-others c =
    let system = c.deref-in-Err.result.now.system in
    let free : AreFree system c.in-Some.passes.items = search rules in
    subst (λ (xs : List SystemPass). AreFree system xs) (sym c.remove.ensures.items) (others_free system c.in-Some-place_at.place c.in-Some.passes.items free)

pub add-requires-clause-one : goal.add-requires-clause-one
add-requires-clause-one c =
    let system = c.deref-in-Err.result.now.system in
    let free : AreFree system c.in-Some.passes.items = search rules in
    let at : IsAt c.args.parks.caller c.in-Some.passes.items c.in-Some-place_at.place = search rules in
    let there = removed_at c.args.parks.caller c.in-Some.passes.items c.in-Some-place_at.place c.remove.result at c.remove.ensures.value in
    let back : c.in-Err.back.value ≡ c.remove.result = search rules in
    subst (λ (p : SystemPass). IsFree system p) (sym back) (one_free system c.in-Some-place_at.place c.in-Some.passes.items c.remove.result free there.0)

pub returns-in-Ok : goal.returns-in-Ok
returns-in-Ok c =
    let at : IsAt c.args.parks.caller c.in-Some.passes.items c.in-Some-place_at.place = search rules in
    let there = removed_at c.args.parks.caller c.in-Some.passes.items c.in-Some-place_at.place c.remove.result at c.remove.ensures.value in
    let boxed : c.in-Ok.pass.value ≡ c.remove.result = search rules in
    (_, refl, refl, ap (λ (p : SystemPass). p.view.number) boxed ∙ there.1)

pub put_back-requires-in-Ok-clause-follows : goal.put_back-requires-in-Ok-clause-follows
put_back-requires-in-Ok-clause-follows c =
    let taken : c.in-Some.loan.taken ≡ Some c.in-Some.passes = search rules in
    let at : IsAt c.args.parks.caller c.in-Some.passes.items c.in-Some-place_at.place = search rules in
    let there = removed_at c.args.parks.caller c.in-Some.passes.items c.in-Some-place_at.place c.remove.result at c.remove.ensures.value in
    let key = c.deref-in-Ok.result.now.desk.key in
    let lost = one_taken key c.in-Some.passes.items c.in-Some-place_at.place c.remove.result c.remove.new.self.items there.0 c.remove.ensures.items in
    subst (λ t. IsSomeAnd t (λ taken. NoneIsLost key taken.items c.remove.new.self.items)) (sym taken) lost

pub put_back-requires-in-Err-clause-follows : goal.put_back-requires-in-Err-clause-follows
put_back-requires-in-Err-clause-follows c =
    let taken : c.in-Some.loan.taken ≡ Some c.in-Some.passes = search rules in
    let at : IsAt c.args.parks.caller c.in-Some.passes.items c.in-Some-place_at.place = search rules in
    let there = removed_at c.args.parks.caller c.in-Some.passes.items c.in-Some-place_at.place c.remove.result at c.remove.ensures.value in
    let back : c.in-Err.back.value ≡ c.remove.result = search rules in
    let stood = subst (λ (p : SystemPass). slice_get c.in-Some.passes.items c.in-Some-place_at.place ≡ Some p) (sym back) there.0 in
    let key = c.deref-in-Err-2.result.now.desk.key in
    let lost = one_back key c.in-Some.passes.items c.in-Some-place_at.place c.in-Err.back.value c.remove.new.self.items c.add.new.passes.items stood c.remove.ensures.items c.add.ensures.added in
    subst (λ t. IsSomeAnd t (λ taken. NoneIsLost key taken.items c.add.new.passes.items)) (sym taken) lost
