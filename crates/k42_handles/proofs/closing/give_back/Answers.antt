use Rattle.std.proofs.Common.{◌≡◌, Some, rules, refl, sym, subst}
use Rattle.std.specs.Option.{IsSomeAnd}
use Rattle.k42_crews.specs.Ready.{AreAll}
use Rattle.k42_handles.specs.Closing.{IsAdded}
use Rattle.k42_handles.specs.Gathering.{NoneIsLost}
use Rattle.k42_handles.proofs.Gathered.{all_taken, one_came}
use Rattle.k42_handles.proofs.closing.give_back.Goals as goal

pub put_back-requires-then-are_all-clause-follows : goal.put_back-requires-then-are_all-clause-follows
put_back-requires-then-are_all-clause-follows c =
    let key = c.deref-then-are_all.result.now.desk.key in
    let taken : c.in-Some.loan.taken ≡ Some c.in-Some.passes = search rules in
    let added = subst (λ xs. IsAdded xs c.into_inner.result c.add.new.passes.items) c.reserve.ensures.items c.add.ensures.added in
    let all : AreAll key c.add.new.passes.items = search rules in
    let lost = all_taken key c.in-Some.passes.items c.into_inner.result c.add.new.passes.items added all in
    let put = subst (λ xs. NoneIsLost key c.in-Some.passes.items xs) (sym c.new-then-are_all.ensures.items) lost in
    subst (λ t. IsSomeAnd t (λ taken. NoneIsLost key taken.items c.new-then-are_all.result.items)) (sym taken) put

pub put_back-requires-2-clause-follows : goal.put_back-requires-2-clause-follows
put_back-requires-2-clause-follows c =
    let taken : c.in-Some.loan.taken ≡ Some c.in-Some.passes = search rules in
    let added = subst (λ xs. IsAdded xs c.into_inner.result c.add.new.passes.items) c.reserve.ensures.items c.add.ensures.added in
    let key = c.deref-5.result.now.desk.key in
    let lost = one_came key c.in-Some.passes.items c.into_inner.result c.add.new.passes.items c.add.new.passes.items added refl in
    subst (λ t. IsSomeAnd t (λ taken. NoneIsLost key taken.items c.add.new.passes.items)) (sym taken) lost
