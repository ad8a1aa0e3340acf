use Rattle.std.proofs.Common.{rules, ◌≡◌, ◌∷◌}
use Rattle.std.specs.Prelude.{Some, slice_get}
use Rattle.k42_stamp.specs.Orders.{IsBefore}
use Rattle.k42_stamp.proofs.NextEntries.{begins, next_alone, next_stays, next_later}
use Rattle.k42_stamp.proofs.rests.+next_entry.Goals as goal

pub returns-in-Some-None-clause-next : goal.returns-in-Some-None-clause-next
returns-in-Some-None-clause-next g t c =
    let entry = c.in-Some-None.entry.now in
    let all : c.args.rests.now ≡ c.in_ok-rest.rest.now ∷ c.in_ok-rest.others.now = search rules in
    let at : slice_get c.in_ok-rest.rest.now 0 ≡ Some entry = search rules in
    let list = begins c.in_ok-rest.rest.now entry at in
    rw (all, list.1) (next_alone entry list.0 c.in_ok-rest.others.now (search rules))

pub returns-then-is_before-clause-next : goal.returns-then-is_before-clause-next
returns-then-is_before-clause-next g t c =
    let entry = c.in-Some-Some.entry.now in
    let all : c.args.rests.now ≡ c.in_ok-rest.rest.now ∷ c.in_ok-rest.others.now = search rules in
    let at : slice_get c.in_ok-rest.rest.now 0 ≡ Some entry = search rules in
    let list = begins c.in_ok-rest.rest.now entry at in
    rw (all, list.1) (next_later entry c.in-Some-Some.other.now list.0 c.in_ok-rest.others.now c.in-Some-Some.place (search rules) (search rules))

pub returns-else-is_before-clause-next : goal.returns-else-is_before-clause-next
returns-else-is_before-clause-next g t c =
    let entry = c.in-Some-Some.entry.now in
    let all : c.args.rests.now ≡ c.in_ok-rest.rest.now ∷ c.in_ok-rest.others.now = search rules in
    let at : slice_get c.in_ok-rest.rest.now 0 ≡ Some entry = search rules in
    let list = begins c.in_ok-rest.rest.now entry at in
    let late : IsBefore c.in-Some-Some.other.now entry → ⊥ = λ before. let is = c.is_before.ensures.1 before in let no = c.if-is_before.false in cc in
    rw (all, list.1) (next_stays entry c.in-Some-Some.other.now list.0 c.in_ok-rest.others.now c.in-Some-Some.place (search rules) late)
