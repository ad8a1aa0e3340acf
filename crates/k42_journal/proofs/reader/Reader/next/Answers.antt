use Rattle.std.proofs.Common.{rules, ◌≡◌, None, refl, arith}
use Rattle.k42_stamp.proofs.NextEntries.{one_fewer}
use Rattle.k42_journal.specs.Queues.{IsTaken}
use Rattle.k42_journal.proofs.Merges.{none_merged, taken_merged, taken_left}
use Rattle.k42_journal.proofs.reader.Reader.next.Goals as goal

pub returns-in_err-entry-clause-next : goal.returns-in_err-entry-clause-next
returns-in_err-entry-clause-next g c =
    let none : c.take_next.result ≡ None = search rules in
    let empty = c.take_next.ensures.none none in
    rw (← c.self.view_is, none_merged c.self.inside.number c.self.inside.unread.items empty.0) (search rules)

pub returns-in_err-entry-clause-rest : goal.returns-in_err-entry-clause-rest
returns-in_err-entry-clause-rest g c =
    let none : c.take_next.result ≡ None = search rules in
    let empty = c.take_next.ensures.none none in
    let nothing = none_merged c.self.inside.number c.self.inside.unread.items empty.0 in
    rw (← c.self.view_is, empty.1, nothing) refl

pub overflow_add-self : goal.overflow_add-self
overflow_add-self g c =
    let taken : IsTaken c.self.inside.unread.items c.take_next.new.unread.items c.in_ok-entry.entry = search rules in
    let fewer = one_fewer c.self.inside.unread.items taken.place c.in_ok-entry.entry taken.next.others taken.next.there in
    omega (arith, c.self.invariant.0.fits, fewer)

pub invariant_of-self-2 : goal.invariant_of-self-2
invariant_of-self-2 g c =
    let taken : IsTaken c.self.inside.unread.items c.take_next.new.unread.items c.in_ok-entry.entry = search rules in
    (taken_left c.self.inside.number c.self.inside.unread.items c.take_next.new.unread.items c.in_ok-entry.entry c.self.invariant.0 taken, c.take_next.ensures.queue)

pub returns-clause-next : goal.returns-clause-next
returns-clause-next g c =
    let taken : IsTaken c.self.inside.unread.items c.take_next.new.unread.items c.in_ok-entry.entry = search rules in
    rw (← c.self.view_is, taken_merged c.self.inside.number c.self.inside.unread.items c.take_next.new.unread.items c.in_ok-entry.entry c.self.invariant.0.are taken) refl

pub returns-clause-rest : goal.returns-clause-rest
returns-clause-rest g c =
    let taken : IsTaken c.self.inside.unread.items c.take_next.new.unread.items c.in_ok-entry.entry = search rules in
    rw (← c.self.view_is, taken_merged c.self.inside.number c.self.inside.unread.items c.take_next.new.unread.items c.in_ok-entry.entry c.self.invariant.0.are taken) refl
