use Rattle.std.proofs.Common.{rules, refl, arith}
use Rattle.k42_journal.specs.Queues.{front_of}
use Rattle.k42_journal.proofs.Queueing.{none_left, within, parts, one_taken, queue_after}
use Rattle.k42_journal.proofs.Shifting.{no_last, ends_in}
use Rattle.k42_journal.proofs.queue.take_next.Goals as goal

pub returns-in_err-standing-clause-none : goal.returns-in_err-standing-clause-none
returns-in_err-standing-clause-none g c = λ none.
    let queue = c.args.queue.now.items in
    (none_left c.args.unread.now.items queue c.requires.queue (no_last c.deref.result.now queue c.deref.ensures.value c.in_err-standing.ensures.value), refl)

pub index_mut-rest-requires : goal.index_mut-rest-requires
index_mut-rest-requires g c =
    let queue = c.args.queue.now.items in
    let last = c.in_ok-standing.standing.now in
    let cut = ends_in c.deref.result.now queue last c.deref.ensures.value c.in_ok-standing.ensures.value in
    omega (arith, within c.args.unread.now.items queue (front_of queue) last c.requires.lists c.requires.queue cut, c.args.unread.now.ok.0)

pub follow_last-requires-clause-ordered : goal.follow_last-requires-clause-ordered
follow_last-requires-clause-ordered g c =
    let queue = c.args.queue.now.items in
    let last = c.in_ok-standing.standing.now in
    let cut = ends_in c.deref.result.now queue last c.deref.ensures.value c.in_ok-standing.ensures.value in
    (parts c.args.unread.now.items queue (front_of queue) last c.requires.lists c.requires.queue cut).0

pub returns-clause-none : goal.returns-clause-none
returns-clause-none g c = λ none.
    let queue = c.args.queue.now.items in
    let last = c.in_ok-standing.standing.now in
    let cut = ends_in c.deref.result.now queue last c.deref.ensures.value c.in_ok-standing.ensures.value in
    let taken = one_taken c.args.unread.now.items queue (front_of queue) last c.requires.lists c.requires.queue cut c.index_mut-rest.result.now c.next-entry.new.self
    (search rules) (search rules) c.next-entry.result (search rules) in
    let some = taken.0 in
    absurd (cc)

pub returns-clause-taken : goal.returns-clause-taken
returns-clause-taken g c =
    let queue = c.args.queue.now.items in
    let last = c.in_ok-standing.standing.now in
    let cut = ends_in c.deref.result.now queue last c.deref.ensures.value c.in_ok-standing.ensures.value in
    (one_taken c.args.unread.now.items queue (front_of queue) last c.requires.lists c.requires.queue cut c.index_mut-rest.result.now c.next-entry.new.self
    (search rules) (search rules) c.next-entry.result (search rules)).1

pub returns-clause-queue : goal.returns-clause-queue
returns-clause-queue g c =
    let queue = c.args.queue.now.items in
    let last = c.in_ok-standing.standing.now in
    let cut = ends_in c.deref.result.now queue last c.deref.ensures.value c.in_ok-standing.ensures.value in
    queue_after c.args.unread.now.items queue (front_of queue) last c.requires.lists c.requires.queue cut c.index_mut-rest.result.now c.next-entry.new.self
    (search rules) (search rules) c.follow_last.new.queue.items c.follow_last.ensures
