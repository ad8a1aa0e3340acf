use Rattle.std.proofs.Common.{◌≡◌, ◌∙◌, List, length, refl, sym, arith}
use Rattle.std.specs.Prelude.{Some, slice_get}
use Rattle.std.proofs.lemmas.Option.{slice_get_read, same_Some}
use Rattle.k42_places.proofs.Written.{slice_get-set_here}
use Rattle.record_text.specs.Told.{generations_by}
use Rattle.record_text.specs.Referee.Courses.{IsWalked}
use Rattle.record_text.specs.Referee.Pasts.{AreWalked}
use Rattle.record_text.specs.declared.record.RecordLine.{RecordLine}
use Rattle.record_text.proofs.Referee.Crews.{walked_set, next_of}
use Rattle.record_text.proofs.judging.follows.Goals.{After-walk}
use Rattle.record_text.proofs.judging.follows.Goals as goal

-- the worker's course has gone on to its next line
walked_on : (c : After-walk) (before : List RecordLine) → AreWalked c.args.script.now before c.args.courses.now.items → IsWalked c.lines_of-worker.result.now.items (generations_by c.args.line.now.worker before) c.walk.new.self
walked_on c before walked =
    let worker = c.args.line.now.worker in
    let lines = c.lines_of-worker.result.now in
    let courses = c.args.courses.now in
    let course = c.index_mut-course.result.now in
    let there : slice_get courses.items worker ≡ Some course = slice_get_read courses.items (length courses.items) worker course refl (omega (arith, c.requires.worker, c.requires.size, courses.ok.0)) c.index_mut-course.ensures.value in
    rw c.as_slice-items.ensures at (c.walk.ensures.kept (generations_by worker before) (rw c.as_slice-items.ensures (walked.each worker lines course c.lines_of-worker.ensures there)))

pub returns-clause-kept : goal.returns-clause-kept
returns-clause-kept c = λ before walked.
    let lines = c.lines_of-worker.result.now in
    walked_set c.args.script.now before c.args.courses.now.items c.args.line.now.worker c.walk.new.self walked (λ own same.
    let one : lines ≡ own = same_Some lines own (sym c.lines_of-worker.ensures ∙ same) in
    rw (← one) (walked_on (goal.at.returns-clause-kept c).After-walk before walked))

pub returns-clause-next : goal.returns-clause-next
returns-clause-next c = λ before walked.
    let worker = c.args.line.now.worker in
    let new = walked_on (goal.at.returns-clause-next c).After-walk before walked in
    next_of c.args.script.now before c.args.line.now c.lines_of-worker.result.now c.lines_of-worker.ensures c.is_next.result
    (rw c.as_slice-items.ensures at (c.is_next.ensures.next (generations_by worker before) (rw c.as_slice-items.ensures new) c.walk.ensures.at_line))

pub returns-clause-stands : goal.returns-clause-stands
returns-clause-stands c = λ yes.
    let courses = c.args.courses.now in
    record {
      lines = c.lines_of-worker.result.now;
      course = c.walk.new.self;
      found = c.lines_of-worker.ensures;
      there = slice_get-set_here courses.items c.args.line.now.worker c.walk.new.self (omega (arith, c.requires.worker, c.requires.size, courses.ok.0));
      standing = rw c.as_slice-items.ensures at (c.is_next.ensures.here yes);
    }
