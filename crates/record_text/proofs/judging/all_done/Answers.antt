use Rattle.std.proofs.Common.{◌≡◌, ◌∙◌, List, length, refl, sym, arith}
use Rattle.std.specs.Prelude.{Some, slice_get}
use Rattle.std.proofs.lemmas.Option.{slice_get_read, same_Some}
use Rattle.record_text.specs.Told.{generations_by}
use Rattle.record_text.specs.Referee.Courses.{IsWalked}
use Rattle.record_text.specs.Referee.Pasts.{AreWalked}
use Rattle.record_text.specs.declared.record.RecordLine.{RecordLine}
use Rattle.record_text.proofs.Referee.Crews.{walked_set, done_here, here_done, done_more, done_all}
use Rattle.record_text.proofs.judging.all_done.Goals.{After-as_slice}
use Rattle.record_text.proofs.judging.all_done.Goals as goal

-- the course of the worker whose turn it is has passed as many lines as the record says
walked_of : (c : After-as_slice) (lines : List RecordLine) → AreWalked c.args.script.now lines c.args.courses.now.items → IsWalked c.as_slice.result.now (generations_by c.loop-worker.worker lines) c.index_mut-course.result.now
walked_of c lines walked =
    let worker = c.loop-worker.worker in
    let courses = c.loop-worker.courses in
    let course = c.index_mut-course.result.now in
    let there : slice_get courses.items worker ≡ Some course = slice_get_read courses.items (length courses.items) worker course refl (omega (arith, c.loop-worker-test.true, c.loop-worker.invariant.size, courses.ok.0, c.len-worker-end.ensures)) c.index_mut-course.ensures.value in
    rw c.as_slice.ensures ((c.loop-worker.invariant.walked lines walked).each worker c.lines_of-lines.result.now course c.lines_of-lines.ensures there)

pub returns-then-not-is_done : goal.returns-then-not-is_done
returns-then-not-is_done c = λ lines walked.
    let worker = c.loop-worker.worker in
    let done = c.is_done.ensures.done (generations_by worker lines) (walked_of (goal.at.returns-then-not-is_done c).After-as_slice lines walked) in
    (λ no. cc no, λ all. absurd (grind (arith, c.if-not-is_done.true, done.1 (rw c.as_slice.ensures (here_done c.args.script.now lines worker c.lines_of-lines.result.now c.lines_of-lines.ensures (all worker))))))

pub loop-worker-preserved : goal.loop-worker-preserved
loop-worker-preserved c =
    let script = c.args.script.now in
    let worker = c.loop-worker.worker in
    let own = c.lines_of-lines.result.now in
    let here = walked_of (goal.at.loop-worker-preserved c).After-as_slice in
    record {
      size = c.loop-worker.invariant.size;
      walked = λ lines walked.
          walked_set script lines c.loop-worker.courses.items worker c.is_done.new.course (c.loop-worker.invariant.walked lines walked) (λ other same.
          let one : own ≡ other = same_Some own other (sym c.lines_of-lines.ensures ∙ same) in
          rw (← one) (rw c.as_slice.ensures at (c.is_done.ensures.kept (generations_by worker lines) (here lines walked))));
      done = λ lines walked.
          let done = (c.is_done.ensures.done (generations_by worker lines) (here lines walked)).0 (grind (arith, c.if-not-is_done.false)) in
          done_more script lines worker worker (c.loop-worker.invariant.done lines walked) refl (done_here script lines worker own c.lines_of-lines.ensures (rw c.as_slice.ensures at done));
    }

pub returns : goal.returns
returns c = λ lines walked. (λ _. done_all c.args.script.now lines c.loop-worker.worker (omega (arith, c.loop-worker-test.false, c.len-worker-end.ensures)) (c.loop-worker.invariant.done lines walked), λ _. refl)
