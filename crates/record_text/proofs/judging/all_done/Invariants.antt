use Rattle.std.proofs.Common.{List, length, ◌≡◌}
use Rattle.std.specs.Prelude.{vec_len}
use Rattle.record_text.specs.declared.record.RecordLine.{RecordLine}
use Rattle.record_text.specs.Referee.Pasts.{AreWalked}
use Rattle.record_text.proofs.Referee.Crews.{AllDoneBelow}
use Rattle.record_text.proofs.judging.all_done.Given as goal

abbrev pub invariant-loop-worker : goal.invariant-loop-worker
invariant-loop-worker l = record {
  size : vec_len l.courses ≡ length l.script.workers;
  walked : (lines : List RecordLine) → AreWalked l.script lines l.fn.courses.items → AreWalked l.script lines l.courses.items;
  done : (lines : List RecordLine) → AreWalked l.script lines l.fn.courses.items → AllDoneBelow l.script lines l.worker;
}
