use Rattle.std.proofs.Common.{◌≡◌, take}
use Rattle.std.specs.Prelude.{map}
use Rattle.record_text.specs.Printer.LineNumbers.{line_numbers}
use Rattle.record_text.proofs.history.numbers_of_all.Given as goal

abbrev pub invariant-loop-worker : goal.invariant-loop-worker
invariant-loop-worker l = l.all ≡ map (λ worker. line_numbers worker.items) (take l.worker-index l.script.workers)
