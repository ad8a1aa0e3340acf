use Rattle.std.proofs.Common.{◌≡◌, map, take}
use Rattle.gen_core.specs.State.{fresh_caller}
use Rattle.gen_core.proofs.state.GenState.new.Given as goal

abbrev pub invariant-loop-proc : goal.invariant-loop-proc
invariant-loop-proc l = l.list.items ≡ map (fresh_caller l.procs) (take l.proc-index l.fn.callers.items)
