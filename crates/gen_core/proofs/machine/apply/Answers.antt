use Rattle.gen_core.proofs.Alone.{happens_only}
use Rattle.gen_core.proofs.Reached.{IsSound-happens}
use Rattle.gen_core.proofs.machine.apply.Goals as goal

pub returns-clause-sound : goal.returns-clause-sound
returns-clause-sound c = rw c.step.ensures.state (IsSound-happens c.args.state.now c.args.event.now c.requires.sound c.requires.in_range)

pub returns-clause-callers : goal.returns-clause-callers
returns-clause-callers c = rw c.step.ensures.state (happens_only c.args.state.now c.args.event.now c.requires.in_range).many_callers

pub returns-clause-procs : goal.returns-clause-procs
returns-clause-procs c = rw c.step.ensures.state (happens_only c.args.state.now c.args.event.now c.requires.in_range).many_procs
