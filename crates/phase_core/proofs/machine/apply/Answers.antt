use Rattle.phase_core.specs.Event.{event_seen}
use Rattle.phase_core.proofs.Reached.{turn_there, happens_only, IsSound-happens}
use Rattle.phase_core.proofs.machine.apply.Goals as goal

pub step-requires-clause-caller : goal.step-requires-clause-caller
step-requires-clause-caller c = turn_there _ c.requires.sound _ c.requires.caller

pub returns-clause-sound : goal.returns-clause-sound
returns-clause-sound c =
    rw c.step.ensures.state
    (IsSound-happens _ (event_seen c.args.event.now) c.requires.sound (turn_there _ c.requires.sound _ c.requires.caller) c.requires.objects)

pub returns-clause-procs : goal.returns-clause-procs
returns-clause-procs c =
    rw c.step.ensures.state
    (happens_only _ (event_seen c.args.event.now) c.requires.sound (turn_there _ c.requires.sound _ c.requires.caller)).many_procs

pub returns-clause-callers : goal.returns-clause-callers
returns-clause-callers c =
    rw c.step.ensures.state
    (happens_only _ (event_seen c.args.event.now) c.requires.sound (turn_there _ c.requires.sound _ c.requires.caller)).many_callers

pub returns-clause-objects : goal.returns-clause-objects
returns-clause-objects c =
    rw c.step.ensures.state
    (happens_only _ (event_seen c.args.event.now) c.requires.sound (turn_there _ c.requires.sound _ c.requires.caller)).many_objects
