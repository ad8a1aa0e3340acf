use Rattle.turn_core.proofs.After.{sound-after, as_many-after}
use Rattle.turn_core.proofs.machine.apply.Goals as goal

pub returns-clause-sound : goal.returns-clause-sound
returns-clause-sound g c = sound-after c.step.result _ _ c.args.event.now c.step.ensures c.requires.sound (record { caller = c.requires.caller; cells = c.requires.cells })

pub returns-clause-many_cells : goal.returns-clause-many_cells
returns-clause-many_cells g c = (as_many-after c.step.result _ _ c.args.event.now c.step.ensures).cells

pub returns-clause-many_callers : goal.returns-clause-many_callers
returns-clause-many_callers g c = (as_many-after c.step.result _ _ c.args.event.now c.step.ensures).callers
