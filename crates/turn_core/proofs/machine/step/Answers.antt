use Rattle.std.proofs.Common.{◌<◌, ◌++◌, length, subst}
use Rattle.std.specs.Prelude.{All}
use Rattle.turn_core.specs.Events.{cells_of}
use Rattle.turn_core.proofs.Named.{all_right}
use Rattle.turn_core.proofs.machine.step.Goals as goal

pub hand-requires-clause-onto : goal.hand-requires-clause-onto
hand-requires-clause-onto g c =
    let all : All (λ n. n < length c.args.state.now.cells) (c.in-Hand.from ++ c.in-Hand.onto) = subst (λ event. All (λ n. n < length c.args.state.now.cells) (cells_of event)) c.in-Hand.is c.requires.cells in
    rw c.as_slice-in-Hand-2.ensures (all_right (λ n. n < length c.args.state.now.cells) c.in-Hand.from c.in-Hand.onto all)
