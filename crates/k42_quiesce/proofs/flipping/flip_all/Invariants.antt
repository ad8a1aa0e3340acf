use Rattle.std.proofs.Common.{◌≡◌, true}
use Rattle.std.specs.Prelude.{is_some, nat_lt, if◌then◌else◌}
use Rattle.gen_core.specs.declared.state.GraceAt.TheVariants.{Flipping, Looking}
use Rattle.k42_board.specs.Seen.{IsPassOf, IsSamePass}
use Rattle.k42_quiesce.specs.Gracing.{GoesOn}
use Rattle.k42_quiesce.proofs.flipping.flip_all.Given as goal

abbrev pub invariant-loop-proc : goal.invariant-loop-proc
invariant-loop-proc g l =
    IsPassOf l.sys l.pass × IsSamePass l.initial.pass l.pass × GoesOn l.initial.pass.view l.pass.view × (is_some l.pass.view.base ≡ true)
    × (l.pass.view.turn.grace ≡ (if nat_lt l.proc l.sys.procs then Flipping l.proc else Looking 0))
