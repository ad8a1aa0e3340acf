use Rattle.std.proofs.Common.{subst}
use Rattle.k42_crews.specs.Ready.{AreFree}
use Rattle.co_system.specs.Systems.{SystemSeen}
use Rattle.roll_probe.proofs.Probed.{rolled_free}
use Rattle.roll_probe.proofs.probe.rolled.Goals as goal

pub returns : goal.returns
returns g c = record {
  free =
      subst (λ (s : SystemSeen). AreFree s c.in_ok-end.end.passes.items) c.requires.system
      (rolled_free c.args.roll.system.now c.args.roll.rolling c.in_ok-end.end.answers.items c.in_ok-end.end.passes.items c.in_ok-end.ensures);
}
