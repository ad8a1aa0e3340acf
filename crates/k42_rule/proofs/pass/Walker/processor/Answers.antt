use Rattle.std.proofs.Common.{subst}
use Rattle.k42_board.specs.Seen.{PassSeen}
use Rattle.k42_rule.specs.Settled.{IsSettled}
use Rattle.k42_rule.proofs.pass.Walker.processor.Goals as goal

pub returns-clause-settled : goal.returns-clause-settled
returns-clause-settled g c =
    subst (λ (p : PassSeen _ _ _). IsSettled p.view) c.self.view_is (record { back = c.self.invariant.0.out; told = c.self.invariant.0.told })
