use Rattle.std.proofs.Common.{◌≡◌}
use Rattle.k42_copies.proofs.NextRows.{changed_as_far}
use Rattle.k42_copies.proofs.replicated.Replicated.change_each.Given as goal

abbrev pub invariant-loop-place : goal.invariant-loop-place
invariant-loop-place g l = l.row ≡ changed_as_far (λ state. (g.Self.Kind.object l.self).after state l.op) l.initial.row l.place
