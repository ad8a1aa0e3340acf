use Rattle.std.proofs.Common.{◌≡◌, drop}
use Rattle.co_limiter.specs.Routes.{hop_for}
use Rattle.co_limiter.proofs.table.Table.hop_for.Given as goal

abbrev pub invariant-loop-route : goal.invariant-loop-route
invariant-loop-route l = hop_for (drop l.route-index l.self) l.address ≡ hop_for l.self l.address
