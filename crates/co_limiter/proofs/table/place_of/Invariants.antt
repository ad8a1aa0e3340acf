use Rattle.std.proofs.Common.{◌≡◌, ◌≤◌, ◌+◌, ◌-◌, length, drop}
use Rattle.co_limiter.specs.Routes.{place_of}
use Rattle.co_limiter.proofs.table.place_of.Given as goal

abbrev pub invariant-loop-place : goal.invariant-loop-place
invariant-loop-place l = (l.place + place_of (drop l.place l.routes) l.route ≡ place_of l.routes l.route) × (l.place ≤ length l.routes)

abbrev pub decreases-loop-place : goal.decreases-loop-place
decreases-loop-place l = length l.routes - l.place
