-- To ask where an address goes leaves the table.
use Rattle.std.specs.Prelude.{◌≡◌, true, List, refl}
use Rattle.co_limiter.specs.declared.table.Route.{Route}
use Rattle.co_limiter.specs.declared.routing.RouteOp.{RouteOp}
use Rattle.co_limiter.specs.declared.routing.RouteOp.TheVariants.{Find, Add, Remove}
use Rattle.co_limiter.specs.Routes.{route_reads, routes_after}

pub finds_leave : (routes : List Route) (op : RouteOp) → route_reads op ≡ true → routes_after routes op ≡ routes
finds_leave routes (Find address) reads = refl
finds_leave routes (Add prefix bits hop) reads = cc reads
finds_leave routes (Remove prefix bits) reads = cc reads
