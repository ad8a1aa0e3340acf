-- A table of routes: for each prefix of an address where its addresses go.
use Rattle.std.specs.Prelude.{ℕ, ◌-◌, ◌/◌, ◌^◌, ◌==◌, Bool, true, false, ◌&&◌, ◌||◌, not, nat_le, nat_lt, if◌then◌else◌, List, [], ◌∷◌, filter, Option, option_map}
use Rattle.std.specs.List.{find, position_or_len}
use Rattle.k42_kinds.specs.OneThread.{OneThread}
use Rattle.co_limiter.specs.declared.table.Route.{Route}
use Rattle.co_limiter.specs.declared.table.TheConstants.{ADDRESS_BITS}
use Rattle.co_limiter.specs.declared.routing.RouteOp.{RouteOp}
use Rattle.co_limiter.specs.declared.routing.RouteOp.TheVariants.{Find, Add, Remove}
use Rattle.co_limiter.specs.declared.routing.RouteReply.{RouteReply}
use Rattle.co_limiter.specs.declared.routing.RouteReply.TheVariants.{Hop, Done}

-- the first so many bits of an address
abbrev pub first_bits : ℕ → ℕ → ℕ
first_bits bits address = address / 2 ^ (ADDRESS_BITS - bits)

-- the route is for the address, which begins as its prefix does
abbrev pub is_for : ℕ → Route → Bool
is_for address route = first_bits route.bits route.prefix == first_bits route.bits address

-- two prefixes, each of so many bits, are one
abbrev pub same_prefix : ℕ → ℕ → ℕ → ℕ → Bool
same_prefix prefix bits other other_bits = (bits == other_bits) && (first_bits other_bits prefix == first_bits other_bits other)

-- the route is that of the prefix of so many bits
abbrev pub is_of : ℕ → ℕ → Route → Bool
is_of prefix bits route = same_prefix route.prefix route.bits prefix bits

-- a route takes the place of the one of its prefix, and stands before shorter ones
abbrev pub yields : Route → Route → Bool
yields route first = is_of route.prefix route.bits first || nat_lt first.bits route.bits

abbrev pub place_of : List Route → Route → ℕ
place_of routes route = position_or_len (yields route) routes

-- longer prefixes stand before shorter ones
abbrev pub with_route : List Route → Route → List Route
with_route [] route = route ∷ []
with_route (first ∷ rest) route =
    if is_of route.prefix route.bits first then route ∷ rest
    else if nat_lt first.bits route.bits then route ∷ first ∷ rest
    else first ∷ with_route rest route

abbrev pub without : List Route → ℕ → ℕ → List Route
without routes prefix bits = filter (λ route. not (is_of prefix bits route)) routes

-- by the first route that is for the address
abbrev pub hop_for : List Route → ℕ → Option ℕ
hop_for routes address = option_map (λ route. route.hop) (find (is_for address) routes)

abbrev pub route_of : ℕ → ℕ → ℕ → Route
route_of prefix bits hop = record { prefix = prefix; bits = bits; hop = hop }

abbrev pub routes_after : List Route → RouteOp → List Route
routes_after routes (Find address) = routes
routes_after routes (Add prefix bits hop) = with_route routes (route_of prefix bits hop)
routes_after routes (Remove prefix bits) = without routes prefix bits

abbrev pub routes_reply : List Route → RouteOp → RouteReply
routes_reply routes (Find address) = Hop (hop_for routes address)
routes_reply routes (Add prefix bits hop) = Done
routes_reply routes (Remove prefix bits) = Done

-- a prefix has no more bits than an address
abbrev pub takes_route : RouteOp → Bool
takes_route (Find address) = true
takes_route (Add prefix bits hop) = nat_le bits ADDRESS_BITS
takes_route (Remove prefix bits) = nat_le bits ADDRESS_BITS

abbrev pub route_object : OneThread (List Route) RouteOp RouteReply
route_object = record {
  start = [];
  takes = takes_route;
  after = routes_after;
  reply = routes_reply;
  swapped = λ routes to. routes;
  is_ended = λ routes. false;
}

abbrev pub route_reads : RouteOp → Bool
route_reads (Find address) = true
route_reads _ = false

-- a new route needs memory
abbrev pub route_spares : RouteOp → Bool
route_spares (Add prefix bits hop) = false
route_spares _ = true
