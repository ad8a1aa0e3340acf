-- Which route an address goes by.
use Rattle.std.specs.Prelude.{◌≡◌, ℕ, ◌<◌, List, Option, Some, None, option_map}
use Rattle.std.specs.List.{find}
use Rattle.co_limiter.specs.declared.table.Route.{Route}
use Rattle.co_limiter.specs.Routes.{is_of}

-- where the route of the prefix of so many bits leads, if it has one
abbrev pub hop_of : List Route → ℕ → ℕ → Option ℕ
hop_of routes prefix bits = option_map (λ route. route.hop) (find (is_of prefix bits) routes)

-- of the address's own prefixes this one has the route, and no longer one has any
pub record IsLongest (routes : List Route) (address hop : ℕ) : Type 0 where
  pub bits : ℕ
  pub there : hop_of routes address bits ≡ Some hop
  pub longest : (more : ℕ) → bits < more → hop_of routes address more ≡ None

-- the hop is that of the longest prefix of the address with a route, and there is none where no prefix has one
abbrev pub IsByLongest : List Route → ℕ → Option ℕ → Type 0
IsByLongest routes address (Some hop) = IsLongest routes address hop
IsByLongest routes address None = (bits : ℕ) → hop_of routes address bits ≡ None
