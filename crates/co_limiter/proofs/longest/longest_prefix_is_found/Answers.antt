use Rattle.std.proofs.Common.{[]}
use Rattle.std.specs.Prelude.{fold}
use Rattle.co_limiter.specs.Routes.{routes_after}
use Rattle.co_limiter.proofs.Prefixes.{added, by_longest, ordered_always, removed}
use Rattle.co_limiter.proofs.longest.longest_prefix_is_found.Goals as goal

pub returns-clause-longest : goal.returns-clause-longest
returns-clause-longest c = λ ops address. by_longest (fold routes_after [] ops) address (ordered_always ops [] tt)

pub returns-clause-added : goal.returns-clause-added
returns-clause-added c = λ routes route prefix bits. added route prefix bits routes

pub returns-clause-removed : goal.returns-clause-removed
returns-clause-removed c = λ routes gone_prefix gone_bits prefix bits. removed gone_prefix gone_bits prefix bits routes
