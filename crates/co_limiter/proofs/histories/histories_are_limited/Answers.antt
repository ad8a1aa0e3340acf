use Rattle.co_limiter.proofs.LimitedHistories.{gives_no_more}
use Rattle.co_limiter.proofs.histories.histories_are_limited.Goals as goal

pub returns : goal.returns
returns g c = record {
  limited = λ bucket objects layout number history legal declared is. gives_no_more bucket g.L.Kind.object objects number layout declared is history legal;
}
