use Rattle.std.proofs.Common.{rules, ap, ◌∙◌}
use Rattle.std.proofs.lemmas.Fn.{filter_same}
use Rattle.co_limiter.specs.Routes.{without}
use Rattle.co_limiter.proofs.table.Table.remove.Goals as goal

pub returns : goal.returns
returns c =
    filter_same _ _ _ (λ route kept after called. search rules) _ _ c.retain.ensures.filtered
    ∙ ap (λ routes. without routes c.args.prefix c.args.bits) c.self.view_is
