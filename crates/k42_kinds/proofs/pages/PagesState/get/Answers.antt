use Rattle.std.proofs.Common.{◌∙◌}
use Rattle.std.specs.Cmp.{nat_cmp_total}
use Rattle.k42_kinds.proofs.SeenMaps.{get_seen}
use Rattle.k42_kinds.proofs.pages.PagesState.get.Goals as goal

pub returns : goal.returns
returns c = c.copied.ensures ∙ c.get.ensures.value ∙ get_seen nat_cmp_total _ _ c.self.view_is c.args.number
