use Rattle.std.proofs.Common.{sym, ◌∙◌}
use Rattle.std.specs.Cmp.{nat_cmp_total}
use Rattle.k42_kinds.proofs.SeenMaps.{entries_seen}
use Rattle.k42_kinds.proofs.pages.PagesState.iter.Goals as goal

pub returns : goal.returns
returns c = c.iter.ensures.rest ∙ sym (entries_seen nat_cmp_total _ _ c.self.view_is c.iter.ensures.ordered)
