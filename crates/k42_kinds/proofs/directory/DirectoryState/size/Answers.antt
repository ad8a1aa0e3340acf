use Rattle.std.proofs.Common.{◌∙◌}
use Rattle.std.specs.Cmp.Lexicographic.{nat_list_cmp_total}
use Rattle.k42_kinds.proofs.SeenMaps.{len_seen}
use Rattle.k42_kinds.proofs.directory.DirectoryState.size.Goals as goal

pub returns : goal.returns
returns c = c.len.ensures.len ∙ len_seen nat_list_cmp_total _ _ c.self.view_is c.len.ensures.ordered
