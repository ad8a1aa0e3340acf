use Rattle.std.proofs.Common.{sym, ◌∙◌}
use Rattle.std.specs.Cmp.Lexicographic.{nat_list_cmp_total}
use Rattle.k42_kinds.proofs.SeenMaps.{entries_seen}
use Rattle.k42_kinds.proofs.directory.DirectoryState.iter.Goals as goal

pub returns : goal.returns
returns c = c.iter.ensures.rest ∙ sym (entries_seen nat_list_cmp_total _ _ c.self.view_is c.iter.ensures.ordered)
