use Rattle.std.proofs.Common.{◌∙◌}
use Rattle.std.specs.Cmp.Lexicographic.{nat_list_cmp_total}
use Rattle.k42_kinds.proofs.SeenMaps.{get_seen}
use Rattle.k42_kinds.proofs.directory.DirectoryState.get.Goals as goal

pub returns : goal.returns
returns c = c.copied.ensures ∙ c.get.ensures.value ∙ get_seen nat_list_cmp_total _ _ c.self.view_is c.args.name.now
