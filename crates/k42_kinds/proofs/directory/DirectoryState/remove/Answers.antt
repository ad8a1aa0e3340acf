use Rattle.std.proofs.Common.{◌∙◌}
use Rattle.std.specs.Cmp.Lexicographic.{nat_list_cmp_total}
use Rattle.std.proofs.lemmas.Map.Lookups.{exact_bytes}
use Rattle.k42_kinds.proofs.SeenMaps.{get_seen, remove_seen}
use Rattle.k42_kinds.proofs.directory.DirectoryState.remove.Goals as goal

pub returns-clause-found : goal.returns-clause-found
returns-clause-found c = c.remove.ensures.value ∙ get_seen nat_list_cmp_total _ _ c.self.view_is c.args.name.now

pub returns-clause-gone : goal.returns-clause-gone
returns-clause-gone c = remove_seen nat_list_cmp_total exact_bytes _ _ _ c.self.view_is c.args.name.now c.remove.ensures.updates.0
