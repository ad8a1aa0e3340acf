use Rattle.std.proofs.Common.{rules}
use Rattle.std.specs.Cmp.{nat_cmp_total}
use Rattle.std.proofs.lemmas.Map.Made.{map_same_pairs}
use Rattle.k42_kinds.specs.Pages.{cleaned}
use Rattle.k42_kinds.proofs.SeenMaps.{map_seen}
use Rattle.k42_kinds.proofs.pages.PagesState.clean.Goals as goal

pub returns : goal.returns
returns c = map_seen nat_cmp_total (λ entry. (entry.0, cleaned entry.1)) _ _ _ c.self.view_is c.retain.ensures.was_ordered c.retain.ensures.ordered (map_same_pairs _ cleaned _ (λ k v b w f' t. search rules) _ _ c.retain.ensures.filtered)
