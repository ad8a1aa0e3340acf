use Rattle.std.proofs.Common.{◌≡◌, count_by, rules, ap, sym, ◌∙◌}
use Rattle.std.specs.Cmp.{nat_cmp_total}
use Rattle.std.specs.Map.{values_of}
use Rattle.k42_kinds.proofs.SeenMaps.{entries_seen}
use Rattle.k42_kinds.proofs.pages.PagesState.dirty.Goals as goal

pub returns : goal.returns
returns c =
    let counted : c.count.result ≡ count_by (λ page. page.dirty) (values_of c.self.inside.written.entries) = search rules in
    counted ∙ ap (λ es. count_by (λ page. page.dirty) (values_of es)) (sym (entries_seen nat_cmp_total _ _ c.self.view_is c.values.ensures.ordered))
