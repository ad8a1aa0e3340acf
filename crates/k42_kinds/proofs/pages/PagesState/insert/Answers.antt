use Rattle.std.proofs.Common.{sym, ◌∙◌}
use Rattle.std.specs.Cmp.{nat_cmp_total}
use Rattle.std.proofs.lemmas.Map.Lookups.{exact_unsigned}
use Rattle.std.proofs.lemmas.Result.{err_from_is_err_and}
use Rattle.k42_kinds.proofs.SeenMaps.{get_seen, insert_seen}
use Rattle.k42_kinds.proofs.pages.PagesState.insert.Goals as goal

pub returns-clause-ok : goal.returns-clause-ok
returns-clause-ok c = insert_seen nat_cmp_total exact_unsigned _ _ _ c.self.view_is c.args.number c.args.page.now c.in_ok-insert.ensures.updates.0

pub returns-in_err-insert-clause-needed : goal.returns-in_err-insert-clause-needed
returns-in_err-insert-clause-needed c =
    let p = err_from_is_err_and c.from_residual.result c.from_residual.ensures.1 in
    rw p.1 (sym (get_seen nat_cmp_total _ _ c.self.view_is c.args.number) ∙ c.in_err-insert.ensures.absent)
