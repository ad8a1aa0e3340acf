use Rattle.std.proofs.Common.{rules, ◌≡◌, ℕ, ◌<◌, ◌≤◌, List, [], Option, length, sym, ap, ◌∙◌, subst, arith}
use Rattle.std.proofs.lemmas.Bool.{ltb-true}
use Rattle.k42_board.specs.Queueing.{newest, row_named, IsTied}
use Rattle.k42_board.specs.Phases.{IsGranted}
use Rattle.k42_board.specs.Seen.{PassSeen, Own}
use Rattle.k42_board.specs.Steps.{Seated}
use Rattle.k42_board.specs.Views.{pass_in}
use Rattle.k42_board.specs.declared.retired.Slip.{Slip}
use Rattle.k42_board.specs.declared.view.Row.{Row}
use Rattle.k42_board.specs.declared.view.View.TheVariants.{Named}
use Rattle.k42_board.proofs.Carrying.{pushes_keep}
use Rattle.k42_board.proofs.Naming.{newest_is, granted_newest}
use Rattle.k42_rule.proofs.retiring.push_row.Goals as goal

pub push_as-requires-clause-rule : goal.push_as-requires-clause-rule
push_as-requires-clause-rule g c =
    let client = c.pass.inside.post.me.view.client in let mirrors = c.pass.invariant.0 in
    let tied : IsTied c.pass.inside.seat.table_id client = search rules in
    let rows : c.pass.inside.rows.items ≡ (pass_in c.pass.inside.seat.me.0).rows = ap (λ (o : Own). o.rows) mirrors.own_is in
    let last : c.take_last-row.result ≡ newest (pass_in c.pass.inside.seat.me.0).rows =
    sym (newest_is _ _ _ (sym rows ∙ c.take_last-row.ensures.items)) in
    let named = c.name_newest-seat.ensures.named in
    rw c.of-slip.ensures (λ n. pushes_keep n _ _ _ tied.0 (record { ours = named.0 ∙ sym tied.1; named = named.1 ∙ (λ i. (Named (sym last i), [])) }))

pub take_back-requires-clause-granted : goal.take_back-requires-clause-granted
take_back-requires-clause-granted g c κs within = λ more.
    let mirrors = c.pass.invariant.0 in let v = pass_in c.pass.inside.seat.me.0 in
    let rows : c.pass.inside.rows.items ≡ v.rows = ap (λ (o : Own). o.rows) mirrors.own_is in
    let lt : 0 < length v.rows = let holds = c.requires.holds in let seen = ap (λ (p : PassSeen _ _ _). length p.view.rows) c.pass.view_is in omega (arith, holds, seen) in
    let all : length v.rows ≤ v.granted =
    let granted = ap (λ (o : Own). o.granted) mirrors.own_is in let is = ltb-true _ c.pass.inside.granted more in let long = c.take_last-row.ensures.len in let same = ap length rows in
    omega (arith, granted, is, long, same) in
    let same : (pass_in c.name_newest-seat.new.seat.me.0).visitor.noted ≡ v.visitor.noted =
    ap (λ (m : Seated _ _ _). (pass_in m.0).visitor.noted) c.name_newest-seat.ensures.told in
    let row : row_named c.into_parts-seat.result.1.me.0 ≡ newest v.rows =
    ap (λ (x : Row × _). row_named x.1.me.0) c.into_parts-seat.ensures ∙ ap (λ (x : Slip _ _ _). row_named x.seat.me.0) (c.in-Err.ensures.rule.0 ∙ c.of-slip.ensures) ∙ ap (λ (m : Seated _ _ _). row_named m.0) c.name_newest-seat.ensures.named.1 in
    subst (λ (z : List (Option ℕ) × Row). IsGranted z.0 z.1) (λ i. (sym same i, sym row i)) (granted_newest v c.name_newest-seat.ensures.granted all lt)
