use Rattle.std.proofs.Common.{rules, ◌≡◌, ℕ, None, length, map, arith, sym, refl, ap, ◌∙◌, subst}
use Rattle.std.specs.Prelude.{replicate}
use Rattle.std.proofs.lemmas.List.{length-map}
use Rattle.atomic_table.specs.Table.{Splits}
use Rattle.k42_board.specs.Dealing.{dealer, dealt}
use Rattle.k42_board.specs.Rule.{Ruled}
use Rattle.k42_board.specs.Steps.{Seated}
use Rattle.k42_board.specs.Plan.{layouts_on}
use Rattle.k42_board.specs.declared.view.View.{View}
use Rattle.k42_board.proofs.Carrying.{forks_keep}
use Rattle.k42_board.proofs.Dealing.{deals}
use Rattle.k42_rule.proofs.start.deal.Goals as goal

pub split_seat-own-requires : goal.split_seat-own-requires
split_seat-own-requires g c =
    let crew = c.requires.crew in let id : ℕ = c.args.seat.now.id in let key = c.args.board.now.shared.key in
    let F = layouts_on g.L.Kind.object g.L.Layout.shapes g.L.Layout.tag_of g.L.Layout.ways g.L.Layout.whole g.L.Layout.serves g.L.Layout.admitted g.L.Layout.act_of key.procs key.callers.items in (
      c.requires.ours.0,
      (let wide = c.requires.ours.1 in omega (arith, wide)),
      subst (λ (w : View _ _ _). Splits (Ruled F key.layouts.items (length key.callers.items)) id w (dealer w) (dealt w)) (sym (ap (λ (m : Seated _ _ _). m.0) crew.1))
          (deals F key.layouts.items (length key.callers.items) id _ crew.0 refl),
    )

pub invariant_of-result : goal.invariant_of-result
invariant_of-result g c =
    let layouts = c.args.board.now.shared.key.layouts.items in
    let many : c.args.objects ≡ length (map g.L.Layout.shapes layouts) = c.requires.few.2 ∙ sym (length-map layouts g.L.Layout.shapes) in
    let none : c.in_ok-noted.noted.items ≡ replicate c.args.objects None = search rules in
    let zero : c.in_ok-freeing.freeing.items ≡ replicate c.args.objects (0, 0) = search rules in
    let noted = none ∙ ap (λ n. replicate n None) many in let freeing = zero ∙ ap (λ n. replicate n (0, 0)) many in
    search (rules, noted, freeing)

pub another-post-requires-clause-rule : goal.another-post-requires-clause-rule
another-post-requires-clause-rule g c = forks_keep _ _ c.requires.post.1.0
