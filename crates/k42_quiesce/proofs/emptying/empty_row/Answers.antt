use Rattle.std.proofs.Common.{rules, ◌≡◌, arith, subst}
use Rattle.k42_board.specs.Seen.{IsSamePass}
use Rattle.k42_quiesce.proofs.Emptied.{IsEmptiedTo, emptied_none, emptied_next, emptied_all, emptied_still}
use Rattle.k42_quiesce.proofs.emptying.empty_row.Goals as goal

pub loop-place-init : goal.loop-place-init
loop-place-init g c = (c.requires.ours, search rules, emptied_none _ _ _)

pub loop-place-preserved : goal.loop-place-preserved
loop-place-preserved g c =
    let before = c.loop-place.invariant in
    let same : IsSamePass c.args.pass.now c.empty_cell.new.pass = search rules in (
      emptied_still _ _ _ _ before.0 c.empty_cell.ensures.same c.empty_cell.ensures.knows,
      same,
      emptied_next _ _ _ _ _ _ before.2 c.empty_cell.ensures.knows,
    )

pub returns-clause-knows : goal.returns-clause-knows
returns-clause-knows g c =
    let all : c.loop-place.place ≡ c.args.sys.now.procs =
    (let most = c.loop-place.auto.place-end in let past = c.loop-place-test.false in let procs = c.procs-place-end.ensures.is in omega (arith, most, past, procs)) in
    emptied_all _ _ _ _ _ c.requires.there.1
    (subst (λ p. IsEmptiedTo p c.args.object c.args.row c.args.pass.now.view c.loop-place.pass.view) all c.loop-place.invariant.2)
