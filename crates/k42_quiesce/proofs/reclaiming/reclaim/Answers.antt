use Rattle.std.proofs.Common.{rules, ◌≡◌, ◌≤◌, ◌<◌, ◌+◌, ℕ, ap, subst, arith}
use Rattle.std.specs.Prelude.{take}
use Rattle.k42_places.specs.Places.{EachPlace}
use Rattle.k42_board.specs.Phases.{IsGranted}
use Rattle.k42_board.specs.Seen.{IsSamePass}
use Rattle.k42_board.specs.declared.view.PassView.{PassView}
use Rattle.k42_quiesce.proofs.Sweeping.{swept_still}
use Rattle.k42_quiesce.proofs.SweptObjects.{none_swept, sweeps_next, may_give, all_swept, still_noted, knows_all, reclaims}
use Rattle.k42_quiesce.proofs.Reclaimed.{marks_always, rows_always, swap_always}
use Rattle.k42_quiesce.proofs.reclaiming.reclaim.Goals as goal

one_more : (count more object : ℕ) → count ≤ object → more < 2 → count + more ≤ object + 1
one_more count more object le lt = omega (arith, le, lt)

the_end : (object end layouts notes : ℕ) → object ≤ end → end ≤ object → end ≡ layouts → notes ≡ layouts → (notes ≡ object) × (object ≡ layouts)
the_end object end layouts notes le past all long = (omega (arith, le, past, all, long), omega (arith, le, past, all))

pub loop-object-init : goal.loop-object-init
loop-object-init g c = (c.requires.ours, search rules, none_swept _ _, search rules)

pub loop-object-preserved : goal.loop-object-preserved
loop-object-preserved g c =
    let before = c.loop-object.invariant in
    let same : IsSamePass c.args.pass.now c.sweep-count.new.pass = search rules in (
      swept_still _ _ _ _ _ _ before.0 c.sweep-count.ensures.same c.sweep-count.ensures.sweeps,
      same,
      sweeps_next _ _ _ _ _ _ _ before.2 c.sweep-count.ensures.sweeps,
      one_more _ _ _ before.3 c.sweep-count.ensures.one,
    )

pub give_role-requires-after_bounds : goal.give_role-requires-after_bounds
give_role-requires-after_bounds g c κs within =
    let past = the_end c.loop-object.object _ _ _ c.loop-object.auto.object-end c.loop-object-test.false c.objects-object-end.ensures.is c.requires.ours.objects in
    record {
      ours = c.loop-object.invariant.0.table;
      may = may_give _ _ _ _ _ c.loop-object.invariant.2 past.0 c.requires.may;
    }

pub returns-clause-knows : goal.returns-clause-knows
returns-clause-knows g c =
    let past = the_end c.loop-object.object _ _ _ c.loop-object.auto.object-end c.loop-object-test.false c.objects-object-end.ensures.is c.requires.ours.objects in
    knows_all _ _ _ _ _ c.loop-object.invariant.2 past.0 _ (c.give_role.ensures.takes 0).knows

pub returns-clause-freed : goal.returns-clause-freed
returns-clause-freed g c =
    let past = the_end c.loop-object.object _ _ _ c.loop-object.auto.object-end c.loop-object-test.false c.objects-object-end.ensures.is c.requires.ours.objects in
    reclaims _ _ _ _ _ c.loop-object.invariant.2 past.0 _ (c.give_role.ensures.takes 0).knows _ past.1

pub returns-clause-marks : goal.returns-clause-marks
returns-clause-marks g c =
    let past = the_end c.loop-object.object _ _ _ c.loop-object.auto.object-end c.loop-object-test.false c.objects-object-end.ensures.is c.requires.ours.objects in
    let swept = c.loop-object.invariant.2 in let knows = (c.give_role.ensures.takes 0).knows in
    marks_always _ _ _ c.give_role.new.pass.view c.args.pass.now.view.visitor.noted (still_noted _ _ _ _ _ swept past.0 _ knows)
    (all_swept _ _ _ _ _ swept past.0 _ knows)

pub returns-clause-rows : goal.returns-clause-rows
returns-clause-rows g c =
    let past = the_end c.loop-object.object _ _ _ c.loop-object.auto.object-end c.loop-object-test.false c.objects-object-end.ensures.is c.requires.ours.objects in
    let swept = c.loop-object.invariant.2 in let given = c.give_role.ensures.takes 0 in
    rows_always _ _ _ c.give_role.new.pass.view c.args.pass.now.view.visitor.noted (still_noted _ _ _ _ _ swept past.0 _ given.knows)
    (all_swept _ _ _ _ _ swept past.0 _ given.knows) _
    (subst (λ (v : PassView _ _ _). EachPlace (λ place row. IsGranted v.visitor.noted row) (take v.granted v.rows)) swept.rest given.finds)

pub returns-clause-swap : goal.returns-clause-swap
returns-clause-swap g c = swap_always _ _ _ c.give_role.new.pass.view (ap (λ (v : PassView _ _ _). v.turn.grace) (c.give_role.ensures.takes 0).knows)
