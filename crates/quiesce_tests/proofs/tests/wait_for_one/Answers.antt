use Rattle.std.proofs.Common.{rules, ◌≡◌, refl, sym, ap, ◌∙◌, subst}
use Rattle.gen_core.specs.Events.{is_looking}
use Rattle.k42_board.specs.declared.view.PassView.{PassView}
use Rattle.k42_quiesce.specs.Gracing.{MayStep, has_role}
use Rattle.k42_quiesce.specs.declared.steps.GraceStep.TheVariants.{Again, Quiet}
use Rattle.k42_quiesce.specs.declared.steps.Held.TheVariants.{Left, RoleHeld}
use Rattle.quiesce_tests.proofs.Kept.{left_free, stepped_free, reclaimed_free}
use Rattle.quiesce_tests.proofs.tests.wait_for_one.Goals as goal

pub step-requires-3-clause-may : goal.step-requires-3-clause-may
step-requires-3-clause-may g c κs =
    let is : c.step.result ≡ Again (Left 0 1) = search rules in
    let left = c.step.ensures.left 0 1 is in
    let goes = c.step.ensures.goes (ap has_role is) in
    subst (λ holder. MayStep holder c.step.new.pass.view) (sym goes.1) (record { own = refl; looking = ap is_looking left.at })

pub returns : goal.returns
returns g c =
    let sys = c.args.sys.now in
    let left : c.step.result ≡ Again (Left 0 1) = search rules in
    let held : c.step-2.result ≡ Again (RoleHeld 1) = search rules in
    let quiet : c.step-3.result ≡ Quiet = search rules in
    let one = stepped_free sys c.args.one.now c.step.new.pass c.new-first.result c.requires.free.1 c.step.ensures.ours (c.step.ensures.goes (ap has_role left)).0 in
    let later = stepped_free sys c.step.new.pass c.step-3.new.pass c.step.new.self one c.step-3.ensures.ours (c.step-3.ensures.goes (ap has_role quiet)).0 in
    let tried = (c.step-2.ensures.role_held 1 held).0.knows in
    record {
      free = (
        left_free sys c.begin.new.pass c.leave.new.pass _ _ c.begin.ensures.free c.leave.ensures.same c.leave.ensures.takes.knows,
        reclaimed_free sys c.step-3.new.pass c.reclaim.new.pass later c.reclaim.ensures.same c.reclaim.ensures.knows,
        record {
          ours = c.step-2.ensures.ours;
          held = ap (λ (v : PassView _ _ _). v.taker.held) tried ∙ c.requires.free.2.held;
          notes = ap (λ (v : PassView _ _ _). v.notes) tried ∙ c.requires.free.2.notes;
        },
      );
    }
