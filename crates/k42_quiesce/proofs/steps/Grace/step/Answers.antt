use Rattle.std.proofs.Common.{rules, ◌≡◌, ◌∙◌, ℕ, Some, None, sym, ap, subst}
use Rattle.gen_core.proofs.Stages.{from_is_some}
use Rattle.k42_board.specs.Seen.{PassSeen}
use Rattle.k42_board.specs.declared.view.PassView.{PassView}
use Rattle.k42_quiesce.specs.Gracing.{IsLeftOf}
use Rattle.k42_quiesce.specs.declared.steps.Held.{Held}
use Rattle.k42_quiesce.specs.declared.steps.Held.TheVariants.{Left, RoleHeld}
use Rattle.k42_quiesce.specs.declared.steps.GraceStep.TheVariants as GraceStep
use Rattle.k42_quiesce.proofs.Ended.{quiet_always}
use Rattle.k42_quiesce.proofs.OneStep.{HasRole, none_of, some_of, not_none, role_begun, role_kept, role_goes, role_left}
use Rattle.k42_quiesce.proofs.steps.Grace.step.Goals.{then-is_none+in_default, else-is_none}
use Rattle.k42_quiesce.proofs.steps.Grace.step.Goals as goal

one_cause : (held other : Held) → GraceStep.Again held ≡ GraceStep.Again other → held ≡ other
one_cause held other same = cc

one_holder : (holder other : ℕ) → GraceStep.Again (RoleHeld holder) ≡ GraceStep.Again (RoleHeld other) → holder ≡ other
one_holder holder other same = cc

pub returns-in-Some-clause-role_held : goal.returns-in-Some-clause-role_held
returns-in-Some-clause-role_held g c holder same =
    let none : c.args.self.now ≡ None = none_of c.self.inside.holder _ c.is_none.result c.is_none.ensures c.if-is_none.true c.self.view_is in (
      c.begin.ensures.held holder (c.in-Some.is ∙ ap Some (one_holder _ _ same)),
      none,
      none,
    )

pub returns-in-None-clause-quiet : goal.returns-in-None-clause-quiet
returns-in-None-clause-quiet g c is =
    let quiet = c.look_on.ensures.quiet c.in-None.is in
    let base = from_is_some _ quiet.1 in
    record { quiet = quiet.0; base = base.0; found = base.1; ended = quiet_always _ _ _ _ base.0 quiet.0 base.1 }

pub returns-in-None-clause-goes : goal.returns-in-None-clause-goes
returns-in-None-clause-goes g c role =
    let has : HasRole c.args.self.now c.args.pass.now.view c.if-is_none.pass.view = elim c.if-is_none.branch [
      | then-is_none+in_default w ↦
          let none : c.args.self.now ≡ None = none_of c.self.inside.holder _ c.is_none.result c.is_none.ensures w.if-is_none.true c.self.view_is in
          let goes = w.begin.ensures.goes w.in_default.is in
          subst (λ (p : PassSeen _ _ _). HasRole c.args.self.now c.args.pass.now.view p.view) (sym w.pass-is) (role_begun _ _ _ none goes.0 goes.1)
      | else-is_none w ↦
          subst (λ (p : PassSeen _ _ _). HasRole c.args.self.now c.args.pass.now.view p.view) (sym w.pass-is)
          (role_kept _ _ (some_of c.self.inside.holder _ c.is_none.result c.is_none.ensures w.if-is_none.false c.self.view_is) c.requires.may)
    ] in
    let number = ap (λ (v : PassView _ _ _). v.number) c.look_on.ensures.goes.rest in (
      role_goes _ _ _ _ has c.look_on.ensures.goes,
      search rules,
    )

pub returns-in-None-clause-takes : goal.returns-in-None-clause-takes
returns-in-None-clause-takes g c none role = elim c.if-is_none.branch [
  | then-is_none+in_default w ↦ w.begin.ensures.takes w.in_default.is
  | else-is_none w ↦
      absurd (not_none _ (some_of c.self.inside.holder _ c.is_none.result c.is_none.ensures w.if-is_none.false c.self.view_is) none)
]

pub returns-in-Some-look_on-clause-left : goal.returns-in-Some-look_on-clause-left
returns-in-Some-look_on-clause-left g c proc left same =
    let has : HasRole c.args.self.now c.args.pass.now.view c.if-is_none.pass.view = elim c.if-is_none.branch [
      | then-is_none+in_default w ↦
          let none : c.args.self.now ≡ None = none_of c.self.inside.holder _ c.is_none.result c.is_none.ensures w.if-is_none.true c.self.view_is in
          let goes = w.begin.ensures.goes w.in_default.is in
          subst (λ (p : PassSeen _ _ _). HasRole c.args.self.now c.args.pass.now.view p.view) (sym w.pass-is) (role_begun _ _ _ none goes.0 goes.1)
      | else-is_none w ↦
          subst (λ (p : PassSeen _ _ _). HasRole c.args.self.now c.args.pass.now.view p.view) (sym w.pass-is)
          (role_kept _ _ (some_of c.self.inside.holder _ c.is_none.result c.is_none.ensures w.if-is_none.false c.self.view_is) c.requires.may)
    ] in
    role_left _ _ _ _ has proc left
    (subst (λ held. IsLeftOf held c.if-is_none.pass.view c.look_on.new.pass.view) (one_cause c.in-Some-look_on.held (Left proc left) same)
    (c.look_on.ensures.left _ c.in-Some-look_on.is))

pub returns-in-Some-look_on-clause-role_held : goal.returns-in-Some-look_on-clause-role_held
returns-in-Some-look_on-clause-role_held g c holder same =
    absurd
    (subst (λ held. IsLeftOf held c.if-is_none.pass.view c.look_on.new.pass.view) (one_cause c.in-Some-look_on.held (RoleHeld holder) same)
    (c.look_on.ensures.left _ c.in-Some-look_on.is))

pub returns-in-Some-look_on-clause-goes : goal.returns-in-Some-look_on-clause-goes
returns-in-Some-look_on-clause-goes g c role =
    let has : HasRole c.args.self.now c.args.pass.now.view c.if-is_none.pass.view = elim c.if-is_none.branch [
      | then-is_none+in_default w ↦
          let none : c.args.self.now ≡ None = none_of c.self.inside.holder _ c.is_none.result c.is_none.ensures w.if-is_none.true c.self.view_is in
          let goes = w.begin.ensures.goes w.in_default.is in
          subst (λ (p : PassSeen _ _ _). HasRole c.args.self.now c.args.pass.now.view p.view) (sym w.pass-is) (role_begun _ _ _ none goes.0 goes.1)
      | else-is_none w ↦
          subst (λ (p : PassSeen _ _ _). HasRole c.args.self.now c.args.pass.now.view p.view) (sym w.pass-is)
          (role_kept _ _ (some_of c.self.inside.holder _ c.is_none.result c.is_none.ensures w.if-is_none.false c.self.view_is) c.requires.may)
    ] in
    let number = ap (λ (v : PassView _ _ _). v.number) c.look_on.ensures.goes.rest in (
      role_goes _ _ _ _ has c.look_on.ensures.goes,
      search rules,
    )

pub returns-in-Some-look_on-clause-takes : goal.returns-in-Some-look_on-clause-takes
returns-in-Some-look_on-clause-takes g c none role = elim c.if-is_none.branch [
  | then-is_none+in_default w ↦ w.begin.ensures.takes w.in_default.is
  | else-is_none w ↦
      absurd (not_none _ (some_of c.self.inside.holder _ c.is_none.result c.is_none.ensures w.if-is_none.false c.self.view_is) none)
]
