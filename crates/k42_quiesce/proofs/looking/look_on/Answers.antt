use Rattle.std.proofs.Common.{rules, ◌≡◌, ℕ, ◌≤◌, sym, subst, ap, ◌∙◌, arith}
use Rattle.std.proofs.lemmas.Option.{same_Some}
use Rattle.gen_core.specs.Events.{is_quiet}
use Rattle.gen_core.specs.declared.state.GraceAt.TheVariants.{Looking}
use Rattle.k42_board.specs.Seen.{IsSamePass}
use Rattle.k42_quiesce.specs.Gracing.{IsLeftOf}
use Rattle.k42_quiesce.specs.declared.steps.Held.TheVariants.{Left}
use Rattle.k42_quiesce.proofs.GoingOn.{goes_nowhere, goes_through, still_of, left_later}
use Rattle.k42_quiesce.proofs.PastFlips.{is_past_flips, looks_past, looks_not_quiet, past_look}
use Rattle.k42_quiesce.proofs.looking.look_on.Goals as goal

no_more : (left : ℕ) → left ≤ 0 → left ≡ 0
no_more left le = omega (arith, le)

pub loop-proc-init : goal.loop-proc-init
loop-proc-init g c = (
  c.requires.ours,
  search rules,
  goes_nowhere _ (looks_not_quiet _ c.requires.grace),
  looks_past _ c.requires.grace,
)

pub loop-proc-preserved : goal.loop-proc-preserved
loop-proc-preserved g c =
    let before = c.loop-proc.invariant in
    let same : IsSamePass c.args.pass.now c.look_back-left.new.pass = search rules in
    let at : c.loop-proc.pass.view.turn.grace ≡ Looking c.in-Looking.proc = sym c.grace.ensures.is ∙ c.in-Looking.is in (
      still_of _ _ _ before.0 c.look_back-left.ensures.same c.look_back-left.ensures.goes,
      same,
      goes_through _ _ _ before.2 (ap is_quiet at) c.look_back-left.ensures.goes,
      ap is_past_flips (c.look_back-left.ensures.passed (no_more _ c.if-left-gt0.false)) ∙ past_look _ _,
    )

pub returns-then-left-gt0-clause-goes : goal.returns-then-left-gt0-clause-goes
returns-then-left-gt0-clause-goes g c =
    let at : c.loop-proc.pass.view.turn.grace ≡ Looking c.in-Looking.proc = sym c.grace.ensures.is ∙ c.in-Looking.is in
    goes_through _ _ _ c.loop-proc.invariant.2 (ap is_quiet at) c.look_back-left.ensures.goes

pub returns-then-left-gt0-clause-left : goal.returns-then-left-gt0-clause-left
returns-then-left-gt0-clause-left g c held same =
    subst (λ held. IsLeftOf held c.args.pass.now.view c.look_back-left.new.pass.view) (same_Some _ _ same)
    (left_later (Left c.in-Looking.proc c.look_back-left.result) _ c.loop-proc.pass.view _ c.loop-proc.invariant.2.log
    (c.look_back-left.ensures.left c.if-left-gt0.true))
