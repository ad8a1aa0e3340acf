use Rattle.std.proofs.Common.{◌≡◌, sym, ap, ◌∙◌, subst}
use Rattle.std.specs.Prelude.{is_some, not}
use Rattle.gen_core.specs.Events.{is_quiet}
use Rattle.gen_core.specs.declared.state.GraceAt.TheVariants.{Flipping}
use Rattle.k42_board.specs.Gracing.{MayFlip}
use Rattle.k42_board.specs.Seen.{PassSeen, IsOf}
use Rattle.k42_quiesce.specs.Gracing.{GoesOn}
use Rattle.k42_quiesce.proofs.GoingOn.{may_flip, may_flip_looked, goes_nowhere, goes_ahead, goes_flip}
use Rattle.k42_quiesce.proofs.flipping.flip_next.Goals.{then-is_none, else-is_none}
use Rattle.k42_quiesce.proofs.flipping.flip_next.Goals as goal

pub flip-requires-after_bounds : goal.flip-requires-after_bounds
flip-requires-after_bounds g c κs within =
    let ours : IsOf c.args.sys.now c.if-is_none.pass = elim c.if-is_none.branch [
      | then-is_none w ↦ subst (λ (p : PassSeen _ _ _). IsOf c.args.sys.now p) (sym w.pass-is) (w.look.ensures.same.table ∙ c.requires.ours.table)
      | else-is_none w ↦ subst (λ (p : PassSeen _ _ _). IsOf c.args.sys.now p) (sym w.pass-is) c.requires.ours.table
    ] in
    let may : MayFlip c.args.proc c.if-is_none.pass.view = elim c.if-is_none.branch [
      | then-is_none w ↦
          subst (λ (p : PassSeen _ _ _). MayFlip c.args.proc p.view) (sym w.pass-is)
          (may_flip_looked c.args.proc _ _ _ _ c.requires.asked c.requires.grace w.look.ensures.takes.knows)
      | else-is_none w ↦
          subst (λ (p : PassSeen _ _ _). MayFlip c.args.proc p.view) (sym w.pass-is)
          (may_flip c.args.proc _ c.requires.asked c.requires.grace (sym (ap is_some c.coming.ensures) ∙ c.is_none.ensures ∙ ap not w.if-is_none.false))
    ] in
    record { ours = ours; may = may }

pub returns-clause-goes : goal.returns-clause-goes
returns-clause-goes g c =
    let before : GoesOn c.args.pass.now.view c.if-is_none.pass.view × (c.if-is_none.pass.view.turn.grace ≡ Flipping c.args.proc) = elim c.if-is_none.branch [
      | then-is_none w ↦
          subst (λ (p : PassSeen _ _ _). GoesOn c.args.pass.now.view p.view × (p.view.turn.grace ≡ Flipping c.args.proc)) (sym w.pass-is) (
            goes_ahead c.args.proc _ _ _ _ c.requires.grace w.look.ensures.takes.knows,
            (may_flip_looked c.args.proc _ _ _ _ c.requires.asked c.requires.grace w.look.ensures.takes.knows).grace,
          )
      | else-is_none w ↦
          subst (λ (p : PassSeen _ _ _). GoesOn c.args.pass.now.view p.view × (p.view.turn.grace ≡ Flipping c.args.proc)) (sym w.pass-is)
          (goes_nowhere _ (ap is_quiet c.requires.grace), c.requires.grace)
    ] in
    (goes_flip c.args.proc _ _ _ _ before.0 before.1 c.flip.ensures.takes.knows).0
