-- The first cell of the first row.
use Rattle.std.proofs.Common.{◌≡◌, ℕ, ◌<◌, true, [], refl, sym, ap, ◌∙◌, subst, inl, arith}
use Rattle.std.proofs.lemmas.Bool.{eqb-true}
use Rattle.phase_core.specs.Stages.{IsInside, is_missed, row_of}
use Rattle.phase_core.specs.declared.caller.Place.{Place}
use Rattle.phase_core.specs.declared.caller.Place.TheVariants.{Out, Missed, Direct, AtMediator, Tracked, Blocked}
use Rattle.turn_core.specs.Names.{names}
use Rattle.k42_board.specs.Log.{took}
use Rattle.k42_board.specs.Tabling.{RootFound, rooted_view}
use Rattle.k42_board.specs.Taking.{MayLock}
use Rattle.k42_board.specs.Values.{incarnation_in}
use Rattle.k42_board.specs.declared.view.PassView.{PassView}
use Rattle.k42_board.specs.declared.view.StepName.TheVariants as steps

-- a caller that has missed the first object in its first row, and holds no cell, may take its lock
pub may_lock_first : {P O R : Type 0} (procs at word : ℕ) (v w : PassView P O R) → v.turn.proc < procs → is_missed v.visitor.place 0 ≡ true → v.taker.held ≡ []
    → w ≡ took steps.LoadRoot at word (rooted_view word v) → RootFound 0 v word → word ≡ 268435456 → MayLock procs 0 w
may_lock_first {P} procs at word v w home missed held is found same =
    subst (MayLock procs 0) (sym is)
    (record {
      cell = omega arith;
      unheld = ap (λ cells. names cells 0) held;
      touches = inl (record { object = 0; row = 0; place = 0; cell = refl; there = omega (arith, home); inside = inside v.visitor.place missed row });
    })
  where
    row : row_of v.visitor.place ≡ 0
    row = sym found.row ∙ ap incarnation_in same

    inside : (place : Place) → is_missed place 0 ≡ true → row_of place ≡ 0 → IsInside place 0 0
    inside (Missed o i) e r = (eqb-true o 0 e, r)
    inside Out e r = absurd (cc)
    inside (Direct o i) e r = absurd (cc)
    inside (AtMediator o) e r = absurd (cc)
    inside (Tracked o i) e r = absurd (cc)
    inside (Blocked o) e r = absurd (cc)
