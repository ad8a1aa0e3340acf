-- The first cell of the row that a call is inside.
use Rattle.std.proofs.Common.{◌≡◌, ℕ, ◌<◌, ◌+◌, ◌*◌, ◌%◌, true, [], refl, sym, ap, subst, inl, arith}
use Rattle.phase_core.specs.Stages.{IsInside, object_of, row_of}
use Rattle.phase_core.specs.declared.caller.Place.{Place}
use Rattle.phase_core.specs.declared.caller.Place.TheVariants.{Out, Missed, Direct, AtMediator, Blocked, Tracked}
use Rattle.turn_core.specs.Names.{names}
use Rattle.k42_board.specs.Phases.{is_served}
use Rattle.k42_board.specs.Seen.{inside_in}
use Rattle.k42_board.specs.Taking.{MayLock}
use Rattle.k42_board.specs.declared.view.Inside.{Inside}
use Rattle.k42_board.specs.declared.view.PassView.{PassView}
use Rattle.co_system.specs.Systems.{SystemPart}
use Rattle.k42_kinds.specs.declared.operation.Op.{Op}
use Rattle.k42_kinds.specs.declared.operation.Reply.{Reply}

served_inside : (place : Place) → is_served place ≡ true → IsInside place (object_of place) (row_of place)
served_inside (Direct o i) e = (refl, refl)
served_inside (Tracked o i) e = (refl, refl)
served_inside Out e = absurd (cc)
served_inside (Missed o i) e = absurd (cc)
served_inside (AtMediator o) e = absurd (cc)
served_inside (Blocked o) e = absurd (cc)

-- a pass that holds no cell may lock it
pub may_lock_first : (procs n : ℕ) (v : PassView SystemPart Op Reply) (inside : Inside) → v.turn.proc < procs → is_served v.visitor.place ≡ true → v.taker.held ≡ []
    → inside ≡ inside_in v → inside.object < 16 → n ≡ (inside.object * 2 + inside.incarnation % 2) * 8 → MayLock procs n v
may_lock_first procs n v inside home served held is few e = record {
  cell = omega (arith, few, e);
  unheld = ap (λ cells. names cells n) held;
  touches = inl (record {
    object = inside.object;
    row = inside.incarnation;
    place = 0;
    cell = omega (arith, e);
    there = omega (arith, home);
    inside = subst (λ (z : Inside). IsInside v.visitor.place z.object z.incarnation) (sym is) (served_inside v.visitor.place served);
  });
}
