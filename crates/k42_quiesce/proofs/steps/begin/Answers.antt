use Rattle.std.proofs.Common.{◌≡◌, ℕ, ◌+◌, ◌-◌, ◌<◌, ◌≤◌, Some, subst, ap, arith}
use Rattle.std.proofs.lemmas.Option.{same_Some}
use Rattle.gen_core.specs.Events.{is_looking}
use Rattle.k42_board.specs.declared.view.PassView.{PassView}
use Rattle.k42_quiesce.specs.Gracing.{GoesOn}
use Rattle.k42_quiesce.proofs.GoingOn.{still_of, taken_of, untaken_of, takes_found, takes_role}
use Rattle.k42_quiesce.proofs.steps.begin.Goals as goal

none_found : (found : ℕ) → found ≤ 0 → found ≡ 0
none_found found le = omega (arith, le)

pub flip_all-requires-clause-ours : goal.flip_all-requires-clause-ours
flip_all-requires-clause-ours g c κs within =
    taken_of _ _ _ c.requires.ours c.take_role-found.ensures.same
    (takes_role _ _ _ _ _ _ c.take_role-found.ensures.takes (none_found _ c.if-found-gt0.false)).0

pub flip_all-requires-clause-unasked : goal.flip_all-requires-clause-unasked
flip_all-requires-clause-unasked g c κs within =
    ap (λ (v : PassView _ _ _). v.base) (takes_role _ _ _ _ _ _ c.take_role-found.ensures.takes (none_found _ c.if-found-gt0.false)).0

pub flip_all-requires-clause-grace : goal.flip_all-requires-clause-grace
flip_all-requires-clause-grace g c κs within =
    ap (λ (v : PassView _ _ _). v.turn.grace) (takes_role _ _ _ _ _ _ c.take_role-found.ensures.takes (none_found _ c.if-found-gt0.false)).0

pub returns-clause-ours : goal.returns-clause-ours
returns-clause-ours g c =
    still_of _ _ _
    (taken_of _ _ _ c.requires.ours c.take_role-found.ensures.same
    (takes_role _ _ _ _ _ _ c.take_role-found.ensures.takes (none_found _ c.if-found-gt0.false)).0)
    c.flip_all.ensures.same c.flip_all.ensures.goes

pub returns-clause-goes : goal.returns-clause-goes
returns-clause-goes g c none = (
  subst (λ (v : PassView _ _ _). GoesOn v c.flip_all.new.pass.view)
      (takes_role _ _ _ _ _ _ c.take_role-found.ensures.takes (none_found _ c.if-found-gt0.false)).0 c.flip_all.ensures.goes,
  ap is_looking c.flip_all.ensures.grace,
)

pub returns-clause-takes : goal.returns-clause-takes
returns-clause-takes g c none = (takes_role _ _ _ _ _ _ c.take_role-found.ensures.takes (none_found _ c.if-found-gt0.false)).1

next_found : (found holder : ℕ) → 0 < found → Some (found - 1) ≡ Some holder → found ≡ holder + 1
next_found found holder some same = let less = same_Some (found - 1) holder same in omega (arith, some, less)

pub returns-then-found-gt0-clause-ours : goal.returns-then-found-gt0-clause-ours
returns-then-found-gt0-clause-ours g c =
    untaken_of _ _ _ c.take_role-found.result c.requires.ours c.take_role-found.ensures.same c.take_role-found.ensures.takes.knows c.if-found-gt0.true

pub returns-then-found-gt0-clause-held : goal.returns-then-found-gt0-clause-held
returns-then-found-gt0-clause-held g c holder same =
    takes_found _ _ _ _ _ _ c.take_role-found.ensures.takes (holder + 1) (next_found _ holder c.if-found-gt0.true same)
