use Rattle.std.proofs.Common.{rules, ◌≡◌, [], ◌∷◌, drop, length, arith, sym, ap, ◌∙◌, subst}
use Rattle.std.specs.Prelude.{replicate}
use Rattle.k42_board.specs.Queueing.{IsTied}
use Rattle.k42_board.specs.Seen.{Own, own_in}
use Rattle.k42_board.specs.Views.{pass_in}
use Rattle.k42_board.specs.declared.view.PassView.{PassView}
use Rattle.k42_board.specs.declared.view.View.TheVariants.{Crew}
use Rattle.k42_rule.specs.Keeping.{HasKept}
use Rattle.k42_rule.proofs.RoleTaken.{rows_given, given_own}
use Rattle.k42_rule.proofs.ShapesKept.{known_on, fits_on}
use Rattle.k42_rule.proofs.gracing.give_role.Goals as goal

pub returns-clause-given : goal.returns-clause-given
returns-clause-given g c = let taken = c.give_role_store.ensures 0 in search (rules, taken)

pub returns-clause-takes : goal.returns-clause-takes
returns-clause-takes g c = λ found. rw (← c.pass.view_is, ← c.sys.view_is) (c.give_role_store.ensures found).takes

pub invariant_of-pass : goal.invariant_of-pass
invariant_of-pass g c =
    let old = c.pass.invariant in let taken = c.give_role_store.ensures 0 in let is = taken.takes.knows in let v = pass_in c.pass.inside.seat.me.0 in
    let same = ap (λ (v : PassView _ _ _). v.shapes) is in
    let freeing : c.fill.new.self.items ≡ replicate (length v.visitor.freeing) (0, 0) = search rules in
    let many = c.len.ensures ∙ c.rotate_left.ensures.len ∙ c.pass.inside.rows.ok.0 in
    let rows : c.truncate.new.self.items ≡ drop v.granted v.rows =
    rows_given c.pass.inside.rows.items _ _ c.len.result c.pass.inside.granted c.rotate_left.ensures.items many c.truncate.ensures.items
    ∙ ap (λ (o : Own). drop o.granted o.rows) old.0.own_is in (
      record {
        seat = taken.alone ∙ ap (λ (v : PassView _ _ _). (Crew (v ∷ []), [])) (sym is);
        own_is = given_own v _ old.0.own_is c.fill.new.self.items c.truncate.new.self.items freeing rows ∙ sym (ap own_in is);
        out = ap (λ (v : PassView _ _ _). v.out) is ∙ old.0.out;
        told = ap (λ (v : PassView _ _ _). v.untold) is ∙ old.0.told;
      },
      old.1,
      old.2,
      old.3,
      old.4,
      old.5,
      old.6,
      old.7,
      known_on v.shapes _ _ _ same old.8,
      old.9,
      omega arith,
      tt,
      old.12,
      subst (λ (x : PassView _ _ _). HasKept (record { what = c.pass.inside.keep; given = c.pass.inside.given; since = c.pass.inside.since }) c.pass.inside.number c.pass.inside.home x.taker.mine c.pass.inside.clock c.pass.inside.kept) (sym is) old.13,
      old.14,
      fits_on v.shapes _ _ _ _ _ same old.15,
      old.16,
      old.17,
      subst (λ table. IsTied table c.pass.inside.post.me.view.client) (sym taken.table) old.18,
      old.19,
      old.20,
    )
