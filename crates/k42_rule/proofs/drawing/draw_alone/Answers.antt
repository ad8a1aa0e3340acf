use Rattle.std.proofs.Common.{rules, ◌<◌, length, refl, sym, ap, ◌∙◌, subst, arith}
use Rattle.k42_board.specs.Queueing.{IsTied}
use Rattle.k42_limits.specs.declared.TheConstants.{PASS_ENTRIES}
use Rattle.turn_core.specs.Stamps.{last_stamp}
use Rattle.k42_board.specs.Drawing.{MayDrawAlone}
use Rattle.k42_board.specs.Seen.{PassSeen, Own}
use Rattle.k42_board.specs.Views.{pass_in}
use Rattle.k42_rule.proofs.Entries.{alone_entry, alone_told}
use Rattle.k42_rule.proofs.KeptNext.{may_keep}
use Rattle.k42_rule.proofs.Pushed.{drawer_is, drawn_later, kept_drawn, mirrors_drawn}
use Rattle.k42_rule.proofs.ShapesKept.{seat_shapes, known_on, fits_on}
use Rattle.k42_rule.proofs.drawing.draw_alone.Goals as goal

pub store-requires-clause-may : goal.store-requires-clause-may
store-requires-clause-may g c =
    let old = c.pass.invariant in
    let may = subst (λ (p : PassSeen _ _ _). MayDrawAlone c.args.act c.args.answer p.view) (sym c.pass.view_is) c.requires.may in
    may_keep _ c.pass.inside.number c.pass.inside.home _ c.pass.inside.clock c.pass.inside.kept old.13 _ refl refl (ap (λ (o : Own). o.drawn) old.0.own_is) may.few
    (subst (λ n. n < 16) (sym c.object_begun_in.ensures) old.20) (omega arith) (may.act_is ∙ sym (alone_told (pass_in c.pass.inside.seat.me.0) c.args.answer may.answer_is))

pub returns-clause-drawer : goal.returns-clause-drawer
returns-clause-drawer g c = let taken = c.alone_word.ensures 0 in drawer_is _ _ _ c.pass.inside.kept c.store.new.kept c.pass.view_is taken.table taken.seat refl refl refl c.store.ensures.room refl refl refl refl

pub returns-clause-takes : goal.returns-clause-takes
returns-clause-takes g c = λ found.
    let entry =
    alone_entry (pass_in c.pass.inside.seat.me.0) _ c.pass.invariant.0.own_is c.args.act c.args.answer c.requires.may.act_is c.stamp_after-stamp.result c.pass.inside.drawn c.object_begun_in.result c.saturating_sub.result
    refl c.object_begun_in.ensures (search rules) (search rules) in
    rw (← c.pass.view_is, ← c.sys.view_is, ← entry) (c.alone_word.ensures found).takes

pub returns-clause-later : goal.returns-clause-later
returns-clause-later g c =
    subst (λ (p : PassSeen _ _ _). last_stamp p.view.taker.mine < c.stamp_after-stamp.result) c.pass.view_is
    (drawn_later _ c.pass.inside.number c.pass.inside.home (pass_in c.pass.inside.seat.me.0).taker.mine c.pass.inside.kept c.pass.inside.clock 0 c.stamp_after-stamp.result c.pass.invariant.13
    c.stamp_after-stamp.ensures)

-- what the pass keeps by itself
pub invariant_of-pass : goal.invariant_of-pass
invariant_of-pass g c =
    let old = c.pass.invariant in let v = pass_in c.pass.inside.seat.me.0 in
    let taken = c.alone_word.ensures 0 in let same = seat_shapes c.alone_word.new.seat.me v _ taken.alone refl in
    let few = subst (λ (p : PassSeen _ _ _). length p.view.taker.mine < PASS_ENTRIES) (sym c.pass.view_is) c.requires.may.few in (
      mirrors_drawn _ c.pass.inside.seat.me c.alone_word.new.seat.me _ _ _ old.0 taken.alone refl refl old.0.told refl,
      old.1,
      old.2,
      old.3,
      old.4,
      old.5,
      old.6,
      old.7,
      known_on v.shapes _ _ _ same old.8,
      old.9,
      old.10,
      old.11,
      old.12,
      kept_drawn _ c.pass.inside.number c.pass.inside.home c.pass.inside.kept c.store.new.kept c.pass.inside.clock 0 v _ _ c.alone_word.new.seat.me _ old.13 refl c.stamp_after-stamp.ensures refl few c.store.ensures.entries c.store.ensures.owner c.store.ensures.first taken.alone refl,
      taken.takes.finds,
      fits_on v.shapes _ _ _ _ _ same old.15,
      old.16,
      old.17,
      subst (λ z. IsTied z c.pass.inside.post.me.view.client) (sym taken.table) old.18,
      old.19,
      old.20,
    )
