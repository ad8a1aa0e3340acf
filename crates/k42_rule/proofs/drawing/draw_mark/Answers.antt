use Rattle.std.proofs.Common.{rules, ◌<◌, [], ◌∷◌, length, refl, sym, ap, subst, ◌∙◌, arith}
use Rattle.k42_board.specs.Drawing.{IsHeld, drawn_at, entry_mark, untold_view}
use Rattle.k42_board.specs.Log.{took}
use Rattle.k42_board.specs.Words.{lock_word}
use Rattle.k42_board.specs.declared.view.PassView.{PassView}
use Rattle.k42_board.specs.declared.view.StepName.TheVariants as steps
use Rattle.k42_kinds.specs.declared.entry.Entry.{Entry}
use Rattle.k42_board.specs.Queueing.{IsTied}
use Rattle.k42_board.specs.Receipts.{IsDue, after_first}
use Rattle.k42_limits.specs.declared.TheConstants.{PASS_ENTRIES}
use Rattle.turn_core.specs.Stamps.{last_stamp}
use Rattle.k42_board.specs.Seen.{PassSeen, Own}
use Rattle.k42_board.specs.Steps.{Seated}
use Rattle.k42_board.specs.Views.{pass_in}
use Rattle.k42_board.specs.declared.view.View.TheVariants.{Crew}
use Rattle.k42_board.proofs.Noted.{mark_due}
use Rattle.k42_rule.proofs.Drawn.{knows_drawn, takes_drawn}
use Rattle.k42_rule.proofs.Entries.{mark_entry, over_told}
use Rattle.k42_rule.proofs.KeptNext.{may_keep}
use Rattle.k42_rule.proofs.Pushed.{drawer_is, drawn_later, kept_drawn, mirrors_drawn}
use Rattle.k42_rule.proofs.ShapesKept.{seat_shapes, known_on, fits_on}
use Rattle.k42_rule.proofs.drawing.draw_mark.Goals as goal

pub tell_cell-requires-clause-ours : goal.tell_cell-requires-clause-ours
tell_cell-requires-clause-ours g c κs within = let taken = c.mark_word.ensures 0 in search (rules, taken)

pub tell_cell-requires-clause-seated : goal.tell_cell-requires-clause-seated
tell_cell-requires-clause-seated g c κs within = let taken = c.mark_word.ensures 0 in search (rules, taken)

pub tell_cell-requires-clause-first : goal.tell_cell-requires-clause-first
tell_cell-requires-clause-first g c κs within = let taken = c.mark_word.ensures 0 in search (rules, taken)

pub tell_cell-requires-clause-due : goal.tell_cell-requires-clause-due
tell_cell-requires-clause-due g c κs within =
    let taken = c.mark_word.ensures 0 in
    subst (λ shut. IsDue (pass_in c.mark_word.new.seat.me.0).notes c.args.cell.now.number shut c.stamp_after-stamp.result) (sym c.is_closed-closed.ensures)
    (mark_due _ (pass_in c.pass.inside.seat.me.0) c.args.cell.now _ c.mark_word.new.seat.me taken.alone taken.takes.finds
    (subst (λ (p : PassSeen _ _ _). IsHeld p.view.notes c.args.cell.now) (sym c.pass.view_is) c.requires.may.held))

pub store-requires-clause-may : goal.store-requires-clause-may
store-requires-clause-may g c =
    let old = c.pass.invariant in
    let few = subst (λ (p : PassSeen _ _ _). length p.view.taker.mine < PASS_ENTRIES) (sym c.pass.view_is) c.requires.may.few in
    may_keep _ c.pass.inside.number c.pass.inside.home _ c.pass.inside.clock c.pass.inside.kept old.13 _ refl refl (ap (λ (o : Own). o.drawn) old.0.own_is) few
    (subst (λ n. n < 16) (sym c.object_begun_in.ensures) old.20) (let small = c.args.cell.now.few in let is = c.number.ensures in omega (arith, small, is))
    (c.requires.may.act_is ∙ sym (over_told c.args.answer c.requires.may.over))

pub returns-clause-drawn : goal.returns-clause-drawn
returns-clause-drawn g c =
    let taken = c.mark_word.ensures in let seat = c.pass.inside.seat in let v = pass_in seat.me.0 in let cell = c.args.cell.now in
    let after = λ (e : Entry _ _) (w : PassView _ _ _). took steps.Draw (lock_word cell.number) 0 (drawn_at (cell ∷ []) e w) in
    let entry =
    mark_entry v _ c.pass.invariant.0.own_is c.args.act c.args.answer c.requires.may.act_is c.stamp_after-stamp.result c.pass.inside.drawn c.object_begun_in.result c.incarnation_at.result
    refl c.object_begun_in.ensures c.number.result c.args.cell.now.number (search rules) (search rules) (search rules) in
    let told = c.tell_cell.ensures.seated ∙ ap (λ (m : Seated _ _ _). (Crew (untold_view (after_first (pass_in m.0).untold) (pass_in c.mark_word.new.seat.me.0) ∷ []), [])) (taken 0).alone in record {
      drawer = drawer_is _ _ _ c.pass.inside.kept c.store.new.kept c.pass.view_is (c.tell_cell.ensures.ours.0 ∙ (taken 0).table) (c.tell_cell.ensures.ours.1 ∙ (taken 0).seat) refl refl refl c.store.ensures.room refl refl refl refl;
      knows = knows_drawn _ c.mark_word.new.seat.me c.tell_cell.new.seat.me (taken 0).alone told ∙ ap (λ (e : Entry _ _). after e v) entry ∙ ap (λ (p : PassSeen _ _ _). after (entry_mark p.view c.args.cell.now.number c.args.act c.args.answer) p.view) c.pass.view_is;
      takes = λ found. rw (← c.pass.view_is, ← c.sys.view_is, ← entry) (takes_drawn _ c.mark_word.new.seat.me c.tell_cell.new.seat.me (taken 0).alone told _ refl found (taken found).takes);
    }

pub returns-clause-later : goal.returns-clause-later
returns-clause-later g c =
    subst (λ (p : PassSeen _ _ _). last_stamp p.view.taker.mine < c.stamp_after-stamp.result) c.pass.view_is
    (drawn_later _ c.pass.inside.number c.pass.inside.home (pass_in c.pass.inside.seat.me.0).taker.mine c.pass.inside.kept c.pass.inside.clock c.last_stamp.result c.stamp_after-stamp.result c.pass.invariant.13
    c.stamp_after-stamp.ensures)

-- what the pass keeps by itself
pub invariant_of-pass : goal.invariant_of-pass
invariant_of-pass g c =
    let old = c.pass.invariant in let v = pass_in c.pass.inside.seat.me.0 in
    let taken = c.mark_word.ensures 0 in let told = taken.alone in
    let few = subst (λ (p : PassSeen _ _ _). length p.view.taker.mine < PASS_ENTRIES) (sym c.pass.view_is) c.requires.may.few in
    let seated = c.tell_cell.ensures.seated ∙ (λ i. (Crew (untold_view (after_first (pass_in (told i).0).untold) (pass_in (told i).0) ∷ []), [])) in
    let same = seat_shapes c.tell_cell.new.seat.me v _ seated refl in (
      mirrors_drawn _ c.pass.inside.seat.me c.tell_cell.new.seat.me _ _ _ old.0 seated refl refl refl refl,
      old.1,
      old.2,
      old.3,
      old.4,
      old.5,
      old.6,
      old.7,
      known_on v.shapes _ _ _ same old.8,
      old.9,
      old.10,
      old.11,
      old.12,
      kept_drawn _ c.pass.inside.number c.pass.inside.home c.pass.inside.kept c.store.new.kept c.pass.inside.clock c.last_stamp.result v _ _ c.tell_cell.new.seat.me _ old.13 refl c.stamp_after-stamp.ensures refl few c.store.ensures.entries c.store.ensures.owner c.store.ensures.first seated refl,
      taken.takes.finds,
      fits_on v.shapes _ _ _ _ _ same old.15,
      old.16,
      old.17,
      subst (λ z. IsTied z c.pass.inside.post.me.view.client) (sym (c.tell_cell.ensures.ours.0 ∙ taken.table)) old.18,
      old.19,
      old.20,
    )
