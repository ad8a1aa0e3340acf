use Rattle.std.proofs.Common.{rules, ◌≡◌, ◌<◌, ◌≤◌, false, [], ◌∷◌, length, List, ap, sym, subst, refl, ◌∙◌}
use Rattle.k42_board.specs.Drawing.{AreHeld, AreTold, MayDrawCall, drawn_at, entry_at, numbers_of, untold_view, stamp_next}
use Rattle.k42_joined.specs.Drawing.{first_cell}
use Rattle.k42_board.specs.Log.{took}
use Rattle.k42_board.specs.Words.{lock_word}
use Rattle.k42_board.specs.declared.view.PassView.{PassView}
use Rattle.k42_board.specs.declared.view.StepName.TheVariants as steps
use Rattle.k42_board.specs.Plan.{layouts_on}
use Rattle.k42_board.specs.Queueing.{IsTied}
use Rattle.k42_board.specs.Receipts.{AreDue}
use Rattle.k42_limits.specs.declared.TheConstants.{LAST_STAMP, PASS_ENTRIES}
use Rattle.turn_core.specs.Stamps.{last_stamp}
use Rattle.k42_board.specs.Seen.{SysSeen, PassSeen, Own}
use Rattle.k42_board.specs.Steps.{Seated}
use Rattle.k42_board.specs.Views.{pass_in}
use Rattle.k42_board.specs.declared.view.View.TheVariants.{Crew}
use Rattle.k42_board.specs.declared.view.Note.{Note}
use Rattle.k42_board.proofs.Noted.{all_due, stamp_held}
use Rattle.k42_rule.proofs.Drawn.{knows_drawn, takes_drawn}
use Rattle.k42_rule.proofs.KeptNext.{index_few, kept_call}
use Rattle.k42_rule.proofs.Pushed.{drawer_is, drawn_later, kept_drawn, mirrors_drawn}
use Rattle.k42_rule.proofs.ShapesKept.{seat_shapes, known_on, fits_on}
use Rattle.k42_rule.proofs.drawing.draw_at.Goals as goal

pub call_word-requires-clause-may : goal.call_word-requires-clause-may
call_word-requires-clause-may g c κs within = record {
  here = search rules;
  may =
      subst (λ (z : SysSeen _ × PassSeen _ _ _). MayDrawCall
      (layouts_on g.L.Kind.object g.L.Layout.shapes g.L.Layout.tag_of g.L.Layout.ways g.L.Layout.whole g.L.Layout.serves g.L.Layout.admitted g.L.Layout.act_of z.0.procs z.0.callers)
      z.0.layouts c.args.cells.now c.args.op.now c.args.reply.now z.1.view) (λ j. (sym c.sys.view_is j, sym c.pass.view_is j)) c.requires.may;
}

pub tell_all-requires-clause-ours : goal.tell_all-requires-clause-ours
tell_all-requires-clause-ours g c κs within = let taken = c.call_word.ensures 0 in search (rules, taken)

pub tell_all-requires-clause-seated : goal.tell_all-requires-clause-seated
tell_all-requires-clause-seated g c κs within = let taken = c.call_word.ensures 0 in search (rules, taken)

pub tell_all-requires-clause-untold : goal.tell_all-requires-clause-untold
tell_all-requires-clause-untold g c κs within = ap (λ (m : Seated _ _ _). (pass_in m.0).untold) (c.call_word.ensures 0).alone

pub tell_all-requires-clause-due : goal.tell_all-requires-clause-due
tell_all-requires-clause-due g c κs within =
    let v = pass_in c.pass.inside.seat.me.0 in let cells = c.args.cells.now in let own = c.pass.invariant.0.own_is in
    let held = subst (λ (p : PassSeen _ _ _). AreHeld p.view.notes cells) (sym c.pass.view_is) c.requires.may.held in
    let stamped : c.stamp_after-stamp.result ≡ stamp_next v (numbers_of cells) =
    stamp_held v cells c.pass.inside.clock c.stamp_after-stamp.result c.last_at.result held (ap (λ (o : Own). o.clock) own) c.last_at.ensures.told c.stamp_after-stamp.ensures in
    let taken = c.call_word.ensures 0 in
    subst (λ stamp. AreDue (pass_in c.call_word.new.seat.me.0).notes 0 false stamp cells) (sym stamped) (all_due _ v cells _ c.call_word.new.seat.me taken.alone taken.takes.finds held)

pub store_call-requires-clause-few : goal.store_call-requires-clause-few
store_call-requires-clause-few g c =
    let few = subst (λ (p : PassSeen _ _ _). length p.view.taker.mine < PASS_ENTRIES) (sym c.pass.view_is) c.requires.may.few in
    index_few _ c.pass.inside.number c.pass.inside.home _ c.pass.inside.clock c.pass.inside.kept c.pass.invariant.13 few

pub store_call-requires-clause-object : goal.store_call-requires-clause-object
store_call-requires-clause-object g c = subst (λ n. n < 16) (sym c.object_in-object.ensures) c.pass.invariant.2

pub returns-clause-stamp : goal.returns-clause-stamp
returns-clause-stamp g c =
    let v = pass_in c.pass.inside.seat.me.0 in let cells = c.args.cells.now in let own = c.pass.invariant.0.own_is in
    let held = subst (λ (p : PassSeen _ _ _). AreHeld p.view.notes cells) (sym c.pass.view_is) c.requires.may.held in
    let stamped : c.stamp_after-stamp.result ≡ stamp_next v (numbers_of cells) =
    stamp_held v cells c.pass.inside.clock c.stamp_after-stamp.result c.last_at.result held (ap (λ (o : Own). o.clock) own) c.last_at.ensures.told c.stamp_after-stamp.ensures in
    subst (λ (p : PassSeen _ _ _). c.stamp_after-stamp.result ≡ stamp_next p.view (numbers_of cells)) c.pass.view_is stamped

pub returns-clause-drawn : goal.returns-clause-drawn
returns-clause-drawn g c =
    let cells = c.args.cells.now in
    let after = λ (w : PassView _ _ _). took steps.Draw (lock_word (first_cell (numbers_of cells))) 0 (drawn_at cells (entry_at cells c.args.op.now c.args.reply.now w) w) in
    let taken = c.call_word.ensures in
    record {
      drawer = drawer_is _ _ _ c.pass.inside.kept c.store_call.new.kept c.pass.view_is (c.tell_all.ensures.ours.0 ∙ (taken 0).table) (c.tell_all.ensures.ours.1 ∙ (taken 0).seat) refl refl refl c.store_call.ensures.room refl refl refl refl;
      knows = knows_drawn _ c.call_word.new.seat.me c.tell_all.new.seat.me (taken 0).alone c.tell_all.ensures.seated ∙ ap (λ (p : PassSeen _ _ _). after p.view) c.pass.view_is;
      takes = λ found. rw (← c.pass.view_is, ← c.sys.view_is) (takes_drawn _ c.call_word.new.seat.me c.tell_all.new.seat.me (taken 0).alone c.tell_all.ensures.seated _ refl found (taken found).takes);
    }

pub returns-clause-told : goal.returns-clause-told
returns-clause-told g c =
    subst (λ (ns : List (Note _ _ _)). AreTold ns c.args.cells.now c.tell_all.new.cells) (sym (ap (λ (m : Seated _ _ _). (pass_in m.0).notes) c.tell_all.ensures.seated)) c.tell_all.ensures.told

pub returns-clause-later : goal.returns-clause-later
returns-clause-later g c =
    subst (λ (p : PassSeen _ _ _). last_stamp p.view.taker.mine < c.stamp_after-stamp.result) c.pass.view_is
    (drawn_later _ c.pass.inside.number c.pass.inside.home (pass_in c.pass.inside.seat.me.0).taker.mine c.pass.inside.kept c.pass.inside.clock c.last_at.result c.stamp_after-stamp.result c.pass.invariant.13
    c.stamp_after-stamp.ensures)

-- what the pass keeps by itself
pub invariant_of-pass : goal.invariant_of-pass
invariant_of-pass g c =
    let v = pass_in c.pass.inside.seat.me.0 in let cells = c.args.cells.now in let own = c.pass.invariant.0.own_is in
    let held = subst (λ (p : PassSeen _ _ _). AreHeld p.view.notes cells) (sym c.pass.view_is) c.requires.may.held in
    let stamped : c.stamp_after-stamp.result ≡ stamp_next v (numbers_of cells) =
    stamp_held v cells c.pass.inside.clock c.stamp_after-stamp.result c.last_at.result held (ap (λ (o : Own). o.clock) own) c.last_at.ensures.told c.stamp_after-stamp.ensures in
    let old = c.pass.invariant in let taken = c.call_word.ensures 0 in let told = taken.alone in
    let few = subst (λ (p : PassSeen _ _ _). length p.view.taker.mine < PASS_ENTRIES) (sym c.pass.view_is) c.requires.may.few in
    let kept = c.store_call.ensures.entries
    ∙ kept_call _ c.pass.inside.number c.pass.inside.home v.taker.mine c.pass.inside.clock c.pass.inside.kept old.13 v _ cells c.args.op.now c.args.reply.now c.stamp_after-stamp.result
    c.object_in-object.result c.row_in-row.result c.first_of-number.result c.pass.inside.active own refl refl refl stamped c.object_in-object.ensures c.row_in-row.ensures c.first_of-number.ensures.first refl in
    let seated = c.tell_all.ensures.seated ∙ (λ i. (Crew (untold_view [] (pass_in (told i).0) ∷ []), [])) in
    let same = seat_shapes c.tell_all.new.seat.me v _ seated refl in (
      mirrors_drawn _ c.pass.inside.seat.me c.tell_all.new.seat.me _ _ _ old.0 seated refl refl refl (sym stamped),
      old.1,
      old.2,
      old.3,
      old.4,
      old.5,
      old.6,
      old.7,
      known_on v.shapes _ _ _ same old.8,
      old.9,
      old.10,
      old.11,
      old.12,
      kept_drawn _ c.pass.inside.number c.pass.inside.home c.pass.inside.kept c.store_call.new.kept c.pass.inside.clock c.last_at.result v _ _ c.tell_all.new.seat.me _ old.13 (sym stamped) c.stamp_after-stamp.ensures (sym (ap (λ (o : Own). o.number) own)) few kept c.store_call.ensures.owner c.store_call.ensures.first seated refl,
      subst (λ n. n ≤ LAST_STAMP) (sym stamped) taken.takes.finds,
      fits_on v.shapes _ _ _ _ _ same old.15,
      old.16,
      old.17,
      subst (λ z. IsTied z c.pass.inside.post.me.view.client) (sym (c.tell_all.ensures.ours.0 ∙ taken.table)) old.18,
      old.19,
      old.20,
    )
