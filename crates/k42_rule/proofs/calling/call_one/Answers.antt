use Rattle.std.proofs.Common.{◌≡◌, ◌+◌, ◌<◌, ◌≤◌, ℕ, [], ◌∷◌, length, ap, sym, subst, refl, ◌∙◌}
use Rattle.std.specs.Prelude.{is_some, max}
use Rattle.turn_core.specs.Stamps.{last_stamp}
use Rattle.k42_limits.specs.declared.TheConstants.{LAST_STAMP, PASS_ENTRIES}
use Rattle.k42_kinds.specs.declared.entry.Entry.{Entry}
use Rattle.k42_board.specs.Calling.{called_by, lifted_by, stepped_cell}
use Rattle.k42_board.specs.Drawing.{entry_at, last_noted}
use Rattle.k42_board.specs.Log.{logs, put_at}
use Rattle.k42_board.specs.Plan.{layouts_on}
use Rattle.k42_board.specs.Queueing.{IsTied}
use Rattle.k42_board.specs.Seen.{PassSeen, Own}
use Rattle.k42_board.specs.Taking.{put_view}
use Rattle.k42_board.specs.Views.{pass_in}
use Rattle.k42_board.specs.Words.{lock_word}
use Rattle.k42_board.specs.declared.view.View.TheVariants.{Crew}
use Rattle.k42_rule.proofs.KeptNext.{kept_call}
use Rattle.k42_rule.proofs.Pushed.{drawn_later, kept_drawn, mirrors_drawn}
use Rattle.k42_rule.proofs.ShapesKept.{seat_shapes, known_on, fits_on}
use Rattle.k42_rule.proofs.calling.call_one.Goals as goal

-- what the pass keeps by itself
pub invariant_of-pass-2 : goal.invariant_of-pass-2
invariant_of-pass-2 g c =
    let key = c.sys.inside.board.shared.key in
    let F = layouts_on g.L.Kind.object g.L.Layout.shapes g.L.Layout.tag_of g.L.Layout.ways g.L.Layout.whole g.L.Layout.serves g.L.Layout.admitted g.L.Layout.act_of key.procs key.callers.items in
    let n : ℕ = c.args.cell in let op = c.args.op.now in let reply = c.call_cell.new.reply in let old = c.pass.invariant in let own = old.0.own_is in
    let v = pass_in c.pass.inside.seat.me.0 in let is = c.in_ok-stamp.ensures.called in let stamp = c.in_ok-stamp.stamp in
    let cells = stepped_cell F key.layouts.items c.args.layout.now c.args.place n op is.content ∷ [] in let w = lifted_by n is.content v in let entry = entry_at cells op reply w in
    let now = logs (put_at (lock_word n) (is_some is.told.part)) (put_view n (called_by F key.layouts.items c.args.layout.now c.args.place n op is.content reply v)) in
    let seated = c.in_ok-stamp.ensures.alone ∙ (λ j. (Crew (is.put.knows j ∷ []), [])) in
    let same = seat_shapes c.call_cell.new.seat.me v now seated refl in
    let last = last_noted w.notes (is.content.number ∷ []) in
    let next : stamp ≡ max c.pass.inside.clock last + 1 = is.stamped ∙ (λ j. max (sym (ap (λ (o : Own). o.clock) own) j) last + 1) in
    let few = subst (λ (p : PassSeen _ _ _). length p.view.taker.mine < PASS_ENTRIES) (sym c.pass.view_is) c.requires.few in
    let kept = c.store_call.ensures.entries
    ∙ kept_call _ c.pass.inside.number c.pass.inside.home v.taker.mine c.pass.inside.clock c.pass.inside.kept old.13 w _ cells op reply stamp
    c.object_in-object.result c.row_in-row.result n c.pass.inside.active own refl refl refl is.stamped c.object_in-object.ensures c.row_in-row.ensures (sym is.number) refl in (
      mirrors_drawn _ c.pass.inside.seat.me c.call_cell.new.seat.me now entry stamp old.0 seated refl (sym old.0.out) refl (sym is.stamped),
      old.1,
      old.2,
      old.3,
      old.4,
      old.5,
      old.6,
      old.7,
      known_on v.shapes _ _ _ same old.8,
      old.9,
      old.10,
      old.11,
      old.12,
      kept_drawn _ c.pass.inside.number c.pass.inside.home c.pass.inside.kept c.store_call.new.kept c.pass.inside.clock last v entry stamp c.call_cell.new.seat.me now old.13 (sym is.stamped) next
          (sym (ap (λ (o : Own). o.number) own)) few kept c.store_call.ensures.owner c.store_call.ensures.first seated refl,
      subst (λ k. k ≤ LAST_STAMP) (sym is.stamped) (is.drawn 0).finds,
      fits_on v.shapes _ _ _ _ _ same old.15,
      old.16,
      old.17,
      subst (λ z. IsTied z c.pass.inside.post.me.view.client) (sym c.in_ok-stamp.ensures.ours.0) old.18,
      old.19,
      old.20,
    )

pub returns-clause-later : goal.returns-clause-later
returns-clause-later g c =
    let v = pass_in c.pass.inside.seat.me.0 in let is = c.in_ok-stamp.ensures.called in let stamp = c.in_ok-stamp.stamp in
    let last = last_noted (lifted_by c.args.cell is.content v).notes (is.content.number ∷ []) in
    let next : stamp ≡ max c.pass.inside.clock last + 1 = is.stamped ∙ (λ j. max (sym (ap (λ (o : Own). o.clock) c.pass.invariant.0.own_is) j) last + 1) in
    subst (λ (p : PassSeen _ _ _). last_stamp p.view.taker.mine < stamp) c.pass.view_is
    (drawn_later _ c.pass.inside.number c.pass.inside.home v.taker.mine c.pass.inside.kept c.pass.inside.clock last stamp c.pass.invariant.13 next)
