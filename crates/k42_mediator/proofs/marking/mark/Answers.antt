use Rattle.std.proofs.Common.{◌≡◌, ℕ, ◌<◌, [], ◌∷◌, Some, inr, refl, sym, ap, ◌∙◌, subst}
use Rattle.turn_core.specs.Stamps.{last_stamp}
use Rattle.k42_joined.specs.Numbers.{cell_of}
use Rattle.k42_board.specs.Drawing.{IsTold, MayDrawMark, entry_mark, stamp_next}
use Rattle.k42_board.specs.Log.{ComesTo}
use Rattle.k42_board.specs.Plan.{layouts_on}
use Rattle.k42_board.specs.Taking.{CELLS, locked_view, taken_view}
use Rattle.k42_board.specs.Values.{answer_in, incarnation_in}
use Rattle.k42_board.specs.Tabling.{is_over_in}
use Rattle.k42_board.specs.Views.{object_begun, word_begun, live_at}
use Rattle.k42_board.specs.Words.{lock_word}
use Rattle.k42_board.specs.declared.view.PassView.{PassView}
use Rattle.k42_mediator.specs.Entries.{IsNext}
use Rattle.k42_mediator.specs.Marks.{cell_marked}
use Rattle.k42_mediator.specs.Taken.{MayPutBack}
use Rattle.k42_mediator.proofs.AfterMark.{later_stamp, over_told, cell_small, held_by, holds_nothing, may_mark, comes_drawn, marks_next, marked_now, mark_ready}
use Rattle.k42_mediator.proofs.DeclaredLive.{live_told}
use Rattle.k42_mediator.proofs.GivenBack.{comes_taken, locked_home}
use Rattle.k42_mediator.proofs.SamePass.{same_twice, draws_between}
use Rattle.k42_mediator.proofs.marking.mark.Goals as goal

pub answer_over-answer-requires : goal.answer_over-answer-requires
answer_over-answer-requires g c =
    let live = live_told c.requires.ours.shapes (sym c.last_of-begin.ensures.object) c.declared.ensures.shapes c.live.ensures in
    (λ j. is_over_in (sym live j) (c.last_of-begin.ensures.word j)) ∙ c.requires.may.over

pub lock-found-requires-after_bounds : goal.lock-found-requires-after_bounds
lock-found-requires-after_bounds g c κs within =
    let v = c.args.pass.now.view in let n : ℕ = c.cell_number-number.result in let answer = c.answer_over-answer.result in
    let row : c.incarnation_in.result ≡ incarnation_in (word_begun v.last) = c.incarnation_in.ensures ∙ ap incarnation_in c.last_of-begin.ensures.word in
    let named : n ≡ cell_marked v = c.cell_number-number.ensures ∙ (λ i. cell_of (c.last_of-begin.ensures.object i) (row i) 0) in
    let live = live_told c.requires.ours.shapes (sym c.last_of-begin.ensures.object) c.declared.ensures.shapes c.live.ensures in
    let told : answer_in (live_at v (object_begun v.last)) (word_begun v.last) ≡ Some answer = (λ j. answer_in (live j) (sym c.last_of-begin.ensures.word j)) ∙ c.answer_over-answer.ensures in
    record {
      ours = c.requires.ours.table;
      may = record {
        cell = subst (λ m. m < CELLS) (sym c.cell_number-number.ensures) (cell_small c.last_of-begin.result.object c.incarnation_in.result c.last_of-begin.ensures.few);
        unheld = holds_nothing v.taker.held n c.requires.may.free;
        touches = inr (inr (inr (record {
          place = 0;
          cell = named;
          there = c.layouts_are_lawful.ensures.some;
          answer = answer;
          found = c.requires.may.found ∙ told;
          over = over_told (live_at v (object_begun v.last)) (word_begun v.last) answer c.requires.may.over told;
        })));
      };
    }

pub take-cell-requires-clause-may : goal.take-cell-requires-clause-may
take-cell-requires-clause-may g c κs within =
    locked_home c.cell_number-number.result _ c.args.pass.now.view _
    (subst (λ m. m < CELLS) (sym c.cell_number-number.ensures) (cell_small c.last_of-begin.result.object c.incarnation_in.result c.last_of-begin.ensures.few))
    c.if-found-ne0.false c.lock-found.ensures.takes.knows c.lock-found.ensures.takes.finds.unnoted

pub returns-then-found-ne0 : goal.returns-then-found-ne0
returns-then-found-ne0 g c =
    let v = c.args.pass.now.view in let n : ℕ = c.cell_number-number.result in
    let row : c.incarnation_in.result ≡ incarnation_in (word_begun v.last) = c.incarnation_in.ensures ∙ ap incarnation_in c.last_of-begin.ensures.word in
    let named : n ≡ cell_marked v = c.cell_number-number.ensures ∙ (λ i. cell_of (c.last_of-begin.ensures.object i) (row i) 0) in
    held_by _ _ n (cell_marked v) _ _ _ named c.if-found-ne0.true c.lock-found.ensures

pub draw_mark-requires-clause-may : goal.draw_mark-requires-clause-may
draw_mark-requires-clause-may g c κs within =
    let v = c.args.pass.now.view in let n : ℕ = c.cell_number-number.result in let cell = c.take-cell.result in let answer = c.answer_over-answer.result in
    let row : c.incarnation_in.result ≡ incarnation_in (word_begun v.last) = c.incarnation_in.ensures ∙ ap incarnation_in c.last_of-begin.ensures.word in
    let named : n ≡ cell_marked v = c.cell_number-number.ensures ∙ (λ i. cell_of (c.last_of-begin.ensures.object i) (row i) 0) in
    let live = live_told c.requires.ours.shapes (sym c.last_of-begin.ensures.object) c.declared.ensures.shapes c.live.ensures in
    let told : answer_in (live_at v (object_begun v.last)) (word_begun v.last) ≡ Some answer = (λ j. answer_in (live j) (sym c.last_of-begin.ensures.word j)) ∙ c.answer_over-answer.ensures in
    let taken : ComesTo v (taken_view cell (locked_view n 0 v)) c.take-cell.new.pass.view =
    comes_taken n _ cell v _ _ c.if-found-ne0.false c.lock-found.ensures.takes.knows c.take-cell.ensures.moved.back.knows in
    subst (λ (w : PassView _ _ _). MayDrawMark cell c.args.act answer w) (sym taken.knows)
    (may_mark v n cell c.take-cell.ensures.number c.args.act answer c.requires.may.act_is c.take-cell.new.pass.view.log (c.requires.may.found ∙ told)
    (over_told (live_at v (object_begun v.last)) (word_begun v.last) answer c.requires.may.over told) named c.requires.may.few)

pub give_next-requires-clause-ready : goal.give_next-requires-clause-ready
give_next-requires-clause-ready g c κs within =
    let F = layouts_on g.L.Kind.object g.L.Layout.shapes g.L.Layout.tag_of g.L.Layout.ways g.L.Layout.whole g.L.Layout.serves g.L.Layout.admitted g.L.Layout.act_of c.args.sys.now.procs c.args.sys.now.callers in
    let v = c.args.pass.now.view in let n : ℕ = c.cell_number-number.result in let cell = c.take-cell.result in let number = c.take-cell.ensures.number in
    let answer = c.answer_over-answer.result in let id : ℕ = c.draw_mark.new.pass.seat in let act_is = c.requires.may.act_is in
    let taken : ComesTo v (taken_view cell (locked_view n 0 v)) c.take-cell.new.pass.view =
    comes_taken n _ cell v _ _ c.if-found-ne0.false c.lock-found.ensures.takes.knows c.take-cell.ensures.moved.back.knows in
    let drawn = comes_drawn v n cell number c.args.act answer act_is (lock_word cell.number) c.take-cell.new.pass.view c.draw_mark.new.pass.view taken c.draw_mark.ensures.drawn.knows in
    subst (λ (w : PassView _ _ _). MayPutBack F c.args.sys.now.layouts id w c.draw_mark.new.cell) (sym drawn.knows)
    (mark_ready v n cell number c.args.act answer act_is F c.layouts_are_lawful.ensures c.args.sys.now.layouts id c.draw_mark.new.pass.view.log c.draw_mark.new.cell
    (subst (λ m. m < CELLS) (sym c.cell_number-number.ensures) (cell_small c.last_of-begin.result.object c.incarnation_in.result c.last_of-begin.ensures.few))
    (subst (λ (w : PassView _ _ _). IsTold w.notes cell c.draw_mark.new.cell) drawn.knows c.draw_mark.ensures.told))

pub returns : goal.returns
returns g c =
    let v = c.args.pass.now.view in let n : ℕ = c.cell_number-number.result in let cell = c.take-cell.result in
    let answer = c.answer_over-answer.result in let number = c.take-cell.ensures.number in let act_is = c.requires.may.act_is in
    let live = live_told c.requires.ours.shapes (sym c.last_of-begin.ensures.object) c.declared.ensures.shapes c.live.ensures in
    let row : c.incarnation_in.result ≡ incarnation_in (word_begun v.last) = c.incarnation_in.ensures ∙ ap incarnation_in c.last_of-begin.ensures.word in
    let named : n ≡ cell_marked v = c.cell_number-number.ensures ∙ (λ i. cell_of (c.last_of-begin.ensures.object i) (row i) 0) in
    let taken : ComesTo v (taken_view cell (locked_view n 0 v)) c.take-cell.new.pass.view =
    comes_taken n _ cell v _ _ c.if-found-ne0.false c.lock-found.ensures.takes.knows c.take-cell.ensures.moved.back.knows in
    let drawn = comes_drawn v n cell number c.args.act answer act_is (lock_word cell.number) c.take-cell.new.pass.view c.draw_mark.new.pass.view taken c.draw_mark.ensures.drawn.knows in
    record {
      drawer = draws_between _ _ _ _ (same_twice _ _ _ c.lock-found.ensures.same c.take-cell.ensures.moved.same) c.draw_mark.ensures.drawn.drawer c.give_next.ensures.same;
      answer = answer;
      told = (λ j. answer_in (live j) (sym c.last_of-begin.ensures.word j)) ∙ c.answer_over-answer.ensures;
      entry = entry_mark (taken_view cell (locked_view n 0 v)) cell.number c.args.act answer;
      next =
          subst (λ (m : ℕ). IsNext v (object_begun v.last) (incarnation_in (word_begun v.last)) m c.args.act answer (entry_mark (taken_view cell (locked_view n 0 v)) cell.number c.args.act answer)) named
          (marks_next v n cell number c.args.act answer act_is
          (subst (λ (u : PassView _ _ _). last_stamp u.taker.mine < stamp_next u (cell.number ∷ [])) taken.knows
          (later_stamp c.take-cell.new.pass.view (cell.number ∷ []) c.draw_mark.result c.draw_mark.ensures.stamp c.draw_mark.ensures.later))
          (object_begun v.last) (incarnation_in (word_begun v.last)) refl refl);
      comes =
          marked_now v n cell number c.args.act answer act_is c.draw_mark.new.cell.number c.draw_mark.new.pass.view c.give_next.new.pass.view
          (c.draw_mark.ensures.told.number ∙ number) drawn c.give_next.ensures.comes
          (holds_nothing v.taker.held n c.requires.may.free) c.lock-found.ensures.takes.finds.unnoted c.last_of-begin.ensures.settled.back c.last_of-begin.ensures.settled.told;
    }
