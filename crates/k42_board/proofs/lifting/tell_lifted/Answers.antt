use Rattle.std.proofs.Common.{◌≡◌, ℕ, [], ◌∷◌, ap, ◌∙◌, sym, subst, arith}
use Rattle.std.specs.Prelude.{IsSomeAnd}
use Rattle.atomic_table.specs.Table.{rest}
use Rattle.k42_board.specs.Drawing.{untold_view}
use Rattle.k42_board.specs.Lifted.{StaysFull, slot_in}
use Rattle.k42_board.specs.Plan.{layouts_on}
use Rattle.k42_board.specs.Receipts.{after_first, receipt}
use Rattle.k42_board.specs.Seats.{IsTold}
use Rattle.k42_board.specs.Steps.{Seated}
use Rattle.k42_board.specs.Views.{pass_in}
use Rattle.k42_board.specs.Words.{slot_of}
use Rattle.k42_board.specs.declared.cell.Content.{Content}
use Rattle.k42_board.proofs.CellsAllowed.{slot_out, slot_result}
use Rattle.k42_board.proofs.CellsTold.{receipt_splits}
use Rattle.k42_board.proofs.LiftedSlots.{seat_parted, may_tell, has_told}
use Rattle.k42_board.proofs.lifting.tell_lifted.Goals as goal

pub split_seat-own-requires : goal.split_seat-own-requires
split_seat-own-requires g c =
    let key = c.args.board.now.shared.key in let me = c.args.seat.now.me in let t = c.requires.holds in
    let F = layouts_on g.L.Kind.object g.L.Layout.shapes g.L.Layout.tag_of g.L.Layout.ways g.L.Layout.whole g.L.Layout.serves g.L.Layout.admitted g.L.Layout.act_of key.procs key.callers.items in (
      t.ours,
      (let wide = t.many in omega (arith, wide)),
      receipt_splits F key.layouts.items c.args.seat.now.id (pass_in me.0) _ me.0 (ap (λ (m : Seated _ _ _). m.0) t.alone),
    )

pub slot_mut-slot-requires : goal.slot_mut-slot-requires
slot_mut-slot-requires g c =
    let me = c.args.seat.now.me in let v = pass_in me.0 in let t = c.requires.holds in let n : ℕ = c.args.cell in
    let e = c.split_seat-own.ensures in let now = c.split_seat-own.new.seat.me in
    let is = seat_parted me v (slot_of n) (slot_in me.1) t.alone now e.2 in
    (e.0 ∙ t.ours, slot_out now (untold_view (after_first v.untold) v) (slot_of n) (slot_in me.1) is c.slot_of.result c.slot_of.ensures)

pub tell_in-requires : goal.tell_in-requires
tell_in-requires g c =
    let me = c.args.seat.now.me in let v = pass_in me.0 in let t = c.requires.holds in let n : ℕ = c.args.cell in
    let e = c.split_seat-own.ensures in let now = c.split_seat-own.new.seat.me in let slot = c.slot_mut-slot.result.now in let views = c.into_badge.result.views in
    let is = seat_parted me v (slot_of n) (slot_in me.1) t.alone now e.2 in
    let same = slot_result now (untold_view (after_first v.untold) v) (slot_of n) (slot_in me.1) is c.slot_of.result c.slot_of.ensures slot c.slot_mut-slot.ensures.value in
    let told = c.into_badge.ensures.2 ∙ ap (λ (m : Seated _ _ _). m.0 ∷ []) e.4 ∙ ap (λ (m : Seated _ _ _). receipt m.0 ∷ []) t.alone in
    subst (λ s. IsSomeAnd s (λ (content : Content _ _ _). IsTold content.closed c.args.last views)) same
    (may_tell v n c.args.last views c.requires.first told (slot_in me.1) t.full c.requires.due)

pub returns-clause-seated : goal.returns-clause-seated
returns-clause-seated g c =
    let me = c.args.seat.now.me in let v = pass_in me.0 in let t = c.requires.holds in let n : ℕ = c.args.cell in
    let is = seat_parted me v (slot_of n) (slot_in me.1) t.alone c.split_seat-own.new.seat.me c.split_seat-own.ensures.2 in
    λ k. ((is k).0, (c.slot_of.ensures k, c.tell_in.new.slot) ∷ rest (is k).1)

pub returns-clause-told : goal.returns-clause-told
returns-clause-told g c =
    let me = c.args.seat.now.me in let v = pass_in me.0 in let t = c.requires.holds in let n : ℕ = c.args.cell in
    let e = c.split_seat-own.ensures in let now = c.split_seat-own.new.seat.me in let slot = c.slot_mut-slot.result.now in let views = c.into_badge.result.views in
    let is = seat_parted me v (slot_of n) (slot_in me.1) t.alone now e.2 in
    let same = slot_result now (untold_view (after_first v.untold) v) (slot_of n) (slot_in me.1) is c.slot_of.result c.slot_of.ensures slot c.slot_mut-slot.ensures.value in
    let told = c.into_badge.ensures.2 ∙ ap (λ (m : Seated _ _ _). m.0 ∷ []) e.4 ∙ ap (λ (m : Seated _ _ _). receipt m.0 ∷ []) t.alone in
    has_told v n c.args.last views c.requires.first told (slot_in me.1) c.tell_in.new.slot t.full c.requires.due
    (subst (λ s. StaysFull (λ (x y : Content _ _ _). (y.number ≡ x.number) × (y.part ≡ x.part) × (y.badge.views ≡ views)) s c.tell_in.new.slot) (sym same) c.tell_in.ensures)
