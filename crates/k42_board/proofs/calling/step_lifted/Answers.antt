use Rattle.std.proofs.Common.{◌≡◌, ℕ, ◌∷◌, sym, subst}
use Rattle.std.specs.Prelude.{IsSomeAnd, IfOk, OnOk, OnErr}
use Rattle.atomic_table.specs.Table.{rest}
use Rattle.k42_kinds.specs.LayoutLaws.{IsReached}
use Rattle.k42_board.specs.Cells.{Slot}
use Rattle.k42_board.specs.Calling.{due_in, HasStepped}
use Rattle.k42_board.specs.Lifted.{slot_in, StaysFull}
use Rattle.k42_board.specs.Views.{pass_in}
use Rattle.k42_board.specs.Words.{slot_of}
use Rattle.k42_board.specs.declared.cell.Content.{Content}
use Rattle.k42_board.proofs.CellsAllowed.{slot_out, slot_result}
use Rattle.k42_board.proofs.calling.step_lifted.Goals as goal

pub slot_mut-slot-requires : goal.slot_mut-slot-requires
slot_mut-slot-requires g c =
    let me = c.args.seat.now.me in let t = c.requires.holds in let n : ℕ = c.args.cell in
    (t.ours, slot_out me (pass_in me.0) (slot_of n) (slot_in me.1) t.alone c.slot_of.result c.slot_of.ensures)

pub step_slot-requires-clause-reached : goal.step_slot-requires-clause-reached
step_slot-requires-clause-reached g c κs within =
    let me = c.args.seat.now.me in let t = c.requires.holds in let n : ℕ = c.args.cell in let layout = c.args.layout.now in
    let same = slot_result me (pass_in me.0) (slot_of n) (slot_in me.1) t.alone c.slot_of.result c.slot_of.ensures c.slot_mut-slot.result.now c.slot_mut-slot.ensures.value in
    subst (λ s. IsSomeAnd s (λ (content : Content _ _ _). IsReached (g.L.Layout.ways layout) (g.L.Layout.whole layout) (due_in (g.L.Layout.ways layout) c.args.procs c.args.place content) c.args.op.now)) same c.requires.reached

pub returns-clause-seated : goal.returns-clause-seated
returns-clause-seated g c = λ k. ((c.requires.holds.alone k).0, (c.slot_of.ensures k, c.step_slot.new.slot) ∷ rest (c.requires.holds.alone k).1)

pub returns-clause-stepped : goal.returns-clause-stepped
returns-clause-stepped g c =
    let me = c.args.seat.now.me in let t = c.requires.holds in let n : ℕ = c.args.cell in
    let same = slot_result me (pass_in me.0) (slot_of n) (slot_in me.1) t.alone c.slot_of.result c.slot_of.ensures c.slot_mut-slot.result.now c.slot_mut-slot.ensures.value in
    subst (λ (s : Slot _ _ _). OnOk c.step_slot.result (StaysFull (HasStepped (g.L.Layout.ways c.args.layout.now) c.args.procs c.args.place c.args.op.now c.step_slot.new.reply) s c.step_slot.new.slot)) (sym same)
    c.step_slot.ensures.stepped

pub returns-clause-last : goal.returns-clause-last
returns-clause-last g c =
    let me = c.args.seat.now.me in let t = c.requires.holds in let n : ℕ = c.args.cell in
    let same = slot_result me (pass_in me.0) (slot_of n) (slot_in me.1) t.alone c.slot_of.result c.slot_of.ensures c.slot_mut-slot.result.now c.slot_mut-slot.ensures.value in
    subst (λ (s : Slot _ _ _). IfOk c.step_slot.result (λ last. IsSomeAnd s (λ content. last ≡ content.last))) (sym same) c.step_slot.ensures.last

pub returns-clause-memory : goal.returns-clause-memory
returns-clause-memory g c =
    let me = c.args.seat.now.me in let t = c.requires.holds in let n : ℕ = c.args.cell in
    let same = slot_result me (pass_in me.0) (slot_of n) (slot_in me.1) t.alone c.slot_of.result c.slot_of.ensures c.slot_mut-slot.result.now c.slot_mut-slot.ensures.value in
    subst (λ (s : Slot _ _ _). OnErr c.step_slot.result (c.step_slot.new.slot ≡ s)) (sym same) c.step_slot.ensures.memory
