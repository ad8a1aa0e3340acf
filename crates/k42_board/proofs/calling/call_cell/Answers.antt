use Rattle.std.proofs.Common.{ℕ, subst}
use Rattle.k42_board.specs.Calling.{HasStepped}
use Rattle.k42_board.specs.Lifted.{StaysFull, slot_in}
use Rattle.k42_board.proofs.CalledCells.{left_cell, tell_holds, tell_first, tell_due, put_holds, put_may, called_cell, called_same}
use Rattle.k42_board.proofs.calling.call_cell.Goals as goal

pub returns-in_default-clause-memory : goal.returns-in_default-clause-memory
returns-in_default-clause-memory g c =
    left_cell _ c.args.board.now.shared.key c.args.cell c.args.seat.now c.lift_cell.new.seat c.step_lifted.new.seat c.lift_cell.ensures.holds.full c.lift_cell.ensures.lifted
    c.lift_cell.ensures.known c.step_lifted.ensures.ours c.step_lifted.ensures.seated c.put_lifted.new.seat c.in_default.ensures.memory c.put_lifted.ensures

pub tell_lifted-requires-clause-holds : goal.tell_lifted-requires-clause-holds
tell_lifted-requires-clause-holds g c κs within =
    let key = c.args.board.now.shared.key in let n : ℕ = c.args.cell in let s0 = c.args.seat.now in let s1 = c.lift_cell.new.seat in let s2 = c.step_lifted.new.seat in let s3 = c.draw_lifted.new.seat in
    let full = c.lift_cell.ensures.holds.full in let lifts = c.lift_cell.ensures.lifted in let layout = c.args.layout.now in let op = c.args.op.now in let reply = c.step_lifted.new.reply in
    let stepped : StaysFull (HasStepped (g.L.Layout.ways layout) key.procs c.args.place op reply) (slot_in s1.me.1) (slot_in s2.me.1) =
    subst (λ (k : ℕ). StaysFull (HasStepped (g.L.Layout.ways layout) k c.args.place op reply) (slot_in s1.me.1) (slot_in s2.me.1)) c.requires.procs c.in-Ok.ensures.stepped in
    tell_holds _ key n s0 s1 s2 full lifts c.lift_cell.ensures.known c.step_lifted.ensures.ours c.step_lifted.ensures.seated layout c.args.place op reply stepped c.requires.call s3 c.draw_lifted.ensures c.lift_cell.ensures.holds

pub tell_lifted-requires-clause-first : goal.tell_lifted-requires-clause-first
tell_lifted-requires-clause-first g c κs within =
    let key = c.args.board.now.shared.key in let n : ℕ = c.args.cell in let s0 = c.args.seat.now in let s1 = c.lift_cell.new.seat in let s2 = c.step_lifted.new.seat in let s3 = c.draw_lifted.new.seat in
    let full = c.lift_cell.ensures.holds.full in let lifts = c.lift_cell.ensures.lifted in let layout = c.args.layout.now in let op = c.args.op.now in let reply = c.step_lifted.new.reply in
    let stepped : StaysFull (HasStepped (g.L.Layout.ways layout) key.procs c.args.place op reply) (slot_in s1.me.1) (slot_in s2.me.1) =
    subst (λ (k : ℕ). StaysFull (HasStepped (g.L.Layout.ways layout) k c.args.place op reply) (slot_in s1.me.1) (slot_in s2.me.1)) c.requires.procs c.in-Ok.ensures.stepped in
    tell_first _ key n s0 s1 s2 full lifts c.lift_cell.ensures.known c.step_lifted.ensures.ours c.step_lifted.ensures.seated layout c.args.place op reply stepped c.requires.call s3 c.draw_lifted.ensures

pub tell_lifted-requires-clause-due : goal.tell_lifted-requires-clause-due
tell_lifted-requires-clause-due g c κs within =
    let key = c.args.board.now.shared.key in let n : ℕ = c.args.cell in let s0 = c.args.seat.now in let s1 = c.lift_cell.new.seat in let s2 = c.step_lifted.new.seat in let s3 = c.draw_lifted.new.seat in
    let full = c.lift_cell.ensures.holds.full in let lifts = c.lift_cell.ensures.lifted in let layout = c.args.layout.now in let op = c.args.op.now in let reply = c.step_lifted.new.reply in
    let stepped : StaysFull (HasStepped (g.L.Layout.ways layout) key.procs c.args.place op reply) (slot_in s1.me.1) (slot_in s2.me.1) =
    subst (λ (k : ℕ). StaysFull (HasStepped (g.L.Layout.ways layout) k c.args.place op reply) (slot_in s1.me.1) (slot_in s2.me.1)) c.requires.procs c.in-Ok.ensures.stepped in
    tell_due _ key n s0 s1 s2 full lifts c.lift_cell.ensures.known c.step_lifted.ensures.ours c.step_lifted.ensures.seated layout c.args.place op reply stepped c.requires.call s3 c.draw_lifted.ensures
    c.args.clock c.in-Ok.last c.stamp_after-stamp.result c.requires.clock.0 c.in-Ok.ensures.last c.stamp_after-stamp.ensures

pub put_lifted-requires-2-clause-holds : goal.put_lifted-requires-2-clause-holds
put_lifted-requires-2-clause-holds g c κs within =
    let key = c.args.board.now.shared.key in let n : ℕ = c.args.cell in let s0 = c.args.seat.now in let s1 = c.lift_cell.new.seat in let s2 = c.step_lifted.new.seat in let s3 = c.draw_lifted.new.seat in
    let full = c.lift_cell.ensures.holds.full in let lifts = c.lift_cell.ensures.lifted in let layout = c.args.layout.now in let op = c.args.op.now in let reply = c.step_lifted.new.reply in
    let stepped : StaysFull (HasStepped (g.L.Layout.ways layout) key.procs c.args.place op reply) (slot_in s1.me.1) (slot_in s2.me.1) =
    subst (λ (k : ℕ). StaysFull (HasStepped (g.L.Layout.ways layout) k c.args.place op reply) (slot_in s1.me.1) (slot_in s2.me.1)) c.requires.procs c.in-Ok.ensures.stepped in
    put_holds _ key n s0 s1 s2 full lifts c.lift_cell.ensures.known c.step_lifted.ensures.ours c.step_lifted.ensures.seated layout c.args.place op reply stepped c.requires.call s3 c.draw_lifted.ensures
    c.args.clock c.in-Ok.last c.stamp_after-stamp.result c.requires.clock.0 c.in-Ok.ensures.last c.stamp_after-stamp.ensures c.tell_lifted.new.seat c.tell_lifted.ensures.ours c.tell_lifted.ensures.seated c.tell_lifted.ensures.told c.lift_cell.ensures.holds

pub put_lifted-requires-2-clause-may : goal.put_lifted-requires-2-clause-may
put_lifted-requires-2-clause-may g c κs within =
    let key = c.args.board.now.shared.key in let n : ℕ = c.args.cell in let s0 = c.args.seat.now in let s1 = c.lift_cell.new.seat in let s2 = c.step_lifted.new.seat in let s3 = c.draw_lifted.new.seat in
    let full = c.lift_cell.ensures.holds.full in let lifts = c.lift_cell.ensures.lifted in let layout = c.args.layout.now in let op = c.args.op.now in let reply = c.step_lifted.new.reply in
    let stepped : StaysFull (HasStepped (g.L.Layout.ways layout) key.procs c.args.place op reply) (slot_in s1.me.1) (slot_in s2.me.1) =
    subst (λ (k : ℕ). StaysFull (HasStepped (g.L.Layout.ways layout) k c.args.place op reply) (slot_in s1.me.1) (slot_in s2.me.1)) c.requires.procs c.in-Ok.ensures.stepped in
    put_may _ key n s0 s1 s2 full lifts c.lift_cell.ensures.known c.step_lifted.ensures.ours c.step_lifted.ensures.seated layout c.args.place op reply stepped c.requires.call s3 c.draw_lifted.ensures
    c.args.clock c.in-Ok.last c.stamp_after-stamp.result c.requires.clock.0 c.in-Ok.ensures.last c.stamp_after-stamp.ensures c.tell_lifted.new.seat c.tell_lifted.ensures.ours c.tell_lifted.ensures.seated c.tell_lifted.ensures.told

pub returns-clause-ours : goal.returns-clause-ours
returns-clause-ours g c =
    let key = c.args.board.now.shared.key in let n : ℕ = c.args.cell in let s0 = c.args.seat.now in let s1 = c.lift_cell.new.seat in let s2 = c.step_lifted.new.seat in let s3 = c.draw_lifted.new.seat in
    let full = c.lift_cell.ensures.holds.full in let lifts = c.lift_cell.ensures.lifted in let layout = c.args.layout.now in let op = c.args.op.now in let reply = c.step_lifted.new.reply in
    let stepped : StaysFull (HasStepped (g.L.Layout.ways layout) key.procs c.args.place op reply) (slot_in s1.me.1) (slot_in s2.me.1) =
    subst (λ (k : ℕ). StaysFull (HasStepped (g.L.Layout.ways layout) k c.args.place op reply) (slot_in s1.me.1) (slot_in s2.me.1)) c.requires.procs c.in-Ok.ensures.stepped in
    called_same _ key n s0 s1 s2 full lifts c.lift_cell.ensures.known c.step_lifted.ensures.ours c.step_lifted.ensures.seated layout c.args.place op reply stepped c.requires.call s3 c.draw_lifted.ensures
    c.args.clock c.in-Ok.last c.stamp_after-stamp.result c.requires.clock.0 c.in-Ok.ensures.last c.stamp_after-stamp.ensures c.tell_lifted.new.seat c.tell_lifted.ensures.ours c.tell_lifted.ensures.seated c.tell_lifted.ensures.told c.put_lifted-2.new.seat c.put_lifted-2.ensures

pub returns-clause-called : goal.returns-clause-called
returns-clause-called g c =
    let key = c.args.board.now.shared.key in let n : ℕ = c.args.cell in let s0 = c.args.seat.now in let s1 = c.lift_cell.new.seat in let s2 = c.step_lifted.new.seat in let s3 = c.draw_lifted.new.seat in
    let full = c.lift_cell.ensures.holds.full in let lifts = c.lift_cell.ensures.lifted in let layout = c.args.layout.now in let op = c.args.op.now in let reply = c.step_lifted.new.reply in
    let stepped : StaysFull (HasStepped (g.L.Layout.ways layout) key.procs c.args.place op reply) (slot_in s1.me.1) (slot_in s2.me.1) =
    subst (λ (k : ℕ). StaysFull (HasStepped (g.L.Layout.ways layout) k c.args.place op reply) (slot_in s1.me.1) (slot_in s2.me.1)) c.requires.procs c.in-Ok.ensures.stepped in
    called_cell _ key n s0 s1 s2 full lifts c.lift_cell.ensures.known c.step_lifted.ensures.ours c.step_lifted.ensures.seated layout c.args.place op reply stepped c.requires.call s3 c.draw_lifted.ensures
    c.args.clock c.in-Ok.last c.stamp_after-stamp.result c.requires.clock.0 c.in-Ok.ensures.last c.stamp_after-stamp.ensures c.tell_lifted.new.seat c.tell_lifted.ensures.ours c.tell_lifted.ensures.seated c.tell_lifted.ensures.told c.put_lifted-2.new.seat c.put_lifted-2.ensures
