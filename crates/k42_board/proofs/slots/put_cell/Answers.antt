use Rattle.std.proofs.Common.{ℕ, ◌∷◌, sym, ap, ◌∙◌, arith}
use Rattle.std.specs.Prelude.{Some, None}
use Rattle.atomic_table.specs.Table.{rest}
use Rattle.k42_board.specs.Views.{pass_in}
use Rattle.k42_board.specs.Steps.{Seated}
use Rattle.k42_board.specs.Words.{slot_of}
use Rattle.k42_board.proofs.CellsAllowed.{held_one, held_now, reached, reach_seat, reached_seat, put_seat, put_seated, slot_out, slot_result, exchanged, puts_out, puts_back}
use Rattle.k42_board.proofs.slots.put_cell.Goals as goal

pub load-requires : goal.load-requires
load-requires g c =
    let slots : ℕ = c.args.board.now.shared.table_id.slots in let t = c.requires.ours in let one = held_one c.args.held.now c.requires.may in let few = one.2.cell in (
      t.ours,
      (let wide = t.many in let is = c.lock_word-word.ensures in omega (arith, few, wide, is)),
      rw c.lock_word-word.ensures
          (reach_seat _ t.laws _ _ c.args.cell (pass_in c.args.seat.now.me.0) c.args.seat.now.me t.alone c.requires.idle one.0
          one.2 slots),
    )

pub swap_slot-requires-clause-out : goal.swap_slot-requires-clause-out
swap_slot-requires-clause-out g c κs within =
    let one = held_one c.args.held.now c.requires.may in let v = pass_in c.args.seat.now.me.0 in let t = c.requires.ours in
    slot_out c.load.new.seat.me (reached c.args.cell v) (slot_of c.args.cell) None
    (reached_seat c.args.cell v c.args.seat.now.me t.alone one.2.cell c.lock_word-word.result c.lock_word-word.ensures c.load.new.seat.me c.load.ensures.2)
    c.slot_of.result c.slot_of.ensures

pub returns-clause-none : goal.returns-clause-none
returns-clause-none g c =
    let one = held_one c.args.held.now c.requires.may in let x = c.swap_slot.ensures in let v = pass_in c.args.seat.now.me.0 in let t = c.requires.ours in
    let out = reached_seat c.args.cell v c.args.seat.now.me t.alone one.2.cell c.lock_word-word.result c.lock_word-word.ensures c.load.new.seat.me c.load.ensures.2 in
    sym (slot_result c.load.new.seat.me (reached c.args.cell v) (slot_of c.args.cell) None out c.slot_of.result c.slot_of.ensures c.swap_slot.new.held x.found)

pub load-requires-2 : goal.load-requires-2
load-requires-2 g c =
    let e = c.load.ensures in let x = c.swap_slot.ensures in let v = pass_in c.args.seat.now.me.0 in let t = c.requires.ours in
    let slots : ℕ = c.args.board.now.shared.table_id.slots in let one = held_one c.args.held.now c.requires.may in let few = one.2.cell in
    let out = reached_seat c.args.cell v c.args.seat.now.me t.alone few c.lock_word-word.result c.lock_word-word.ensures c.load.new.seat.me e.2 in
    let held = ap {B = Seated _ _ _} (λ content. (c.load.new.seat.me.0, (c.slot_of.result, content) ∷ rest c.load.new.seat.me.1)) one.1 in
    let now = exchanged c.load.new.seat.me (reached c.args.cell v) (slot_of c.args.cell) None out c.slot_of.result c.slot_of.ensures
    c.swap_slot.new.seat.me (Some one.0) (x.left ∙ held) in (
      x.table ∙ e.0 ∙ t.ours,
      (let wide = t.many in let is = c.lock_word-word.ensures in omega (arith, few, wide, is)),
      rw c.lock_word-word.ensures
          (put_seat _ t.laws _ _ c.args.cell v c.args.seat.now.me t.alone c.requires.idle one.0 one.2
          c.swap_slot.new.seat.me now c.swap_slot.new.seat.id (x.seat ∙ e.1) slots),
    )

pub returns-clause-put : goal.returns-clause-put
returns-clause-put g c =
    let e = c.load.ensures in let x = c.swap_slot.ensures in let v = pass_in c.args.seat.now.me.0 in let t = c.requires.ours in let n : ℕ = c.args.cell in
    let one = held_one c.args.held.now c.requires.may in let few = one.2.cell in let after = c.load-2.new.seat in
    let out = reached_seat n v c.args.seat.now.me t.alone few c.lock_word-word.result c.lock_word-word.ensures c.load.new.seat.me e.2 in
    let held = ap {B = Seated _ _ _} (λ content. (c.load.new.seat.me.0, (c.slot_of.result, content) ∷ rest c.load.new.seat.me.1)) one.1 in
    let now = exchanged c.load.new.seat.me (reached n v) (slot_of n) None out c.slot_of.result c.slot_of.ensures c.swap_slot.new.seat.me (Some one.0) (x.left ∙ held) in
    let alone = put_seated n v c.args.seat.now.me t.alone few c.lock_word-word.result c.lock_word-word.ensures one.0 (reached n v) (slot_of n)
    c.swap_slot.new.seat.me after.me now c.load-2.ensures.2 in
    held_now _ c.args.held.now one.0 one.1 (record {
      table = c.load-2.ensures.0 ∙ x.table ∙ e.0;
      seat = c.load-2.ensures.1 ∙ x.seat ∙ e.1;
      alone = alone;
      out = puts_out _ t.laws _ c.args.seat.now.id n v c.requires.idle one.0 one.2;
      back = puts_back _ t.laws _ c.args.seat.now.id n v c.requires.idle one.0 one.2 (pass_in after.me.0)
          (sym (ap (λ (m : Seated _ _ _). pass_in m.0) alone));
    })
