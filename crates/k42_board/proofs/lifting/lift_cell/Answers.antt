use Rattle.std.proofs.Common.{◌≡◌, ℕ, ap, ◌∙◌, sym, subst, arith}
use Rattle.std.specs.Prelude.{Some, IsSomeAnd}
use Rattle.k42_board.specs.Views.{pass_in}
use Rattle.k42_board.specs.Words.{slot_of}
use Rattle.k42_board.proofs.CellsAllowed.{held_now, lifted, lifted_seat}
use Rattle.k42_board.proofs.CellsApart.{cell_at_word}
use Rattle.k42_board.proofs.LiftedSlots.{pass_is, slot_is, seat_alone, lift_out, lift_moved, lifted_whole}
use Rattle.k42_board.proofs.lifting.lift_cell.Goals as goal

pub load-requires : goal.load-requires
load-requires g c =
    let slots : ℕ = c.args.board.now.shared.table_id.slots in let t = c.requires.ours in let few = c.requires.may.cell in (
      t.ours,
      (let wide = t.many in let is = c.lock_word.ensures in omega (arith, few, wide, is)),
      rw c.lock_word.ensures
          (lift_out _ t.laws _ _ c.args.cell (pass_in c.args.seat.now.me.0) c.requires.idle c.requires.may c.args.seat.now.me t.alone _ c.requires.known slots),
    )

pub returns-clause-holds : goal.returns-clause-holds
returns-clause-holds g c =
    let e = c.load.ensures in let u = e.2.0 in let v = pass_in c.args.seat.now.me.0 in let t = c.requires.ours in let few = c.requires.may.cell in
    let n : ℕ = c.args.cell in let me = c.load.new.seat.me in
    let is = lifted_seat n v c.args.seat.now.me t.alone few c.lock_word.result c.lock_word.ensures u.0 me u.2 in
    let number = u.1 ∙ cell_at_word n few c.lock_word.result c.lock_word.ensures in
    record {
      ours = e.0 ∙ t.ours;
      many = t.many;
      laws = t.laws;
      cell = few;
      alone = seat_alone me (lifted n u.0 v) (slot_of n) (Some u.0) is;
      out = ap (λ w. w.out) (pass_is me (lifted n u.0 v) (slot_of n) (Some u.0) is) ∙ ap Some number;
      full = subst (λ slot. IsSomeAnd slot (λ content. content.number ≡ n)) (sym (slot_is me (lifted n u.0 v) (slot_of n) (Some u.0) is)) number;
    }

pub returns-clause-lifted : goal.returns-clause-lifted
returns-clause-lifted g c =
    let e = c.load.ensures in let u = e.2.0 in let v = pass_in c.args.seat.now.me.0 in let t = c.requires.ours in let few = c.requires.may.cell in
    let n : ℕ = c.args.cell in let me = c.load.new.seat.me in
    let is = lifted_seat n v c.args.seat.now.me t.alone few c.lock_word.result c.lock_word.ensures u.0 me u.2 in
    held_now _ _ u.0 (slot_is me (lifted n u.0 v) (slot_of n) (Some u.0) is) (record {
      table = e.0;
      seat = e.1;
      alone = is;
      moved = lift_moved _ t.laws _ c.args.seat.now.id n v c.requires.idle c.requires.may u.0 (pass_in me.0) (pass_is me (lifted n u.0 v) (slot_of n) (Some u.0) is);
    })

pub returns-clause-whole : goal.returns-clause-whole
returns-clause-whole g c =
    let e = c.load.ensures in let u = e.2.0 in let v = pass_in c.args.seat.now.me.0 in let t = c.requires.ours in let few = c.requires.may.cell in
    let n : ℕ = c.args.cell in let me = c.load.new.seat.me in
    let is = lifted_seat n v c.args.seat.now.me t.alone few c.lock_word.result c.lock_word.ensures u.0 me u.2 in
    held_now _ _ u.0 (slot_is me (lifted n u.0 v) (slot_of n) (Some u.0) is)
    (lifted_whole _ t.laws _ c.load.new.seat.id n v u.0 (u.1 ∙ cell_at_word n few c.lock_word.result c.lock_word.ensures) (pass_in me.0) (pass_is me (lifted n u.0 v) (slot_of n) (Some u.0) is))
