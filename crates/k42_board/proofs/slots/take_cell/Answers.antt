use Rattle.std.proofs.Common.{◌≡◌, ℕ, ◌∷◌, sym, ap, ◌∙◌, subst, arith}
use Rattle.std.specs.Prelude.{Some, None, IsSomeAnd}
use Rattle.atomic_table.specs.Table.{rest}
use Rattle.k42_board.specs.Views.{pass_in}
use Rattle.k42_board.specs.Steps.{Seated}
use Rattle.k42_board.specs.Words.{slot_of}
use Rattle.k42_board.proofs.CellsAllowed.{held_now, lifted, lift_seat, lifted_seat, give_seat, given_seat, slot_out, slot_result, exchanged, given_known, takes_out, takes_back, taken_whole}
use Rattle.k42_board.proofs.CellsApart.{cell_at_word}
use Rattle.k42_board.proofs.slots.take_cell.Goals as goal

pub load-requires : goal.load-requires
load-requires g c =
    let slots : ℕ = c.args.board.now.shared.table_id.slots in let t = c.requires.ours in let few = c.requires.may.cell in (
      t.ours,
      (let wide = t.many in let is = c.lock_word-word.ensures in omega (arith, few, wide, is)),
      rw c.lock_word-word.ensures
          (lift_seat _ t.laws _ _ c.args.cell (pass_in c.args.seat.now.me.0) c.args.seat.now.me t.alone c.requires.idle c.requires.may slots),
    )

pub swap_slot-requires-clause-out : goal.swap_slot-requires-clause-out
swap_slot-requires-clause-out g c κs within =
    let u = c.load.ensures.2 in let v = pass_in c.args.seat.now.me.0 in let t = c.requires.ours in let n : ℕ = c.args.cell in
    slot_out c.load.new.seat.me (lifted n u.0 v) (slot_of n) (Some u.0)
    (lifted_seat n v c.args.seat.now.me t.alone c.requires.may.cell c.lock_word-word.result c.lock_word-word.ensures u.0 c.load.new.seat.me u.2)
    c.slot_of-slot.result c.slot_of-slot.ensures

pub load-requires-2 : goal.load-requires-2
load-requires-2 g c =
    let e = c.load.ensures in let u = e.2 in let x = c.swap_slot.ensures in let v = pass_in c.args.seat.now.me.0 in let t = c.requires.ours in
    let slots : ℕ = c.args.board.now.shared.table_id.slots in let few = c.requires.may.cell in let n : ℕ = c.args.cell in
    let out = lifted_seat n v c.args.seat.now.me t.alone few c.lock_word-word.result c.lock_word-word.ensures u.0 c.load.new.seat.me u.2 in
    let none = ap {B = Seated _ _ _} (λ content. (c.load.new.seat.me.0, (c.slot_of-slot.result, content) ∷ rest c.load.new.seat.me.1)) c.requires.free in
    let now = exchanged c.load.new.seat.me (lifted n u.0 v) (slot_of n) (Some u.0) out c.slot_of-slot.result c.slot_of-slot.ensures c.swap_slot.new.seat.me None (x.left ∙ none) in (
      x.table ∙ e.0 ∙ t.ours,
      (let wide = t.many in let is = c.lock_word-word.ensures in omega (arith, few, wide, is)),
      rw c.lock_word-word.ensures
          (give_seat _ t.laws _ _ n v c.args.seat.now.me t.alone c.requires.idle _ c.requires.known few u.0
          (u.1 ∙ cell_at_word n few c.lock_word-word.result c.lock_word-word.ensures) c.swap_slot.new.seat.me now slots),
    )

-- the content that was found is the one that is held
pub returns-clause-number : goal.returns-clause-number
returns-clause-number g c =
    let e = c.load.ensures in let u = e.2 in let x = c.swap_slot.ensures in let v = pass_in c.args.seat.now.me.0 in let t = c.requires.ours in
    let few = c.requires.may.cell in let n : ℕ = c.args.cell in
    let out = lifted_seat n v c.args.seat.now.me t.alone few c.lock_word-word.result c.lock_word-word.ensures u.0 c.load.new.seat.me u.2 in
    let found = slot_result c.load.new.seat.me (lifted n u.0 v) (slot_of n) (Some u.0) out c.slot_of-slot.result c.slot_of-slot.ensures c.swap_slot.new.held x.found in
    subst (λ held. IsSomeAnd held (λ content. content.number ≡ n)) found (u.1 ∙ cell_at_word n few c.lock_word-word.result c.lock_word-word.ensures)

pub returns-clause-known : goal.returns-clause-known
returns-clause-known g c =
    let e = c.load.ensures in let u = e.2 in let x = c.swap_slot.ensures in let v = pass_in c.args.seat.now.me.0 in let t = c.requires.ours in
    let few = c.requires.may.cell in let n : ℕ = c.args.cell in
    let out = lifted_seat n v c.args.seat.now.me t.alone few c.lock_word-word.result c.lock_word-word.ensures u.0 c.load.new.seat.me u.2 in
    let none = ap {B = Seated _ _ _} (λ content. (c.load.new.seat.me.0, (c.slot_of-slot.result, content) ∷ rest c.load.new.seat.me.1)) c.requires.free in
    let now = exchanged c.load.new.seat.me (lifted n u.0 v) (slot_of n) (Some u.0) out c.slot_of-slot.result c.slot_of-slot.ensures c.swap_slot.new.seat.me None (x.left ∙ none) in
    given_known g.K.Known.known c.lock_word-word.result c.swap_slot.new.seat.me c.load-2.new.seat.me (lifted n u.0 v) _ now (c.load-2.ensures.2).0 (c.load-2.ensures.2).1

pub returns-clause-taken : goal.returns-clause-taken
returns-clause-taken g c =
    let e = c.load.ensures in let u = e.2 in let x = c.swap_slot.ensures in let v = pass_in c.args.seat.now.me.0 in let t = c.requires.ours in
    let few = c.requires.may.cell in let n : ℕ = c.args.cell in let after = c.load-2.new.seat in
    let out = lifted_seat n v c.args.seat.now.me t.alone few c.lock_word-word.result c.lock_word-word.ensures u.0 c.load.new.seat.me u.2 in
    let none = ap {B = Seated _ _ _} (λ content. (c.load.new.seat.me.0, (c.slot_of-slot.result, content) ∷ rest c.load.new.seat.me.1)) c.requires.free in
    let now = exchanged c.load.new.seat.me (lifted n u.0 v) (slot_of n) (Some u.0) out c.slot_of-slot.result c.slot_of-slot.ensures c.swap_slot.new.seat.me None (x.left ∙ none) in
    let found = slot_result c.load.new.seat.me (lifted n u.0 v) (slot_of n) (Some u.0) out c.slot_of-slot.result c.slot_of-slot.ensures c.swap_slot.new.held x.found in
    let alone = given_seat n v c.args.seat.now.me t.alone few c.lock_word-word.result c.lock_word-word.ensures (lifted n u.0 v) (slot_of n)
    c.swap_slot.new.seat.me after.me now (c.load-2.ensures.2).0 in
    held_now _ c.swap_slot.new.held u.0 (sym found) (record {
      table = c.load-2.ensures.0 ∙ x.table ∙ e.0;
      seat = c.load-2.ensures.1 ∙ x.seat ∙ e.1;
      alone = alone;
      out = takes_out _ t.laws _ c.args.seat.now.id n v c.requires.idle c.requires.may u.0;
      back = takes_back _ t.laws _ c.args.seat.now.id n v c.requires.idle u.0 (u.1 ∙ cell_at_word n few c.lock_word-word.result c.lock_word-word.ensures) (pass_in after.me.0)
          (sym (ap (λ (m : Seated _ _ _). pass_in m.0) alone));
    })

pub returns-clause-whole : goal.returns-clause-whole
returns-clause-whole g c =
    let e = c.load.ensures in let u = e.2 in let x = c.swap_slot.ensures in let v = pass_in c.args.seat.now.me.0 in let t = c.requires.ours in
    let few = c.requires.may.cell in let n : ℕ = c.args.cell in let after = c.load-2.new.seat in
    let out = lifted_seat n v c.args.seat.now.me t.alone few c.lock_word-word.result c.lock_word-word.ensures u.0 c.load.new.seat.me u.2 in
    let none = ap {B = Seated _ _ _} (λ content. (c.load.new.seat.me.0, (c.slot_of-slot.result, content) ∷ rest c.load.new.seat.me.1)) c.requires.free in
    let now = exchanged c.load.new.seat.me (lifted n u.0 v) (slot_of n) (Some u.0) out c.slot_of-slot.result c.slot_of-slot.ensures c.swap_slot.new.seat.me None (x.left ∙ none) in
    let found = slot_result c.load.new.seat.me (lifted n u.0 v) (slot_of n) (Some u.0) out c.slot_of-slot.result c.slot_of-slot.ensures c.swap_slot.new.held x.found in
    let alone = given_seat n v c.args.seat.now.me t.alone few c.lock_word-word.result c.lock_word-word.ensures (lifted n u.0 v) (slot_of n)
    c.swap_slot.new.seat.me after.me now (c.load-2.ensures.2).0 in
    held_now _ c.swap_slot.new.held u.0 (sym found)
    (taken_whole _ t.laws _ after.id n v c.requires.idle u.0 (u.1 ∙ cell_at_word n few c.lock_word-word.result c.lock_word-word.ensures) (pass_in after.me.0)
    (sym (ap (λ (m : Seated _ _ _). pass_in m.0) alone)))
