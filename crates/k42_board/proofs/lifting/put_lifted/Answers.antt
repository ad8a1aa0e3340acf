use Rattle.std.proofs.Common.{ℕ, [], ◌∷◌, refl, ap, ◌∙◌, arith}
use Rattle.k42_board.specs.Lifted.{slot_in}
use Rattle.k42_board.specs.Steps.{Seated}
use Rattle.k42_board.specs.Views.{pass_in}
use Rattle.k42_board.specs.Words.{slot_of}
use Rattle.k42_board.specs.declared.view.View.TheVariants.{Crew}
use Rattle.k42_board.proofs.CellsAllowed.{held_one, held_now, put_seated}
use Rattle.k42_board.proofs.LiftedSlots.{put_back, put_moved}
use Rattle.k42_board.proofs.lifting.put_lifted.Goals as goal

pub load-requires : goal.load-requires
load-requires g c =
    let slots : ℕ = c.args.board.now.shared.table_id.slots in let t = c.requires.holds in let me = c.args.seat.now.me in let v = pass_in me.0 in let n : ℕ = c.args.cell in
    let one = held_one (slot_in me.1) c.requires.may in
    let is = t.alone ∙ ap {B = Seated _ _ _} (λ slot. (Crew (v ∷ []), (slot_of n, slot) ∷ [])) one.1 in (
      t.ours,
      (let wide = t.many in let few = t.cell in let is = c.lock_word.ensures in omega (arith, few, wide, is)),
      rw c.lock_word.ensures (put_back _ t.laws _ _ n v one.0 one.2 t.out me is slots),
    )

pub returns : goal.returns
returns g c =
    let t = c.requires.holds in let me = c.args.seat.now.me in let v = pass_in me.0 in let n : ℕ = c.args.cell in
    let one = held_one (slot_in me.1) c.requires.may in let e = c.load.ensures in let now = c.load.new.seat in
    let is = t.alone ∙ ap {B = Seated _ _ _} (λ slot. (Crew (v ∷ []), (slot_of n, slot) ∷ [])) one.1 in
    let alone = put_seated n v (Crew (v ∷ []), []) refl t.cell c.lock_word.result c.lock_word.ensures one.0 v (slot_of n) me now.me is e.2 in
    held_now _ (slot_in me.1) one.0 one.1 (record {
      table = e.0;
      seat = e.1;
      alone = alone;
      moved = put_moved _ t.laws _ c.args.seat.now.id n v one.0 one.2 t.out (pass_in now.me.0) (ap (λ (m : Seated _ _ _). pass_in m.0) alone);
    })
