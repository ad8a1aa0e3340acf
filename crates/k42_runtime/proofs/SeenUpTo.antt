-- What a pass has seen is not later than its last entry.
use Rattle.std.proofs.Common.{ℕ, ◌<◌, ◌≤◌, List, ap, subst, ⊎_elim, arith}
use Rattle.k42_kinds.specs.declared.entry.Entry.{Entry}
use Rattle.turn_core.specs.Plain.{Caller}
use Rattle.turn_core.specs.Stamps.{last_stamp}
use Rattle.turn_core.proofs.Reached.{lists-rise}
use Rattle.turn_core.proofs.Rising.{last-above}
use Rattle.k42_stamp.specs.Laws.{AreLaws}
use Rattle.k42_stamp.specs.Layouts.{Layouts}
use Rattle.k42_stamp.specs.Orders.{In}
use Rattle.k42_joined.specs.Plain.{Joined}
use Rattle.k42_joined.specs.Seen.{HasSeen, StoodBefore, WasHanded}
use Rattle.k42_joined.specs.Sound.{IsSound}
use Rattle.k42_joined.specs.State.{many_callers, mine}
use Rattle.k42_joined.proofs.RowsStamps.{in_place}
use Rattle.k42_joined.proofs.SeenBelow.{stood_below, handed_below}
use Rattle.k42_board.specs.Steps.{Always}
use Rattle.k42_board.specs.declared.view.PassView.{PassView}
use Rattle.k42_board.proofs.OnePass.{known}
use Rattle.k42_runtime.specs.Calls.{SeesUpTo}

module _ {S L P O R : Type 0} (F : Layouts S L P O R) (laws : AreLaws F) (declared : List L) where
  module _ (s : Joined L O R) (sound : IsSound F declared s) (c : ℕ) (there : c < many_callers s) where
    own_up_to : (f : Entry O R) → In f (mine s c) → f.stamp ≤ last_stamp (mine s c)
    own_up_to f is =
        let placed = in_place f (mine s c) is in
        last-above (mine s c) placed.place f (lists-rise s.turns c sound.cells.turns) placed.at

    seen_up_to : (f : Entry O R) → HasSeen s c f → f.stamp ≤ last_stamp (mine s c)
    seen_up_to f seen =
        ⊎_elim (λ (own : In f (mine s c)). own_up_to f own)
        (λ other. ⊎_elim
        (λ (stood : StoodBefore s c f).
        let low = stood_below F laws declared s sound c there f stood in
        let high = own_up_to stood.own stood.drawn in
        omega (arith, low, high))
        (λ (was : WasHanded s c f).
        let low = handed_below F laws declared s sound c there f was in
        let high = own_up_to was.own was.drawn in
        omega (arith, low, high)) other)
        seen

  pub seen_always : (id : ℕ) (v : PassView P O R) → Always F declared id v (SeesUpTo v.number (last_stamp v.taker.mine))
  seen_always id v table r at entry seen =
      let knows = known F declared table r id v at in
      subst (λ (xs : List (Entry O R)). entry.stamp ≤ last_stamp xs) (ap (λ (x : Caller O R). x.mine) knows.cells.taker)
      (seen_up_to r.state r.sound v.number knows.there entry seen)
