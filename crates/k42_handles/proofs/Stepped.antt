-- What a step has done is said of its seat.
use Rattle.std.proofs.Common.{◌≡◌, ℕ, refl, sym, subst}
use Rattle.std.specs.Prelude.{Option, Some, Result, Ok}
use Rattle.k42_kinds.specs.declared.operation.Op.{Op}
use Rattle.k42_kinds.specs.declared.operation.Reply.{Reply}
use Rattle.k42_handles.specs.Calling.{HasServed}
use Rattle.k42_handles.specs.Seats.{HasAnswered, HasBegun, HasEnded, HasEntered, HasLeft}
use Rattle.k42_handles.specs.declared.refusal.Refusal.{Refusal}
use Rattle.k42_handles.specs.declared.seat.Rests.{Rests as Resting}
use Rattle.k42_handles.specs.declared.seat.Works.{Works as Working}
use Rattle.k42_handles.specs.declared.seat.Seat.{Seat}
use Rattle.k42_handles.specs.declared.seat.Seat.TheVariants.{Rests, Works}

pub entered : (seat : Seat) (old : Resting) (new : Working) → seat ≡ Rests old → HasBegun old new → HasEntered seat (Works new) (Ok tt)
entered seat old new was is = subst (λ (from : Seat). HasEntered from (Works new) (Ok tt)) (sym was) (refl, (new, refl, is))

pub left : (seat : Seat) (old : Working) (new : Resting) → seat ≡ Works old → HasEnded old new → HasLeft seat (Rests new) (Ok tt)
left seat old new was is = subst (λ (from : Seat). HasLeft from (Rests new) (Ok tt)) (sym was) (refl, (new, refl, is))

pub answered : (object : ℕ) (asked : Option Op) (op : Op) (seat : Seat) (old new : Working) (told : Result Reply Refusal) → asked ≡ Some op → seat ≡ Works old
    → HasServed object op old new told → HasAnswered object asked seat (Works new) told
answered object asked op seat old new told spelled was is =
    subst (λ (some : Option Op). HasAnswered object some seat (Works new) told) (sym spelled)
    (subst (λ (from : Seat). HasAnswered object (Some op) from (Works new) told) (sym was) (new, refl, is))
