-- What becomes of a seat by what is done with it.
use Rattle.std.specs.Prelude.{◌≡◌, ℕ, Option, Some, None, Result, Ok, Err}
use Rattle.k42_kinds.specs.declared.operation.Op.{Op}
use Rattle.k42_kinds.specs.declared.operation.Reply.{Reply}
use Rattle.k42_board.specs.Seen.{IsSamePass}
use Rattle.k42_quiesce.specs.Activities as activities
use Rattle.k42_handles.specs.Calling.{HasServed}
use Rattle.std.specs.Global.{Global}
use Rattle.std_alloc.specs.declared.arc.Arc.{Arc}
use Rattle.k42_handles.specs.declared.home.Home.{Home}
use Rattle.k42_handles.specs.declared.refusal.Refusal.{Refusal}
use Rattle.k42_handles.specs.declared.refusal.Refusal.TheVariants.{Empty, Turn, Argument}
use Rattle.k42_handles.specs.declared.seat.Rests.{Rests as Resting}
use Rattle.k42_handles.specs.declared.seat.Works.{Works as Working}
use Rattle.k42_handles.specs.declared.seat.Seat.{Seat}
use Rattle.k42_handles.specs.declared.seat.Seat.TheVariants.{Gone, Rests, Works}

-- what the handles of one system share
abbrev pub SharedHome : Type 0
SharedHome = Arc Home Global

-- what is told of a seat that may not do what is asked
abbrev pub refusal_of : Seat → Refusal
refusal_of Gone = Empty
refusal_of _ = Turn

-- it is told so, and stays as it is
abbrev pub IsKept : {A : Type 0} → Refusal → Seat → Seat → Result A Refusal → Type 0
IsKept why old new told = (told ≡ Err why) × (new ≡ old)

-- an activity of the pass has begun
pub record HasBegun (old : Resting) (new : Working) : Type 0 where
  pub home : new.home ≡ old.home
  pub same : IsSamePass old.pass.value new.pass.value
  pub entered : activities.HasEntered new.pass.value.view
  pub drawn : new.pass.value.view.taker ≡ old.pass.value.view.taker

-- and has ended
pub record HasEnded (old : Working) (new : Resting) : Type 0 where
  pub home : new.home ≡ old.home
  pub same : IsSamePass old.pass.value new.pass.value
  pub drawn : new.pass.value.view.taker ≡ old.pass.value.view.taker

abbrev pub HasEntered : Seat → Seat → Result (Unit {0}) Refusal → Type 0
HasEntered (Rests old) seat told = (told ≡ Ok tt) × ((new : Working) × (seat ≡ Works new) × HasBegun old new)
HasEntered old seat told = IsKept (refusal_of old) old seat told

abbrev pub HasLeft : Seat → Seat → Result (Unit {0}) Refusal → Type 0
HasLeft (Works old) seat told = (told ≡ Ok tt) × ((new : Resting) × (seat ≡ Rests new) × HasEnded old new)
HasLeft old seat told = IsKept (refusal_of old) old seat told

-- a call of the operation that the arguments spell, if they spell one
abbrev pub HasAnswered : ℕ → Option Op → Seat → Seat → Result Reply Refusal → Type 0
HasAnswered object None old seat told = IsKept Argument old seat told
HasAnswered object (Some op) (Works old) seat told = (new : Working) × (seat ≡ Works new) × HasServed object op old new told
HasAnswered object (Some op) old seat told = IsKept (refusal_of old) old seat told
