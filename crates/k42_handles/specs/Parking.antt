-- What becomes of a seat whose pass is put to the desk of its home for a section.
use Rattle.std.specs.Prelude.{◌≡◌, ◌≢◌, ◌⊎◌, ℕ, Bool, true, false, List, Result, Ok, Err, IsSomeAnd, slice_get}
use Rattle.std.specs.Arc.{arc_value}
use Rattle.k42_board.specs.declared.keep.Keep.TheVariants as keeps
use Rattle.k42_crews.specs.Ready.{AreFree, AreAll, MayGive}
use Rattle.k42_kinds.specs.declared.operation.Op.{Op}
use Rattle.k42_kinds.specs.declared.operation.Reply.{Reply}
use Rattle.k42_kinds.specs.declared.entry.Entry.{Entry}
use Rattle.k42_runtime.specs.Sections.{IsSection}
use Rattle.co_system.specs.Systems.{SystemSeen, SystemPass}
use Rattle.k42_handles.specs.Closing.{AreGiven}
use Rattle.k42_handles.specs.Missing.{missing_in}
use Rattle.k42_handles.specs.Seats.{SharedHome, refusal_of, IsKept}
use Rattle.k42_handles.specs.declared.parking.Parked.{Parked}
use Rattle.k42_handles.specs.declared.parking.Parked.TheVariants as parked
use Rattle.k42_handles.specs.declared.parking.Resumed.{Resumed}
use Rattle.k42_handles.specs.declared.parking.Resumed.TheVariants as resumed
use Rattle.k42_handles.specs.declared.refusal.Refusal.{Refusal}
use Rattle.k42_handles.specs.declared.refusal.Refusal.TheVariants.{Again, Memory, Sections, Turn}
use Rattle.k42_handles.specs.declared.seat.End.{End}
use Rattle.k42_handles.specs.declared.seat.End.TheVariants.{Open, Section}
use Rattle.k42_handles.specs.declared.seat.Parks.{Parks as Parking}
use Rattle.k42_handles.specs.declared.seat.Rests.{Rests as Resting}
use Rattle.k42_handles.specs.declared.seat.Seat.{Seat}
use Rattle.k42_handles.specs.declared.seat.Seat.TheVariants.{Gone, Parks, Rests}

-- Passes that lie at the desk have given a section, or some are missing.
abbrev pub HaveTried : SystemSeen → List SystemPass → List SystemPass → End → End → Result Parked Refusal → Type 0
HaveTried system old new from to (Ok parked.Section) =
    MayGive system old × ((section : List (Entry Op Reply)) × (to ≡ Section section) × IsSection old new section)
HaveTried system old new from to (Ok (parked.Missing which)) =
    (¬ AreAll system old) × (which ≡ missing_in system old) × (new ≡ old) × (to ≡ from)
HaveTried system old new from to (Err Memory) = AreAll system old × (new ≡ old) × (to ≡ from)
HaveTried system old new from to (Err Sections) = AreAll system old × (¬ MayGive system old) × (new ≡ old) × (to ≡ from)
HaveTried system old new from to (Ok parked.Closed) = ⊥
HaveTried system old new from to (Err why) = ⊥

-- the pass of this caller lies there, with these
pub record IsParked (home : SharedHome) (caller : ℕ) (old : List SystemPass) (from : End) (seat : Seat) (told : Result Parked Refusal) : Type 0 where
  pub kept : Parking
  pub seat_is : seat ≡ Parks kept
  pub home_is : kept.home ≡ home
  pub caller_is : kept.caller ≡ caller
  pub new : List SystemPass
  pub given : HaveTried (arc_value home).system old new from kept.section.value told

-- it was put there, and they tried to give a section
pub record HasParked (old : Resting) (seat : Seat) (told : Result Parked Refusal) : Type 0 where
  pub passes : List SystemPass
  pub there : AreGiven (arc_value old.home).system old.pass.value passes
  pub parked : IsParked old.home old.pass.value.view.number passes Open seat told

pub record HasParkedOrNot (old : Resting) (seat : Seat) (told : Result Parked Refusal) : Type 0 where
  pub none : (arc_value old.home).system.plan.keep ≢ keeps.Sections → IsKept Sections (Rests old) seat told
  pub some :
      (arc_value old.home).system.plan.keep ≡ keeps.Sections
      → HasParked old seat told ⊎ (IsKept Again (Rests old) seat told ⊎ IsKept Memory (Rests old) seat told)

-- the pass of this caller stands there
abbrev pub IsAt : ℕ → List SystemPass → ℕ → Type 0
IsAt caller passes place = IsSomeAnd (slice_get passes place) (λ pass. pass.view.number ≡ caller)

-- whether it has a section
abbrev pub is_section : End → Bool
is_section (Section section) = true
is_section _ = false

-- it lay there already, and they tried again
pub record HasTriedAgain (old : Parking) (seat : Seat) (told : Result Parked Refusal) : Type 0 where
  pub passes : List SystemPass
  pub free : AreFree (arc_value old.home).system passes
  pub place : ℕ
  pub at : IsAt old.caller passes place
  pub parked : IsParked old.home old.caller passes old.section.value seat told

abbrev pub HasTriedBy : Bool → Parking → Seat → Result Parked Refusal → Type 0
HasTriedBy true old seat told = IsKept Turn (Parks old) seat told
HasTriedBy false old seat told =
    HasTriedAgain old seat told ⊎ (IsKept Again (Parks old) seat told ⊎ ((told ≡ Ok parked.Closed) × (seat ≡ Gone)))

abbrev pub HasTriedOrNot : Parking → Seat → Result Parked Refusal → Type 0
HasTriedOrNot old seat told = HasTriedBy (is_section old.section.value) old seat told

abbrev pub HasGivenSection : Seat → Seat → Result Parked Refusal → Type 0
HasGivenSection (Rests old) seat told = HasParkedOrNot old seat told
HasGivenSection (Parks old) seat told = HasTriedOrNot old seat told
HasGivenSection old seat told = IsKept (refusal_of old) old seat told

-- the pass of that caller was taken up, or is there no more, or there was no memory
abbrev pub HasTakenUp : Parking → Seat → Result Resumed Refusal → Type 0
HasTakenUp old seat (Ok resumed.Back) =
    (new : Resting) × (seat ≡ Rests new) × (new.home ≡ old.home) × (new.pass.value.view.number ≡ old.caller)
HasTakenUp old seat (Ok resumed.Closed) = seat ≡ Gone
HasTakenUp old seat (Err Again) = seat ≡ Parks old
HasTakenUp old seat (Err Memory) = seat ≡ Parks old
HasTakenUp old seat (Err why) = ⊥

abbrev pub HasResumed : Seat → Seat → Result Resumed Refusal → Type 0
HasResumed (Parks old) seat told = HasTakenUp old seat told
HasResumed old seat told = IsKept (refusal_of old) old seat told
