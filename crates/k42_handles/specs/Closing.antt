-- What becomes of a seat whose pass is given back.
use Rattle.std.specs.Prelude.{◌≡◌, ◌≢◌, ◌⊎◌, Bool, true, false, List, ◌∷◌, ◌++◌, Contains, Option, Some, None, Result, Ok, Err}
use Rattle.std.specs.Arc.{arc_value}
use Rattle.k42_board.specs.declared.keep.Keep.TheVariants.{All}
use Rattle.k42_crews.specs.Ready.{AreFree, AreAll}
use Rattle.k42_rule.specs.Finishing.{lists_in}
use Rattle.co_system.specs.Systems.{HistorySeen, IsClosed, HasHistory}
use Rattle.co_system.specs.Systems.{SystemSeen, SystemPass}
use Rattle.k42_handles.specs.Missing.{missing_in}
use Rattle.k42_handles.specs.Seats.{refusal_of, IsKept}
use Rattle.k42_handles.specs.declared.closing.Given.{Given}
use Rattle.k42_handles.specs.declared.closing.Given.TheVariants as givens
use Rattle.k42_handles.specs.declared.refusal.Refusal.{Refusal}
use Rattle.k42_handles.specs.declared.refusal.Refusal.TheVariants.{Again, Memory, Turn}
use Rattle.k42_handles.specs.declared.seat.Rests.{Rests as Resting}
use Rattle.k42_handles.specs.declared.seat.Closes.{Closes as Closing}
use Rattle.k42_handles.specs.declared.seat.Whole.{Whole as Gathered}
use Rattle.k42_handles.specs.declared.seat.End.{End}
use Rattle.k42_handles.specs.declared.seat.End.TheVariants.{Whole, History}
use Rattle.k42_handles.specs.declared.seat.Seat.{Seat}
use Rattle.k42_handles.specs.declared.seat.Seat.TheVariants.{Gone, Rests, Parks, Closes, Ends}

-- the pass stands among those that were there
pub record IsAdded (old : List SystemPass) (pass : SystemPass) (new : List SystemPass) : Type 0 where
  pub before : List SystemPass
  pub behind : List SystemPass
  pub old_is : old ≡ before ++ behind
  pub new_is : new ≡ before ++ pass ∷ behind

-- these are passes of the system with nothing under way, and this is one of them
pub record AreGiven (system : SystemSeen) (pass : SystemPass) (passes : List SystemPass) : Type 0 where
  pub free : AreFree system passes
  pub among : Contains passes pass

-- what the end has in it
abbrev pub end_in : Seat → Option End
end_in (Ends end) = Some end.value
end_in _ = None

-- All passes are there. They have left a history, or are kept to be closed again.
abbrev pub HasFinished : SystemSeen → List SystemPass → Seat → Result Given Refusal → Type 0
HasFinished system passes seat (Ok givens.History) =
    (system.plan.keep ≡ All)
    × ((history : HistorySeen) × (end_in seat ≡ Some (History history)) × IsClosed system.plan (lists_in passes) history)
HasFinished system passes seat (Ok givens.Nothing) =
    (system.plan.keep ≢ All) × (seat ≡ Gone) × HasHistory system.plan (lists_in passes)
HasFinished system passes seat (Ok (givens.Missing which)) = ⊥
HasFinished system passes seat (Err Again) =
    (kept : Closing) × (seat ≡ Closes kept) × ((arc_value kept.home).system ≡ system) × (kept.passes.items ≡ passes)
HasFinished system passes seat (Err Memory) =
    (kept : Gathered) × (end_in seat ≡ Some (Whole kept)) × (kept.system ≡ system) × (kept.passes.items ≡ passes)
HasFinished system passes seat (Err _) = ⊥

-- The pass is among those that were given back, and it is told which are missing, or they are all there.
pub record HasGiven (system : SystemSeen) (pass : SystemPass) (seat : Seat) (told : Result Given Refusal) : Type 0 where
  pub passes : List SystemPass
  pub given : AreGiven system pass passes
  pub missing : ¬ AreAll system passes
      → (seat ≡ Gone) × (told ≡ Ok (givens.Missing (missing_in system passes)))
  pub finished : AreAll system passes → HasFinished system passes seat told

-- it was given back, or was in somebody's way, or there was no memory
abbrev pub HasGivenBack : Resting → Seat → Result Given Refusal → Type 0
HasGivenBack old seat told =
    HasGiven (arc_value old.home).system old.pass.value seat told
    ⊎ (IsKept Again (Rests old) seat told ⊎ IsKept Memory (Rests old) seat told)

-- whether it has a system with its passes
abbrev pub is_whole : End → Bool
is_whole (Whole kept) = true
is_whole _ = false

abbrev pub HasEndedAgain : End → Seat → Seat → Result Given Refusal → Type 0
HasEndedAgain (Whole old) from seat told = HasFinished old.system old.passes.items seat told × (told ≢ Err Again)
HasEndedAgain _ from seat told = IsKept Turn from seat told

abbrev pub HasClosed : Seat → Seat → Result Given Refusal → Type 0
HasClosed (Rests old) seat told = HasGivenBack old seat told
HasClosed (Closes old) seat told = HasFinished (arc_value old.home).system old.passes.items seat told
HasClosed (Ends end) seat told = HasEndedAgain end.value (Ends end) seat told
HasClosed old seat told = IsKept (refusal_of old) old seat told

-- What rests in the seat was dropped.
abbrev pub HasDropped : Seat → Seat → Result (Unit {0}) Refusal → Type 0
HasDropped (Rests old) seat told = (told ≡ Ok tt) × (seat ≡ Gone)
HasDropped (Closes old) seat told = (told ≡ Ok tt) × (seat ≡ Gone)
HasDropped (Parks old) seat told = (told ≡ Ok tt) × (seat ≡ Gone)
HasDropped (Ends old) seat told = (told ≡ Ok tt) × (seat ≡ Gone)
HasDropped old seat told = IsKept (refusal_of old) old seat told
