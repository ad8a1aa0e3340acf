-- What becomes of a seat whose rows are to be freed.
use Rattle.std.specs.Prelude.{◌≡◌, ◌≤◌, ℕ, ◌+◌, [], List, length, Option, Some, None, Result, Ok, Err}
use Rattle.std.specs.Arc.{arc_value}
use Rattle.k42_limits.specs.declared.TheConstants.{PASS_GRACES}
use Rattle.k42_board.specs.Log.{Grows}
use Rattle.k42_board.specs.Noting.{notes_due}
use Rattle.k42_board.specs.Seen.{IsSamePass}
use Rattle.k42_board.specs.Steps.{Always}
use Rattle.k42_board.specs.declared.view.PassView.{PassView}
use Rattle.k42_board.specs.declared.view.Taken.{Taken}
use Rattle.k42_quiesce.specs.Gracing.{IsLeft}
use Rattle.k42_quiesce.specs.Reclaiming.{Reclaims as Frees, AreRowsFreed}
use Rattle.k42_runtime.specs.Swaps.{IsRoleElsewhere}
use Rattle.co_system.specs.Systems.{SystemSeen, SystemPart, SystemPass, layouts_in}
use Rattle.k42_handles.specs.Seats.{SharedHome, refusal_of, IsKept}
use Rattle.k42_handles.specs.declared.reclaiming.Freeing.{Freeing}
use Rattle.k42_handles.specs.declared.reclaiming.Freeing.TheVariants.{Underway, Freed}
use Rattle.k42_handles.specs.declared.refusal.Refusal.{Refusal}
use Rattle.k42_handles.specs.declared.refusal.Refusal.TheVariants.{Again, Worn}
use Rattle.k42_handles.specs.declared.seat.Rests.{Rests as Resting}
use Rattle.k42_handles.specs.declared.seat.Reclaims.{Reclaims as Reclaiming}
use Rattle.k42_handles.specs.declared.seat.Seat.{Seat}
use Rattle.k42_handles.specs.declared.seat.Seat.TheVariants.{Rests, Reclaims}
use Rattle.k42_kinds.specs.declared.operation.Op.{Op}
use Rattle.k42_kinds.specs.declared.operation.Reply.{Reply}

-- what a grace is to free: what is due as it begins, and then what it noted
abbrev pub notes_of : Option ℕ → PassView SystemPart Op Reply → List (Option ℕ)
notes_of None v = notes_due v
notes_of (Some holder) v = v.visitor.noted

-- how many graces it begins
abbrev pub graces_begun : Option ℕ → ℕ
graces_begun None = 1
graces_begun (Some holder) = 0

-- it waits for an activity that was open as it began, and has freed nothing
pub record IsHeldUp (grace : Option ℕ) (old new : SystemPass) : Type 0 where
  pub same : IsSamePass old new
  pub drawn : new.view.taker ≡ old.view.taker
  pub rows : new.view.rows ≡ old.view.rows
  pub noted : new.view.visitor.noted ≡ notes_of grace old.view
  pub grows : Grows old.view.log new.view.log
  pub graces : new.view.graces ≡ old.view.graces + graces_begun grace
  pub proc : ℕ
  pub left : ℕ
  pub is_left : IsLeft proc left old.view new.view

-- All rows of the pass are freed, their parts dropped, and it has none.
pub record HasFreed (system : SystemSeen) (grace : Option ℕ) (count : ℕ) (old new : SystemPass) : Type 0 where
  pub seat : new.seat ≡ old.seat
  pub keep : new.keep ≡ old.keep
  pub number : new.view.number ≡ old.view.number
  pub drawn : new.view.taker ≡ old.view.taker
  pub none : new.view.rows ≡ []
  pub log : List Taken
  pub grows : Grows old.view.log log
  pub graces : new.view.graces ≡ old.view.graces + graces_begun grace
  pub freed : Frees system.sys.procs (length system.sys.layouts) (notes_of grace old.view) log new.view.log count
  pub rows : Always (layouts_in system) system.sys.layouts new.seat new.view (AreRowsFreed old.view.rows)

-- another pass has the role, so that nothing was begun
pub record HasFoundRole (old new : SystemPass) : Type 0 where
  pub same : IsSamePass old new
  pub drawn : new.view.taker ≡ old.view.taker
  pub rows : new.view.rows ≡ old.view.rows
  pub graces : new.view.graces ≡ old.view.graces
  pub holder : ℕ
  pub elsewhere : IsRoleElsewhere holder old.view new.view

-- by what is told the pass has become this
abbrev pub HasReclaimedTo : SystemSeen → Option ℕ → SystemPass → Result Freeing Refusal → SystemPass → Type 0
HasReclaimedTo system grace old (Ok (Freed count)) new = HasFreed system grace count old new
HasReclaimedTo system grace old (Ok Underway) new = IsHeldUp grace old new
HasReclaimedTo system grace old (Err Again) new = (grace ≡ None) × HasFoundRole old new
HasReclaimedTo system grace old (Err Worn) new = (grace ≡ None) × (PASS_GRACES ≤ old.view.graces) × (new ≡ old)
HasReclaimedTo system grace old (Err why) new = ⊥

-- and goes on, or rests
abbrev pub GoesOnOrRests : Result Freeing Refusal → SharedHome → SystemPass → Seat → Type 0
GoesOnOrRests (Ok Underway) home pass seat = (new : Reclaiming) × (seat ≡ Reclaims new) × (new.home ≡ home) × (new.pass.value ≡ pass)
GoesOnOrRests told home pass seat = (new : Resting) × (seat ≡ Rests new) × (new.home ≡ home) × (new.pass.value ≡ pass)

-- A step of a grace, and of what it frees.
pub record HasSteppedGrace (home : SharedHome) (grace : Option ℕ) (old : SystemPass) (seat : Seat) (told : Result Freeing Refusal) : Type 0 where
  pub pass : SystemPass
  pub reclaimed : HasReclaimedTo (arc_value home).system grace old told pass
  pub seat_is : GoesOnOrRests told home pass seat

abbrev pub HasReclaimed : Seat → Seat → Result Freeing Refusal → Type 0
HasReclaimed (Rests old) seat told = HasSteppedGrace old.home None old.pass.value seat told
HasReclaimed (Reclaims old) seat told = HasSteppedGrace old.home old.grace old.pass.value seat told
HasReclaimed old seat told = IsKept (refusal_of old) old seat told
