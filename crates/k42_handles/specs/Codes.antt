-- The numbers by which C tells things, and reads what it is told.
use Rattle.std.specs.Prelude.{ℕ, ◌==◌, if◌then◌else◌, Option, Some, None as Nothing, Result, Ok, Err}
use Rattle.k42_kinds.specs.declared.operation.KindName.{KindName}
use Rattle.k42_kinds.specs.declared.operation.KindName.TheVariants.{Counter, Directory, Pages}
use Rattle.k42_kinds.specs.declared.operation.LayoutName.{LayoutName}
use Rattle.k42_kinds.specs.declared.operation.LayoutName.TheVariants.{Shared, Spread}
use Rattle.k42_kinds.specs.Operations.{layout_number}
use Rattle.k42_kinds.specs.declared.operation.Reply.{Reply}
use Rattle.k42_kinds.specs.declared.operation.Reply.TheVariants as replies
use Rattle.k42_kinds.specs.declared.entry.To.{To}
use Rattle.k42_kinds.specs.declared.entry.To.TheVariants.{Layout}
use Rattle.k42_board.specs.declared.keep.Keep.{Keep}
use Rattle.k42_board.specs.declared.keep.Keep.TheVariants as keeps
use Rattle.k42_runtime.specs.declared.plan.PlanFault.TheVariants as faults
use Rattle.k42_runtime.specs.declared.swaps.Swapped.TheVariants as ends
use Rattle.k42_handles.specs.declared.closing.Given.{Given}
use Rattle.k42_handles.specs.declared.closing.Given.TheVariants as givens
use Rattle.k42_handles.specs.declared.coding.TheConstants.{DONE, NONE, TAKEN, GONE, MISSING, AGAIN, MEMORY, WORN, EMPTY, FULL, TURN, OBJECT, KIND, ARGUMENT, PROCESSORS, OBJECTS, PASSES, PROCESSOR, BUSY, SPENT, UNDERWAY, SECTIONS}
use Rattle.k42_handles.specs.declared.parking.Parked.{Parked}
use Rattle.k42_handles.specs.declared.parking.Parked.TheVariants as parked
use Rattle.k42_handles.specs.declared.parking.Resumed.{Resumed}
use Rattle.k42_handles.specs.declared.parking.Resumed.TheVariants as resumed
use Rattle.k42_handles.specs.declared.refusal.Refusal.{Refusal}
use Rattle.k42_handles.specs.declared.refusal.Refusal.TheVariants as refusals
use Rattle.k42_handles.specs.declared.reclaiming.Freeing.{Freeing}
use Rattle.k42_handles.specs.declared.reclaiming.Freeing.TheVariants as freeings
use Rattle.k42_handles.specs.declared.swapping.Progress.{Progress}
use Rattle.k42_handles.specs.declared.swapping.Progress.TheVariants.{Underway, Ended}

abbrev pub kind_named : ℕ → Option KindName
kind_named code =
    if code == 0 then Some Counter else if code == 1 then Some Directory else if code == 2 then Some Pages else Nothing

abbrev pub layout_named : ℕ → Option LayoutName
layout_named code = if code == 0 then Some Shared else if code == 1 then Some Spread else Nothing

abbrev pub to_layout : Option LayoutName → Option To
to_layout (Some layout) = Some (Layout (layout_number layout))
to_layout Nothing = Nothing

abbrev pub to_named : ℕ → Option To
to_named code = to_layout (layout_named code)

abbrev pub keep_named : ℕ → Option Keep
keep_named code =
    if code == 0 then Some keeps.Nothing else if code == 1 then Some keeps.All else if code == 2 then Some keeps.Sections else Nothing

abbrev pub reply_code : Reply → ℕ
reply_code replies.Done = DONE
reply_code (replies.Number number) = DONE
reply_code (replies.Text text) = DONE
reply_code replies.None = NONE
reply_code replies.Zero = NONE
reply_code replies.Taken = TAKEN
reply_code replies.Gone = GONE

abbrev pub refusal_code : Refusal → ℕ
refusal_code refusals.Again = AGAIN
refusal_code refusals.Memory = MEMORY
refusal_code refusals.Worn = WORN
refusal_code refusals.Empty = EMPTY
refusal_code refusals.Full = FULL
refusal_code refusals.Turn = TURN
refusal_code refusals.Object = OBJECT
refusal_code refusals.Kind = KIND
refusal_code refusals.Argument = ARGUMENT
refusal_code refusals.Sections = SECTIONS
refusal_code (refusals.Plan faults.Procs) = PROCESSORS
refusal_code (refusals.Plan faults.Objects) = OBJECTS
refusal_code (refusals.Plan faults.Callers) = PASSES
refusal_code (refusals.Plan (faults.Processor caller)) = PROCESSOR
-- no plan of these numbers has this fault, since each layout that has a number is live
refusal_code (refusals.Plan (faults.Dead object)) = ARGUMENT

abbrev pub given_code : Given → ℕ
given_code (givens.Missing which) = MISSING
given_code givens.History = DONE
given_code givens.Nothing = DONE

abbrev pub progress_code : Progress → ℕ
progress_code (Underway cause) = UNDERWAY
progress_code (Ended (ends.Done number)) = DONE
progress_code (Ended (ends.Busy number)) = BUSY
progress_code (Ended ends.Spent) = SPENT
progress_code (Ended ends.Gone) = GONE

abbrev pub freeing_code : Freeing → ℕ
freeing_code freeings.Underway = UNDERWAY
freeing_code (freeings.Freed count) = DONE

abbrev pub parked_code : Parked → ℕ
parked_code (parked.Missing which) = MISSING
parked_code parked.Section = DONE
parked_code parked.Closed = GONE

abbrev pub resumed_code : Resumed → ℕ
resumed_code resumed.Back = DONE
resumed_code resumed.Closed = GONE

-- the status of what was done, or of why it was not
abbrev pub status_of : {A : Type 0} → (A → ℕ) → Result A Refusal → ℕ
status_of code (Ok done) = code done
status_of code (Err why) = refusal_code why

abbrev pub status_of_call : Result Reply Refusal → ℕ
status_of_call = status_of reply_code
