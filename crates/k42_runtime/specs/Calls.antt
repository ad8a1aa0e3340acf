-- Calls: what may be asked, what a call leaves, and what holds one up.
use Rattle.std.specs.Prelude.{◌≡◌, ◌≢◌, ℕ, ◌+◌, ◌<◌, ◌≤◌, Bool, true, false, IsTrue, List, [], ◌∷◌, ◌++◌, length, Some, slice_get}
use Rattle.k42_limits.specs.declared.TheConstants.{CALLERS, PASS_ENTRIES, PROCESSORS}
use Rattle.k42_kinds.specs.declared.entry.Act.TheVariants.{Call}
use Rattle.k42_kinds.specs.declared.entry.Answer.TheVariants.{Replied}
use Rattle.k42_kinds.specs.declared.entry.Entry.{Entry}
use Rattle.k42_kinds.specs.OneThread.{OneThread}
use Rattle.turn_core.specs.Stamps.{last_stamp}
use Rattle.k42_joined.specs.Numbers.{cell_of}
use Rattle.k42_joined.specs.Plain.{Joined}
use Rattle.k42_joined.specs.Seen.{HasSeen}
use Rattle.k42_board.specs.Log.{Meets, EndsWith, step_at}
use Rattle.k42_board.specs.Values.{has_bit}
use Rattle.k42_board.specs.Words.{local_word, lock_word, object_word}
use Rattle.k42_board.specs.declared.view.PassView.{PassView}
use Rattle.k42_board.specs.declared.view.StepName.TheVariants as names
use Rattle.k42_board.specs.declared.view.Taken.{Taken}
use Rattle.k42_runtime.specs.Systems.{KeepsElse}
use Rattle.k42_runtime.specs.declared.calls.CallCause.{CallCause}
use Rattle.k42_runtime.specs.declared.calls.CallCause.TheVariants as causes
use Rattle.k42_runtime.specs.declared.calls.CallStep.{CallStep}
use Rattle.k42_runtime.specs.declared.calls.CallStep.TheVariants as steps

-- a call: of which object it asks what, and whether it is over
pub record CallSeen (O : Type 0) : Type 0 where
  pub object : ℕ
  pub op : O
  pub ended : Bool

-- the object is one of these, and takes the operation
pub record IsAsked
    {S L O R : Type 0} (object_of : L → OneThread S O R) (objects : List L) (object : ℕ) (op : O)
    : Type 0 where
  pub declaration : L
  pub declares : slice_get objects object ≡ Some declaration
  pub takes : IsTrue ((object_of declaration).takes op)

-- it has drawn all the entries that a pass draws
abbrev pub IsWorn : {P O R : Type 0} → PassView P O R → Type 0
IsWorn v = PASS_ENTRIES ≤ length v.taker.mine

-- the caller has seen nothing that is later than this stamp
abbrev pub SeesUpTo : {L O R : Type 0} → ℕ → ℕ → Joined L O R → Type 0
SeesUpTo {L} {O} {R} c stamp s = (entry : Entry O R) → HasSeen s c entry → entry.stamp ≤ stamp

-- The pass has one entry more, that of the call. It is later than the last that the pass had drawn, and so than all that
-- it had seen: `nothing_seen_is_later_than_the_last_entry`.
pub record HasCalled {P O R : Type 0} (object : ℕ) (op : O) (reply : R) (old new : PassView P O R) : Type 0 where
  pub entry : Entry O R
  pub drawn : new.taker.mine ≡ old.taker.mine ++ entry ∷ []
  pub later : last_stamp old.taker.mine < entry.stamp
  pub clock : new.taker.clock ≡ entry.stamp
  pub whole :
      entry
      ≡ record {
        stamp = entry.stamp;
        caller = old.number;
        index = length old.taker.mine;
        object = object;
        incarnation = entry.incarnation;
        cell = entry.cell;
        act = Call op;
        answer = Replied reply;
        proc = old.turn.proc;
        generation = old.turn.active;
      }
  pub keeps : KeepsElse old new

-- It has drawn nothing, so that no part of an object has changed: these are what the entries make of them.
pub record HasNotCalled {P O R : Type 0} (old new : PassView P O R) : Type 0 where
  pub same : new.taker.mine ≡ old.taker.mine
  pub clock : new.taker.clock ≡ old.taker.clock
  pub keeps : KeepsElse old new

-- What a step of a call found that held it up.

-- its knock found that the swap blocks
pub record WasBlocked (object : ℕ) (old new : List Taken) : Type 0 where
  pub found : ℕ
  pub blocked : has_bit found 25 ≡ true
  pub met : Meets (step_at names.Knock (object_word object) found) old new

-- it found a cell of the object with this caller
pub record WasHeld {P O R : Type 0} (object holder : ℕ) (old new : PassView P O R) : Type 0 where
  pub incarnation : ℕ
  pub place : ℕ
  pub there : place < PROCESSORS
  pub another : holder ≢ old.number
  pub caller : holder < CALLERS
  pub met : Meets (step_at names.Lock (lock_word (cell_of object incarnation place)) (holder + 1)) old.log new.log

abbrev pub HoldsUp : {P O R : Type 0} → CallCause → ℕ → PassView P O R → PassView P O R → Type 0
HoldsUp causes.Blocked object old new = WasBlocked object old.log new.log
HoldsUp (causes.Elsewhere word) object old new =
    EndsWith (step_at names.Install (local_word old.turn.proc object) word) old.log new.log
HoldsUp (causes.CellHeld holder) object old new = WasHeld object holder old new

-- whether a step ends its call
abbrev pub is_last : {R : Type 0} → CallStep R → Bool
is_last (steps.Again cause) = false
is_last (steps.Ended reply) = true
is_last steps.Memory = true
is_last steps.Worn = true
