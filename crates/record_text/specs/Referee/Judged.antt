-- How the watched object of one thread judges a line.
use Rattle.std.specs.Prelude.{◌≡◌, ℕ, ◌+◌, ◌<◌, Bool, true, false, IsTrue, List, Some, slice_get, if◌then◌else◌}
use Rattle.k42_limits.specs.declared.TheConstants.{LAST_INCARNATION}
use Rattle.k42_kinds.specs.Histories.{state_of, number_of, state_after_act, is_carried_out}
use Rattle.k42_kinds.specs.OneThread.{OneThread}
use Rattle.k42_kinds.specs.Watched.{watched_object}
use Rattle.k42_kinds.specs.declared.plain.Plain.{Plain}
use Rattle.k42_kinds.specs.declared.operation.KindName.{KindName}
use Rattle.k42_kinds.specs.declared.operation.Op.{Op}
use Rattle.k42_kinds.specs.declared.states.AnyState.{AnyState}
use Rattle.k42_kinds.specs.declared.watch.WatchState.{WatchState}
use Rattle.k42_kinds.specs.declared.operation.Reply.{Reply}
use Rattle.k42_kinds.specs.declared.entry.Act.{Act}
use Rattle.k42_kinds.specs.declared.entry.Act.TheVariants.{Call, Swap}
use Rattle.k42_kinds.specs.declared.entry.Answer.{Answer}
use Rattle.k42_kinds.specs.declared.entry.Answer.TheVariants.{Replied, Swapped, Busy, Spent, Gone}
use Rattle.k42_kinds.specs.declared.entry.Entry.{Entry}
use Rattle.script_text.specs.Sound.{IsActOn}
use Rattle.record_text.specs.Spelling.{Ends}
use Rattle.record_text.specs.declared.record.RecordLine.{RecordLine}
use Rattle.record_text.specs.declared.judging.object.Object.{Object}

-- the object with this number is as the entries before say
pub record IsKept (declared : KindName) (number : ℕ) (before : List (Entry Op Reply)) (object : Object)
    : Type 0 where
  pub kind : object.plain.kind ≡ declared
  pub state : object.state ≡ state_of declared number before
  pub swaps : object.number ≡ number_of number before

-- the object of one thread whose state is kept
abbrev pub one_thread : Object → OneThread (WatchState AnyState) Op Reply
one_thread object = watched_object object.plain.kind

-- whether it was destroyed
abbrev pub is_over : Object → Bool
is_over object = (one_thread object).is_ended object.state

pub record IsReply (object : Object) (line : RecordLine) (op : Op) : Type 0 where
  pub replied : line.answer ≡ Replied ((one_thread object).reply object.state op)
  pub incarnation : line.incarnation ≡ object.number

pub record IsNextSwap (object : Object) (seen number : ℕ) : Type 0 where
  pub next : number ≡ object.number + 1
  pub alive : is_over object ≡ false
  pub unspent : object.number < LAST_INCARNATION
  pub incarnation : seen ≡ object.number

pub record IsSpentNow (object : Object) (seen : ℕ) : Type 0 where
  pub alive : is_over object ≡ false
  pub spent : object.number ≡ LAST_INCARNATION
  pub incarnation : seen ≡ object.number

pub record IsGoneNow (object : Object) (seen : ℕ) : Type 0 where
  pub dead : is_over object ≡ true
  pub incarnation : seen ≡ object.number

-- a swap may be answered so, where it is known whether another's swap may refuse it
abbrev pub EndsAs : Object → Bool → ℕ → Answer Reply → Type 0
EndsAs object refusable incarnation (Swapped number) = IsNextSwap object incarnation number
EndsAs object refusable incarnation Spent = IsSpentNow object incarnation
EndsAs object refusable incarnation Gone = IsGoneNow object incarnation
EndsAs object refusable incarnation (Busy number) = refusable ≡ true
EndsAs object refusable incarnation _ = ⊥

-- the line tells what the object does next
abbrev pub Tells : Object → Bool → RecordLine → Act Op → Type 0
Tells object refusable line (Call op) = IsReply object line op
Tells object refusable line (Swap to) = EndsAs object refusable line.incarnation line.answer

abbrev pub number_after : ℕ → Answer Reply → ℕ
number_after number answer = if is_carried_out answer then number + 1 else number

abbrev pub object_after : Object → Act Op → Answer Reply → Object
object_after object act answer = record {
  plain = object.plain;
  state = state_after_act object.plain.kind object.state act answer;
  number = number_after object.number answer;
}

-- the object before its first line
abbrev pub fresh : Plain → Object
fresh plain = record { plain = plain; state = (watched_object plain.kind).start; number = 0 }

-- an operation is one that the object takes, and any object can be swapped
abbrev pub CanTake : Object → Act Op → Type 0
CanTake object (Call op) = IsTrue ((one_thread object).takes op)
CanTake object (Swap to) = Unit {0}

-- the line is of a declared object, and its act is answered in a form that such an act may have
pub record HasLegalForm (kinds : List KindName) (line : RecordLine) : Type 0 where
  pub kind : KindName
  pub declared : slice_get kinds line.object ≡ Some kind
  pub asked : IsActOn kind line.act
  pub answered : Ends line.act line.answer
