-- When an entry of a history is legal, and when a history is. The objects are any objects of one
-- thread; those of the three kinds follow at the end.
use Rattle.std.specs.Prelude.{◌≡◌, ◌≢◌, ℕ, ◌+◌, ◌<◌, ◌≤◌, Bool, true, false, IsTrue, List, ◌++◌, All, Any, Some, slice_get}
use Rattle.k42_limits.specs.declared.TheConstants.{LAST_INCARNATION}
use Rattle.k42_kinds.specs.declared.operation.KindName.{KindName}
use Rattle.k42_kinds.specs.declared.operation.Op.{Op}
use Rattle.k42_kinds.specs.declared.operation.Reply.{Reply}
use Rattle.k42_kinds.specs.declared.entry.Act.{Act}
use Rattle.k42_kinds.specs.declared.entry.Act.TheVariants.{Call, Swap}
use Rattle.k42_kinds.specs.declared.entry.Answer.{Answer}
use Rattle.k42_kinds.specs.declared.entry.Answer.TheVariants.{Replied, Swapped, Busy, Spent, Gone, Abandoned}
use Rattle.k42_kinds.specs.declared.entry.Entry.{Entry}
use Rattle.k42_kinds.specs.OneThread.{OneThread}
use Rattle.k42_kinds.specs.Watched.{watched_object}
use Rattle.k42_kinds.specs.Histories.{AtEachPlace, IsNumbered, state_in, number_of}

-- A call of an operation that the object takes is legal where it has the reply that the object of
-- one thread gives after the entries before it, in the implementation that the swaps before it
-- left.
pub record IsLegalCallOf
    {S O R : Type 0} (object : OneThread S O R) (before : List (Entry O R)) (entry : Entry O R) (op : O)
    : Type 0 where
  pub own_kind : IsTrue (object.takes op)
  pub replied : entry.answer ≡ Replied (object.reply (state_in object entry.object before) op)
  pub incarnation : entry.incarnation ≡ number_of entry.object before

-- whether the object with this number is at its end
abbrev pub is_ended_in : {S O R : Type 0} → OneThread S O R → ℕ → List (Entry O R) → Bool
is_ended_in object number before = object.is_ended (state_in object number before)

-- a swap that is carried out is the next of its object, which is alive and has an
-- incarnation left
pub record IsLegalSwapOf
    {S O R : Type 0} (object : OneThread S O R) (before : List (Entry O R)) (entry : Entry O R) (number : ℕ)
    : Type 0 where
  pub next : number ≡ number_of entry.object before + 1
  pub alive : is_ended_in object entry.object before ≡ false
  pub unspent : number_of entry.object before < LAST_INCARNATION
  pub incarnation : entry.incarnation ≡ number_of entry.object before

-- it is answered `spent` where the object is alive and has no incarnation left
pub record IsLegallySpentOf
    {S O R : Type 0} (object : OneThread S O R) (before : List (Entry O R)) (entry : Entry O R)
    : Type 0 where
  pub alive : is_ended_in object entry.object before ≡ false
  pub spent : number_of entry.object before ≡ LAST_INCARNATION
  pub incarnation : entry.incarnation ≡ number_of entry.object before

-- it is answered `gone` where the object is dead
pub record IsLegallyGoneOf
    {S O R : Type 0} (object : OneThread S O R) (before : List (Entry O R)) (entry : Entry O R)
    : Type 0 where
  pub dead : is_ended_in object entry.object before ≡ true
  pub incarnation : entry.incarnation ≡ number_of entry.object before

-- an entry of the same caller on the same object
pub record IsOwn {O R : Type 0} (entry other : Entry O R) : Type 0 where
  pub caller : other.caller ≡ entry.caller
  pub object : other.object ≡ entry.object

-- the number of a swap that was carried out, and 0 for any other answer
abbrev pub number_carried_out : {R : Type 0} → Answer R → ℕ
number_carried_out (Swapped number) = number
number_carried_out _ = 0

-- whether the answer tells of a swap of this number that was carried out or given up
abbrev pub Settles : {R : Type 0} → ℕ → Answer R → Type 0
Settles number (Swapped other) = other ≡ number
Settles number (Abandoned other) = other ≡ number
Settles number _ = ⊥

-- another caller's swap of the same object had this number
pub record IsRival {O R : Type 0} (entry : Entry O R) (number : ℕ) (other : Entry O R) : Type 0 where
  pub caller : other.caller ≢ entry.caller
  pub object : other.object ≡ entry.object
  pub settles : Settles number other.answer

-- an earlier entry of the same caller is not past the swap of this number
pub record IsNotPast {O R : Type 0} (number : ℕ) (other : Entry O R) : Type 0 where
  pub incarnation : other.incarnation ≤ number
  pub carried_out : number_carried_out other.answer ≤ number

-- Nothing that its caller had seen of the object before it is past the swap of this number, and
-- nothing that it sees later is from before the incarnation that this swap was to end.
pub record IsTimely
    {O R : Type 0} (before : List (Entry O R)) (entry : Entry O R) (after : List (Entry O R)) (number : ℕ)
    : Type 0 where
  pub incarnation : entry.incarnation + 1 ≡ number
  pub earlier : All (λ other. IsOwn entry other → IsNotPast number other) before
  pub later : All (λ other. IsOwn entry other → number ≤ other.incarnation + 1) after

-- A swap is refused for another swap's sake where that swap stands anywhere in the
-- history, before or after.
pub record IsLegalRefusal
    {O R : Type 0} (before : List (Entry O R)) (entry : Entry O R) (after : List (Entry O R)) (number : ℕ)
    : Type 0 where
  pub timely : IsTimely before entry after number
  pub rival : Any (IsRival entry number) (before ++ after)

-- how an act that is no call may be answered
abbrev pub IsLegalAnswerOf : {S O R : Type 0} → OneThread S O R → List (Entry O R) → Entry O R → List (Entry O R) → Answer R → Type 0
IsLegalAnswerOf object before entry after (Swapped number) = IsLegalSwapOf object before entry number
IsLegalAnswerOf object before entry after Spent = IsLegallySpentOf object before entry
IsLegalAnswerOf object before entry after Gone = IsLegallyGoneOf object before entry
IsLegalAnswerOf object before entry after (Busy number) = IsLegalRefusal before entry after number
IsLegalAnswerOf object before entry after (Abandoned number) = IsTimely before entry after number
IsLegalAnswerOf object before entry after (Replied reply) = ⊥

-- how an act may be answered: a call by a reply, a swap by the rules above
abbrev pub IsLegalActOf : {S O R : Type 0} → OneThread S O R → List (Entry O R) → Entry O R → List (Entry O R) → Act O → Type 0
IsLegalActOf object before entry after (Call op) = IsLegalCallOf object before entry op
IsLegalActOf object before entry after (Swap to) = IsLegalAnswerOf object before entry after entry.answer

-- the entry is of a declared object, and legal there; a list declares each object, by its kind or
-- by its layout, and these tell its object of one thread
pub record IsLegalAmongObjects
    {K S O R : Type 0} (object_of : K → OneThread S O R) (declarations : List K)
    (before : List (Entry O R)) (entry : Entry O R) (after : List (Entry O R))
    : Type 0 where
  pub kind : K
  pub declared : slice_get declarations entry.object ≡ Some kind
  pub legal : IsLegalActOf (object_of kind) before entry after entry.act

-- A history of declared objects is legal where it is numbered and each of its entries is legal.
pub record IsLegalHistoryOf
    {K S O R : Type 0} (object_of : K → OneThread S O R) (declarations : List K) (history : List (Entry O R))
    : Type 0 where
  pub numbered : IsNumbered history
  pub legal : AtEachPlace (IsLegalAmongObjects object_of declarations) history

-- An entry is legal so far where that is said by the entries before it: a refusal by another swap
-- may rest on what comes later, so every one is let pass.
abbrev pub IsAnswerSoFar : {S O R : Type 0} → OneThread S O R → List (Entry O R) → Entry O R → Answer R → Type 0
IsAnswerSoFar object before entry (Swapped number) = IsLegalSwapOf object before entry number
IsAnswerSoFar object before entry Spent = IsLegallySpentOf object before entry
IsAnswerSoFar object before entry Gone = IsLegallyGoneOf object before entry
IsAnswerSoFar object before entry (Busy number) = Unit {0}
IsAnswerSoFar object before entry (Abandoned number) = Unit {0}
IsAnswerSoFar object before entry (Replied reply) = ⊥

abbrev pub IsActSoFar : {S O R : Type 0} → OneThread S O R → List (Entry O R) → Entry O R → Act O → Type 0
IsActSoFar object before entry (Call op) = IsLegalCallOf object before entry op
IsActSoFar object before entry (Swap to) = IsAnswerSoFar object before entry entry.answer

pub record IsSoFarAmongObjects
    {K S O R : Type 0} (object_of : K → OneThread S O R) (declarations : List K)
    (before : List (Entry O R)) (entry : Entry O R) (after : List (Entry O R))
    : Type 0 where
  pub kind : K
  pub declared : slice_get declarations entry.object ≡ Some kind
  pub legal : IsActSoFar (object_of kind) before entry entry.act

-- a history that is legal so far
pub record IsLegalSoFar
    {K S O R : Type 0} (object_of : K → OneThread S O R) (declarations : List K) (history : List (Entry O R))
    : Type 0 where
  pub numbered : IsNumbered history
  pub legal : AtEachPlace (IsSoFarAmongObjects object_of declarations) history

-- The same of the objects of the three kinds, which can be watched.
abbrev pub IsLegalCall : KindName → List (Entry Op Reply) → Entry Op Reply → Op → Type 0
IsLegalCall kind = IsLegalCallOf (watched_object kind)

abbrev pub IsAlive : KindName → ℕ → List (Entry Op Reply) → Type 0
IsAlive kind number before = is_ended_in (watched_object kind) number before ≡ false

abbrev pub IsLegalSwap : KindName → List (Entry Op Reply) → Entry Op Reply → ℕ → Type 0
IsLegalSwap kind = IsLegalSwapOf (watched_object kind)

abbrev pub IsLegallySpent : KindName → List (Entry Op Reply) → Entry Op Reply → Type 0
IsLegallySpent kind = IsLegallySpentOf (watched_object kind)

abbrev pub IsLegallyGone : KindName → List (Entry Op Reply) → Entry Op Reply → Type 0
IsLegallyGone kind = IsLegallyGoneOf (watched_object kind)

abbrev pub IsLegalAnswer : KindName → List (Entry Op Reply) → Entry Op Reply → List (Entry Op Reply) → Answer Reply → Type 0
IsLegalAnswer kind = IsLegalAnswerOf (watched_object kind)

abbrev pub IsLegalAct : KindName → List (Entry Op Reply) → Entry Op Reply → List (Entry Op Reply) → Act Op → Type 0
IsLegalAct kind = IsLegalActOf (watched_object kind)

-- an entry is legal between the entries before it and those after it, by its act and its answer
abbrev pub IsLegal : KindName → List (Entry Op Reply) → Entry Op Reply → List (Entry Op Reply) → Type 0
IsLegal kind before entry after = IsLegalAct kind before entry after entry.act

abbrev pub IsLegalAmong : List KindName → List (Entry Op Reply) → Entry Op Reply → List (Entry Op Reply) → Type 0
IsLegalAmong = IsLegalAmongObjects watched_object

abbrev pub IsLegalHistory : List KindName → List (Entry Op Reply) → Type 0
IsLegalHistory = IsLegalHistoryOf watched_object
