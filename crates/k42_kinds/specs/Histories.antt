-- What a history says of one object: its state, how many swaps it went through, and how it is kept.
use Rattle.std.specs.Prelude.{◌≡◌, ℕ, ◌+◌, ◌-◌, Bool, true, false, ◌&&◌, ◌==◌, if◌then◌else◌, List, ◌∷◌, ◌++◌, length, filter, map, fold, count_by, Option, Some, None, slice_index_or}
use Rattle.std.specs.List.{filter_map}
use Rattle.k42_kinds.specs.declared.operation.KindName.{KindName}
use Rattle.k42_kinds.specs.declared.states.AnyState.{AnyState}
use Rattle.k42_kinds.specs.declared.watch.WatchState.{WatchState}
use Rattle.k42_kinds.specs.declared.operation.Op.{Op}
use Rattle.k42_kinds.specs.declared.operation.Reply.{Reply}
use Rattle.k42_kinds.specs.declared.entry.Act.{Act}
use Rattle.k42_kinds.specs.declared.entry.Act.TheVariants.{Call, Swap}
use Rattle.k42_kinds.specs.declared.entry.To.{To}
use Rattle.k42_kinds.specs.declared.entry.To.TheVariants.{Layout, Dead, Watch, Unwatch}
use Rattle.k42_kinds.specs.declared.entry.Answer.{Answer}
use Rattle.k42_kinds.specs.declared.entry.Answer.TheVariants.{Swapped}
use Rattle.k42_kinds.specs.declared.entry.Entry.{Entry}
use Rattle.k42_kinds.specs.OneThread.{OneThread}
use Rattle.k42_kinds.specs.Watched.{watched_object}

-- what is said of an entry, the entries before it and those after it holds at each place of the
-- list
abbrev pub AtEachPlace : {O R : Type 0} → (List (Entry O R) → Entry O R → List (Entry O R) → Type 0) → List (Entry O R) → Type 0
AtEachPlace {O} {R} Holds list =
    (before : List (Entry O R)) (entry : Entry O R) (after : List (Entry O R))
    → list ≡ before ++ entry ∷ after → Holds before entry after

-- A history is a list of entries, the first of them first. It is numbered where each entry's
-- stamp is one more than the number of entries before it.
abbrev pub IsNumbered : {O R : Type 0} → List (Entry O R) → Type 0
IsNumbered history = AtEachPlace (λ before entry after. entry.stamp ≡ length before + 1) history

-- whether the act is a call; every other one asks for another implementation
abbrev pub is_call : {O : Type 0} → Act O → Bool
is_call (Call op) = true
is_call (Swap to) = false

-- whether the swap was carried out
abbrev pub is_carried_out : {R : Type 0} → Answer R → Bool
is_carried_out (Swapped number) = true
is_carried_out _ = false

-- The state of an object after one of its entries: a call steps it, a swap that was carried out
-- leaves what the object says, and any other leaves the state.
abbrev pub state_moved : {S O R : Type 0} → OneThread S O R → S → Act O → Answer R → S
state_moved object state (Call op) answer = object.after state op
state_moved object state (Swap to) answer = if is_carried_out answer then object.swapped state to else state

-- an entry moves its own object alone
abbrev pub state_moved_by : {S O R : Type 0} → OneThread S O R → ℕ → S → Entry O R → S
state_moved_by object number state entry =
    if entry.object == number then state_moved object state entry.act entry.answer else state

-- the state of an object of one thread, which has this number, after the history
abbrev pub state_in : {S O R : Type 0} → OneThread S O R → ℕ → List (Entry O R) → S
state_in object number history = fold (state_moved_by object number) object.start history

-- the same of the objects of the three kinds, which can be watched
abbrev pub state_after_act : KindName → WatchState AnyState → Act Op → Answer Reply → WatchState AnyState
state_after_act kind = state_moved (watched_object kind)

abbrev pub moved_by : KindName → ℕ → WatchState AnyState → Entry Op Reply → WatchState AnyState
moved_by kind = state_moved_by (watched_object kind)

abbrev pub state_of : KindName → ℕ → List (Entry Op Reply) → WatchState AnyState
state_of kind = state_in (watched_object kind)

-- whether the entry is a swap of the object that was carried out
abbrev pub is_carried_out_on : {O R : Type 0} → ℕ → Entry O R → Bool
is_carried_out_on object entry = (entry.object == object) && is_carried_out entry.answer

-- how many swaps of the object were carried out
abbrev pub number_of : {O R : Type 0} → ℕ → List (Entry O R) → ℕ
number_of object history = count_by (is_carried_out_on object) history

-- how an act asks that the object be kept; a call, a watch and an unwatch ask for nothing
abbrev pub asked_for : {O : Type 0} → Act O → Option To
asked_for (Call op) = None
asked_for (Swap (Layout layout)) = Some (Layout layout)
asked_for (Swap Dead) = Some Dead
asked_for (Swap Watch) = None
asked_for (Swap Unwatch) = None

-- what the swaps of the object that were carried out asked for, in their order
abbrev pub implementations_of : {O R : Type 0} → ℕ → List (Entry O R) → List To
implementations_of object history =
    filter_map (λ entry. asked_for entry.act) (filter (is_carried_out_on object) history)

-- the object is kept as the last of them asked, and in the layout that was declared where there is none
abbrev pub implementation_of : {O R : Type 0} → ℕ → ℕ → List (Entry O R) → To
implementation_of declared object history =
    let all = implementations_of object history in
    slice_index_or all (length all - 1) (Layout declared)

-- the entries of one caller, in their order
abbrev pub entries_of : {O R : Type 0} → ℕ → List (Entry O R) → List (Entry O R)
entries_of caller history = filter (λ entry. entry.caller == caller) history

-- an entry without its stamp
abbrev pub unstamped : {O R : Type 0} → Entry O R → Entry O R
unstamped entry = record entry { stamp = 0 }

-- The entries of the caller are, but for their stamps, those of the list, each once and in its
-- order, and their indexes count from 0.
pub record IsInOrder {O R : Type 0} (history : List (Entry O R)) (caller : ℕ) (list : List (Entry O R)) : Type 0 where
  pub same : map unstamped (entries_of caller history) ≡ map unstamped list
  pub counted : AtEachPlace (λ before entry after. entry.index ≡ length before) list
