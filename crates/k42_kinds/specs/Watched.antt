-- The watched object of an object of one thread: with a layer round it that counts its calls.
use Rattle.std.specs.Prelude.{ℕ, ◌+◌, ◌%◌, ◌^◌, Bool, true, false, ◌||◌, if◌then◌else◌, Option, Some, None as Nothing}
use Rattle.k42_kinds.specs.declared.operation.KindName.{KindName}
use Rattle.k42_kinds.specs.declared.operation.Op.{Op}
use Rattle.k42_kinds.specs.declared.operation.Op.TheVariants.{Seen}
use Rattle.k42_kinds.specs.declared.operation.Reply.{Reply}
use Rattle.k42_kinds.specs.declared.operation.Reply.TheVariants.{None, Number, Gone}
use Rattle.k42_kinds.specs.declared.entry.To.{To}
use Rattle.k42_kinds.specs.declared.entry.To.TheVariants.{Layout, Dead, Watch, Unwatch}
use Rattle.k42_kinds.specs.declared.states.AnyState.{AnyState}
use Rattle.k42_kinds.specs.declared.watch.WatchState.{WatchState}
use Rattle.k42_kinds.specs.OneThread.{OneThread}
use Rattle.k42_kinds.specs.Objects.{plain_object}

-- whether the operation asks for the count
abbrev pub is_seen : Op → Bool
is_seen Seen = true
is_seen _ = false

-- the count after one more call; where there is no layer there is none
abbrev pub counted : Option ℕ → Option ℕ
counted (Some count) = Some ((count + 1) % 2 ^ 64)
counted Nothing = Nothing

-- what is told of the count; a dead object tells that it is gone
abbrev pub told : Bool → Option ℕ → Reply
told true seen = Gone
told false (Some count) = Number count
told false Nothing = None

-- The count after a swap that was carried out: a watch starts it at 0, whatever it was, an unwatch
-- and a destroy end it, and every other swap leaves it.
abbrev pub seen_after : Option ℕ → To → Option ℕ
seen_after seen (Layout layout) = seen
seen_after seen Watch = Some 0
seen_after seen Unwatch = Nothing
seen_after seen Dead = Nothing

-- the state of a watched object, by that of the object within
abbrev pub watch_state : {S : Type 0} → S → Option ℕ → WatchState S
watch_state inner seen = record { inner = inner; seen = seen }

-- which operations ask for the count, and what they are told, by whether the object is dead and the count
pub record Asking (O R : Type 0) : Type 0 where
  pub asks : O → Bool
  pub tells : Bool → Option ℕ → R

-- of the operations of the three kinds one asks
abbrev pub seen_asking : Asking Op Reply
seen_asking = record { asks = is_seen; tells = told }

-- It is the object within, and counts each call but those that ask for the count.
abbrev pub watched : {S O R : Type 0} → Asking O R → OneThread S O R → OneThread (WatchState S) O R
watched asking object = record {
  start = watch_state object.start Nothing;
  takes = λ op. asking.asks op || object.takes op;
  after = λ state op.
      if asking.asks op then state
      else watch_state (object.after state.inner op) (counted state.seen);
  reply = λ state op.
      if asking.asks op then asking.tells (object.is_ended state.inner) state.seen
      else object.reply state.inner op;
  swapped = λ state to. watch_state (object.swapped state.inner to) (seen_after state.seen to);
  is_ended = λ state. object.is_ended state.inner;
}

-- the watched object of a kind
abbrev pub watched_object : KindName → OneThread (WatchState AnyState) Op Reply
watched_object kind = watched seen_asking (plain_object kind)
