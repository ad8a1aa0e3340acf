-- Where a caller is in its call, and how far its swap is.
use Rattle.std.specs.Prelude.{ℕ, Bool, Option, false, ◌==◌, None, true, Some, unwrap_or, ◌≡◌}
use Rattle.phase_core.specs.declared.caller.Place.{Place}
use Rattle.phase_core.specs.declared.caller.Place.TheVariants.{Out, Missed, Direct, AtMediator, Tracked, Blocked}
use Rattle.phase_core.specs.declared.caller.SwapAt.{SwapAt}
use Rattle.phase_core.specs.declared.caller.SwapAt.TheVariants.{Idle, Refused, Begun, Interposing, Interposed, Draining, Drained, Blocking, Moved, Opening, Reopening, Opened}

abbrev pub is_out : Place → Bool
is_out Out = true
is_out _ = false

abbrev pub is_missed : Place → ℕ → Bool
is_missed (Missed q i) o = q == o
is_missed _ o = false

abbrev pub is_at_mediator : Place → ℕ → Bool
is_at_mediator (AtMediator q) o = q == o
is_at_mediator _ o = false

-- Missed or Direct
abbrev pub is_uncounted : Place → Bool
is_uncounted (Missed q i) = true
is_uncounted (Direct q i) = true
is_uncounted _ = false

-- Tracked or Blocked
abbrev pub is_counted : Place → Bool
is_counted (Tracked q i) = true
is_counted (Blocked q) = true
is_counted _ = false

-- the object and the row of a place that has them
abbrev pub object_of : Place → ℕ
object_of Out = 0
object_of (Missed o i) = o
object_of (Direct o i) = o
object_of (AtMediator o) = o
object_of (Tracked o i) = o
object_of (Blocked o) = o

abbrev pub row_of : Place → ℕ
row_of (Missed o i) = i
row_of (Direct o i) = i
row_of (Tracked o i) = i
row_of _ = 0

-- the caller is inside row i of object o
abbrev pub IsInside : Place → ℕ → ℕ → Type 0
IsInside (Missed q j) o i = (q ≡ o) × (j ≡ i)
IsInside (Direct q j) o i = (q ≡ o) × (j ≡ i)
IsInside (Tracked q j) o i = (q ≡ o) × (j ≡ i)
IsInside place o i = ⊥

-- the object that a swap names
abbrev pub named_by : SwapAt → Option ℕ
named_by Idle = None
named_by (Refused o) = Some o
named_by (Begun o) = Some o
named_by (Interposing o p) = Some o
named_by (Interposed o) = Some o
named_by (Draining o) = Some o
named_by (Drained o) = Some o
named_by (Blocking o) = Some o
named_by (Moved o) = Some o
named_by (Opening o p) = Some o
named_by (Reopening o p) = Some o
named_by (Opened o) = Some o

abbrev pub object_named : SwapAt → ℕ
object_named s = unwrap_or (named_by s) 0

abbrev pub is_idle : SwapAt → Bool
is_idle Idle = true
is_idle _ = false

abbrev pub may_take : SwapAt → Bool
may_take Idle = true
may_take (Interposed o) = true
may_take _ = false

abbrev pub is_interposing : SwapAt → Bool
is_interposing (Begun o) = true
is_interposing (Interposing o p) = true
is_interposing _ = false

abbrev pub is_drained : SwapAt → Bool
is_drained (Drained o) = true
is_drained _ = false

abbrev pub is_blocking : SwapAt → Bool
is_blocking (Blocking o) = true
is_blocking _ = false

abbrev pub is_moved : SwapAt → Bool
is_moved (Moved o) = true
is_moved _ = false

abbrev pub is_opening : SwapAt → Bool
is_opening (Opening o p) = true
is_opening (Reopening o p) = true
is_opening _ = false

abbrev pub is_ended : SwapAt → Bool
is_ended (Refused o) = true
is_ended (Opened o) = true
is_ended _ = false
