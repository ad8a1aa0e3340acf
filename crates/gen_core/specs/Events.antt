-- For each event where it is possible and what its effect is.
use Rattle.std.specs.Prelude.{ℕ, ◌≡◌, ◌+◌, ◌-◌, ◌^◌, ◌%◌, Bool, true, false, not, ◌&&◌, ◌==◌, nat_lt, if◌then◌else◌, List, Option, Some, None, length, unwrap_or, is_some, is_none, slice_index, slice_set}
use Rattle.std.specs.List.{list_all}
use Rattle.gen_core.specs.declared.event.GenEvent.{GenEvent}
use Rattle.gen_core.specs.declared.event.GenEvent.TheVariants.{Enter, Leave, TakeRole, LookAhead, Flip, Look, GiveRole}
use Rattle.gen_core.specs.declared.state.GenProc.{GenProc}
use Rattle.gen_core.specs.declared.state.GraceAt.{GraceAt}
use Rattle.gen_core.specs.declared.state.GraceAt.TheVariants.{Idle, Flipping, Looking, Quiet}
use Rattle.gen_core.specs.Plain.{Caller, Generations}
use Rattle.gen_core.specs.State.{proc_at, caller_at, put_proc, put_caller}

abbrev pub is_even : ℕ → Bool
is_even n = n % 2 == 0

-- the exits of the generations of one parity
abbrev pub exits_of : GenProc → Bool → ℕ
exits_of k true = k.exits_even
exits_of k false = k.exits_odd

-- the exits of the parity that the processor's generation has not
abbrev pub other_exits : GenProc → ℕ
other_exits k = exits_of k (not (is_even k.generation))

abbrev pub is_idle : GraceAt → Bool
is_idle Idle = true
is_idle _ = false

abbrev pub is_flipping : GraceAt → Bool
is_flipping (Flipping p) = true
is_flipping _ = false

abbrev pub is_looking : GraceAt → Bool
is_looking (Looking p) = true
is_looking _ = false

abbrev pub is_quiet : GraceAt → Bool
is_quiet Quiet = true
is_quiet _ = false

-- the processor that a grace flips or looks at next
abbrev pub place_of : GraceAt → ℕ
place_of (Flipping p) = p
place_of (Looking p) = p
place_of _ = 0

-- neither in an activity nor waiting for a grace period
abbrev pub is_free : Caller → Bool
is_free x = is_idle x.grace && is_none x.active

abbrev pub can_take_role : Caller → List GenProc → Bool
can_take_role x procs = is_free x && list_all (λ k. nat_lt k.generation (2 ^ 32 - 1)) procs

-- the exits of the other parity are what the flip of this processor waits for
abbrev pub is_drained : Caller → GenProc → Bool
is_drained x k = other_exits k == slice_index x.waits (place_of x.grace)

-- one caller and one processor after an event

abbrev pub caller_entered : Caller → GenProc → Caller
caller_entered x k = record x { active = Some k.generation }

abbrev pub proc_entered : GenProc → GenProc
proc_entered k = record k { entered = k.entered + 1 }

abbrev pub caller_left : Caller → Caller
caller_left x = record x { active = None }

-- an exit of a generation that is even or not
abbrev pub exit_counted : GenProc → Bool → GenProc
exit_counted k true = record k { exits_even = k.exits_even + 1 }
exit_counted k false = record k { exits_odd = k.exits_odd + 1 }

abbrev pub proc_left : GenProc → Option ℕ → GenProc
proc_left k None = k
proc_left k (Some generation) = exit_counted k (is_even generation)

abbrev pub role_taken : Caller → Caller
role_taken x = record x { grace = Flipping 0 }

abbrev pub looked_ahead : Caller → GenProc → Caller
looked_ahead x k = record x { coming = Some (other_exits k) }

-- where a grace is after the flip of p, of so many processors
abbrev pub after_flip : ℕ → ℕ → GraceAt
after_flip p procs = if nat_lt (p + 1) procs then Flipping (p + 1) else Looking 0

abbrev pub caller_flipped : Caller → GenProc → ℕ → Caller
caller_flipped x k procs = record x {
  waits = slice_set x.waits (place_of x.grace) k.entered;
  coming = None;
  grace = after_flip (place_of x.grace) procs;
}

abbrev pub proc_flipped : GenProc → Option ℕ → GenProc
proc_flipped k coming = record k { generation = k.generation + 1; entered = unwrap_or coming 0 }

-- where a grace is after p was passed
abbrev pub after_look : ℕ → ℕ → GraceAt
after_look p procs = if nat_lt (p + 1) procs then Looking (p + 1) else Quiet

abbrev pub caller_passed : Caller → ℕ → Caller
caller_passed x procs = record x { grace = after_look (place_of x.grace) procs }

abbrev pub role_given : Caller → Caller
role_given x = record x { grace = Idle }

-- the state after an event of the caller

-- the processor of the caller's activities
abbrev pub home_of : Generations → ℕ → GenProc
home_of s c = proc_at s (caller_at s c).proc

-- the processor at which the caller's grace is
abbrev pub turn_of : Generations → ℕ → GenProc
turn_of s c = proc_at s (place_of (caller_at s c).grace)

abbrev pub entered : Generations → ℕ → Generations
entered s c =
    let x = caller_at s c in
    let k = home_of s c in
    put_proc (put_caller s c (caller_entered x k)) x.proc (proc_entered k)

abbrev pub left : Generations → ℕ → Generations
left s c =
    let x = caller_at s c in
    put_proc (put_caller s c (caller_left x)) x.proc (proc_left (home_of s c) x.active)

-- the role is taken where it is free
abbrev pub taken : Generations → ℕ → Option ℕ → Generations
taken s c None = record (put_caller s c (role_taken (caller_at s c))) { role = Some c }
taken s c (Some holder) = s

abbrev pub flipped : Generations → ℕ → Generations
flipped s c =
    let x = caller_at s c in
    let k = turn_of s c in
    put_proc (put_caller s c (caller_flipped x k (length s.procs))) (place_of x.grace) (proc_flipped k x.coming)

abbrev pub looked : Generations → ℕ → Generations
looked s c =
    let x = caller_at s c in
    if is_drained x (turn_of s c) then put_caller s c (caller_passed x (length s.procs)) else s

abbrev pub given : Generations → ℕ → Generations
given s c = record (put_caller s c (role_given (caller_at s c))) { role = None }

-- whether an event is possible
abbrev pub is_possible : Generations → GenEvent → Bool
is_possible s (Enter c) = is_free (caller_at s c)
is_possible s (Leave c) = is_some (caller_at s c).active
is_possible s (TakeRole c) = can_take_role (caller_at s c) s.procs
is_possible s (LookAhead c) = is_flipping (caller_at s c).grace && is_none (caller_at s c).coming
is_possible s (Flip c) = is_flipping (caller_at s c).grace && is_some (caller_at s c).coming
is_possible s (Look c) = is_looking (caller_at s c).grace
is_possible s (GiveRole c) = is_quiet (caller_at s c).grace

-- the effect of a possible event
abbrev pub effect : Generations → GenEvent → Generations
effect s (Enter c) = entered s c
effect s (Leave c) = left s c
effect s (TakeRole c) = taken s c s.role
effect s (LookAhead c) = put_caller s c (looked_ahead (caller_at s c) (turn_of s c))
effect s (Flip c) = flipped s c
effect s (Look c) = looked s c
effect s (GiveRole c) = given s c

-- the caller of an event
abbrev pub caller_of : GenEvent → ℕ
caller_of (Enter c) = c
caller_of (Leave c) = c
caller_of (TakeRole c) = c
caller_of (LookAhead c) = c
caller_of (Flip c) = c
caller_of (Look c) = c
caller_of (GiveRole c) = c

-- the state after an event; one that is not possible changes nothing
abbrev pub happens : Generations → GenEvent → Generations
happens s event = if is_possible s event then effect s event else s

-- an event is answered by whether it was possible, and has happened
pub record Applies (result : Bool) (old new : Generations) (event : GenEvent) : Type 0 where
  pub answer : result ≡ is_possible old event
  pub state : new ≡ happens old event
