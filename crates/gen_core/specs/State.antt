-- Reading and changing one place of a state, and the state that was just made.
use Rattle.std.specs.Prelude.{ℕ, ◌<◌, ◌≤◌, List, [], map, length, replicate, None, slice_index_or, slice_set}
use Rattle.gen_core.specs.declared.state.GenProc.{GenProc}
use Rattle.gen_core.specs.declared.state.GraceAt.TheVariants.{Idle}
use Rattle.gen_core.specs.Plain.{Caller, Generations}
use Rattle.k42_limits.specs.declared.TheConstants.{PROCESSORS, CALLERS}
use Rattle.k42_places.specs.Places.{EachPlace}

-- a processor that nobody has entered
abbrev pub fresh_proc : GenProc
fresh_proc = record { generation = 0; entered = 0; exits_even = 0; exits_odd = 0 }

abbrev pub proc_at : Generations → ℕ → GenProc
proc_at s p = slice_index_or s.procs p fresh_proc

abbrev pub caller_at : Generations → ℕ → Caller
caller_at s c =
    slice_index_or s.callers c (record { proc = 0; active = None; grace = Idle; coming = None; waits = [] })

abbrev pub put_proc : Generations → ℕ → GenProc → Generations
put_proc s p k = record s { procs = slice_set s.procs p k }

abbrev pub put_caller : Generations → ℕ → Caller → Generations
put_caller s c x = record s { callers = slice_set s.callers c x }

-- what becomes of one caller
abbrev pub change_caller : Generations → ℕ → (Caller → Caller) → Generations
change_caller s c changed = put_caller s c (changed (caller_at s c))

-- a caller of the processor that waits for nothing
abbrev pub fresh_caller : ℕ → ℕ → Caller
fresh_caller procs p = record { proc = p; active = None; grace = Idle; coming = None; waits = replicate procs 0 }

-- so many processors, and a caller on each that is named
abbrev pub fresh : ℕ → List ℕ → Generations
fresh procs callers = record {
  procs = replicate procs fresh_proc;
  callers = map (fresh_caller procs) callers;
  role = None;
}

-- a system has one processor or more and one caller or more, and not too many
pub record IsWithinLimits (procs callers : ℕ) : Type 0 where
  pub some_procs : 0 < procs
  pub few_procs : procs ≤ PROCESSORS
  pub some_callers : 0 < callers
  pub few_callers : callers ≤ CALLERS

-- so many processors, and callers on processors that are there
pub record IsPlan (procs : ℕ) (callers : List ℕ) : Type 0 where
  pub limits : IsWithinLimits procs (length callers)
  pub placed : EachPlace (λ c p. p < procs) callers
