-- Whether the counts of the code, which have 64 bits, have room for an event.
use Rattle.std.specs.Prelude.{ℕ, ◌-◌, ◌^◌, ◌<◌, Option, Some, None}
use Rattle.gen_core.specs.declared.event.GenEvent.{GenEvent}
use Rattle.gen_core.specs.declared.event.GenEvent.TheVariants.{Enter, Leave}
use Rattle.gen_core.specs.declared.state.GenProc.{GenProc}
use Rattle.gen_core.specs.Plain.{Generations}
use Rattle.gen_core.specs.State.{caller_at}
use Rattle.gen_core.specs.Events.{is_even, exits_of, home_of}

-- a count that can rise
abbrev pub CanRise : ℕ → Type 0
CanRise count = count < 2 ^ 64 - 1

-- the exits of an activity's parity can rise
abbrev pub HasRoomForExit : Option ℕ → GenProc → Type 0
HasRoomForExit None k = Unit {0}
HasRoomForExit (Some generation) k = CanRise (exits_of k (is_even generation))

-- the count that an event raises can rise
abbrev pub HasRoomFor : Generations → GenEvent → Type 0
HasRoomFor s (Enter c) = CanRise (home_of s c).entered
HasRoomFor s (Leave c) = HasRoomForExit (caller_at s c).active (home_of s c)
HasRoomFor s _ = Unit {0}
