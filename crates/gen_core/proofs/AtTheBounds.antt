-- The last generation at which a grace may begin; the counts have no last one, and the code has room below 2^64 - 1.
use Rattle.std.proofs.Common.{◌≡◌, ℕ, refl, arith}
use Rattle.std.specs.Prelude.{true, false, None, [], ◌∷◌, Some}
use Rattle.gen_core.specs.declared.event.GenEvent.TheVariants.{Enter, Leave}
use Rattle.gen_core.specs.Plain.{Caller, Generations}
use Rattle.gen_core.specs.State.{fresh_proc, fresh_caller}
use Rattle.gen_core.specs.Events.{can_take_role, is_possible}
use Rattle.gen_core.specs.Room.{HasRoomFor}

abbrev free : Caller
free = fresh_caller 1 0

last_grace : can_take_role free (fresh_proc ∷ record fresh_proc { generation = 4294967294 } ∷ []) ≡ true
last_grace = refl

no_grace_more : can_take_role free (fresh_proc ∷ record fresh_proc { generation = 4294967295 } ∷ []) ≡ false
no_grace_more = refl

-- one processor of these counts, one caller outside and one in an activity of generation 0
abbrev counted : ℕ → ℕ → Generations
counted entered exits = record {
  procs = record { generation = 0; entered = entered; exits_even = exits; exits_odd = 0 } ∷ [];
  callers = free ∷ record free { active = Some 0 } ∷ [];
  role = None;
}

last_entry : HasRoomFor (counted 18446744073709551614 0) (Enter 0)
last_entry = omega arith

no_entry_more : ¬ HasRoomFor (counted 18446744073709551615 0) (Enter 0)
no_entry_more room = omega arith

last_exit : HasRoomFor (counted 0 18446744073709551614) (Leave 1)
last_exit = omega arith

no_exit_more : ¬ HasRoomFor (counted 0 18446744073709551615) (Leave 1)
no_exit_more room = omega arith

possible_all_the_same : is_possible (counted 18446744073709551615 0) (Enter 0) ≡ true
possible_all_the_same = refl

possible_to_leave : is_possible (counted 0 18446744073709551615) (Leave 1) ≡ true
possible_to_leave = refl
