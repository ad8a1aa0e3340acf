-- An enter, on the word of its processor.
use Rattle.std.proofs.Common.{◌≡◌, ℕ, ◌+◌, ◌*◌, ◌-◌, ◌/◌, ◌%◌, ◌^◌, refl, arith}
use Rattle.gen_core.specs.Events.{proc_entered}
use Rattle.gen_core.specs.declared.state.GenProc.{GenProc}
use Rattle.k42_board.specs.Gracing.{entries_in}
use Rattle.k42_board.specs.Values.{generation_in, generation_value}
use Rattle.table_laws.specs.Fields.{CountsEntry}

abbrev added : ℕ → ℕ
added word = (word + 2 ^ 32) % 2 ^ 64

pub counts_entry : (word : ℕ) → CountsEntry added word
counts_entry word = record { generation = omega arith; entries = omega arith }

-- computed: the first entry of generation 2, and the one after the last that its word counts
abbrev last : ℕ
last = 2 + 2 ^ 32 * (2 ^ 32 - 1)

first_added : added 2 ≡ 4294967298
first_added = refl

last_leaves : generation_in (added last) ≡ 2
last_leaves = refl

last_drops : entries_in (added last) ≡ 0
last_drops = refl

-- it is the word of the processor that was entered, also where that had been entered 2 ^ 64 times and once less
abbrev many_times : GenProc
many_times = record { generation = 2; entered = 2 ^ 64 - 1; exits_even = 2 ^ 64; exits_odd = 5 }

many_added : added (generation_value many_times) ≡ generation_value (proc_entered many_times)
many_added = refl

-- refused: an enter that adds 1, and one whose carry goes on to the generation
ones : ((word : ℕ) → CountsEntry (λ w. (w + 1) % 2 ^ 64) word) → ⊥
ones counts = let is : 3 ≡ 2 = (counts 2).generation in omega (arith, is)

carried : ((word : ℕ) → CountsEntry (λ w. added w + (w + 2 ^ 32) / 2 ^ 64) word) → ⊥
carried counts = let is : 3 ≡ 2 = (counts last).generation in omega (arith, is)
