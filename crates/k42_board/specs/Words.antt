-- Where the words and the slots lie. A block of 64 words for each processor has what its callers change in each
-- call; the words that all share stand 16 apart. Nobody writes words 0 to 15, which each cutting and joining
-- of seats reads.
use Rattle.std.specs.Prelude.{ℕ, ◌+◌, ◌-◌, ◌*◌, ◌/◌, ◌%◌}

-- the generation and the entries of processor p
abbrev pub generation_word : ℕ → ℕ
generation_word p = 16 + 64 * p

-- its exits of the even and of the odd generations
abbrev pub exits_word : ℕ → ℕ → ℕ
exits_word p parity = 17 + 64 * p + parity

-- its entry of object o
abbrev pub local_word : ℕ → ℕ → ℕ
local_word p o = 32 + 64 * p + o

-- the lock of a cell stands with the words of the processor that has its place
abbrev pub lock_word : ℕ → ℕ
lock_word n = 48 + 64 * (n % 8) + n / 8

abbrev pub object_word : ℕ → ℕ
object_word o = 528 + 16 * o

-- how many rows of object o are freed
abbrev pub freed_word : ℕ → ℕ
freed_word o = 784 + 16 * o

-- and the object of such a word
abbrev pub freed_object : ℕ → ℕ
freed_object word = (word - 784) / 16

abbrev pub role_word : ℕ
role_word = 1040

abbrev pub many_words : ℕ
many_words = 1056

-- the slots of the cells at one place stand together, with room behind them
abbrev pub slot_of : ℕ → ℕ
slot_of n = 40 * (n % 8) + n / 8

abbrev pub many_slots : ℕ
many_slots = 320
