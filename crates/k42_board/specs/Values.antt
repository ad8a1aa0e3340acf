-- Each word as a value of its fields.
use Rattle.std.specs.Prelude.{if◌then◌else◌, ℕ, ◌+◌, ◌*◌, ◌/◌, ◌%◌, ◌^◌, ◌==◌, Bool, Option, Some, None}
use Rattle.k42_limits.specs.declared.TheConstants.{LAST_INCARNATION}
use Rattle.k42_kinds.specs.declared.entry.Answer.{Answer}
use Rattle.k42_kinds.specs.declared.entry.Answer.TheVariants.{Busy, Spent, Gone}
use Rattle.gen_core.specs.declared.state.GenProc.{GenProc}
use Rattle.phase_core.specs.Plain.{Object}
use Rattle.phase_core.specs.declared.object.LocalEntry.{LocalEntry}

-- a generation in the lower half, and in the upper one the entries modulo 2 ^ 32, so that a carry of these drops off
abbrev pub generation_value : GenProc → ℕ
generation_value k = k.generation + 2 ^ 32 * (k.entered % 2 ^ 32)

-- a number plus 1, or 0
abbrev pub holder_value : Option ℕ → ℕ
holder_value None = 0
holder_value (Some c) = c + 1

abbrev pub bit : Bool → ℕ
bit b = if b then 1 else 0

abbrev pub bits_value : Object → ℕ
bits_value k = bit k.swap + 2 * bit k.block + 4 * bit k.moving + 8 * bit k.complete

abbrev pub object_value : Object → ℕ
object_value k = k.count + 2 ^ 24 * bits_value k + 2 ^ 28 * k.layout + 2 ^ 32 * k.incarnation

abbrev pub local_value : LocalEntry → ℕ
local_value e = e.tag + 2 ^ 4 * e.layout + 2 ^ 8 * e.cell + 2 ^ 32 * e.incarnation

-- what is read of a word

abbrev pub generation_in : ℕ → ℕ
generation_in word = word % 2 ^ 32

abbrev pub has_bit : ℕ → ℕ → Bool
has_bit word place = word / 2 ^ place % 2 == 1

abbrev pub count_in : ℕ → ℕ
count_in word = word % 2 ^ 24

abbrev pub layout_in : ℕ → ℕ
layout_in word = word / 2 ^ 28 % 16

abbrev pub incarnation_in : ℕ → ℕ
incarnation_in word = word / 2 ^ 32

-- what the word of an object with so many live layouts answers to a Begin: nothing where the swap may go on
abbrev pub answer_in : {R : Type 0} → ℕ → ℕ → Option (Answer R)
answer_in live word =
    if layout_in word == live then Some Gone
    else if incarnation_in word == LAST_INCARNATION then Some Spent
    else if has_bit word 24
    then Some (Busy (if has_bit word 27 then incarnation_in word else incarnation_in word + 1))
    else None
