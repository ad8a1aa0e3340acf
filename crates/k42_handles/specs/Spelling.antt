-- Operations as C spells them: keys and texts by bytes, and pages by numbers below 2 ^ 16.
use Rattle.std.specs.Prelude.{ℕ, ◌^◌, List, if◌then◌else◌, nat_lt, Option, Some, None}
use Rattle.k42_kinds.specs.Words.{is_name, is_text}
use Rattle.k42_kinds.specs.declared.operation.Op.{Op}
use Rattle.k42_kinds.specs.declared.operation.Op.TheVariants.{Bind, Find, Unbind, Write, Read}

abbrev pub bind_spelled : List ℕ → ℕ → Option Op
bind_spelled key number = if is_name key then Some (Bind key number) else None

abbrev pub find_spelled : List ℕ → Option Op
find_spelled key = if is_name key then Some (Find key) else None

abbrev pub unbind_spelled : List ℕ → Option Op
unbind_spelled key = if is_name key then Some (Unbind key) else None

abbrev pub read_spelled : ℕ → Option Op
read_spelled page = if nat_lt page (2 ^ 16) then Some (Read page) else None

abbrev pub write_spelled : ℕ → List ℕ → Option Op
write_spelled page text =
    if nat_lt page (2 ^ 16) then if is_text text then Some (Write page text) else None else None
