-- How an act on an object of a given name is spelled, in a script as in a record.
use Rattle.std.specs.Prelude.{ℕ, ◌<◌, ◌==◌, if◌then◌else◌, List, [], ◌∷◌, codes}
use Rattle.std.specs.Fmt.{decimal}
use Rattle.k42_kinds.specs.declared.operation.LayoutName.{LayoutName}
use Rattle.k42_kinds.specs.declared.operation.LayoutName.TheVariants.{Shared, Spread}
use Rattle.k42_kinds.specs.declared.operation.Op.{Op}
use Rattle.k42_kinds.specs.declared.operation.Op.TheVariants.{Add, Get, Drain, Bind, Find, Unbind, Size, Write, Read, Dirty, Clean, Seen}
use Rattle.k42_kinds.specs.declared.entry.Act.{Act}
use Rattle.k42_kinds.specs.declared.entry.Act.TheVariants.{Call, Swap}
use Rattle.k42_kinds.specs.declared.entry.To.{To}
use Rattle.k42_kinds.specs.declared.entry.To.TheVariants.{Layout, Dead, Watch, Unwatch}

-- the word of a layout
abbrev pub layout_word : LayoutName → List ℕ
layout_word Shared = codes "shared"
layout_word Spread = codes "spread"

-- The word of the layout of this number. Only layouts 0 and 1 have a word of their own.
abbrev pub numbered_layout_word : ℕ → List ℕ
numbered_layout_word number = if number == 0 then codes "shared" else codes "spread"

-- what a swap is to has a word of its own: one of the two layouts that scripts and records name,
-- or what is no layout
abbrev pub HasWord : To → Type 0
HasWord (Layout number) = number < 2
HasWord _ = Unit {0}

-- the word of an operation
abbrev pub operation_word : Op → List ℕ
operation_word (Add amount) = codes "add"
operation_word Get = codes "get"
operation_word Drain = codes "drain"
operation_word (Bind key number) = codes "bind"
operation_word (Find key) = codes "find"
operation_word (Unbind key) = codes "unbind"
operation_word Size = codes "size"
operation_word (Write page text) = codes "write"
operation_word (Read page) = codes "read"
operation_word Dirty = codes "dirty"
operation_word Clean = codes "clean"
operation_word Seen = codes "seen"

-- what an operation is given, behind its word
abbrev pub argument_tokens : Op → List (List ℕ)
argument_tokens (Add amount) = decimal amount ∷ []
argument_tokens (Bind key number) = key ∷ decimal number ∷ []
argument_tokens (Find key) = key ∷ []
argument_tokens (Unbind key) = key ∷ []
argument_tokens (Write page text) = decimal page ∷ text ∷ []
argument_tokens (Read page) = decimal page ∷ []
argument_tokens _ = []

-- `OBJECT OPERATION ARGUMENTS`, `swap OBJECT LAYOUT`, `destroy OBJECT`, `watch OBJECT` or
-- `unwatch OBJECT`
abbrev pub act_tokens : List ℕ → Act Op → List (List ℕ)
act_tokens object (Call op) = object ∷ operation_word op ∷ argument_tokens op
act_tokens object (Swap (Layout number)) =
    codes "swap" ∷ object ∷ numbered_layout_word number ∷ []
act_tokens object (Swap Dead) = codes "destroy" ∷ object ∷ []
act_tokens object (Swap Watch) = codes "watch" ∷ object ∷ []
act_tokens object (Swap Unwatch) = codes "unwatch" ∷ object ∷ []
