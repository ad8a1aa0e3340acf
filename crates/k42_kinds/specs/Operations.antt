-- Which operation belongs to which kind of object.
use Rattle.std.specs.Prelude.{ℕ, Bool, true, false, Option, Some, None}
use Rattle.k42_kinds.specs.declared.operation.KindName.{KindName}
use Rattle.k42_kinds.specs.declared.operation.KindName.TheVariants as kinds
use Rattle.k42_kinds.specs.declared.operation.LayoutName.{LayoutName}
use Rattle.k42_kinds.specs.declared.operation.LayoutName.TheVariants.{Shared, Spread}
use Rattle.k42_kinds.specs.declared.operation.Op.{Op}
use Rattle.k42_kinds.specs.declared.operation.Op.TheVariants.{Add, Get, Drain, Bind, Find, Unbind, Size, Write, Read, Dirty, Clean, Seen}

-- the number of a layout that has a name, among those of its object
abbrev pub layout_number : LayoutName → ℕ
layout_number Shared = 0
layout_number Spread = 1

-- the kind to which the operation belongs; what asks for a count belongs to none of them
abbrev pub kind_of_op : Op → Option KindName
kind_of_op (Add amount) = Some kinds.Counter
kind_of_op Get = Some kinds.Counter
kind_of_op Drain = Some kinds.Counter
kind_of_op (Bind key number) = Some kinds.Directory
kind_of_op (Find key) = Some kinds.Directory
kind_of_op (Unbind key) = Some kinds.Directory
kind_of_op Size = Some kinds.Directory
kind_of_op (Write page text) = Some kinds.Pages
kind_of_op (Read page) = Some kinds.Pages
kind_of_op Dirty = Some kinds.Pages
kind_of_op Clean = Some kinds.Pages
kind_of_op Seen = None

-- whether two kinds are one
abbrev pub same_kind : KindName → KindName → Bool
same_kind kinds.Counter kinds.Counter = true
same_kind kinds.Directory kinds.Directory = true
same_kind kinds.Pages kinds.Pages = true
same_kind _ _ = false

-- whether that kind is this one
abbrev pub is_kind : KindName → Option KindName → Bool
is_kind kind (Some own) = same_kind own kind
is_kind kind None = false

-- an object takes the operations of its kind
abbrev pub takes_operation : KindName → Op → Bool
takes_operation kind op = is_kind kind (kind_of_op op)
