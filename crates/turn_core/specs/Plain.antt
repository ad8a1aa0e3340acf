-- The state as contracts see it: the fields of the code, with plain lists.
use Rattle.std.specs.Prelude.{ℕ, Bool, List, Option}
use Rattle.k42_kinds.specs.declared.entry.Entry.{Entry}

pub record Cell (O R : Type 0) : Type 0 where
  pub lock : Option ℕ
  pub home : Bool
  pub closed : Bool
  pub life : ℕ
  pub history : List (Entry O R)
  pub past : List (List (Entry O R))

pub record Caller (O R : Type 0) : Type 0 where
  pub held : List ℕ
  pub mine : List (Entry O R)
  -- no stamp of its list is above it, and what it draws next bears a greater one
  pub clock : ℕ

pub record Turns (O R : Type 0) : Type 0 where
  pub cells : List (Cell O R)
  pub callers : List (Caller O R)
