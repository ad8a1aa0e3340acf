-- What the text of a history does not show.
use Rattle.std.specs.Prelude.{◌≡◌, ℕ, List, length, Some, slice_get}
use Rattle.k42_kinds.specs.declared.operation.Op.{Op}
use Rattle.k42_kinds.specs.declared.operation.Reply.{Reply}
use Rattle.k42_kinds.specs.declared.entry.Entry.{Entry}

-- The entries are the same but for what their lines do not show: the cell, and in version 1 the
-- processor and the generation.
pub record LookAlike (version : ℕ) (one other : Entry Op Reply) : Type 0 where
  pub stamp : one.stamp ≡ other.stamp
  pub caller : one.caller ≡ other.caller
  pub index : one.index ≡ other.index
  pub object : one.object ≡ other.object
  pub incarnation : one.incarnation ≡ other.incarnation
  pub act : one.act ≡ other.act
  pub answer : one.answer ≡ other.answer
  pub proc : version ≡ 2 → one.proc ≡ other.proc
  pub generation : version ≡ 2 → one.generation ≡ other.generation

-- the histories have as many entries, which look alike place by place
pub record AreAlike (version : ℕ) (one other : List (Entry Op Reply)) : Type 0 where
  pub as_many : length one ≡ length other
  pub each : (place : ℕ) (first second : Entry Op Reply) → slice_get one place ≡ Some first
      → slice_get other place ≡ Some second → LookAlike version first second
