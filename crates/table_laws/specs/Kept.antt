-- What a pass has drawn.
use Rattle.std.specs.Prelude.{ℕ, List}
use Rattle.k42_kinds.specs.declared.entry.Entry.{Entry}
use Rattle.k42_places.specs.Places.{EachPlace}
use Rattle.turn_core.specs.Sound.{IsOwn, IsRising}

-- its stamps rise, and each entry is the caller's own, at its index
pub record IsOwnList {O R : Type 0} (caller : ℕ) (list : List (Entry O R)) : Type 0 where
  pub rising : IsRising list
  pub own : EachPlace (IsOwn caller) list
