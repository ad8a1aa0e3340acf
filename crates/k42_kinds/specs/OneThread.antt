-- An object of one thread, whatever its kind.
use Rattle.std.specs.Prelude.{Bool}
use Rattle.k42_kinds.specs.declared.entry.To.{To}
use Rattle.k42_kinds.specs.declared.entry.To.TheVariants.{Layout, Dead, Watch, Unwatch}

pub record OneThread (S O R : Type 0) : Type 0 where
  -- the state before the first operation
  pub start : S
  -- whether it takes the operation
  pub takes : O → Bool
  -- the state after an operation, and the reply
  pub after : S → O → S
  pub reply : S → O → R
  -- the state that a swap leaves which was carried out, and whether the object is at its end
  pub swapped : S → To → S
  pub is_ended : S → Bool

-- A destroy leaves this state, and any other swap the state that was.
abbrev pub ends_as : {S : Type 0} → S → S → To → S
ends_as ended state (Layout layout) = state
ends_as ended state Dead = ended
ends_as ended state Watch = state
ends_as ended state Unwatch = state
