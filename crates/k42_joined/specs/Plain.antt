-- The joined state: phases, cells, and what is kept beside them.
use Rattle.std.specs.Prelude.{ℕ, Bool, List, Option}
use Rattle.k42_kinds.specs.declared.entry.Answer.{Answer}
use Rattle.phase_core.specs.Plain.{Phases}
use Rattle.turn_core.specs.Plain.{Turns}

-- what is kept of a caller
pub record Kept (R : Type 0) : Type 0 where
  -- the object of its last Begin
  pub begun : Option ℕ
  -- what the word that was found there answers, until the caller draws an entry
  pub found : Option (Answer R)
  -- it has drawn Abandoned since its last Unblock
  pub abandoned : Bool

pub record Joined (L O R : Type 0) : Type 0 where
  pub phases : Phases
  pub turns : Turns O R
  -- for each object the layouts with which its rows were handed on, the newest first
  pub hands : List (List L)
  -- for each caller what is kept of it
  pub kept : List (Kept R)
