-- What stays true in every state that joined events reach from a new one.
use Rattle.std.specs.Prelude.{List}
use Rattle.phase_core.specs.Sound as phases
use Rattle.turn_core.specs.Sound as turns
use Rattle.k42_stamp.specs.Layouts.{Layouts}
use Rattle.k42_joined.specs.Plain.{Joined}
use Rattle.k42_joined.specs.Locks.{AreLocked}
use Rattle.k42_joined.specs.Fitting.{Fitting}
use Rattle.k42_joined.specs.Answers.{AreAnswered}

-- the facts on cells: their stamps and lists, their locks and lives, and their rows
pub record AreCells {S L P O R : Type 0} (F : Layouts S L P O R) (declared : List L) (s : Joined L O R) : Type 0 where
  pub turns : turns.IsSound s.turns
  pub locks : AreLocked s
  pub rows : Fitting F declared s

-- every fact
pub record IsSound {S L P O R : Type 0} (F : Layouts S L P O R) (declared : List L) (s : Joined L O R) : Type 0 where
  pub phases : phases.IsSound s.phases
  pub cells : AreCells F declared s
  pub answers : AreAnswered s
