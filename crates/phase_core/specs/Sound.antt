-- What stays true in every state that events reach from a new one.
use Rattle.std.specs.Prelude.{length, ◌≡◌}
use Rattle.k42_places.specs.Places.{EachPlace, EachPair}
use Rattle.gen_core.specs.Sound.{IsInCourse}
use Rattle.phase_core.specs.Callers.{IsVisitor}
use Rattle.phase_core.specs.Objects.{IsObject, IsCounted}
use Rattle.phase_core.specs.Outlooks.{Scene}
use Rattle.phase_core.specs.Plain.{Phases}

-- every fact
pub record IsInScene (scene : Scene) (s : Phases) : Type 0 where
  pub in_course : IsInCourse scene.course s.turns
  pub many_objects : length s.objects ≡ scene.objects
  pub many_callers : length s.callers ≡ scene.course.callers
  pub objects : EachPlace (λ o k. IsObject scene.course.procs scene.course.callers (scene.looks o) o k) s.objects
  pub counted : EachPlace (IsCounted s.callers) s.objects
  pub visitors : EachPair (IsVisitor scene) s.turns.callers s.callers

pub record IsSound (s : Phases) : Type 0 where
  pub scene : Scene
  pub in_scene : IsInScene scene s
