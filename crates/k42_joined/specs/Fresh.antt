-- The state before the first event.
use Rattle.std.specs.Prelude.{◌≡◌, ℕ, zero, suc, ◌<◌, List, [], ◌++◌, length, map, replicate, slice_index_or}
use Rattle.k42_places.specs.Places.{EachPlace}
use Rattle.phase_core.specs.Plain.{ObjectPlan}
use Rattle.phase_core.specs.State as phases
use Rattle.turn_core.specs.State as turns
use Rattle.k42_stamp.specs.Layouts.{Layouts, IsLive}
use Rattle.k42_joined.specs.Plain.{Joined}
use Rattle.k42_joined.specs.State.{nothing_kept}

-- the cells of each object begin with life 0 in its even row and with life 1 in its odd row
abbrev pub first_lives : ℕ → List ℕ
first_lives zero = []
first_lives (suc objects) = replicate 8 0 ++ (replicate 8 1 ++ first_lives objects)

abbrev pub plan_of : {S L P O R : Type 0} → Layouts S L P O R → L → ObjectPlan
plan_of F layout = record { shapes = F.shapes_of layout; layout = F.tag_of layout }

-- objects of these layouts, and a caller on each processor that is named
abbrev pub fresh : {S L P O R : Type 0} → Layouts S L P O R → List L → List ℕ → Joined L O R
fresh F declared callers = record {
  phases = phases.new_phases F.procs (map (plan_of F) declared) callers;
  turns = turns.fresh (first_lives (length declared)) (length callers);
  hands = replicate (length declared) [];
  kept = replicate (length callers) nothing_kept;
}

-- No object starts dead, and the layouts are told for these callers.
pub record IsPlan {S L P O R : Type 0} (F : Layouts S L P O R) (declared : List L) (callers : List ℕ) : Type 0 where
  pub phases : phases.IsPlan F.procs (map (plan_of F) declared) callers
  pub live : EachPlace (λ o layout. IsLive F layout) declared
  pub proc_of : (c : ℕ) → c < length callers → F.proc_of c ≡ slice_index_or callers c 0
