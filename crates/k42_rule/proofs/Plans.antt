-- A start is a plan of the joined machine.
use Rattle.std.proofs.Common.{◌≡◌, ℕ, ◌<◌, ◌≤◌, List, length, get_or, ⊎_elim, arith}
use Rattle.std.specs.List.{slice_index_or}
use Rattle.std.proofs.lemmas.List.{length-map, get_or_past}
use Rattle.std.proofs.lemmas.Bool.{cases_lt}
use Rattle.std.proofs.lemmas.Option.{slice_get-get_or}
use Rattle.k42_limits.specs.declared.TheConstants.{LIVE_LAYOUTS}
use Rattle.k42_shapes.specs.Shapes.{IsKnownTag}
use Rattle.k42_places.specs.Places.{EachPlace}
use Rattle.k42_places.proofs.EachPlaces.{EachPlace-map}
use Rattle.phase_core.specs.Plain.{ObjectPlan}
use Rattle.k42_stamp.specs.Laws.{AreLaws}
use Rattle.k42_stamp.specs.Layouts.{Layouts}
use Rattle.k42_joined.specs.Fresh.{IsPlan, plan_of as object_plan}
use Rattle.k42_board.specs.Starting.{IsStart}

pub plan_of : {S L P O R : Type 0} (F : Layouts S L P O R) → AreLaws F → (declared : List L) (callers : List ℕ) → IsStart F.shapes_of F.tag_of declared F.procs callers
    → ((c : ℕ) → F.proc_of c ≡ slice_index_or callers c 0) → IsPlan F declared callers
plan_of F laws declared callers start told = record {
  phases = record {
    turns = start.turns;
    some_objects = rw (length-map declared (object_plan F)) start.some_objects;
    few_objects = rw (length-map declared (object_plan F)) start.few_objects;
    known_layouts =
        EachPlace-map (λ o (plan : ObjectPlan). IsKnownTag plan.shapes plan.layout) (object_plan F) declared
        (λ o layout e. let live = start.live o layout e in omega (arith, live));
    few_layouts = EachPlace-map (λ o (plan : ObjectPlan). length plan.shapes ≤ LIVE_LAYOUTS) (object_plan F) declared (λ o layout e. laws.few layout);
  };
  live = start.live;
  proc_of = λ c there. told c;
}

pub on_processors : (procs : ℕ) (callers : List ℕ) → 0 < procs → EachPlace (λ c p. p < procs) callers → (c : ℕ) → slice_index_or callers c 0 < procs
on_processors procs callers some placed c =
    ⊎_elim
    (λ there. placed c (get_or callers c 0) (slice_get-get_or callers c 0 there))
    (λ past. rw (get_or_past callers c 0 past) some)
    (cases_lt c (length callers))
