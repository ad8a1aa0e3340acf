-- What stays true in every state that events reach from a new one.
use Rattle.std.specs.Prelude.{ℕ, ◌≡◌, ◌+◌, ◌^◌, ◌<◌, ◌⊎◌, Bool, true, false, ◌&&◌, ◌==◌, nat_lt, List, Option, Some, None, IsSomeAnd, length, slice_index, count_by}
use Rattle.std.specs.Bool.{MatchBool}
use Rattle.gen_core.specs.declared.state.GenProc.{GenProc}
use Rattle.gen_core.specs.declared.state.GraceAt.{GraceAt}
use Rattle.gen_core.specs.declared.state.GraceAt.TheVariants.{Idle, Flipping, Looking, Quiet}
use Rattle.gen_core.specs.Plain.{Caller, Generations}
use Rattle.k42_places.specs.Places.{EachPlace}
use Rattle.gen_core.specs.State.{IsWithinLimits}
use Rattle.gen_core.specs.Events.{is_even, exits_of, other_exits}

-- what all processors and callers of a state share
pub record Course : Type 0 where
  -- how many processors and callers there are
  pub procs : ℕ
  pub callers : ℕ
  -- the generation of each processor that the grace under way has not flipped
  pub base : ℕ
  -- the holder of the role, how far its grace is, and what it noted
  pub holder : Option ℕ
  pub stage : GraceAt
  pub waits : List ℕ
  pub coming : Option ℕ

-- a grace has moved processor p to its next generation
abbrev pub is_flipped : GraceAt → ℕ → Bool
is_flipped Idle p = false
is_flipped (Flipping q) p = nat_lt p q
is_flipped (Looking q) p = true
is_flipped Quiet p = true

-- a grace has seen the former generation of processor p end
abbrev pub is_passed : GraceAt → ℕ → Bool
is_passed Idle p = false
is_passed (Flipping q) p = false
is_passed (Looking q) p = nat_lt p q
is_passed Quiet p = true

-- a grace flips processor p next
abbrev pub is_next : GraceAt → ℕ → Bool
is_next (Flipping q) p = q == p
is_next _ p = false

abbrev pub holds_role : Option ℕ → ℕ → Bool
holds_role None c = false
holds_role (Some holder) c = holder == c

abbrev pub is_in : Option ℕ → ℕ → Bool
is_in None generation = false
is_in (Some own) generation = own == generation

abbrev pub is_active_in : ℕ → ℕ → Caller → Bool
is_active_in p generation x = (x.proc == p) && is_in x.active generation

-- how many callers are active on a processor in a generation
abbrev pub active_in : List Caller → ℕ → ℕ → ℕ
active_in callers p generation = count_by (is_active_in p generation) callers

-- the caller's processor is there, and it has a number to note for each
pub record IsPlaced (procs : ℕ) (c : ℕ) (x : Caller) : Type 0 where
  pub proc : x.proc < procs
  pub waits : length x.waits ≡ procs

-- one of the callers holds the role
abbrev pub HasHolder : Course → Type 0
HasHolder course = IsSomeAnd course.holder (λ c. c < course.callers)

-- the role is held while a grace is under way, and an exit count is known ahead only while it flips
abbrev pub StageFits : Course → GraceAt → Type 0
StageFits course Idle = (course.holder ≡ None) × (course.coming ≡ None)
StageFits course (Flipping p) = HasHolder course × (p < course.procs) × (course.base + 1 < 2 ^ 32)
StageFits course (Looking p) = HasHolder course × (p < course.procs) × (course.coming ≡ None)
StageFits course Quiet = HasHolder course × (course.coming ≡ None)

-- the holder of the role is in no activity
pub record IsHolder (course : Course) (x : Caller) : Type 0 where
  pub grace : x.grace ≡ course.stage
  pub waits : x.waits ≡ course.waits
  pub coming : x.coming ≡ course.coming
  pub inactive : x.active ≡ None

pub record IsNoHolder (x : Caller) : Type 0 where
  pub grace : x.grace ≡ Idle
  pub coming : x.coming ≡ None

-- the holder is the one caller whose grace is under way
abbrev pub IsHolderOrIdle : Course → ℕ → Caller → Type 0
IsHolderOrIdle course c x = MatchBool (holds_role course.holder c) (IsHolder course x) (IsNoHolder x)

-- the exits known ahead are those that the next generation of the next processor counts on from
abbrev pub IsComing : Course → ℕ → GenProc → Type 0
IsComing course p k =
    is_next course.stage p ≡ true → (exits : ℕ) → course.coming ≡ Some exits → exits ≡ other_exits k

-- the flipped processors are one generation ahead
abbrev pub generation_of : ℕ → Bool → ℕ
generation_of base true = base + 1
generation_of base false = base

abbrev pub IsInStep : Course → ℕ → GenProc → Type 0
IsInStep course p k = k.generation ≡ generation_of course.base (is_flipped course.stage p)

-- an activity is of its processor's generation, or of the former one while that was flipped and not passed
abbrev pub IsOfStep : ℕ → Bool → Bool → ℕ → Type 0
IsOfStep base false passed generation = generation ≡ base
IsOfStep base true false generation = (generation ≡ base) ⊎ (generation ≡ base + 1)
IsOfStep base true true generation = generation ≡ base + 1

abbrev pub IsActiveInStep : Course → ℕ → Caller → Type 0
IsActiveInStep course c x =
    (generation : ℕ) → x.active ≡ Some generation
    → IsOfStep course.base (is_flipped course.stage x.proc) (is_passed course.stage x.proc) generation

-- the entries are the exits and the callers still active, in the present generation and, where the grace
-- has flipped the processor and not passed it, in the former one
pub record IsCounted (course : Course) (callers : List Caller) (p : ℕ) (k : GenProc) : Type 0 where
  pub present : k.entered ≡ exits_of k (is_even k.generation) + active_in callers p k.generation
  pub former : is_flipped course.stage p ≡ true → is_passed course.stage p ≡ false
      → slice_index course.waits p ≡ exits_of k (is_even course.base) + active_in callers p course.base

-- a generation has 32 bits; entries and exits have no bound
abbrev pub FitsField : ℕ → GenProc → Type 0
FitsField p k = k.generation < 2 ^ 32

-- every fact, of the lists place by place
pub record IsInCourse (course : Course) (s : Generations) : Type 0 where
  pub limits : IsWithinLimits course.procs course.callers
  pub many_procs : length s.procs ≡ course.procs
  pub many_callers : length s.callers ≡ course.callers
  pub role : s.role ≡ course.holder
  pub stage : StageFits course course.stage
  pub placed : EachPlace (IsPlaced course.procs) s.callers
  pub one_role_holder : EachPlace (IsHolderOrIdle course) s.callers
  pub known_ahead : EachPlace (IsComing course) s.procs
  pub generations_in_step : EachPlace (IsInStep course) s.procs
  pub activities_in_step : EachPlace (IsActiveInStep course) s.callers
  pub counted_generations : EachPlace (IsCounted course s.callers) s.procs
  pub no_generation_passes_its_field : EachPlace FitsField s.procs

-- a state that meets every fact, with the course that shows it
pub record IsSound (s : Generations) : Type 0 where
  pub course : Course
  pub in_course : IsInCourse course s
