-- A roll: which pass takes which item of its plan, how it gets on, and what it leaves.
use Rattle.std.specs.Prelude.{◌≡◌, ◌≢◌, ℕ, ◌+◌, ◌<◌, ◌≤◌, ◌⊎◌, ◌==◌, if◌then◌else◌, List, [], ◌∷◌, length, replicate, set, Option, Some, None, Result, Err, IsSomeAnd, slice_get, is_some, count_by}
use Rattle.k42_places.specs.Places.{EachPlace, EachPair}
use Rattle.k42_runtime.specs.Swaps.{SwapSeen, HasStepped}
use Rattle.co_system.specs.Systems.{SystemSeen, SystemPass, MayLead}
use Rattle.k42_runtime.specs.Systems.{IsPassHere, IsAtRest}
use Rattle.k42_runtime.specs.declared.swaps.Cause.{Cause}
use Rattle.k42_runtime.specs.declared.swaps.Step.TheVariants.{Again}
use Rattle.k42_runtime.specs.declared.swaps.NoSwap.{NoSwap}
use Rattle.k42_runtime.specs.declared.swaps.NoSwap.TheVariants.{Memory}
use Rattle.k42_runtime.specs.declared.swaps.Swapped.{Swapped}
use Rattle.k42_kinds.specs.declared.entry.To.{To}
use Rattle.swap_future.specs.Polling.{IsGoing, Ends, new_swap}
use Rattle.swap_future.specs.declared.rolling.Flight.{Flight}
use Rattle.swap_future.specs.declared.rolling.Rolling.{Rolling}

-- A plan of swaps, each of an object to something. So many items are taken, so many are not finished. At each place stand a
-- pass and the swap that it has in flight; at each item's place stands its answer, once it is finished, and Memory before.
pub record RollSeen : Type 0 where
  pub plan : List (ℕ × To)
  pub taken : ℕ
  pub left : ℕ
  pub passes : List SystemPass
  pub flights : List (Option Flight)
  pub answers : List (Result Swapped NoSwap)

abbrev pub seen : Rolling → RollSeen
seen r = record {
  plan = r.plan.items;
  taken = r.taken;
  left = r.left;
  passes = r.passes.items;
  flights = r.flights.items;
  answers = r.answers.items;
}

-- the swap of an item, which has not begun
abbrev pub first_flight : ℕ × To → ℕ → Flight
first_flight asked item = record { swap = new_swap asked.0 asked.1; item = item; cause = None }

-- steps that were held up by these causes, the last one's first, have brought swap and pass from there to here
abbrev pub HasWaited : SystemSeen → List Cause → SwapSeen → SystemPass → SwapSeen → SystemPass → Type 0
HasWaited system [] s old t new = (t ≡ s) × (new ≡ old)
HasWaited system (cause ∷ causes) s old t new =
    (m : SwapSeen) × (mid : SystemPass) × HasWaited system causes s old m mid × HasStepped system (Again cause) m t mid new

-- what held it up last
abbrev pub last_cause : List Cause → Option Cause → Option Cause
last_cause [] before = before
last_cause (cause ∷ causes) before = Some cause

-- A pass gets on with the swap that it has in flight, but takes no item: the swap waits, or has ended with its item's answer.
abbrev pub GetsOn : SystemSeen → List (Result Swapped NoSwap) → Option Flight → SystemPass → Option Flight → SystemPass → Type 0
GetsOn system answers None old None new = new ≡ old
GetsOn system answers None old (Some g) new = ⊥
GetsOn system answers (Some f) old None new =
    IsSomeAnd (slice_get answers f.item) (λ answer. Ends system f.swap old answer new)
GetsOn system answers (Some f) old (Some g) new =
    (g.item ≡ f.item) × (causes : List Cause) × (g.cause ≡ last_cause causes f.cause) × HasWaited system causes f.swap old g.swap new

-- It gets on, and takes these items of the plan, each once the swap before has ended.
abbrev pub Carries : SystemSeen → List (ℕ × To) → List (Result Swapped NoSwap) → List ℕ → Option Flight → SystemPass
    → Option Flight → SystemPass → Type 0
Carries system plan answers [] f old g new = GetsOn system answers f old g new
Carries system plan answers (item ∷ items) f old g new =
    (mid : SystemPass) × GetsOn system answers f old None mid
    × IsSomeAnd (slice_get plan item) (λ asked. Carries system plan answers items (Some (first_flight asked item)) mid g new)

-- the items that this pass takes, where these passes take the items from a first one on
abbrev pub items_of : ℕ → ℕ → List ℕ → List ℕ
items_of place first [] = []
items_of place first (taker ∷ takers) =
    if taker == place then first ∷ items_of place (first + 1) takers else items_of place (first + 1) takers

-- what stands at one place of each of four lists
abbrev pub EachLane : {A B : Type 0} → (ℕ → A → B → A → B → Type 0) → List A → List B → List A → List B → Type 0
EachLane {A} {B} R fs olds gs news =
    (place : ℕ) (f : A) (old : B) (g : A) (new : B) → slice_get fs place ≡ Some f → slice_get olds place ≡ Some old
    → slice_get gs place ≡ Some g → slice_get news place ≡ Some new → R place f old g new

-- no pass has the swap of this item in flight
abbrev pub IsNotFlown : List (Option Flight) → ℕ → Type 0
IsNotFlown flights item = (place : ℕ) (f : Flight) → slice_get flights place ≡ Some (Some f) → f.item ≢ item

-- the answers are those that the roll has by now, as far as items are finished
abbrev pub Agrees : RollSeen → List (Result Swapped NoSwap) → Type 0
Agrees r answers = (item : ℕ) → item < r.taken → IsNotFlown r.flights item → slice_get answers item ≡ slice_get r.answers item

-- The roll has got on: these passes took the items that follow, in the plan's order, and each pass has got on with what it
-- took, whatever answers come of the items that are not finished.
pub record HasGotOn (system : SystemSeen) (a b : RollSeen) : Type 0 where
  pub plan : b.plan ≡ a.plan
  pub takers : List ℕ
  pub taken : b.taken ≡ a.taken + length takers
  pub theirs : EachPlace (λ i taker. taker < length a.passes) takers
  pub passes : length b.passes ≡ length a.passes
  pub flights : length b.flights ≡ length a.flights
  pub answers : length b.answers ≡ length a.answers
  pub kept : Agrees a b.answers
  -- what is in flight was so before, or was taken now
  pub flown : (place : ℕ) (g : Flight) → slice_get b.flights place ≡ Some (Some g) → g.item < a.taken
      → (f : Flight) × (slice_get a.flights place ≡ Some (Some f)) × (f.item ≡ g.item)
  pub each : (answers : List (Result Swapped NoSwap)) → Agrees b answers
      → EachLane (λ place. Carries system a.plan answers (items_of place a.taken takers)) a.flights a.passes b.flights b.passes

-- The roll has come to its end with these answers, one for each item, and these passes, in their order.
pub record HasRolled (system : SystemSeen) (r : RollSeen) (answers : List (Result Swapped NoSwap)) (passes : List SystemPass) : Type 0 where
  pub takers : List ℕ
  pub taken : length r.plan ≡ r.taken + length takers
  pub theirs : EachPlace (λ i taker. taker < length r.passes) takers
  pub passes_are : length passes ≡ length r.passes
  pub answers_are : length answers ≡ length r.plan
  pub kept : Agrees r answers
  pub rest : EachPlace (λ i pass. IsPassHere system pass × IsAtRest pass.view) passes
  pub each : (place : ℕ) (f : Option Flight) (old new : SystemPass) → slice_get r.flights place ≡ Some f
      → slice_get r.passes place ≡ Some old → slice_get passes place ≡ Some new
      → Carries system r.plan answers (items_of place r.taken takers) f old None new

-- the flight that the pass at this place had, or that of the next item, has been taken out
abbrev pub IsAtHand : ℕ → RollSeen → Flight → RollSeen → Type 0
IsAtHand place a f b =
    ((slice_get a.flights place ≡ Some (Some f)) × (b ≡ record a { flights = set a.flights place None }))
    ⊎ ((slice_get a.flights place ≡ Some None) × (asked : ℕ × To) × (slice_get a.plan a.taken ≡ Some asked)
    × (f ≡ first_flight asked a.taken) × (b ≡ record a { taken = a.taken + 1 }))

-- a roll that has not begun
abbrev pub new_roll : List (ℕ × To) → List SystemPass → RollSeen
new_roll plan passes = record {
  plan = plan;
  taken = 0;
  left = length plan;
  passes = passes;
  flights = replicate (length passes) None;
  answers = replicate (length plan) (Err Memory);
}

-- what holds up the swap that stands there
abbrev pub cause_in : Option (Option Flight) → Option Cause
cause_in None = None
cause_in (Some None) = None
cause_in (Some (Some f)) = f.cause

-- and that of the pass at a place of the roll
abbrev pub cause_at : Option Rolling → ℕ → Option Cause
cause_at None place = None
cause_at (Some rolling) place = cause_in (slice_get rolling.flights.items place)

-- the swap is that of its item in the plan
abbrev pub IsOfItem : List (ℕ × To) → Flight → Type 0
IsOfItem plan f = IsSomeAnd (slice_get plan f.item) (λ asked. (f.swap.object ≡ asked.0) × (f.swap.to ≡ asked.1))

-- A pass of a roll: it rests, or goes on with the swap of an item that was taken.
abbrev pub IsLane : SystemSeen → RollSeen → Option Flight → SystemPass → Type 0
IsLane system r None pass = IsPassHere system pass × IsAtRest pass.view
IsLane system r (Some f) pass = IsGoing system f.swap pass × (f.item < r.taken) × IsOfItem r.plan f

-- no two passes have the same item
abbrev pub AreApart : List (Option Flight) → Type 0
AreApart flights =
    (p q : ℕ) (f g : Flight) → slice_get flights p ≡ Some (Some f) → slice_get flights q ≡ Some (Some g) → f.item ≡ g.item → p ≡ q

-- A roll that is not over, and may be polled.
pub record IsRolling (system : SystemSeen) (r : RollSeen) : Type 0 where
  pub some : 0 < length r.passes
  pub flights : length r.flights ≡ length r.passes
  pub answers : length r.answers ≡ length r.plan
  pub taken : r.taken ≤ length r.plan
  pub left : r.left + r.taken ≡ length r.plan + count_by is_some r.flights
  pub objects : EachPlace (λ i asked. asked.0 < length system.sys.shapes) r.plan
  pub leads : EachPlace (λ i asked. MayLead system.plan asked.0 asked.1) r.plan
  pub lanes : EachPair (λ place. IsLane system r) r.flights r.passes
  pub apart : AreApart r.flights

-- a pass that may roll
pub record MayRoll (system : SystemSeen) (pass : SystemPass) : Type 0 where
  pub here : IsPassHere system pass
  pub rests : IsAtRest pass.view
