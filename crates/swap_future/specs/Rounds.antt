-- The rounds of a poll, in each of which each pass of a roll has a turn: one step.
use Rattle.std.specs.Prelude.{◌≡◌, ◌≢◌, ℕ, zero, suc, ◌<◌, ◌≤◌, ◌⊎◌, List, [], ◌∷◌, length, Option, Some, None, Result, IsSomeAnd, slice_get}
use Rattle.k42_runtime.specs.Phases.{last_step}
use Rattle.k42_runtime.specs.Swaps.{SwapSeen, HasStepped}
use Rattle.co_system.specs.Systems.{SystemSeen, SystemPass}
use Rattle.k42_runtime.specs.declared.swaps.Step.TheVariants.{Again}
use Rattle.k42_runtime.specs.declared.swaps.NoSwap.{NoSwap}
use Rattle.k42_runtime.specs.declared.swaps.Swapped.{Swapped}
use Rattle.swap_future.specs.Polling.{new_swap}
use Rattle.swap_future.specs.Rolling.{RollSeen, HasGotOn, IsRolling, Agrees, EachLane, items_of}
use Rattle.swap_future.specs.declared.rolling.Flight.{Flight}

-- one step of an item's swap: it is held up by the cause that is kept, or ends with the item's answer
abbrev pub HasMadeStep : SystemSeen → List (Result Swapped NoSwap) → SwapSeen → ℕ → SystemPass → Option Flight → SystemPass → Type 0
HasMadeStep system answers s item old (Some g) new =
    (g.item ≡ item) × IsSomeAnd g.cause (λ cause. HasStepped system (Again cause) s g.swap old new)
HasMadeStep system answers s item old None new =
    IsSomeAnd (slice_get answers item) (λ answer. (t : SwapSeen) × HasStepped system (last_step answer) s t old new)

-- The turn of a pass that took these items in it: one step, of the swap that it had in flight, or of that of the one item that
-- it took. There is none where it has no swap in flight and all items are taken.
abbrev pub HasHadTurn : SystemSeen → RollSeen → List (Result Swapped NoSwap) → List ℕ → Option Flight → SystemPass → Option Flight
    → SystemPass → Type 0
HasHadTurn system b answers [] (Some f) old g new = HasMadeStep system answers f.swap f.item old g new
HasHadTurn system b answers [] None old g new = (g ≡ None) × (new ≡ old) × (b.taken ≡ length b.plan)
HasHadTurn system b answers (item ∷ []) None old g new =
    IsSomeAnd (slice_get b.plan item) (λ asked. HasMadeStep system answers (new_swap asked.0 asked.1) item old g new)
HasHadTurn system b answers items f old g new = ⊥

abbrev pub IsRising : List ℕ → Type 0
IsRising ns = (i p q : ℕ) → slice_get ns i ≡ Some p → slice_get ns (suc i) ≡ Some q → p < q

-- each pass has had its turn, one after the other
pub record HasGoneRound (system : SystemSeen) (a b : RollSeen) : Type 0 where
  pub rolls : IsRolling system b
  pub got_on : HasGotOn system a b
  pub in_order : IsRising got_on.takers
  pub turns : EachLane (λ place. HasHadTurn system b b.answers (items_of place a.taken got_on.takers)) a.flights a.passes b.flights b.passes

-- so many rounds, each of which has ended a swap
abbrev pub HasGoneRounds : SystemSeen → ℕ → RollSeen → RollSeen → Type 0
HasGoneRounds system zero a b = b ≡ a
HasGoneRounds system (suc rounds) a b =
    (mid : RollSeen) × HasGoneRounds system rounds a mid × HasGoneRound system mid b × (b.left < mid.left)

-- rounds have ended all swaps, and have left these answers and passes
pub record HasFinished (system : SystemSeen) (a : RollSeen) (answers : List (Result Swapped NoSwap)) (passes : List SystemPass) : Type 0 where
  pub rounds : ℕ
  pub last : RollSeen
  pub gone : HasGoneRounds system rounds a last
  pub none : last.left ≡ 0
  pub answers_are : answers ≡ last.answers
  pub passes_are : passes ≡ last.passes

-- a round has ended no swap, and some swap is in flight
pub record HasEndedNone (a b : RollSeen) : Type 0 where
  pub none : b.left ≡ a.left
  pub place : ℕ
  pub flight : Flight
  pub some : slice_get b.flights place ≡ Some (Some flight)

-- the last round has ended no swap, and each one before it has
pub record IsHeldUp (system : SystemSeen) (a b : RollSeen) : Type 0 where
  pub rounds : ℕ
  pub mid : RollSeen
  pub before : HasGoneRounds system rounds a mid
  pub last : HasGoneRound system mid b
  pub waits : HasEndedNone mid b

-- The pass at this place has had its turn: the others are as they were. A pass that ended no swap and has none in flight has
-- found all items taken.
pub record HasTurned (system : SystemSeen) (place : ℕ) (a b : RollSeen) : Type 0 where
  pub rolls : IsRolling system b
  pub got_on : HasGotOn system a b
  pub fewer : b.left ≤ a.left
  pub flights : (other : ℕ) → other ≢ place → slice_get b.flights other ≡ slice_get a.flights other
  pub passes : (other : ℕ) → other ≢ place → slice_get b.passes other ≡ slice_get a.passes other
  pub takes : (got_on.takers ≡ []) ⊎ (got_on.takers ≡ place ∷ [])
  pub turn : (answers : List (Result Swapped NoSwap)) → Agrees b answers → (f : Option Flight) (old : SystemPass) (g : Option Flight) (new : SystemPass)
      → slice_get a.flights place ≡ Some f → slice_get a.passes place ≡ Some old → slice_get b.flights place ≡ Some g
      → slice_get b.passes place ≡ Some new → HasHadTurn system b answers (items_of place a.taken got_on.takers) f old g new
  pub idle : b.left ≡ a.left → slice_get b.flights place ≡ Some None → b.taken ≡ length b.plan
