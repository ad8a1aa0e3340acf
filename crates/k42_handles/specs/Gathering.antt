-- How the passes at a desk change, from one who takes them to the next.
use Rattle.std.specs.Prelude.{◌≡◌, ◌⊎◌, ℕ, List, [], ◌∷◌, length}
use Rattle.std.specs.List.{range_with_len}
use Rattle.std.specs.List.Sorted.{IsPermutation}
use Rattle.k42_crews.specs.Ready.{callers_of}
use Rattle.co_system.specs.Systems.{SystemSeen, SystemPass}

-- the pass of one caller more is there
abbrev pub HasOneMore : List ℕ → List ℕ → Type 0
HasOneMore old new = (caller : ℕ) × IsPermutation (caller ∷ old) new

-- the last of so many came, and all were taken at once
abbrev pub AreAllTaken : ℕ → List ℕ → List SystemPass → Type 0
AreAllTaken count old new = (new ≡ []) × HasOneMore old (range_with_len 0 count)

-- No pass is lost: those of the same callers are there, or one has come, or one was taken, or all were.
abbrev pub NoneIsLost : SystemSeen → List SystemPass → List SystemPass → Type 0
NoneIsLost system old new =
    IsPermutation (callers_of old) (callers_of new)
    ⊎ (HasOneMore (callers_of old) (callers_of new)
    ⊎ (HasOneMore (callers_of new) (callers_of old) ⊎ AreAllTaken (length system.plan.callers) (callers_of old) new))
