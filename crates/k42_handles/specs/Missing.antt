-- Which passes of a system are not at its desk, a bit each: of pass 0 it is 1, of pass 1 it is 2, of pass 2 it is 4.
use Rattle.std.specs.Prelude.{ℕ, zero, suc, ◌+◌, ◌*◌, ◌==◌, ◌||◌, if◌then◌else◌, Bool, false, List, [], ◌∷◌, length}
use Rattle.k42_crews.specs.Ready.{callers_of}
use Rattle.co_system.specs.Systems.{SystemSeen, SystemPass}

abbrev pub is_there : List ℕ → ℕ → Bool
is_there [] number = false
is_there (there ∷ others) number = there == number || is_there others number

-- of so many numbers from the first on
abbrev pub missing_from : List ℕ → ℕ → ℕ → ℕ
missing_from there first zero = 0
missing_from there first (suc count) = missing_from there (suc first) count * 2 + (if is_there there first then 0 else 1)

abbrev pub missing_in : SystemSeen → List SystemPass → ℕ
missing_in system passes = missing_from (callers_of passes) 0 (length system.plan.callers)
