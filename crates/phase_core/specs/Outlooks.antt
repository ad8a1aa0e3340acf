-- What all callers share of the objects.
use Rattle.std.specs.Prelude.{ℕ, Bool, Option, false, true, nat_lt, not}
use Rattle.gen_core.specs.Sound.{Course}
use Rattle.phase_core.specs.declared.caller.SwapAt.{SwapAt}
use Rattle.phase_core.specs.declared.caller.SwapAt.TheVariants.{Interposing, Interposed, Draining, Drained, Blocking, Moved, Opening, Reopening}

-- what all callers share of one object
pub record Outlook : Type 0 where
  -- who swaps it, and how far the swap is
  pub swapper : Option ℕ
  pub stage : SwapAt
  pub incarnation : ℕ
  pub freed : ℕ
  -- the number that the holder of the role noted
  pub noted : Option ℕ
  -- all rows below the incarnation are freed, and nobody frees one
  pub settled : Bool

-- what all objects and callers of a state share
pub record Scene : Type 0 where
  pub course : Course
  pub objects : ℕ
  pub looks : ℕ → Outlook

-- the stages of a swap

abbrev pub is_draining : SwapAt → Bool
is_draining (Draining o) = true
is_draining _ = false

-- from Drained to Moved
abbrev pub is_closed : SwapAt → Bool
is_closed (Drained o) = true
is_closed (Blocking o) = true
is_closed (Moved o) = true
is_closed _ = false

abbrev pub has_moved : SwapAt → Bool
has_moved (Moved o) = true
has_moved _ = false

-- the entry of processor p is a mediator
abbrev pub is_mediated : SwapAt → ℕ → Bool
is_mediated (Interposing o q) p = nat_lt p q
is_mediated (Interposed o) p = true
is_mediated (Draining o) p = true
is_mediated (Drained o) p = true
is_mediated (Blocking o) p = true
is_mediated (Moved o) p = true
is_mediated (Opening o q) p = not (nat_lt p q)
is_mediated (Reopening o q) p = not (nat_lt p q)
is_mediated _ p = false

-- how far the mediators are behind the incarnation
abbrev pub behind : SwapAt → ℕ
behind (Opening o q) = 1
behind _ = 0
