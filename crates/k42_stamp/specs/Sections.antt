-- Callers' lists that are merged in two sections.
use Rattle.std.specs.Prelude.{◌≡◌, ℕ, ◌<◌, ◌≤◌, List, ◌++◌, length, Some, slice_get}
use Rattle.k42_kinds.specs.declared.entry.Entry.{Entry}
use Rattle.k42_stamp.specs.Lists.{InSome}

-- The lists are cut at a stamp: each is a front, with no later stamp, and behind it a rest, which has
-- later stamps alone.
pub record AreCutAt {O R : Type 0} (last : ℕ) (lists fronts rests : List (List (Entry O R))) : Type 0 where
  pub many_fronts : length fronts ≡ length lists
  pub many_rests : length rests ≡ length lists
  pub joined :
      (place : ℕ) (list front rest : List (Entry O R)) → slice_get lists place ≡ Some list
      → slice_get fronts place ≡ Some front → slice_get rests place ≡ Some rest
      → list ≡ front ++ rest
  pub early : (entry : Entry O R) → InSome fronts entry → entry.stamp ≤ last
  pub late : (entry : Entry O R) → InSome rests entry → last < entry.stamp
