-- The first entries of lists, as a queue from which the next one is taken at its end.
use Rattle.std.specs.Prelude.{◌≡◌, ℕ, ◌-◌, ◌≤◌, true, false, List, [], ◌∷◌, ◌++◌, length, take, drop, Some, slice_get, slice_set}
use Rattle.std.specs.List.{AllByRecursion}
use Rattle.k42_kinds.specs.declared.entry.Entry.{Entry}
use Rattle.k42_log.specs.declared.unread.Standing.{Standing}
use Rattle.k42_log.specs.Standing.{standing_of}
use Rattle.k42_stamp.specs.Orders.{Ordered, In}
use Rattle.k42_stamp.specs.Merging.{IsNext}
use Rattle.k42_journal.specs.Keys.{stands_before}

-- one stands behind the other
abbrev pub IsBehind : Standing → Standing → Type 0
IsBehind one other = stands_before other one ≡ true

-- the list of its caller begins with an entry that stands so
pub record IsFirstOf {O R : Type 0} (lists : List (List (Entry O R))) (standing : Standing) : Type 0 where
  pub entry : Entry O R
  pub others : List (Entry O R)
  pub there : slice_get lists standing.caller ≡ Some (entry ∷ others)
  pub is : standing ≡ standing_of entry

-- how the first entries of the lists stand, the last of them first
pub record IsQueueOf {O R : Type 0} (lists : List (List (Entry O R))) (queue : List Standing) : Type 0 where
  pub ordered : Ordered IsBehind queue
  pub all :
      (place : ℕ) (entry : Entry O R) (others : List (Entry O R)) → slice_get lists place ≡ Some (entry ∷ others)
      → In (standing_of entry) queue
  pub only : (standing : Standing) → In standing queue → IsFirstOf lists standing

-- all of the queue but the last
abbrev pub front_of : List Standing → List Standing
front_of queue = take (length queue - 1) queue

-- so many of the queue do not stand before it, and the others do
pub record IsPlaceIn (queue : List Standing) (standing : Standing) (place : ℕ) : Type 0 where
  pub within : place ≤ length queue
  pub behind : AllByRecursion (λ one. stands_before one standing ≡ false) (take place queue)
  pub others : AllByRecursion (IsBehind standing) (drop place queue)

-- it has come between those behind it and the others
pub record HasEntered (standing : Standing) (old new : List Standing) : Type 0 where
  pub place : ℕ
  pub is : IsPlaceIn old standing place
  pub entered : new ≡ take place old ++ standing ∷ drop place old

-- the first entry of the list has, if there is one
abbrev pub HasEnteredFirst : {O R : Type 0} → List (Entry O R) → List Standing → List Standing → Type 0
HasEnteredFirst [] old new = new ≡ old
HasEnteredFirst (entry ∷ others) old new = HasEntered (standing_of entry) old new

-- the next entry was taken from its list
pub record IsTaken {O R : Type 0} (old new : List (List (Entry O R))) (entry : Entry O R) : Type 0 where
  pub place : ℕ
  pub next : IsNext old place entry
  pub left : new ≡ slice_set old place next.others
