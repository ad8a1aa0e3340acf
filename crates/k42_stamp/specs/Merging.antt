-- Lists that are merged: what is left of them, and which entry comes next.
use Rattle.std.specs.Prelude.{◌≡◌, ◌≢◌, ℕ, ◌++◌, ◌≤◌, List, [], ◌∷◌, length, Some, slice_get, slice_set}
use Rattle.std.specs.List.{AllByRecursion, sum_by}
use Rattle.k42_kinds.specs.declared.entry.Entry.{Entry}
use Rattle.k42_stamp.specs.Orders.{IsBefore}

-- how many entries the lists have
abbrev pub entries_in : {O R : Type 0} → List (List (Entry O R)) → ℕ
entries_in lists = sum_by length lists

-- how many lists with how many entries there is room for
pub record RoomSeen : Type 0 where
  pub lists : ℕ
  pub entries : ℕ

-- there is room for these lists
pub record HasRoom {O R : Type 0} (room : RoomSeen) (all : List (List (Entry O R))) : Type 0 where
  pub many : length all ≤ room.lists
  pub long : entries_in all ≤ room.entries

abbrev pub AreEmpty : {O R : Type 0} → List (List (Entry O R)) → Type 0
AreEmpty lists = AllByRecursion (λ list. list ≡ []) lists

-- the entry is the first of the list at that place, and the first one of no list stands before it
pub record IsNext {O R : Type 0} (rests : List (List (Entry O R))) (place : ℕ) (entry : Entry O R) : Type 0 where
  pub others : List (Entry O R)
  pub there : slice_get rests place ≡ Some (entry ∷ others)
  pub first : (p : ℕ) (one : Entry O R) (more : List (Entry O R)) → slice_get rests p ≡ Some (one ∷ more) → IsBefore one entry → ⊥

-- the next entry has moved behind those that are merged
pub record HasMoved {O R : Type 0} (old new : List (List (Entry O R))) (merged after : List (Entry O R)) : Type 0 where
  pub place : ℕ
  pub entry : Entry O R
  pub next : IsNext old place entry
  pub left : new ≡ slice_set old place next.others
  pub moved : after ≡ merged ++ entry ∷ []

-- the list at that place has all entries there are
pub record IsAlone {O R : Type 0} (lists : List (List (Entry O R))) (place : ℕ) : Type 0 where
  pub list : List (Entry O R)
  pub there : slice_get lists place ≡ Some list
  pub others : (p : ℕ) (other : List (Entry O R)) → slice_get lists p ≡ Some other → p ≢ place → other ≡ []
