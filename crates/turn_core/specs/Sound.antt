-- What stays true in every state that events reach from a new one.
use Rattle.std.specs.Prelude.{ℕ, ◌≡◌, ◌<◌, ◌≤◌, true, false, List, [], ◌∷◌, ◌++◌, length, sum_by, Option, Some, slice_get, slice_index_or, is_some}
use Rattle.k42_kinds.specs.declared.entry.Entry.{Entry}
use Rattle.k42_places.specs.Places.{EachPlace}
use Rattle.turn_core.specs.Plain.{Cell, Caller, Turns}
use Rattle.turn_core.specs.State.{fresh_cell, fresh_caller}
use Rattle.turn_core.specs.Names.{names, names_once}
use Rattle.turn_core.specs.Stamps.{last_stamp}

abbrev pub held_by : {O R : Type 0} → List (Caller O R) → ℕ → List ℕ
held_by callers c = (slice_index_or callers c fresh_caller).held

abbrev pub drawn_by : {O R : Type 0} → List (Caller O R) → ℕ → List (Entry O R)
drawn_by callers c = (slice_index_or callers c fresh_caller).mine

abbrev pub holder_of : {O R : Type 0} → List (Cell O R) → ℕ → Option ℕ
holder_of cells n = (slice_index_or cells n (fresh_cell 0)).lock

-- how many entries were drawn
abbrev pub entries_drawn : {O R : Type 0} → List (Caller O R) → ℕ
entries_drawn callers = sum_by (λ x. length x.mine) callers

-- the histories of a cell by life, the present one last
abbrev pub histories_of : {O R : Type 0} → Cell O R → List (List (Entry O R))
histories_of x = x.past ++ x.history ∷ []

-- the stamps rise
abbrev pub IsRising : {O R : Type 0} → List (Entry O R) → Type 0
IsRising {O} {R} entries =
    (i j : ℕ) (earlier later : Entry O R) → i < j → slice_get entries i ≡ Some earlier
    → slice_get entries j ≡ Some later → earlier.stamp < later.stamp

-- the entry stands in the list of its caller, at its index
abbrev pub StandsIn : {O R : Type 0} → List (Caller O R) → Entry O R → Type 0
StandsIn callers entry = slice_get (drawn_by callers entry.caller) entry.index ≡ Some entry

-- the stamps of a history rise, and each of its entries stands in its caller's list
pub record IsHistory {O R : Type 0} (callers : List (Caller O R)) (history : List (Entry O R)) : Type 0 where
  pub rising : IsRising history
  pub drawn : EachPlace (λ place entry. StandsIn callers entry) history

-- The histories of all lives are such, the holder's list has the cell, and a cell that is not in its
-- place is held.
pub record IsCell {O R : Type 0} (callers : List (Caller O R)) (n : ℕ) (x : Cell O R) : Type 0 where
  pub histories : EachPlace (λ life history. IsHistory callers history) (histories_of x)
  pub holder : (c : ℕ) → x.lock ≡ Some c → c < length callers
  pub held : (c : ℕ) → x.lock ≡ Some c → names (held_by callers c) n ≡ true
  pub away : x.home ≡ false → is_some x.lock ≡ true

-- the entry is its caller's, and its index its place
pub record IsOwn {O R : Type 0} (c place : ℕ) (entry : Entry O R) : Type 0 where
  pub caller : entry.caller ≡ c
  pub index : entry.index ≡ place

-- The stamps of a caller rise, none is above its clock or the number of entries, each entry is its own, and
-- the cells that it lists are those that it holds, each once.
pub record IsCaller {O R : Type 0} (cells : List (Cell O R)) (entries : ℕ) (c : ℕ) (x : Caller O R) : Type 0 where
  pub rising : IsRising x.mine
  pub own : EachPlace (IsOwn c) x.mine
  pub bounded : EachPlace (λ place entry. entry.stamp ≤ entries) x.mine
  pub clocked : last_stamp x.mine ≤ x.clock
  pub clock : x.clock ≤ entries
  pub holds : (n : ℕ) → names x.held n ≡ true → holder_of cells n ≡ Some c
  pub there : (n : ℕ) → names x.held n ≡ true → n < length cells
  pub once : names_once x.held ≡ true

-- a state that meets every fact
pub record IsSound {O R : Type 0} (s : Turns O R) : Type 0 where
  pub cells : EachPlace (IsCell s.callers) s.cells
  pub callers : EachPlace (IsCaller s.cells (entries_drawn s.callers)) s.callers
