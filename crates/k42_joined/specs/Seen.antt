-- What a caller has seen: its own entries, what stood before its calls in the histories of their cells, and
-- what stood in the cells that its carried-out swaps closed or began.
use Rattle.std.specs.Prelude.{◌≡◌, ◌⊎◌, ℕ, ◌+◌, ◌<◌, ◌≤◌, true, List, [], ◌∷◌, ◌++◌, Option, Some, None, slice_get}
use Rattle.k42_kinds.specs.declared.entry.Answer.TheVariants.{Swapped}
use Rattle.k42_kinds.specs.declared.entry.Entry.{Entry}
use Rattle.k42_kinds.specs.Histories.{is_call}
use Rattle.turn_core.specs.Names.{names}
use Rattle.turn_core.specs.Sound.{histories_of}
use Rattle.turn_core.specs.declared.event.TurnEvent.TheVariants.{Draw, Alone}
use Rattle.k42_stamp.specs.Orders.{In}
use Rattle.k42_joined.specs.Plain.{Joined}
use Rattle.k42_joined.specs.Event.{Event, AtCells, HandWith}
use Rattle.k42_joined.specs.Rows.{history_in}
use Rattle.k42_joined.specs.State.{many_procs, cell, mine}

-- the entry stood in the history of a cell as the caller drew an own call at it
pub record StoodBefore {L O R : Type 0} (s : Joined L O R) (c : ℕ) (entry : Entry O R) : Type 0 where
  pub number : ℕ
  pub life : ℕ
  pub history : List (Entry O R)
  pub there : slice_get (histories_of (cell s number)) life ≡ Some history
  pub own : Entry O R
  pub drawn : In own (mine s c)
  pub call : is_call own.act ≡ true
  pub before : List (Entry O R)
  pub after : List (Entry O R)
  pub split : history ≡ before ++ own ∷ after
  pub stood : In entry before

-- or in a cell that an own swap closed, or whose next life it began
pub record WasHanded {L O R : Type 0} (s : Joined L O R) (c : ℕ) (entry : Entry O R) : Type 0 where
  pub own : Entry O R
  pub drawn : In own (mine s c)
  pub number : ℕ
  pub carried_out : own.answer ≡ Swapped number
  pub row : ℕ
  pub former : row < number
  pub last : number ≤ row + 2
  pub place : ℕ
  pub within : place < many_procs s
  pub stood : In entry (history_in s own.object row place)

abbrev pub HasSeen : {L O R : Type 0} → Joined L O R → ℕ → Entry O R → Type 0
HasSeen s c entry = In entry (mine s c) ⊎ StoodBefore s c entry ⊎ WasHanded s c entry

-- the cells at which an entry is drawn, and the entry
pub record Drawn (O R : Type 0) : Type 0 where
  pub cells : List ℕ
  pub entry : Entry O R

-- what an event draws
abbrev pub drawn_by : {L O R : Type 0} → Event L O R → Option (Drawn O R)
drawn_by (AtCells (Draw c cells entry)) = Some (record { cells = cells; entry = entry })
drawn_by (AtCells (Alone c entry)) = Some (record { cells = []; entry = entry })
drawn_by (HandWith c from onto layout entry) = Some (record { cells = from ++ onto; entry = entry })
drawn_by event = None

-- the entry stands in the history of one of the cells
pub record StandsAt {L O R : Type 0} (s : Joined L O R) (cells : List ℕ) (entry : Entry O R) : Type 0 where
  pub number : ℕ
  pub named : names cells number ≡ true
  pub stands : In entry (cell s number).history
