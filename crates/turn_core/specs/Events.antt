-- For each event where it is possible and what its effect is.
use Rattle.std.specs.Prelude.{ℕ, ◌+◌, ◌-◌, ◌^◌, Bool, true, false, not, ◌&&◌, ◌==◌, nat_lt, nat_le, max, if◌then◌else◌}
use Rattle.std.specs.Prelude.{List, [], ◌∷◌, ◌++◌, length, Option, Some, None}
use Rattle.std.specs.List.{list_all, list_any, filter}
use Rattle.k42_kinds.specs.declared.entry.Entry.{Entry}
use Rattle.turn_core.specs.declared.event.TurnEvent.{TurnEvent}
use Rattle.turn_core.specs.declared.event.TurnEvent.TheVariants.{Lock, Take, Draw, Alone, Hand, Put, Unlock, Skip}
use Rattle.turn_core.specs.Plain.{Cell, Caller, Turns}
use Rattle.turn_core.specs.State.{cell_at, caller_at, change_cell, change_caller, change_cells}
use Rattle.turn_core.specs.Names.{names_once}
use Rattle.turn_core.specs.Stamps.{next_stamp}

abbrev pub is_caller : Option ℕ → ℕ → Bool
is_caller None c = false
is_caller (Some holder) c = holder == c

-- the caller holds the cell
abbrev pub holds : {O R : Type 0} → Turns O R → ℕ → ℕ → Bool
holds s c n = is_caller (cell_at s n).lock c

-- it holds the cell, which is in its place
abbrev pub holds_home : {O R : Type 0} → Turns O R → ℕ → ℕ → Bool
holds_home s c n = holds s c n && (cell_at s n).home

-- it holds the cell, which it took from its place
abbrev pub has_taken : {O R : Type 0} → Turns O R → ℕ → ℕ → Bool
has_taken s c n = holds s c n && not (cell_at s n).home

-- and which is open
abbrev pub has_open : {O R : Type 0} → Turns O R → ℕ → ℕ → Bool
has_open s c n = has_taken s c n && not (cell_at s n).closed

abbrev pub is_empty : {O R : Type 0} → List (Entry O R) → Bool
is_empty [] = true
is_empty (entry ∷ entries) = false

-- a cell is closed and has another life left, or was not drawn at in this one
abbrev pub may_begin : {O R : Type 0} → Cell O R → Bool
may_begin x = if x.closed then nat_lt x.life (2 ^ 32 - 2) else is_empty x.history

-- it has taken the cell, where a life may begin
abbrev pub has_beginning : {O R : Type 0} → Turns O R → ℕ → ℕ → Bool
has_beginning s c n = has_taken s c n && may_begin (cell_at s n)

-- the entry is the caller's next, with the stamp that a draw at these cells bears
abbrev pub is_next : {O R : Type 0} → Turns O R → ℕ → List ℕ → Entry O R → Bool
is_next s c cells entry =
    (entry.caller == c) && (entry.index == length (caller_at s c).mine) && (entry.stamp == next_stamp s c cells)

abbrev pub names_some : List ℕ → Bool
names_some [] = false
names_some (n ∷ cells) = true

abbrev pub can_draw : {O R : Type 0} → Turns O R → ℕ → List ℕ → Entry O R → Bool
can_draw s c cells entry =
    names_some cells && names_once cells && list_all (has_open s c) cells && is_next s c cells entry

abbrev pub can_hand : {O R : Type 0} → Turns O R → ℕ → List ℕ → List ℕ → Entry O R → Bool
can_hand s c from onto entry =
    names_once (from ++ onto) && list_all (has_open s c) from && list_all (has_beginning s c) onto
    && is_next s c (from ++ onto) entry

-- some caller's clock is at least the stamp
abbrev pub is_known : {O R : Type 0} → Turns O R → ℕ → Bool
is_known s stamp = list_any (λ x. nat_le stamp x.clock) s.callers

-- whether an event is possible
abbrev pub is_possible : {O R : Type 0} → Turns O R → TurnEvent O R → Bool
is_possible s (Lock c n) = not (holds s c n)
is_possible s (Take c n) = holds_home s c n
is_possible s (Draw c cells entry) = can_draw s c cells entry
is_possible s (Alone c entry) = is_next s c [] entry
is_possible s (Hand c from onto entry) = can_hand s c from onto entry
is_possible s (Put c n) = has_taken s c n
is_possible s (Unlock c n) = holds_home s c n
is_possible s (Skip c stamp) = is_known s stamp

-- one cell and one caller after an event

abbrev pub cell_locked : {O R : Type 0} → ℕ → Cell O R → Cell O R
cell_locked c x = record x { lock = Some c }

abbrev pub cell_unlocked : {O R : Type 0} → Cell O R → Cell O R
cell_unlocked x = record x { lock = None }

abbrev pub cell_taken : {O R : Type 0} → Cell O R → Cell O R
cell_taken x = record x { home = false }

abbrev pub cell_put : {O R : Type 0} → Cell O R → Cell O R
cell_put x = record x { home = true }

abbrev pub cell_told : {O R : Type 0} → Entry O R → Cell O R → Cell O R
cell_told entry x = record x { history = x.history ++ entry ∷ [] }

abbrev pub cell_closed : {O R : Type 0} → Cell O R → Cell O R
cell_closed x = record x { closed = true }

-- a closed cell begins its next life
abbrev pub cell_opened : {O R : Type 0} → Cell O R → Cell O R
cell_opened x = record x { closed = false; life = x.life + 2; history = []; past = x.past ++ x.history ∷ [] }

-- a cell whose new life begins with this entry
abbrev pub cell_begun : {O R : Type 0} → Entry O R → Cell O R → Cell O R
cell_begun entry x = if x.closed then cell_told entry (cell_opened x) else cell_told entry x

abbrev pub caller_locked : {O R : Type 0} → ℕ → Caller O R → Caller O R
caller_locked n x = record x { held = x.held ++ n ∷ [] }

abbrev pub caller_unlocked : {O R : Type 0} → ℕ → Caller O R → Caller O R
caller_unlocked n x = record x { held = filter (λ m. not (m == n)) x.held }

abbrev pub caller_drawn : {O R : Type 0} → Entry O R → Caller O R → Caller O R
caller_drawn entry x = record x { mine = x.mine ++ entry ∷ []; clock = entry.stamp }

-- its clock is at least the stamp
abbrev pub caller_skipped : {O R : Type 0} → ℕ → Caller O R → Caller O R
caller_skipped stamp x = record x { clock = max x.clock stamp }

-- the state after an event of the caller

-- a cell that is found free is locked
abbrev pub locked : {O R : Type 0} → Turns O R → ℕ → ℕ → Option ℕ → Turns O R
locked s c n None = change_caller (caller_locked n) (change_cell (cell_locked c) s n) c
locked s c n (Some holder) = s

abbrev pub drawn : {O R : Type 0} → Turns O R → ℕ → List ℕ → Entry O R → Turns O R
drawn s c cells entry = change_cells (cell_told entry) (change_caller (caller_drawn entry) s c) cells

-- the first cells are closed, and a life of the second begins with the entry
abbrev pub handed : {O R : Type 0} → Turns O R → ℕ → List ℕ → List ℕ → Entry O R → Turns O R
handed s c from onto entry =
    change_cells cell_closed (change_cells (cell_begun entry) (change_caller (caller_drawn entry) s c) onto) from

-- the effect of a possible event
abbrev pub effect : {O R : Type 0} → Turns O R → TurnEvent O R → Turns O R
effect s (Lock c n) = locked s c n (cell_at s n).lock
effect s (Take c n) = change_cell cell_taken s n
effect s (Draw c cells entry) = drawn s c cells entry
effect s (Alone c entry) = change_caller (caller_drawn entry) s c
effect s (Hand c from onto entry) = handed s c from onto entry
effect s (Put c n) = change_cell cell_put s n
effect s (Unlock c n) = change_caller (caller_unlocked n) (change_cell cell_unlocked s n) c
effect s (Skip c stamp) = change_caller (caller_skipped stamp) s c

-- the caller of an event, the cells that it names, and what it draws
abbrev pub caller_of : {O R : Type 0} → TurnEvent O R → ℕ
caller_of (Lock c n) = c
caller_of (Take c n) = c
caller_of (Draw c cells entry) = c
caller_of (Alone c entry) = c
caller_of (Hand c from onto entry) = c
caller_of (Put c n) = c
caller_of (Unlock c n) = c
caller_of (Skip c stamp) = c

abbrev pub cells_of : {O R : Type 0} → TurnEvent O R → List ℕ
cells_of (Lock c n) = n ∷ []
cells_of (Take c n) = n ∷ []
cells_of (Draw c cells entry) = cells
cells_of (Alone c entry) = []
cells_of (Hand c from onto entry) = from ++ onto
cells_of (Put c n) = n ∷ []
cells_of (Unlock c n) = n ∷ []
cells_of (Skip c stamp) = []

abbrev pub drawn_in : {O R : Type 0} → TurnEvent O R → Option (Entry O R)
drawn_in (Draw c cells entry) = Some entry
drawn_in (Alone c entry) = Some entry
drawn_in (Hand c from onto entry) = Some entry
drawn_in event = None
