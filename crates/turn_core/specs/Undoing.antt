-- What gives back a step for which there was no memory in the end.
use Rattle.std.specs.Prelude.{ℕ, ◌-◌, Bool, true, if◌then◌else◌, List, [], take, length, slice_index_or}
use Rattle.k42_kinds.specs.declared.entry.Entry.{Entry}
use Rattle.turn_core.specs.Plain.{Cell, Caller}

-- without the last entry of its history
abbrev pub cell_untold : {O R : Type 0} → Cell O R → Cell O R
cell_untold x = record x { history = take (length x.history - 1) x.history }

-- the last of the lists, none where there is none
abbrev pub last_list : {O R : Type 0} → List (List (Entry O R)) → List (Entry O R)
last_list lists = slice_index_or lists (length lists - 1) []

-- closed in its former life again
abbrev pub cell_reclosed : {O R : Type 0} → Cell O R → Cell O R
cell_reclosed x = record x {
  closed = true;
  life = x.life - 2;
  history = last_list x.past;
  past = take (length x.past - 1) x.past;
}

-- without the entry with which its new life began
abbrev pub cell_unbegun : {O R : Type 0} → Bool → Cell O R → Cell O R
cell_unbegun was_closed x = if was_closed then cell_reclosed x else cell_untold x

-- without the last of its entries, and with the clock that it had before
abbrev pub caller_undrawn : {O R : Type 0} → ℕ → Caller O R → Caller O R
caller_undrawn clock x = record x { mine = take (length x.mine - 1) x.mine; clock = clock }
