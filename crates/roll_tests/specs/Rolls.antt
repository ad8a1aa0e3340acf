-- What a roll of the tests needs.
use Rattle.std.specs.Prelude.{ℕ, ◌<◌, ⊤, List, [], ◌∷◌}
use Rattle.co_any.specs.Layouts.{LeadsAny}
use Rattle.k42_kinds.specs.declared.entry.To.{To}
use Rattle.k42_watch.specs.WatchedRows.{LeadsWatched}

-- each item is of one of so many objects, and leads where a swap of any object may
abbrev pub AreWithin : ℕ → List (ℕ × To) → Type 0
AreWithin objects [] = ⊤
AreWithin objects (asked ∷ plan) = (asked.0 < objects) × LeadsWatched LeadsAny asked.1 × AreWithin objects plan
