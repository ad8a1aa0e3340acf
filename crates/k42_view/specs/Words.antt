-- Which entries the words of the command line ask for.
use Rattle.std.specs.Prelude.{ℕ, ◌-◌, List, [], ◌∷◌, Option, Some, None}
use Rattle.std.specs.Option.{option_map, option_and_then}
use Rattle.record_picture.specs.declared.window.TheConstants.{COLUMNS}
use Rattle.record_picture.specs.declared.window.Window.{Window}
use Rattle.script_text.specs.Numbers.{number_within}

-- the largest number that the first entry may have which is shown
abbrev pub most_from : ℕ
most_from = 4294967295

-- so many entries from one on, numbered from 1
abbrev pub window_at : ℕ → ℕ → Window
window_at from count = record { before = from - 1; count = count }

-- the number of the first entry that is shown, and how many are shown
abbrev pub window_from : List ℕ → List ℕ → Option Window
window_from from count =
    option_and_then (λ first. option_map (window_at first) (number_within 1 COLUMNS count))
    (number_within 1 most_from from)

-- without words the first entries, as many as a picture may show
abbrev pub window_of : List (List ℕ) → Option Window
window_of [] = Some (window_at 1 COLUMNS)
window_of (from ∷ count ∷ []) = window_from from count
window_of _ = None
