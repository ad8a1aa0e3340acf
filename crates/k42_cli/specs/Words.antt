-- What the words of the command line ask for.
use Rattle.std.specs.Prelude.{ℕ, ◌≤◌, List, [], ◌∷◌, codes, Bool, true, false, ⊤, Option, Some, None, if◌then◌else◌}
use Rattle.std.specs.Option.{option_map}
use Rattle.std.specs.Str.{bytes_eq}
use Rattle.script_text.specs.Numbers.{number_within}
use Rattle.k42_cli.specs.declared.words.Way.{Way}
use Rattle.k42_cli.specs.declared.words.Way.TheVariants.{One, Two, Tasks}
use Rattle.k42_cli.specs.declared.words.Form.{Form}
use Rattle.k42_cli.specs.declared.words.Form.TheVariants.{Run, Check, Load}

-- the number that the record of such a run bears
abbrev pub version_of : Way → ℕ
version_of One = 1
version_of Two = 2
version_of Tasks = 1

-- `run` or `check`
abbrev pub form_of_one : List ℕ → Option Form
form_of_one word =
    if bytes_eq word (codes "run") then Some (Run One)
    else if bytes_eq word (codes "check") then Some Check else None

-- the most steps that a load has
abbrev pub most_steps : ℕ
most_steps = 10000

-- the load of as many steps as the word says
abbrev pub load_of : List ℕ → Option Form
load_of word = option_map Load (number_within 1 most_steps word)

-- the way to run that the word behind `run` says
abbrev pub form_of_run : List ℕ → Option Form
form_of_run word =
    if bytes_eq word (codes "2") then Some (Run Two)
    else if bytes_eq word (codes "tasks") then Some (Run Tasks) else None

-- `run 2`, `run tasks` or `load N`
abbrev pub form_of_two : List ℕ → List ℕ → Option Form
form_of_two first second =
    if bytes_eq first (codes "run") then form_of_run second
    else if bytes_eq first (codes "load") then load_of second else None

-- the form that the words are, if they are one
abbrev pub form_of : List (List ℕ) → Option Form
form_of (word ∷ []) = form_of_one word
form_of (first ∷ second ∷ []) = form_of_two first second
form_of _ = None

-- whether the input is read: a load and words that are no form need none
abbrev pub reads : Option Form → Bool
reads (Some (Run way)) = true
reads (Some Check) = true
reads _ = false

-- only a number of steps has limits
abbrev pub IsKnown : Form → Type 0
IsKnown (Load steps) = (1 ≤ steps) × (steps ≤ most_steps)
IsKnown _ = ⊤
