-- The input of a program that reads a record: a script, a line `---`, and the record.
use Rattle.std.specs.Prelude.{◌≡◌, ℕ, Bool, true, false, ◌||◌, ◌⊎◌, List, [], ◌∷◌, ◌++◌, codes, All, if◌then◌else◌}
use Rattle.std.specs.List.{concat}
use Rattle.std.specs.Str.{bytes_eq}
use Rattle.script_text.specs.Lines.{lines_of}

-- The line is exactly `---`. Where the text ends with it, it may lack its line feed.
abbrev pub is_separator : List ℕ → Bool
is_separator line = bytes_eq line (codes "---\n") || bytes_eq line (codes "---")

-- the lines before the first `---`
abbrev pub lines_before : List (List ℕ) → List (List ℕ)
lines_before [] = []
lines_before (line ∷ lines) = if is_separator line then [] else line ∷ lines_before lines

-- the lines after the first `---`
abbrev pub lines_after : List (List ℕ) → List (List ℕ)
lines_after [] = []
lines_after (line ∷ lines) = if is_separator line then lines else lines_after lines

-- what stands before the first line `---`, or all where there is none
abbrev pub script_part : List ℕ → List ℕ
script_part input = concat (lines_before (lines_of input))

-- what stands after the first line `---`, or nothing where there is none
abbrev pub record_part : List ℕ → List ℕ
record_part input = concat (lines_after (lines_of input))

-- The input is cut at one of its lines: it is the script, this line and the text behind it.
pub record IsCutAt (input script : List ℕ) (separator text : List ℕ) : Type 0 where
  pub separates : is_separator separator ≡ true
  pub line : lines_of input ≡ lines_of script ++ separator ∷ lines_of text
  pub whole : input ≡ script ++ separator ++ text

-- all of the input is the script
pub record IsUncut (input script text : List ℕ) : Type 0 where
  pub all : script ≡ input
  pub none : text ≡ []

-- The input is cut at its first line that separates: no line of the script does.
pub record IsSeparated (input script text : List ℕ) : Type 0 where
  pub first : All (λ line. is_separator line ≡ false) (lines_of script)
  pub cut : ((separator : List ℕ) × IsCutAt input script separator text) ⊎ IsUncut input script text
