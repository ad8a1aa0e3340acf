-- How far a worker has come among its items.
use Rattle.std.specs.Prelude.{◌≡◌, ◌≢◌, ℕ, ◌<◌, ◌≤◌, ◌^◌, ◌⊎◌, true, List, length, drop, Option, Some, IfSome, slice_get, slice_index_or, if◌then◌else◌}
use Rattle.script_text.specs.Lawful.{call_lines}
use Rattle.script_text.specs.declared.script.CallLine.{CallLine}
use Rattle.script_text.specs.declared.script.Item.{Item}
use Rattle.script_text.specs.declared.script.Item.TheVariants.{Line}
use Rattle.record_text.specs.Told.{blocks_from, blocks_of, told_generation, AreInStep}
use Rattle.record_text.specs.declared.record.Extra.{Extra}
use Rattle.record_text.specs.declared.judging.course.Course.{Course}

-- the block that is open, where so many were begun
abbrev pub open_block : Course → ℕ → ℕ
open_block course begun = if course.in_block then begun else 0

-- a line at this place told this generation
abbrev pub TellsAt : List (Option ℕ) → ℕ → ℕ → Type 0
TellsAt told place generation = slice_get told place ≡ Some (Some generation)

-- one of these lines told this generation
pub record Tells (told : List (Option ℕ)) (generation : ℕ) : Type 0 where
  pub place : ℕ
  pub there : TellsAt told place generation

-- one of these lines, in this block, told this generation
pub record TellsInBlock (items : List Item) (told : List (Option ℕ)) (block generation : ℕ)
    : Type 0 where
  pub place : ℕ
  pub there : TellsAt told place generation
  pub inside : slice_index_or (blocks_of items) place 0 ≡ block

-- a line comes next
pub record StandsAtLine (items : List Item) (course : Course) : Type 0 where
  pub line : CallLine
  pub here : slice_get items course.at ≡ Some (Line line)
  pub bounded : course.at < 2 ^ 63

-- a line comes next, or nothing
abbrev pub IsAtLine : List Item → Course → Type 0
IsAtLine items course = course.at < length items → StandsAtLine items course

-- the line that comes behind those that told their generations is in step with them
abbrev pub IsInStepWith : List Item → List (Option ℕ) → ℕ → Type 0
IsInStepWith items told generation =
    (earlier former : ℕ) → TellsAt told earlier former
    → AreInStep (slice_index_or (blocks_of items) earlier 0)
    (slice_index_or (blocks_of items) (length told) 0) former generation

-- the line may tell this besides
pub record MayTell (items : List Item) (earlier : List (Option ℕ)) (proc : ℕ) (extra : Option Extra)
    : Type 0 where
  pub processor : IfSome extra (λ extra. extra.proc ≡ proc)
  pub generation : IfSome (told_generation extra) (IsInStepWith items earlier)

abbrev pub IsNoneOrInStep : List Item → List (Option ℕ) → Option ℕ → Type 0
IsNoneOrInStep items told generation = IfSome generation (IsInStepWith items told)

-- The worker has passed as many lines as have told their generation, or that they have none.
pub record IsWalked (items : List Item) (told : List (Option ℕ)) (course : Course) : Type 0 where
  pub begun : ℕ
  pub calls : call_lines (drop course.at items) ≡ drop (length told) (call_lines items)
  pub blocks : blocks_from begun (open_block course begun) (drop course.at items)
      ≡ drop (length told) (blocks_of items)
  pub opened : course.in_block ≡ true → begun ≢ 0
  pub risen : (place generation : ℕ) → TellsAt told place generation
      → generation ≤ course.last
  pub reached : (course.last ≡ 0) ⊎ Tells told course.last
  pub within : (place generation : ℕ) → TellsAt told place generation
      → slice_index_or (blocks_of items) place 0 ≤ begun
  pub level : (place generation : ℕ) → TellsAt told place generation
      → slice_index_or (blocks_of items) place 0 ≡ begun → begun ≢ 0
      → course.of_block ≡ Some generation
  pub said : (generation : ℕ) → course.of_block ≡ Some generation
      → TellsInBlock items told begun generation
