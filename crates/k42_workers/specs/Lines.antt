-- What a worker's items do to its entries and its activity.
use Rattle.std.specs.Prelude.{◌≡◌, ℕ, ◌≤◌, Bool, true, false, if◌then◌else◌, List, [], ◌∷◌, ◌++◌, length, Option, Some, None}
use Rattle.k42_places.specs.Places.{EachPlace}
use Rattle.k42_kinds.specs.declared.operation.Op.{Op}
use Rattle.k42_kinds.specs.declared.operation.Reply.{Reply}
use Rattle.k42_kinds.specs.declared.entry.Act.{Act}
use Rattle.k42_kinds.specs.declared.entry.Act.TheVariants.{Call, Swap}
use Rattle.k42_kinds.specs.declared.entry.Entry.{Entry}
use Rattle.script_text.specs.Lawful.{deed_of, IsNotGivenUp}
use Rattle.script_text.specs.declared.script.CallLine.{CallLine}
use Rattle.script_text.specs.declared.script.Item.{Item}
use Rattle.script_text.specs.declared.script.Item.TheVariants.{Begin, End, Line}

-- what a worker has between two items: its entries, and the generation of the activity that is open
pub record Standing : Type 0 where
  pub entries : List (Entry Op Reply)
  pub active : Option ℕ

-- no entry is of a later generation
abbrev pub IsLatest : ℕ → List (Entry Op Reply) → Type 0
IsLatest generation entries = EachPlace (λ place entry. (drawn : ℕ) → entry.generation ≡ Some drawn → drawn ≤ generation) entries

-- A call is made in the activity that is open; where none is, in a new one, whose generation is not below that of any entry.
abbrev pub GoesOn : Option ℕ → List (Entry Op Reply) → ℕ → Type 0
GoesOn (Some present) entries generation = generation ≡ present
GoesOn None entries generation = IsLatest generation entries

-- in a block the activity stays open
abbrev pub left_open : Bool → ℕ → Option ℕ
left_open inside generation = if inside then Some generation else None

-- when a call was made, and what it leaves open
pub record IsTimedCall (inside : Bool) (old : Standing) (drawn after : Option ℕ) : Type 0 where
  pub generation : ℕ
  pub drawn_in : drawn ≡ Some generation
  pub goes_on : GoesOn old.active old.entries generation
  pub left : after ≡ left_open inside generation

-- a swap is made in no activity
pub record IsUntimed (drawn after : Option ℕ) : Type 0 where
  pub drawn_in : drawn ≡ None
  pub left : after ≡ None

abbrev pub IsTimed : Act Op → Bool → Standing → Option ℕ → Option ℕ → Type 0
IsTimed (Call op) inside old drawn after = IsTimedCall inside old drawn after
IsTimed (Swap to) inside old drawn after = IsUntimed drawn after

-- there is one entry more, that of the line
pub record AnswersLine (line : CallLine) (proc : ℕ) (inside : Bool) (old new : Standing) : Type 0 where
  pub entry : Entry Op Reply
  pub drawn : new.entries ≡ old.entries ++ entry ∷ []
  pub deed : deed_of entry ≡ record { index = length old.entries; object = line.object; act = line.act }
  pub processor : entry.proc ≡ proc
  pub kept : IsNotGivenUp entry.answer
  pub timed : IsTimed line.act inside old entry.generation new.active

-- An item opens a block, ends it with its activity, or is a line that is answered.
abbrev pub Follows : Item → ℕ → Bool → Bool → Standing → Standing → Type 0
Follows Begin proc inside after old new = (after ≡ true) × (new ≡ old)
Follows End proc inside after old new = (after ≡ false) × (new ≡ record old { active = None })
Follows (Line line) proc inside after old new = (after ≡ inside) × AnswersLine line proc inside old new

-- the activity that was open, or a new one
pub record IsOpened (old new : Standing) : Type 0 where
  pub generation : ℕ
  pub active : new.active ≡ Some generation
  pub goes_on : GoesOn old.active old.entries generation
  pub entries : new.entries ≡ old.entries

-- there is one entry more, which was made in this generation, or in none
pub record IsMade (object : ℕ) (act : Act Op) (proc : ℕ) (generation : Option ℕ) (old new : Standing) : Type 0 where
  pub entry : Entry Op Reply
  pub drawn : new.entries ≡ old.entries ++ entry ∷ []
  pub deed : deed_of entry ≡ record { index = length old.entries; object = object; act = act }
  pub processor : entry.proc ≡ proc
  pub kept : IsNotGivenUp entry.answer
  pub drawn_in : entry.generation ≡ generation
