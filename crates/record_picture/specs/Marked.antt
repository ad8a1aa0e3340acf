-- Where what marks a fault stands, read off its text, and what a broken rule means.
use Rattle.std.specs.Prelude.{◌≡◌, ℕ, ◌+◌, ◌<◌, ◌≤◌, List, ◌++◌, codes}
use Rattle.std.specs.Fmt.{decimal}
use Rattle.k42_kinds.specs.declared.operation.Reply.{Reply}
use Rattle.k42_kinds.specs.declared.entry.Answer.{Answer}
use Rattle.k42_kinds.specs.declared.entry.Answer.TheVariants.{Busy}
use Rattle.record_picture.specs.Measures.{column_left, lane_top}

-- a part of the picture, by its left and its upper edge, its width and its height
pub record Area : Type 0 where
  pub left : ℕ
  pub top : ℕ
  pub width : ℕ
  pub height : ℕ

-- the box of an entry
abbrev pub box_area : ℕ → ℕ → Area
box_area column lane =
    record { left = column_left column; top = lane_top lane + 7; width = 146; height = 46 }

-- the one ends before the other begins, from the left
abbrev pub EndsLeftOf : Area → Area → Type 0
EndsLeftOf one other = one.left + one.width < other.left

-- and from above
abbrev pub EndsAbove : Area → Area → Type 0
EndsAbove one other = one.top + one.height < other.top

-- the one lies within the other, and touches no edge of it
pub record LiesWithin (one other : Area) : Type 0 where
  pub left : other.left < one.left
  pub right : one.left + one.width < other.left + other.width
  pub top : other.top < one.top
  pub bottom : one.top + one.height < other.top + other.height

-- the text draws the frame of a fault about this area
pub record IsFaultFrame (area : Area) (text : List ℕ) : Type 0 where
  pub spelled : text ≡
      codes "<rect class='x' width='" ++ decimal area.width
      ++ codes "' height='" ++ decimal area.height
      ++ codes "' rx='4' x='" ++ decimal area.left
      ++ codes "' y='" ++ decimal area.top ++ codes "'/>"

-- the text draws a veil over this area
pub record IsVeil (area : Area) (text : List ℕ) : Type 0 where
  pub spelled : text ≡
      codes "<rect class='y' y='" ++ decimal area.top
      ++ codes "' x='" ++ decimal area.left
      ++ codes "' width='" ++ decimal area.width
      ++ codes "' height='" ++ decimal area.height ++ codes "'/>\n"

-- The text draws a frame around the box in this column and this lane, and meets no other box.
pub record FramesBox (column lane : ℕ) (text : List ℕ) : Type 0 where
  pub area : Area
  pub drawn : IsFaultFrame area text
  pub around : LiesWithin (box_area column lane) area
  pub former : (other any : ℕ) → other < column → EndsLeftOf (box_area other any) area
  pub later : (other any : ℕ) → column < other → EndsLeftOf area (box_area other any)
  pub upper : (other any : ℕ) → other < lane → EndsAbove (box_area any other) area
  pub lower : (other any : ℕ) → lane < other → EndsAbove area (box_area any other)

-- The text draws a veil over each box behind this column, and over no other.
pub record VeilsBehind (column columns lanes : ℕ) (text : List ℕ) : Type 0 where
  pub area : Area
  pub drawn : IsVeil area text
  pub bare : (other any : ℕ) → other ≤ column → EndsLeftOf (box_area other any) area
  pub covered : (other any : ℕ) → column < other → other < columns → any < lanes
      → LiesWithin (box_area other any) area

-- what is wrong with the answer of a swap, where it breaks a rule
abbrev pub answer_meaning : Answer Reply → List ℕ
answer_meaning (Busy number) = codes "no such swap of another worker was under way"
answer_meaning _ = codes "the swap would not have been answered so"

-- the text that tells which line breaks which rule, and what that means
abbrev pub fault_words : ℕ → ℕ → List ℕ → List ℕ
fault_words line rule means =
    codes "'>line " ++ decimal line ++ codes ": rule " ++ decimal rule
    ++ codes ", " ++ means ++ codes "</text>"
