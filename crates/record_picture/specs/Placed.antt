-- Where a box and the line of a swap stand, read off their texts.
use Rattle.std.specs.Prelude.{◌≡◌, ℕ, List, ◌++◌, codes}
use Rattle.std.specs.Fmt.{decimal}

-- the part stands in the whole
pub record StandsIn (part whole : List ℕ) : Type 0 where
  pub front : List ℕ
  pub back : List ℕ
  pub spelled : whole ≡ front ++ part ++ back

-- The text is a group in the colour of this object, drawn from this point on. It begins with the
-- tag that says so, and it ends with the end of a group.
pub record IsGroupAt (object left top : ℕ) (text : List ℕ) : Type 0 where
  pub inside : List ℕ
  pub spelled : text ≡
      codes "<g class='o" ++ decimal object
      ++ codes "' transform='translate(" ++ decimal left ++ codes "," ++ decimal top ++ codes ")'>"
      ++ inside ++ codes "</g>\n"

-- The text is a group in the colour of this object, a label and behind it an upright line. The line
-- stands so far from the left, and goes from 56 down to this height.
pub record IsLineDown (object left bottom : ℕ) (text : List ℕ) : Type 0 where
  pub label : List ℕ
  pub spelled : text ≡
      codes "<g class='o" ++ decimal object ++ codes "'>"
      ++ label
      ++ codes "<path class='s' d='M" ++ decimal left ++ codes " 56V" ++ decimal bottom
      ++ codes "'/></g>\n"
