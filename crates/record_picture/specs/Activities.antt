-- Which lines of a worker go on with the activity of the line before them.
use Rattle.std.specs.Prelude.{Bool, true, false, List, [], ◌∷◌}
use Rattle.script_text.specs.declared.script.Item.{Item}
use Rattle.script_text.specs.declared.script.Item.TheVariants.{Begin, End, Line}

-- The same of each line that asks something, where these items stand in a block or not, and behind
-- a line of that block or not.
abbrev pub joins_from : Bool → Bool → List Item → List Bool
joins_from block joined [] = []
joins_from block joined (Begin ∷ items) = joins_from true false items
joins_from block joined (End ∷ items) = joins_from false false items
joins_from block joined (Line line ∷ items) = joined ∷ joins_from block block items

-- a line does so where it stands in a block behind another
abbrev pub joins : List Item → List Bool
joins items = joins_from false false items
