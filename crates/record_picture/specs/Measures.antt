-- Where things stand in a picture, in pixels from its left and its upper edge.
use Rattle.std.specs.Prelude.{ℕ, ◌+◌, ◌*◌, max}

-- the left edge of the boxes of a column, right of the names of the lanes
abbrev pub column_left : ℕ → ℕ
column_left column = 130 + 152 * column

-- the upper edge of a lane, below the verdict and the labels of the swaps
abbrev pub lane_top : ℕ → ℕ
lane_top lane = 64 + 72 * lane

-- a picture is as wide as its columns, and never too narrow for a verdict
abbrev pub width_of : ℕ → ℕ
width_of columns = column_left (max columns 6)

-- a picture is as high as its lanes
abbrev pub height_of : ℕ → ℕ
height_of lanes = lane_top lanes + 8
