-- What marks a fault, as the check computes it: refused.
use Rattle.std.proofs.Common.{ℕ, [], arith}
use Rattle.record_picture.specs.Marked.{Area, LiesWithin, EndsLeftOf, FramesBox, VeilsBehind, box_area}

-- the frame around the box in column 0 and lane 0
abbrev frame_area : Area
frame_area = record { left = 128; top = 66; width = 150; height = 68 }

frame_of_the_next_column : LiesWithin (box_area 1 0) frame_area → ⊥
frame_of_the_next_column within = omega (arith, within.right)

frame_of_the_next_lane : LiesWithin (box_area 0 1) frame_area → ⊥
frame_of_the_next_lane within = omega (arith, within.bottom)

-- an area that begins where the box of column 0 does lies over it
veil_of_the_faulty_entry : EndsLeftOf (box_area 0 0) (record { left = 127; top = 28; width = 304; height = 144 }) → ⊥
veil_of_the_faulty_entry left = omega (arith, left)

no_frame : (column lane : ℕ) → FramesBox column lane [] → ⊥
no_frame column lane frames = cc frames.drawn.spelled

no_veil : (column columns lanes : ℕ) → VeilsBehind column columns lanes [] → ⊥
no_veil column columns lanes veils = cc veils.drawn.spelled
