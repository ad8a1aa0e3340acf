-- What becomes of an object's rows and of their parts by a step.
use Rattle.std.specs.Prelude.{◌≡◌, ℕ, ◌∷◌, Option, Some, None}
use Rattle.k42_kinds.specs.declared.entry.Entry.{Entry}
use Rattle.k42_stamp.specs.Layouts.{Layouts}
use Rattle.k42_stamp.specs.Chains.{Chain, parts_of, state_of}
use Rattle.k42_stamp.specs.Parts.{part_steps}
use Rattle.turn_core.specs.declared.event.TurnEvent.TheVariants.{Draw}
use Rattle.k42_joined.specs.Event.{Event, AtCells, HandWith}

-- A draw moves the parts of the newest row as the entry says, and leaves all other rows.
pub record FollowsDraw {S L P O R : Type 0} (F : Layouts S L P O R) (entry : Entry O R) (x y : Chain L P O R) : Type 0 where
  pub past : y.past ≡ x.past
  pub layout : y.row.layout ≡ x.row.layout
  pub parts : parts_of F y.row ≡ (part_steps F x.row.layout).moves (parts_of F x.row) entry

-- A hand begins a row whose parts are imported of the state for which the newest row stands, and leaves that
-- row and all before it.
pub record FollowsHand
    {S L P O R : Type 0} (F : Layouts S L P O R) (layout : L) (entry : Entry O R) (x y : Chain L P O R)
    : Type 0 where
  pub past : y.past ≡ record { row = x.row; done = entry } ∷ x.past
  pub layout_is : y.row.layout ≡ layout
  pub parts :
      parts_of F y.row
      ≡ (F.ways_of layout).imported F.procs (F.admitted layout (state_of F x.row))

-- the object at whose cells an event draws
abbrev pub drawn_at : {L O R : Type 0} → Event L O R → Option ℕ
drawn_at (AtCells (Draw c cells entry)) = Some entry.object
drawn_at (HandWith c from onto layout entry) = Some entry.object
drawn_at event = None
