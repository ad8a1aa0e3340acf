-- How the seat of several passes is parted, and how seats are joined.
use Rattle.std.specs.Prelude.{◌≡◌, List, [], ◌∷◌, ◌++◌}
use Rattle.k42_board.specs.Steps.{Seated}
use Rattle.k42_board.specs.declared.view.PassView.{PassView}
use Rattle.k42_board.specs.declared.view.View.{View}
use Rattle.k42_board.specs.declared.view.View.TheVariants.{Crew, Spent}

-- the seat goes on with all passes but the first, which a new seat has
abbrev pub dealer : {P O R : Type 0} → View P O R → View P O R
dealer (Crew (v ∷ rest)) = Crew rest
dealer view = view

abbrev pub dealt : {P O R : Type 0} → View P O R → View P O R
dealt (Crew (v ∷ rest)) = Crew (v ∷ [])
dealt view = Spent

-- the passes of a seat
abbrev pub crew_in : {P O R : Type 0} → View P O R → List (PassView P O R)
crew_in (Crew passes) = passes
crew_in view = []

abbrev pub IsCrew : {P O R : Type 0} → Seated P O R → Type 0
IsCrew me = me ≡ (Crew (crew_in me.0), [])

-- the first seat has the passes of both
abbrev pub both_crews : {P O R : Type 0} → View P O R → View P O R → View P O R
both_crews view other = Crew (crew_in view ++ crew_in other)
