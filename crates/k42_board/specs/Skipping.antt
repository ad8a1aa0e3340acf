-- How a pass learns of another's clock, and skips to it: a seat of its own tells of the stamp.
use Rattle.std.specs.Prelude.{ℕ, List, [], ◌∷◌, max}
use Rattle.turn_core.specs.Events.{caller_skipped}
use Rattle.k42_board.specs.declared.view.PassView.{PassView}
use Rattle.k42_board.specs.declared.view.View.{View}
use Rattle.k42_board.specs.declared.view.View.TheVariants.{Crew, Drew, Spent}

-- the clock of the pass that alone has a seat
abbrev pub clock_told : {P O R : Type 0} → View P O R → View P O R
clock_told (Crew (v ∷ [])) = Drew v.taker.clock
clock_told view = Spent

-- the pass goes on with a clock that is at least the stamp
abbrev pub skipped_view : {P O R : Type 0} → ℕ → PassView P O R → PassView P O R
skipped_view stamp v = record v { taker = caller_skipped stamp v.taker }

-- the stamp of which a seat tells
abbrev pub stamp_in : {P O R : Type 0} → View P O R → ℕ
stamp_in (Drew stamp) = stamp
stamp_in view = 0

abbrev pub skipping : {P O R : Type 0} → View P O R → View P O R → View P O R
skipping (Crew (v ∷ [])) (Drew stamp) = Crew (skipped_view stamp v ∷ [])
skipping view other = view

-- the greatest clock of the passes
abbrev pub greatest_clock : {P O R : Type 0} → List (PassView P O R) → ℕ
greatest_clock [] = 0
greatest_clock (v ∷ passes) = max v.taker.clock (greatest_clock passes)
