-- What the seats of cells are told of the entry that a pass has drawn at them.
use Rattle.std.specs.Prelude.{◌≡◌, ◌≤◌, ℕ, ◌-◌, ◌&&◌, ◌||◌, if◌then◌else◌, nat_lt, Bool, true, not, ⊤, List, [], ◌∷◌}
use Rattle.k42_limits.specs.declared.TheConstants.{LAST_STAMP}
use Rattle.turn_core.specs.Names.{names}
use Rattle.turn_core.specs.Stamps.{last_stamp}
use Rattle.k42_board.specs.Cells.{cells_noted}
use Rattle.k42_board.specs.Drawing.{history_noted, closed_noted, untold_view}
use Rattle.k42_board.specs.declared.cell.Content.{Content}
use Rattle.k42_board.specs.declared.view.Note.{Note}
use Rattle.k42_board.specs.declared.view.View.{View}
use Rattle.k42_board.specs.declared.view.View.TheVariants.{Crew, Kept, Spent}

abbrev pub after_first : List ℕ → List ℕ
after_first [] = []
after_first (n ∷ cells) = cells

-- the seat of the pass goes on without the first of the cells whose seats do not tell it yet
abbrev pub telling : {P O R : Type 0} → View P O R → View P O R
telling (Crew (v ∷ [])) = Crew (untold_view (after_first v.untold) v ∷ [])
telling view = view

-- and a new seat tells of that cell what the pass has noted of it
abbrev pub first_told : {P O R : Type 0} → List (Note P O R) → List ℕ → View P O R
first_told notes [] = Spent
first_told notes (n ∷ cells) = Kept (record { history = history_noted notes n; closed = closed_noted notes n })

abbrev pub receipt : {P O R : Type 0} → View P O R → View P O R
receipt (Crew (v ∷ [])) = first_told v.notes v.untold
receipt view = Spent

-- what a cell tells is due to it: whether it is closed, and the stamp of its last entry
pub record IsDue {P O R : Type 0} (notes : List (Note P O R)) (n : ℕ) (is_closed : Bool) (last_drawn : ℕ) : Type 0 where
  pub noted : names (cells_noted notes) n ≡ true
  pub closed : is_closed ≡ closed_noted notes n
  pub last : last_drawn ≡ last_stamp (history_noted notes n)
  pub small : last_drawn ≤ LAST_STAMP

-- the first so many cells are closed, and keep their last entry; the entry is the last one of each further cell, which
-- begins a row, or stays as it was
abbrev pub closed_due : ℕ → Bool → Bool → Bool
closed_due closes begins was = nat_lt 0 closes || (was && not begins)

abbrev pub last_due : ℕ → ℕ → ℕ → ℕ
last_due closes was stamp = if nat_lt 0 closes then was else stamp

abbrev pub AreDue : {P O R : Type 0} → List (Note P O R) → ℕ → Bool → ℕ → List (Content P O R) → Type 0
AreDue notes closes begins stamp [] = ⊤
AreDue notes closes begins stamp (content ∷ contents) =
    IsDue notes content.number (closed_due closes begins content.closed) (last_due closes content.last stamp)
    × AreDue notes (closes - 1) begins stamp contents
