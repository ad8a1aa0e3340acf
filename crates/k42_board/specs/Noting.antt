-- What a pass notes as it takes the role: of the object that it swaps the incarnation, of every other object one more
-- than the newest of the rows that it holds.
use Rattle.std.specs.Prelude.{ℕ, ◌+◌, ◌==◌, if◌then◌else◌, Bool, false, List, [], ◌∷◌, Option, Some, None, length, max, unwrap_or}
use Rattle.k42_kinds.specs.Rows.{made_from}
use Rattle.phase_core.specs.Stages.{named_by}
use Rattle.phase_core.specs.declared.caller.SwapAt.{SwapAt}
use Rattle.k42_board.specs.Values.{incarnation_in}
use Rattle.k42_board.specs.Views.{word_begun}
use Rattle.k42_board.specs.declared.view.LastBegin.{LastBegin}
use Rattle.k42_board.specs.declared.view.PassView.{PassView}
use Rattle.k42_board.specs.declared.view.Row.{Row}

abbrev pub after_rows : List Row → ℕ → Option ℕ
after_rows [] o = None
after_rows (row ∷ rows) o =
    if row.object == o then Some (max (row.incarnation + 1) (unwrap_or (after_rows rows o) 0)) else after_rows rows o

abbrev pub is_of : Option ℕ → ℕ → Bool
is_of None o = false
is_of (Some q) o = q == o

-- by the swap, the last Begin and the rows of a pass
abbrev pub due_of : SwapAt → Option LastBegin → List Row → ℕ → Option ℕ
due_of swap last rows o =
    if is_of (named_by swap) o then Some (incarnation_in (word_begun last)) else after_rows rows o

abbrev pub due_note : {P O R : Type 0} → PassView P O R → ℕ → Option ℕ
due_note v o = due_of v.visitor.swap v.last v.rows o

-- for each object
abbrev pub notes_due : {P O R : Type 0} → PassView P O R → List (Option ℕ)
notes_due v = made_from (due_note v) 0 (length v.visitor.noted)

-- the numbers that are known, each with its object; the objects are counted from a first one
abbrev pub pairs_from : ℕ → List (Option ℕ) → List (ℕ × ℕ)
pairs_from first [] = []
pairs_from first (None ∷ notes) = pairs_from (first + 1) notes
pairs_from first (Some n ∷ notes) = (first, n) ∷ pairs_from (first + 1) notes
