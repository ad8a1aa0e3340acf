-- A row of copies after an operation at all cells.
use Rattle.std.proofs.Common.{◌≡◌, ℕ, zero, suc, ◌+◌, ◌<◌, List, [], ◌∷◌, ◌++◌, length, map, take, drop, replicate, sym, ap, ◌∙◌, arith, refl}
use Rattle.std.proofs.Math.ListN.{set}
use Rattle.std.specs.Prelude.{slice_index_or}
use Rattle.std.proofs.lemmas.List.{length-replicate}
use Rattle.k42_shapes.specs.declared.shape.Shape.{Shape}
use Rattle.k42_shapes.specs.Shapes.{cells_of}
use Rattle.k42_shapes.proofs.ShapeLaws.{some_cells}
use Rattle.k42_kinds.specs.OneThread.{OneThread}
use Rattle.k42_copies.specs.Copies.{AreCopies, first_of}
use Rattle.k42_copies.specs.CopyLaws.{map-replicate}

first_of_some : {S : Type 0} (row : List S) (one other : S) → 0 < length row → slice_index_or row 0 one ≡ slice_index_or row 0 other
first_of_some [] one other some = absurd (omega arith)
first_of_some (state ∷ row) one other some = refl

-- as many copies of the state that follows the first one are what the operation makes of all
pub next_row : {S O R : Type 0} (object : OneThread S O R) (shape : Shape) (procs : ℕ) (row : List S) (op : O) (first next : S) (many : ℕ)
    → AreCopies object shape procs row → 0 < procs → first ≡ slice_index_or row 0 first → next ≡ object.after first op → many ≡ length row
    → replicate many next ≡ map (λ state. object.after state op) row
next_row {S} object shape procs row op first next many whole some at_first moved as_long =
    let sized = ap length whole.same ∙ length-replicate (cells_of shape procs) (first_of object row) in
    let cells = some_cells shape procs some in
    let found : first ≡ first_of object row = at_first ∙ first_of_some row first object.start (omega (arith, sized, cells)) in
    let after : next ≡ object.after (first_of object row) op = moved ∙ ap (λ (state : S). object.after state op) found in
    (λ i. replicate ((as_long ∙ sized) i) (after i))
    ∙ sym (ap (map (λ state. object.after state op)) whole.same ∙ map-replicate (λ state. object.after state op) (cells_of shape procs) (first_of object row))

-- the first so many states are changed
abbrev pub changed_as_far : {S : Type 0} → (S → S) → List S → ℕ → List S
changed_as_far change row place = map change (take place row) ++ drop place row

one_more : {S : Type 0} (change : S → S) (row : List S) (place : ℕ) (state next : S) → place < length row
    → state ≡ slice_index_or (changed_as_far change row place) place state → next ≡ change state
    → set (changed_as_far change row place) place next ≡ changed_as_far change row (suc place)
one_more change [] place state next there at moved = absurd (omega arith)
one_more {S} change (first ∷ rest) zero state next there at moved = ap (λ (s : S). s ∷ rest) (moved ∙ ap change at)
one_more {S} change (first ∷ rest) (suc place) state next there at moved = ap (λ (r : List S). change first ∷ r) (one_more change rest place state next (omega (arith, there)) at moved)

pub next_changed : {S : Type 0} (change : S → S) (row : List S) (place : ℕ) (state next : S) → place < length row
    → state ≡ slice_index_or (changed_as_far change row place) place state → next ≡ change state
    → set (changed_as_far change row place) place next ≡ changed_as_far change row (place + 1)
next_changed change row place state next there at moved =
    let further : suc place ≡ place + 1 = omega arith in
    one_more change row place state next there at moved ∙ ap (changed_as_far change row) further
