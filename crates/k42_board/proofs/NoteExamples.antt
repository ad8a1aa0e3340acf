-- Computed notes of a pass that takes the role, and the word of a flip.
use Rattle.std.proofs.Common.{◌≡◌, ℕ, ◌+◌, ◌*◌, ◌^◌, List, [], ◌∷◌, None, Some, refl}
use Rattle.gen_core.specs.Plain.{Caller}
use Rattle.gen_core.specs.State.{fresh_caller}
use Rattle.gen_core.specs.declared.state.GraceAt.TheVariants.{Flipping, Looking}
use Rattle.phase_core.specs.declared.caller.SwapAt.TheVariants.{Idle, Interposed}
use Rattle.k42_board.specs.Gracing.{flip_word, turn_flipped}
use Rattle.k42_board.specs.Noting.{after_rows, due_of, pairs_from}
use Rattle.k42_board.specs.Views.{new_pass}
use Rattle.k42_board.specs.declared.view.LastBegin.{LastBegin}
use Rattle.k42_board.specs.declared.view.PassView.{PassView}
use Rattle.k42_board.specs.declared.view.Row.{Row}
use Rattle.k42_kinds.specs.declared.operation.Op.{Op}
use Rattle.k42_kinds.specs.declared.operation.Reply.{Reply}

-- two rows of the object 3, the newer one first, and one of the object 5
abbrev rows : List Row
rows = record { object = 3; incarnation = 6 } ∷ record { object = 5; incarnation = 0 } ∷ record { object = 3; incarnation = 4 } ∷ []

-- one more than the newest, wherever that stands
newest : after_rows rows 3 ≡ Some 7
newest = refl

first_row : after_rows rows 5 ≡ Some 1
first_row = refl

none_held : after_rows rows 4 ≡ None
none_held = refl

-- its last Begin found the object 5 live at the incarnation 2, with the shared layout
abbrev begun : LastBegin
begun = record { object = 5; word = 8589934592 }

-- of the object that it swaps the incarnation found, above the rows held of it; of another the rows count
swapped : due_of (Interposed 5) (Some begun) rows 5 ≡ Some 2
swapped = refl

another : due_of (Interposed 5) (Some begun) rows 3 ≡ Some 7
another = refl

-- a Begin that no swap followed counts for nothing
no_swap : due_of Idle (Some begun) rows 5 ≡ Some 1
no_swap = refl

-- the known notes, each with its object
pairs : pairs_from 0 (None ∷ Some 7 ∷ None ∷ Some 2 ∷ []) ≡ (1, 7) ∷ (3, 2) ∷ []
pairs = refl

-- a grace of three processors that has found the generation 9, and the exits to come on its second one

abbrev flipping : Caller
flipping = record (fresh_caller 3 0) { grace = Flipping 1; waits = 4 ∷ 0 ∷ 0 ∷ []; coming = Some 6 }

abbrev asked : PassView ℕ Op Reply
asked = record (new_pass 3 ([] ∷ []) 0 0) { turn = flipping; base = Some 9 }

-- generation 10, with the exits to come as its entries
word : flip_word asked ≡ 10 + 2 ^ 32 * 6
word = refl

-- it waits for the entries that it found there, and goes on with the third processor
flipped : turn_flipped flipping 5 ≡ record flipping { waits = 4 ∷ 5 ∷ 0 ∷ []; coming = None; grace = Flipping 2 }
flipped = refl

-- after the last one it looks at the first
looks : turn_flipped (record flipping { grace = Flipping 2 }) 5 ≡ record flipping { waits = 4 ∷ 0 ∷ 5 ∷ []; coming = None; grace = Looking 0 }
looks = refl
