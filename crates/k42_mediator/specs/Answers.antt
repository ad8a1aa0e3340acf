-- What the word of an object answers.
use Rattle.std.specs.Prelude.{ℕ, ◌+◌, ◌==◌, if◌then◌else◌}
use Rattle.k42_limits.specs.declared.TheConstants.{LAST_INCARNATION}
use Rattle.k42_board.specs.Swapping.{blocked_word}
use Rattle.k42_board.specs.Values.{has_bit, count_in, layout_in, incarnation_in}
use Rattle.k42_board.specs.declared.view.PassView.{PassView}
use Rattle.k42_mediator.specs.declared.answers.Phase.{Phase}
use Rattle.k42_mediator.specs.declared.answers.Phase.TheVariants.{Forward, Block, Transfer, Complete}
use Rattle.k42_mediator.specs.declared.answers.Begun.{Begun}
use Rattle.k42_mediator.specs.declared.answers.Begun.TheVariants as begins
use Rattle.k42_mediator.specs.declared.answers.Knocked.{Knocked}
use Rattle.k42_mediator.specs.declared.answers.Knocked.TheVariants.{Admitted, Blocked}
use Rattle.k42_mediator.specs.declared.answers.Moving.{Moving}
use Rattle.k42_mediator.specs.declared.answers.Moving.TheVariants.{Moved, InFlight}

-- how far the swap is that is under way
abbrev pub phase_in : ℕ → Phase
phase_in word =
    if has_bit word 27 then Complete
    else if has_bit word 26 then Transfer
    else if has_bit word 25 then Block
    else Forward

-- and its number: it leads to the present incarnation once the object was turned over, and to the next one before
abbrev pub swap_in : ℕ → ℕ
swap_in word = if has_bit word 27 then incarnation_in word else incarnation_in word + 1

-- to a Begin, of an object with so many live layouts
abbrev pub begun_in : ℕ → ℕ → Begun
begun_in live word =
    if layout_in word == live then begins.Gone
    else if incarnation_in word == LAST_INCARNATION then begins.Spent
    else if has_bit word 24 then begins.Busy (swap_in word) (phase_in word)
    else begins.Begun

-- to a knock
abbrev pub knocked_in : ℕ → Knocked
knocked_in word = if has_bit word 25 then Blocked else Admitted (incarnation_in word)

-- to a pass that tries to move its object: nobody is counted, or so many are
abbrev pub moving_in : {P O R : Type 0} → PassView P O R → ℕ → Moving
moving_in v word = if word == blocked_word v then Moved else InFlight (count_in word)
