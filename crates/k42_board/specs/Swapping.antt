-- The steps of a swap, for one pass: where each may be taken, and what the pass knows after it.
use Rattle.std.specs.Prelude.{◌≡◌, ◌⊎◌, ℕ, ◌+◌, ◌-◌, ◌*◌, ◌<◌, ◌≤◌, ◌^◌, ◌==◌, if◌then◌else◌, Bool, true, false, List, [], ◌∷◌, ◌++◌, Option, Some, None, is_some, not, bit_and, length, slice_index_or, unwrap_or}
use Rattle.k42_shapes.specs.declared.shape.Shape.{Shape}
use Rattle.k42_shapes.specs.Shapes.{IsKnownTag, IsLiveTag}
use Rattle.gen_core.specs.Events as graces
use Rattle.phase_core.specs.Effects.{at_stage, after_interpose, after_open, after_reopen}
use Rattle.phase_core.specs.Event.{Event, Interpose, Open, Unblock, Clear}
use Rattle.phase_core.specs.Stages.{named_by, object_named, is_interposing, is_drained, is_blocking, is_moved}
use Rattle.phase_core.specs.State.{empty_entry, mediator_entry}
use Rattle.phase_core.specs.declared.caller.SwapAt.{SwapAt}
use Rattle.phase_core.specs.declared.caller.SwapAt.TheVariants.{Idle, Refused, Begun, Interposing, Blocking, Moved, Opening, Reopening, Opened}
use Rattle.k42_limits.specs.declared.TheConstants.{CALLERS, LAST_INCARNATION}
use Rattle.k42_joined.specs.Swapping.{holds_none}
use Rattle.k42_board.specs.Values.{local_value, has_bit, count_in, layout_in, incarnation_in}
use Rattle.k42_board.specs.Views.{object_begun, word_begun, shapes_at}
use Rattle.k42_board.specs.declared.view.LastBegin.{LastBegin}
use Rattle.k42_board.specs.declared.view.PassView.{PassView}
use Rattle.k42_board.specs.declared.view.Row.{Row}

-- the object that the pass swaps
abbrev pub object_swapped : {P O R : Type 0} → PassView P O R → ℕ
object_swapped v = object_named v.visitor.swap

abbrev pub at_swap : {P O R : Type 0} → PassView P O R → SwapAt → PassView P O R
at_swap v swap = record v { visitor = at_stage v.visitor swap }

-- the present incarnation of the object that the pass swaps
abbrev pub incarnation_swapped : {P O R : Type 0} → PassView P O R → ℕ
incarnation_swapped v = incarnation_in (word_begun v.last) + (if v.turned then 1 else 0)

-- the processor whose entry is changed next, and the stage after that, of so many processors

abbrev pub next_entry : SwapAt → Option ℕ
next_entry (Begun o) = Some 0
next_entry (Interposing o p) = Some p
next_entry (Opening o p) = Some p
next_entry (Reopening o p) = Some p
next_entry swap = None

abbrev pub after_entry : ℕ → SwapAt → SwapAt
after_entry procs (Begun o) = after_interpose o 0 procs
after_entry procs (Interposing o p) = after_interpose o p procs
after_entry procs (Opening o p) = after_open o p procs
after_entry procs (Reopening o p) = after_reopen o p procs
after_entry procs swap = swap

abbrev pub MayChangeEntry : {P O R : Type 0} → ℕ → PassView P O R → Type 0
MayChangeEntry p v = next_entry v.visitor.swap ≡ Some p

-- a mediator while it interposes, and empty while it opens
abbrev pub entry_after : {P O R : Type 0} → PassView P O R → ℕ
entry_after v =
    local_value
    (if is_interposing v.visitor.swap
    then mediator_entry (incarnation_swapped v)
    else empty_entry (incarnation_swapped v))

abbrev pub entry_event : ℕ → SwapAt → Event
entry_event c swap = if is_interposing swap then Interpose c else Open c

abbrev pub changed_view : {P O R : Type 0} → PassView P O R → PassView P O R
changed_view v = at_swap v (after_entry (length v.turn.waits) v.visitor.swap)

-- its swap is drained, and its grace over
pub record MayBlock {P O R : Type 0} (v : PassView P O R) : Type 0 where
  pub drained : is_drained v.visitor.swap ≡ true
  pub idle : graces.is_idle v.turn.grace ≡ true

abbrev pub blocked_view : {P O R : Type 0} → PassView P O R → PassView P O R
blocked_view v = at_swap v (Blocking (object_swapped v))

abbrev pub MayMove : {P O R : Type 0} → PassView P O R → Type 0
MayMove v = is_blocking v.visitor.swap ≡ true

-- the word of its object while it blocks and nobody is counted
abbrev pub blocked_word : {P O R : Type 0} → PassView P O R → ℕ
blocked_word v =
    2 ^ 24 * 3 + 2 ^ 28 * layout_in (word_begun v.last) + 2 ^ 32 * incarnation_in (word_begun v.last)

abbrev pub moves : {P O R : Type 0} → PassView P O R → ℕ → ℕ
moves v word = if word == blocked_word v then blocked_word v + 2 ^ 26 else word

abbrev pub moved_view : {P O R : Type 0} → ℕ → PassView P O R → PassView P O R
moved_view found v = if found == blocked_word v then at_swap v (Moved (object_swapped v)) else v

-- the word has the callers that are counted
pub record CountFound {P O R : Type 0} (v : PassView P O R) (found : ℕ) : Type 0 where
  pub counted : found ≡ blocked_word v + count_in found
  pub few : count_in found ≤ CALLERS

-- it has handed the row on with a layout of this tag, and holds no cell
pub record MayTurnOver {P O R : Type 0} (tag : ℕ) (v : PassView P O R) : Type 0 where
  pub moved : is_moved v.visitor.swap ≡ true
  pub handed : v.handed ≡ Some tag
  pub known : IsKnownTag (shapes_at v (object_swapped v)) tag
  pub free : holds_none v.taker.held ≡ true

-- what is added to the word: one incarnation, COMPLETE for BLOCK and MOVE, and the new layout for the old
abbrev pub turn_amount : {P O R : Type 0} → ℕ → PassView P O R → ℕ
turn_amount tag v = 2 ^ 32 + 2 ^ 28 * tag + 2 ^ 25 - 2 ^ 28 * layout_in (word_begun v.last)

abbrev pub turned_view : {P O R : Type 0} → PassView P O R → PassView P O R
turned_view v = record (at_swap v (Opening (object_swapped v) 0)) { turned = true; handed = None }

-- Its begin was refused, or it gives up what it moves and has not handed on, or it has opened all entries, and
-- has drawn its Abandoned where it had given up.
abbrev pub MayClearAt : {P O R : Type 0} → SwapAt → PassView P O R → Type 0
MayClearAt (Refused o) v = Unit {0}
MayClearAt (Moved o) v = (v.handed ≡ None) × (holds_none v.taker.held ≡ true)
MayClearAt (Opened o) v = (v.turned ≡ true) ⊎ (v.abandoned ≡ true)
MayClearAt swap v = ⊥

abbrev pub MayClear : {P O R : Type 0} → PassView P O R → Type 0
MayClear v = MayClearAt v.visitor.swap v

abbrev pub clear_event : ℕ → SwapAt → Event
clear_event c swap = if is_moved swap then Unblock c else Clear c

-- BLOCK and MOVE are cleared where it gives up, else SWAP and COMPLETE

abbrev pub kept_bits : SwapAt → ℕ
kept_bits swap = if is_moved swap then 2 ^ 64 - 1 - 2 ^ 25 - 2 ^ 26 else 2 ^ 64 - 1 - 2 ^ 24 - 2 ^ 27

abbrev pub clears : SwapAt → ℕ → ℕ
clears swap word = bit_and word (kept_bits swap)

-- the word has the layout and the incarnation that a Begin found, and none of the bits of a swap
pub record IsRestored (begun word : ℕ) : Type 0 where
  pub layout : layout_in word ≡ layout_in begun
  pub incarnation : incarnation_in word ≡ incarnation_in begun
  pub swap : has_bit word 24 ≡ false
  pub block : has_bit word 25 ≡ false
  pub moving : has_bit word 26 ≡ false
  pub complete : has_bit word 27 ≡ false

-- where a swap ends that has not turned its object over, the object is as it was when the swap began
abbrev pub ClearFound : {P O R : Type 0} → PassView P O R → ℕ → Type 0
ClearFound v found =
    v.visitor.swap ≡ Opened (object_swapped v) → v.turned ≡ false
    → IsRestored (word_begun v.last) (clears v.visitor.swap found)

-- the row that it has handed on and turned over
abbrev pub rows_ended : {P O R : Type 0} → PassView P O R → List Row
rows_ended v =
    if v.turned
    then v.rows ++ record { object = object_swapped v; incarnation = incarnation_in (word_begun v.last) } ∷ []
    else v.rows

abbrev pub cleared_view : {P O R : Type 0} → PassView P O R → PassView P O R
cleared_view v =
    if is_moved v.visitor.swap
    then record (at_swap v (Reopening (object_swapped v) 0)) { abandoned = false }
    else record (at_swap v Idle) { turned = false; rows = rows_ended v }

-- Stages that a swap comes to by turning its object over, and one that it comes to in no other way.

abbrev pub follows_turn : SwapAt → Bool
follows_turn (Opening o p) = true
follows_turn (Opened o) = true
follows_turn swap = false

abbrev pub opens_next : SwapAt → Bool
opens_next (Opening o p) = true
opens_next swap = false

-- the object is in the row in which the swap began: it has not turned over, or was given up
abbrev pub is_in_begun_row : SwapAt → Bool → Bool
is_in_begun_row Idle turned = false
is_in_begun_row (Refused o) turned = false
is_in_begun_row (Opening o p) turned = false
is_in_begun_row (Opened o) turned = not turned
is_in_begun_row swap turned = true

-- the word says that its object, which has these live layouts, is neither dead nor at its last incarnation
pub record IsOfLiving (shapes : List Shape) (word : ℕ) : Type 0 where
  pub layout : IsLiveTag shapes (layout_in word)
  pub last : incarnation_in word < LAST_INCARNATION

-- What a pass knows of its swap fits together: the layouts of each object, the stage, whether it has turned over, the
-- layout with which it has handed on, and its last Begin.
pub record FitsSwap (shapes : List (List Shape)) (swap : SwapAt) (turned : Bool) (handed : Option ℕ) (last : Option LastBegin) : Type 0 where
  pub after : turned ≡ true → follows_turn swap ≡ true
  pub opens : opens_next swap ≡ true → turned ≡ true
  pub moved : is_some handed ≡ true → is_moved swap ≡ true
  pub object : (o : ℕ) → named_by swap ≡ Some o → object_begun last ≡ o
  pub living : is_in_begun_row swap turned ≡ true → IsOfLiving (slice_index_or shapes (object_begun last) []) (word_begun last)
  pub known : IsKnownTag (slice_index_or shapes (object_begun last) []) (unwrap_or handed 0)
