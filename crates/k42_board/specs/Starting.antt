-- The words and the slots with which a system starts.
use Rattle.std.specs.Prelude.{◌≡◌, ◌≢◌, ℕ, ◌+◌, ◌*◌, ◌/◌, ◌%◌, ◌<◌, ◌≤◌, ◌^◌, false, List, [], Some, None, drop, length, slice_get, slice_index}
use Rattle.k42_shapes.specs.declared.shape.Shape.{Shape}
use Rattle.k42_shapes.specs.Shapes.{IsLiveTag}
use Rattle.atomic_table.specs.Seated.{TableId}
use Rattle.k42_limits.specs.declared.TheConstants.{OBJECTS}
use Rattle.k42_places.specs.Places.{EachPlace}
use Rattle.k42_board.specs.Cells.{IsCell, Slot}
use Rattle.gen_core.specs.State as gens
use Rattle.k42_board.specs.Seen.{QueueId, SysSeen, PassSeen, IsPassOf, keeping}
use Rattle.k42_board.specs.Steps.{Seated}
use Rattle.k42_board.specs.Views.{new_pass, new_passes}
use Rattle.k42_board.specs.Words.{object_word, many_words}
use Rattle.k42_board.specs.declared.view.View.TheVariants.{Crew}
use Rattle.k42_board.specs.declared.cell.Content.{Content}
use Rattle.k42_board.specs.declared.keep.Keep.{Keep}

-- the words of the first objects have their layouts, and all other words are 0
pub record AreFirstWords
    {L : Type 0} (tag_of : L → ℕ) (layouts : List L) (objects : ℕ) (words : List ℕ)
    : Type 0 where
  pub many : length words ≡ many_words
  pub told :
      (o : ℕ) (layout : L) → o < objects → slice_get layouts o ≡ Some layout
      → slice_index words (object_word o) ≡ 2 ^ 28 * tag_of layout
  pub blank : (i : ℕ) → ((o : ℕ) → o < objects → object_word o ≢ i) → slice_index words i ≡ 0

-- the number of the cell that lies in a slot
abbrev pub number_in : ℕ → ℕ
number_in slot = slot % 40 * 8 + slot / 40

-- each of the first slots has its cell, with no part
abbrev pub AreFirstSlots : {P O R : Type 0} → List (Slot P O R) → Type 0
AreFirstSlots {P} {O} {R} slots =
    EachPlace (λ place slot. (c : Content P O R) × (slot ≡ Some c) × IsCell (number_in place) [] false None c) slots

-- what is asked of a start: the limits, callers on processors that are there, and no object that starts dead
pub record IsStart
    {L : Type 0} (shapes_of : L → List Shape) (tag_of : L → ℕ) (layouts : List L) (procs : ℕ) (callers : List ℕ)
    : Type 0 where
  pub turns : gens.IsPlan procs callers
  pub some_objects : 0 < length layouts
  pub few_objects : length layouts ≤ OBJECTS
  pub live : EachPlace (λ o layout. IsLiveTag (shapes_of layout) (tag_of layout)) layouts

-- a pass that has done nothing, with room for rows and for no entry
pub record IsNewPass
    {P O R : Type 0} (table : TableId) (queue : QueueId) (keep : Keep) (procs : ℕ) (shapes : List (List Shape)) (number home : ℕ) (pass : PassSeen P O R)
    : Type 0 where
  pub ours : pass.table ≡ table
  pub keeps : pass.keep ≡ keeping keep
  pub new : pass.view ≡ new_pass procs shapes number home
  pub room : pass.room ≡ 0
  pub rows : pass.row_room ≡ 64
  pub posted : pass.queue ≡ queue
  pub pushed : pass.pushed ≡ []
  pub popped : pass.popped ≡ []

-- a new pass for each of these processors
pub record AreDealt
    {P O R : Type 0} (table : TableId) (queue : QueueId) (keep : Keep) (procs : ℕ) (shapes : List (List Shape)) (homes : List ℕ)
    (passes : List (PassSeen P O R))
    : Type 0 where
  pub many : length passes ≡ length homes
  pub each : EachPlace (λ c pass. IsNewPass table queue keep procs shapes c (slice_index homes c) pass) passes

pub record IsStarted
    {L P O R : Type 0} (layouts : List L) (procs : ℕ) (callers : List ℕ) (sys : SysSeen L) (passes : List (PassSeen P O R))
    : Type 0 where
  pub procs_are : sys.procs ≡ procs
  pub layouts_are : sys.layouts ≡ layouts
  pub shaped : length sys.shapes ≡ length layouts
  pub callers_are : sys.callers ≡ callers
  pub dealt : AreDealt sys.table sys.queue sys.keep procs sys.shapes callers passes
  pub passes_are : EachPlace (λ c pass. IsPassOf sys pass) passes

-- the first passes are dealt, and the seat has the others
pub record IsDealing
    {P O R : Type 0} (table : TableId) (queue : QueueId) (keep : Keep) (procs : ℕ) (shapes : List (List Shape)) (homes : List ℕ) (next : ℕ)
    (seat : TableId) (me : Seated P O R) (passes : List (PassSeen P O R))
    : Type 0 where
  pub ours : seat ≡ table
  pub crew : me ≡ (Crew (new_passes procs shapes next (drop next homes)), [])
  pub many : length passes ≡ next
  pub each : EachPlace (λ c pass. IsNewPass table queue keep procs shapes c (slice_index homes c) pass) passes
