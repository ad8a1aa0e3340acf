-- The steps on tables, for one pass: where each may be taken, and what the pass knows after it.
use Rattle.std.specs.Prelude.{◌≡◌, ℕ, ◌-◌, ◌/◌, ◌%◌, ◌<◌, ◌≤◌, ◌^◌, ◌==◌, ◌||◌, Bool, true, if◌then◌else◌, Option, Some, None, is_some, unwrap_or}
use Rattle.k42_shapes.specs.Shapes.{IsKnownTag}
use Rattle.k42_limits.specs.declared.TheConstants.{LAST_INCARNATION}
use Rattle.gen_core.specs.Events.{is_free}
use Rattle.phase_core.specs.Effects.{root_of, at_place, looked_up, direct_entry, knocked, at_stage, begun_as}
use Rattle.phase_core.specs.State.{empty_entry}
use Rattle.phase_core.specs.Plain.{Visitor}
use Rattle.phase_core.specs.Stages.{is_out, is_missed, is_at_mediator, is_uncounted, is_counted, is_idle, row_of}
use Rattle.phase_core.specs.declared.caller.Place.TheVariants.{Out, Direct}
use Rattle.phase_core.specs.declared.object.LocalEntry.{LocalEntry}
use Rattle.k42_joined.specs.Swapping.{holds_none}
use Rattle.k42_board.specs.Values.{local_value, layout_in, incarnation_in, has_bit, answer_in}
use Rattle.k42_board.specs.Views.{shapes_at, live_at}
use Rattle.k42_board.specs.declared.view.PassView.{PassView}

-- a pass that has gone on in its call, and what it has learned of the row's layout
abbrev pub went : {P O R : Type 0} → PassView P O R → Visitor → Option ℕ → PassView P O R
went v visitor layout = record v { visitor = visitor; layout = layout }

-- the entry of a processor, as its word says it
abbrev pub entry_in : ℕ → LocalEntry
entry_in word = record {
  tag = word % 4;
  layout = word / 2 ^ 4 % 16;
  cell = word / 2 ^ 8 % 2 ^ 8;
  incarnation = word / 2 ^ 32;
}

-- the object of the word of an entry
abbrev pub entry_object : ℕ → ℕ
entry_object word = word % 64 - 32

-- what is so of each word of an entry: a direct one leads where the root of its layout does
pub record EntryFound {P O R : Type 0} (o : ℕ) (v : PassView P O R) (found : ℕ) : Type 0 where
  pub tag : (entry_in found).tag ≤ 2
  pub layout : IsKnownTag (shapes_at v o) (entry_in found).layout
  pub cell :
      (entry_in found).tag ≡ 1
      → (entry_in found).cell ≡ root_of (shapes_at v o) (entry_in found).layout v.turn.proc
  pub last : incarnation_in found ≤ LAST_INCARNATION

-- and of each word of an object
pub record ObjectFound {P O R : Type 0} (o : ℕ) (v : PassView P O R) (found : ℕ) : Type 0 where
  pub layout : IsKnownTag (shapes_at v o) (layout_in found)
  pub last : incarnation_in found ≤ LAST_INCARNATION

-- and of the word of an object that the pass has missed: it is still in that row
pub record RootFound {P O R : Type 0} (o : ℕ) (v : PassView P O R) (found : ℕ) : Type 0 where
  pub word : ObjectFound o v found
  pub row : incarnation_in found ≡ row_of v.visitor.place

-- a direct entry tells its row's layout
abbrev pub layout_told : LocalEntry → Option ℕ
layout_told e = if e.tag == 1 then Some e.layout else None

-- it has an activity, is inside no call, and the object is one of so many
pub record MayLookUp {P O R : Type 0} (objects o : ℕ) (v : PassView P O R) : Type 0 where
  pub active : is_some v.turn.active ≡ true
  pub out : is_out v.visitor.place ≡ true
  pub there : o < objects

abbrev pub looked_up_view : {P O R : Type 0} → ℕ → ℕ → PassView P O R → PassView P O R
looked_up_view o found v = went v (looked_up v.visitor o (entry_in found)) (layout_told (entry_in found))

-- it has found its processor's entry of the object empty
pub record MayLoadRoot {P O R : Type 0} (objects o : ℕ) (v : PassView P O R) : Type 0 where
  pub missed : is_missed v.visitor.place o ≡ true
  pub there : o < objects

abbrev pub rooted_view : {P O R : Type 0} → ℕ → PassView P O R → PassView P O R
rooted_view found v = went v v.visitor (Some (layout_in found))

-- the layout that it has learned
abbrev pub layout_learned : {P O R : Type 0} → PassView P O R → ℕ
layout_learned v = unwrap_or v.layout 0

-- it has missed the object, has learned the layout of the row since, whose root names this cell, and holds no cell
pub record MayInstall {P O R : Type 0} (objects o cell : ℕ) (v : PassView P O R) : Type 0 where
  pub missed : is_missed v.visitor.place o ≡ true
  pub there : o < objects
  pub rooted : is_some v.layout ≡ true
  pub named : cell ≡ root_of (shapes_at v o) (layout_learned v) v.turn.proc
  pub free : holds_none v.taker.held ≡ true

-- the empty entry that it read, and the direct one
abbrev pub empty_before : {P O R : Type 0} → PassView P O R → ℕ
empty_before v = local_value (empty_entry (row_of v.visitor.place))

abbrev pub direct_after : {P O R : Type 0} → ℕ → PassView P O R → ℕ
direct_after o v =
    local_value (direct_entry (shapes_at v o) (layout_learned v) v.turn.proc (row_of v.visitor.place))

abbrev pub installs : {P O R : Type 0} → ℕ → PassView P O R → ℕ → ℕ
installs o v word = if word == empty_before v then direct_after o v else word

-- it has led the entry to its cell
abbrev pub direct_view : {P O R : Type 0} → ℕ → PassView P O R → PassView P O R
direct_view o v = went v (at_place v.visitor (Direct o (row_of v.visitor.place))) v.layout

-- its call is over
abbrev pub ended_view : {P O R : Type 0} → PassView P O R → PassView P O R
ended_view v = went v (at_place v.visitor Out) None

abbrev pub installed_view : {P O R : Type 0} → ℕ → ℕ → PassView P O R → PassView P O R
installed_view o found v = if found == empty_before v then direct_view o v else ended_view v

-- it is in a direct call, or has found its entry empty, and holds no cell
pub record MayEndCall {P O R : Type 0} (v : PassView P O R) : Type 0 where
  pub uncounted : is_uncounted v.visitor.place ≡ true
  pub free : holds_none v.taker.held ≡ true

-- the object of its word
abbrev pub word_object : ℕ → ℕ
word_object word = (word - 528) / 16

-- its processor's entry leads it to the mediator
pub record MayKnock {P O R : Type 0} (objects o : ℕ) (v : PassView P O R) : Type 0 where
  pub sent : is_at_mediator v.visitor.place o ≡ true
  pub there : o < objects

-- it is let in, and learns the row and its layout, unless the swap blocks
abbrev pub knocked_view : {P O R : Type 0} → ℕ → ℕ → PassView P O R → PassView P O R
knocked_view o found v =
    went v (knocked v.visitor o (incarnation_in found) (has_bit found 25))
    (if has_bit found 25 then None else Some (layout_in found))

-- the mediator counts it, and it holds no cell; its call is over then
pub record MayStepOut {P O R : Type 0} (v : PassView P O R) : Type 0 where
  pub counted : is_counted v.visitor.place ≡ true
  pub free : holds_none v.taker.held ≡ true

-- it has no activity, no grace and no swap under way, and the object is one of so many
pub record MayBegin {P O R : Type 0} (objects o : ℕ) (v : PassView P O R) : Type 0 where
  pub free : is_free v.turn ≡ true
  pub no_swap : is_idle v.visitor.swap ≡ true
  pub there : o < objects

-- the word says that the object, which has so many live layouts, is dead, or at its last incarnation
abbrev pub is_over_in : ℕ → ℕ → Bool
is_over_in live word = (layout_in word == live) || (incarnation_in word == LAST_INCARNATION)

-- where no swap was under way its own begins, or is refused
abbrev pub stage_begun : ℕ → ℕ → ℕ → Visitor → Visitor
stage_begun live o found x = if has_bit found 24 then x else at_stage x (begun_as o (is_over_in live found))

abbrev pub begun_view : {P O R : Type 0} → ℕ → ℕ → PassView P O R → PassView P O R
begun_view o found v = record v {
  visitor = stage_begun (live_at v o) o found v.visitor;
  last = Some (record { object = o; word = found });
  found = answer_in (live_at v o) found;
}
