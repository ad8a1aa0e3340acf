-- The history of a running system in sections: each has what the passes have drawn since the last one.
use Rattle.std.specs.Prelude.{◌≡◌, ◌+◌, List, [], ◌∷◌, ◌++◌, length}
use mathlib.Core.Option.{some}
use lib.ListN.{get_elem?}
use Rattle.atomic_table.specs.Table.{State}
use Rattle.k42_kinds.specs.declared.entry.Entry.{Entry}
use Rattle.k42_places.specs.Places.{EachPlace, EachPair}
use Rattle.k42_board.specs.Cells.{Slot}
use Rattle.k42_board.specs.declared.keep.Keep.TheVariants.{Sections}
use Rattle.k42_board.specs.declared.view.View.{View}
use Rattle.k42_board.specs.declared.view.View.TheVariants.{Crew}
use Rattle.k42_stamp.specs.Lists.{IsMerged, IsMergedFrom}
use Rattle.k42_rule.specs.Finishing.{lists_in}
use Rattle.k42_rule.specs.Sections.{AreEven, fronts_in, rests_in, sectioned}
use Rattle.k42_runtime.specs.Histories.{MayEnd}
use Rattle.k42_board.specs.Seen.{PassSeen}
use Rattle.k42_runtime.specs.Systems.{SystemSeen}

-- all passes of the system, in order, each with nothing under way; they keep sections, and the last was one of them all
pub record MaySection {L P O R : Type 0} (system : SystemSeen L) (passes : List (PassSeen P O R)) : Type 0 where
  pub may_end : MayEnd system passes
  pub keeps : EachPlace (λ c pass. pass.keep.what ≡ Sections) passes
  pub even : AreEven passes

-- What the passes have drawn since the last section, in order and numbered on from what was given `before`. Both are the
-- one list of all that they have drawn.
pub record IsSection {P O R : Type 0} (old new : List (PassSeen P O R)) (section : List (Entry O R)) : Type 0 where
  pub before : List (Entry O R)
  pub fronts : IsMerged (fronts_in old) before
  pub later : IsMergedFrom (length before + 1) (rests_in old) section
  pub whole : IsMerged (lists_in new) (before ++ section)
  pub passes : new ≡ sectioned old

-- a pass that has drawn more, or nothing, and has given none of it
pub record HasDrawnOn {P O R : Type 0} (old new : PassSeen P O R) : Type 0 where
  pub table : new.table ≡ old.table
  pub seat : new.seat ≡ old.seat
  pub keep : new.keep ≡ old.keep
  pub more : List (Entry O R)
  pub drawn : new.view.taker.mine ≡ old.view.taker.mine ++ more

pub record HaveDrawnOn {P O R : Type 0} (old new : List (PassSeen P O R)) : Type 0 where
  pub many : length new ≡ length old
  pub each : EachPair (λ c one other. HasDrawnOn one other) old new

-- passes that have given these sections, the last one first, and have only drawn on since each
abbrev pub HaveGiven : {P O R : Type 0} → List (List (Entry O R)) → List (PassSeen P O R) → Type 0
HaveGiven {P} {O} {R} [] passes = EachPlace (λ c pass. pass.keep.given ≡ 0) passes
HaveGiven {P} {O} {R} (section ∷ sections) passes =
    (old new : List (PassSeen P O R)) × HaveGiven sections old × IsSection old new section × HaveDrawnOn new passes

-- these sections in the order in which they were given
abbrev pub end_to_end : {O R : Type 0} → List (List (Entry O R)) → List (Entry O R)
end_to_end [] = []
end_to_end (section ∷ sections) = end_to_end sections ++ section

-- the table has these passes at their seats
abbrev pub AreShown : {P O R : Type 0} → State (Slot P O R) (View P O R) → List (PassSeen P O R) → Type 0
AreShown table passes = EachPlace (λ c pass. get_elem? table.views pass.seat ≡ some (Crew (pass.view ∷ []))) passes
