-- The history in sections: what the passes give to one, and how their clocks are raised.
use Rattle.std.specs.Prelude.{◌≡◌, ℕ, ◌≤◌, List, [], ◌∷◌, drop, length, map, max, take}
use Rattle.k42_kinds.specs.declared.entry.Entry.{Entry}
use Rattle.k42_limits.specs.declared.TheConstants.{LAST_STAMP}
use Rattle.k42_places.specs.Places.{EachPlace}
use Rattle.k42_stamp.specs.Lists.{IsListOf, AreLists}
use Rattle.k42_stamp.specs.Sections.{AreCutAt}
use Rattle.k42_board.specs.Seen.{SysSeen, PassSeen, IsParted}
use Rattle.k42_board.specs.Skipping.{greatest_clock, skipped_view}
use Rattle.k42_board.specs.declared.keep.Keep.TheVariants.{Sections}
use Rattle.k42_board.specs.declared.view.View.TheVariants.{Drew}
use Rattle.k42_rule.specs.Finishing.{AreAtRest, lists_in, views_of}
use Rattle.k42_rule.specs.declared.sections.Telling.{Telling}

-- of their entries, what the passes have given to sections
abbrev pub fronts_in : {P O R : Type 0} → List (PassSeen P O R) → List (List (Entry O R))
fronts_in passes = map (λ pass. take pass.keep.given pass.view.taker.mine) passes

-- and what they have drawn since
abbrev pub rests_in : {P O R : Type 0} → List (PassSeen P O R) → List (List (Entry O R))
rests_in passes = map (λ pass. drop pass.keep.given pass.view.taker.mine) passes

-- the stamp of the last section, as the first pass has it
abbrev pub last_section : {P O R : Type 0} → List (PassSeen P O R) → ℕ
last_section [] = 0
last_section (pass ∷ passes) = pass.keep.since

-- the last section was one of them all
abbrev pub AreEven : {P O R : Type 0} → List (PassSeen P O R) → Type 0
AreEven passes = EachPlace (λ c pass. pass.keep.since ≡ last_section passes) passes

-- all passes of the system, in order and at rest; they keep sections, and the last was one of them all
pub record MayGiveSection {L P O R : Type 0} (sys : SysSeen L) (passes : List (PassSeen P O R)) : Type 0 where
  pub rest : AreAtRest sys passes
  pub keeps : EachPlace (λ c pass. pass.keep.what ≡ Sections) passes
  pub even : AreEven passes

-- the list of a pass is one of its caller, and the last section parts it
pub record HasParts {P O R : Type 0} (pass : PassSeen P O R) : Type 0 where
  pub list : IsListOf pass.view.number pass.view.taker.mine
  pub parted : IsParted pass.keep pass.view.taker.mine

-- so are those of all passes, each with its place as number, and the section cuts them at one stamp
pub record AreCut {P O R : Type 0} (passes : List (PassSeen P O R)) : Type 0 where
  pub fronts : AreLists (fronts_in passes)
  pub rests : AreLists (rests_in passes)
  pub cut : AreCutAt (last_section passes) (lists_in passes) (fronts_in passes) (rests_in passes)

-- a pass whose clock is at least the stamp
abbrev pub skipped : {P O R : Type 0} → ℕ → PassSeen P O R → PassSeen P O R
skipped stamp pass = record pass { view = skipped_view stamp pass.view }

-- a pass that has given all to a section, and begins a list anew
abbrev pub given_all : {P O R : Type 0} → PassSeen P O R → PassSeen P O R
given_all pass =
    record pass { keep = record pass.keep { given = length pass.view.taker.mine; since = pass.view.taker.clock }; room = 0 }

-- the passes after a section: their clocks are raised to the greatest, and they have given all that they have drawn
abbrev pub sectioned : {P O R : Type 0} → List (PassSeen P O R) → List (PassSeen P O R)
sectioned passes = map given_all (map (skipped (greatest_clock (views_of passes))) passes)

-- each skips to the greatest of this stamp and the clocks before it
abbrev pub skipped_on : {P O R : Type 0} → ℕ → List (PassSeen P O R) → List (PassSeen P O R)
skipped_on stamp [] = []
skipped_on stamp (pass ∷ passes) = skipped stamp pass ∷ skipped_on (max pass.view.taker.clock stamp) passes

-- the seat tells of a stamp that was drawn at the system's table
pub record TellsStamp {L P O R : Type 0} (sys : SysSeen L) (telling : Telling P O R) : Type 0 where
  pub ours : telling.seat.table_id ≡ sys.table
  pub told : telling.seat.me ≡ (Drew telling.stamp, [])
  pub small : telling.stamp ≤ LAST_STAMP
