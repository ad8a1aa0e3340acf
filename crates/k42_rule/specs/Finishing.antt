-- A system that is finished: what its passes owe, and what their lists are.
use Rattle.std.specs.Prelude.{◌≡◌, ℕ, ◌<◌, true, List, ◌++◌, length, map, None}
use Rattle.atomic_table.specs.Seated.{TableId}
use Rattle.atomic_table.specs.declared.shared.Seat.{Seat}
use Rattle.k42_places.specs.Places.{EachPlace}
use Rattle.gen_core.specs.State.{caller_at}
use Rattle.k42_kinds.specs.declared.entry.Entry.{Entry}
use Rattle.phase_core.specs.Stages.{is_out, is_idle}
use Rattle.phase_core.specs.State.{visitor_at}
use Rattle.k42_log.specs.Logs.{LogSeen}
use Rattle.k42_stamp.specs.Layouts.{Layouts}
use Rattle.k42_joined.specs.Fitting.{lists_of}
use Rattle.k42_joined.specs.Plain.{Joined}
use Rattle.k42_joined.specs.Sound.{IsSound}
use Rattle.k42_joined.specs.State.{many_callers}
use Rattle.k42_board.specs.Cells.{Slot}
use Rattle.k42_board.specs.Dealing.{crew_in, IsCrew}
use Rattle.k42_board.specs.Seen.{SysSeen, PassSeen, IsOf, is_at_rest, kept_by}
use Rattle.k42_board.specs.declared.keep.Keep.TheVariants as keeps
use Rattle.k42_board.specs.declared.view.PassView.{PassView}
use Rattle.k42_board.specs.declared.view.View.{View}

-- what the passes know, and their entries
abbrev pub views_of : {P O R : Type 0} → List (PassSeen P O R) → List (PassView P O R)
views_of passes = map (λ pass. pass.view) passes

abbrev pub lists_in : {P O R : Type 0} → List (PassSeen P O R) → List (List (Entry O R))
lists_in passes = map (λ pass. pass.view.taker.mine) passes

-- what the logs say
abbrev pub logged_in : {O R : Type 0} → List (LogSeen O R) → List (List (Entry O R))
logged_in logs = map (λ log. log.entries) logs

-- of their entries, what the passes have kept
abbrev pub kept_in : {P O R : Type 0} → List (PassSeen P O R) → List (List (Entry O R))
kept_in passes = map (λ pass. kept_by pass.keep pass.view.taker.mine) passes

-- a pass once it has given that away
abbrev pub with_none : {P O R : Type 0} → PassSeen P O R → PassSeen P O R
with_none pass = record pass { keep = record pass.keep { what = keeps.Nothing }; room = 0 }

abbrev pub with_none_kept : {P O R : Type 0} → List (PassSeen P O R) → List (PassSeen P O R)
with_none_kept passes = map with_none passes

-- the pass is that of the caller with this number, and has nothing under way
pub record IsPassAtRest {L P O R : Type 0} (sys : SysSeen L) (c : ℕ) (pass : PassSeen P O R) : Type 0 where
  pub ours : IsOf sys pass
  pub number : pass.view.number ≡ c
  pub rests : is_at_rest pass.view ≡ true

-- all passes of the system, in order
pub record AreAtRest {L P O R : Type 0} (sys : SysSeen L) (passes : List (PassSeen P O R)) : Type 0 where
  pub many : length passes ≡ length sys.callers
  pub each : EachPlace (IsPassAtRest sys) passes

-- a caller that is in no activity, no grace, no call and no swap
pub record IsResting {L O R : Type 0} (s : Joined L O R) (c : ℕ) : Type 0 where
  pub inactive : (caller_at s.phases.turns c).active ≡ None
  pub out : is_out (visitor_at s.phases c).place ≡ true
  pub swap : is_idle (visitor_at s.phases c).swap ≡ true

-- the lists are those that the callers drew in a state that meets the invariant, where everybody rests
pub record AreLastLists
    {S L P O R : Type 0} (F : Layouts S L P O R) (declared : List L) (callers : ℕ) (lists : List (List (Entry O R)))
    : Type 0 where
  pub state : Joined L O R
  pub sound : IsSound F declared state
  pub many : many_callers state ≡ callers
  pub drawn : lists ≡ lists_of state
  pub resting : (c : ℕ) → c < callers → IsResting state c

-- the seats of the first passes are one with the first, and those of the rest are to come
pub record IsGathering
    {P O R : Type 0} (table : TableId) (first seat : Seat (Slot P O R) (View P O R)) (all rest : List (PassSeen P O R))
    : Type 0 where
  pub ours : seat.table_id ≡ first.table_id
  pub same : seat.id ≡ first.id
  pub crew : IsCrew seat.me
  pub views : crew_in seat.me.0 ++ views_of rest ≡ crew_in first.me.0 ++ views_of all
  pub theirs : EachPlace (λ c pass. pass.table ≡ table) rest
