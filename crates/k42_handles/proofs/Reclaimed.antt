-- A step of the grace that is to free the rows of a pass, and what it frees.
use Rattle.std.proofs.Common.{◌≡◌, ℕ, ◌+◌, Bool, true, false, ◌&&◌, [], Option, Some, None, length, take, drop, refl, sym, ap, ◌∙◌, subst, arith}
use Rattle.std.specs.Prelude.{is_none}
use Rattle.std.proofs.Math.ListN.{drop_of_length-le}
use Rattle.std.proofs.Math.Seq.{take-length}
use Rattle.gen_core.specs.Events.{is_looking, is_idle as is_resting}
use Rattle.gen_core.specs.Plain.{Caller}
use Rattle.gen_core.specs.declared.state.GraceAt.{GraceAt}
use Rattle.gen_core.specs.declared.state.GraceAt.TheVariants as graces
use Rattle.phase_core.specs.Effects.{drained_at, draining_from}
use Rattle.phase_core.specs.Plain.{Visitor}
use Rattle.phase_core.specs.Stages.{is_idle, is_out}
use Rattle.phase_core.specs.declared.caller.SwapAt.{SwapAt}
use Rattle.phase_core.specs.declared.caller.SwapAt.TheVariants as swaps
use Rattle.k42_board.proofs.Gained.{grows_on, grows_one}
use Rattle.k42_board.specs.Gracing.{RoleFound, role_view}
use Rattle.k42_board.specs.Log.{Grows, step_at, took}
use Rattle.k42_board.specs.Seen.{IsPassOf, IsSamePass, is_at_rest}
use Rattle.k42_crews.specs.Ready.{IsFree}
use Rattle.k42_quiesce.proofs.GoingOn.{not_taken}
use Rattle.k42_board.specs.Words.{role_word}
use Rattle.k42_board.specs.declared.view.PassView.{PassView}
use Rattle.k42_board.specs.declared.view.StepName.TheVariants as steps
use Rattle.k42_quiesce.specs.Gracing.{GoesOn, with_role}
use Rattle.k42_quiesce.specs.Reclaiming.{reclaimed_view}
use Rattle.co_system.specs.Systems.{SystemSeen, SystemPart, SystemPass}
use Rattle.k42_runtime.specs.Systems.{IsAtRest}
use Rattle.k42_handles.specs.Going.{IsReclaiming}
use Rattle.k42_handles.specs.Reclaiming.{HasFoundRole, graces_begun, notes_of}
use Rattle.k42_kinds.specs.declared.operation.Op.{Op}
use Rattle.k42_kinds.specs.declared.operation.Reply.{Reply}

-- who has no swap under way has none once its grace has gone on
is_idle_only : (swap : SwapAt) → is_idle swap ≡ true → swap ≡ swaps.Idle
is_idle_only swaps.Idle idle = refl
is_idle_only (swaps.Refused o) idle = absurd (cc)
is_idle_only (swaps.Begun o) idle = absurd (cc)
is_idle_only (swaps.Interposing o p) idle = absurd (cc)
is_idle_only (swaps.Interposed o) idle = absurd (cc)
is_idle_only (swaps.Draining o) idle = absurd (cc)
is_idle_only (swaps.Drained o) idle = absurd (cc)
is_idle_only (swaps.Blocking o) idle = absurd (cc)
is_idle_only (swaps.Moved o) idle = absurd (cc)
is_idle_only (swaps.Opening o p) idle = absurd (cc)
is_idle_only (swaps.Reopening o p) idle = absurd (cc)
is_idle_only (swaps.Opened o) idle = absurd (cc)

idle_draining : (swap : SwapAt) → is_idle swap ≡ true → is_idle (draining_from swap) ≡ true
idle_draining swap idle = ap (λ (at : SwapAt). is_idle (draining_from at)) (is_idle_only swap idle)

idle_drained : (grace : GraceAt) → is_idle (drained_at grace swaps.Idle) ≡ true
idle_drained graces.Idle = refl
idle_drained (graces.Flipping p) = refl
idle_drained (graces.Looking p) = refl
idle_drained graces.Quiet = refl

stays_idle : (grace : GraceAt) (swap : SwapAt) → is_idle swap ≡ true → is_idle (drained_at grace swap) ≡ true
stays_idle grace swap idle = ap (λ (at : SwapAt). is_idle (drained_at grace at)) (is_idle_only swap idle) ∙ idle_drained grace

more : (n : ℕ) → n ≡ n + 0
more n = omega arith

-- the grace has the role, and has gone on
pub record HasRole (grace : Option ℕ) (v w : PassView SystemPart Op Reply) : Type 0 where
  pub taker : w.taker ≡ v.taker
  pub rows : w.rows ≡ v.rows
  pub number : w.number ≡ v.number
  pub inactive : w.turn.active ≡ None
  pub place : w.visitor.place ≡ v.visitor.place
  pub notes : w.notes ≡ v.notes
  pub swap : is_idle w.visitor.swap ≡ true
  pub noted : w.visitor.noted ≡ notes_of grace v
  pub all : w.granted ≡ length w.rows
  pub graces : w.graces ≡ v.graces + graces_begun grace
  pub grows : Grows v.log w.log

pub has_role_now : (system : SystemSeen) (grace : Option ℕ) (old : SystemPass) (w : PassView SystemPart Op Reply) → IsReclaiming system grace old
    → GoesOn (with_role grace old.view) w → HasRole grace old.view w
has_role_now system None old w is goes = record {
  taker = ap (λ (x : PassView SystemPart Op Reply). x.taker) goes.rest;
  rows = ap (λ (x : PassView SystemPart Op Reply). x.rows) goes.rest;
  number = ap (λ (x : PassView SystemPart Op Reply). x.number) goes.rest;
  inactive = ap (λ (t : Caller). t.active) goes.turn ∙ is.inactive;
  place = ap (λ (x : Visitor). x.place) goes.visitor;
  notes = ap (λ (x : PassView SystemPart Op Reply). x.notes) goes.rest;
  swap = ap (λ (x : Visitor). is_idle x.swap) goes.visitor ∙ stays_idle w.turn.grace (draining_from old.view.visitor.swap) (idle_draining old.view.visitor.swap is.swap);
  noted = ap (λ (x : Visitor). x.noted) goes.visitor;
  all = ap (λ (x : PassView SystemPart Op Reply). x.granted) goes.rest ∙ sym (ap (λ (x : PassView SystemPart Op Reply). length x.rows) goes.rest);
  graces = ap (λ (x : PassView SystemPart Op Reply). x.graces) goes.rest;
  grows = grows_on (grows_one (step_at steps.TakeRole role_word 0) old.view.log refl) goes.frees_none;
}
has_role_now system (Some holder) old w is goes = record {
  taker = ap (λ (x : PassView SystemPart Op Reply). x.taker) goes.rest;
  rows = ap (λ (x : PassView SystemPart Op Reply). x.rows) goes.rest;
  number = ap (λ (x : PassView SystemPart Op Reply). x.number) goes.rest;
  inactive = ap (λ (t : Caller). t.active) goes.turn ∙ is.inactive;
  place = ap (λ (x : Visitor). x.place) goes.visitor;
  notes = ap (λ (x : PassView SystemPart Op Reply). x.notes) goes.rest;
  swap = ap (λ (x : Visitor). is_idle x.swap) goes.visitor ∙ stays_idle w.turn.grace old.view.visitor.swap is.swap;
  noted = ap (λ (x : Visitor). x.noted) goes.visitor;
  all =
      ap (λ (x : PassView SystemPart Op Reply). x.granted) goes.rest ∙ is.all ∙ sym (ap (λ (x : PassView SystemPart Op Reply). length x.rows) goes.rest);
  graces = ap (λ (x : PassView SystemPart Op Reply). x.graces) goes.rest ∙ more old.view.graces;
  grows = goes.frees_none;
}

-- its pass may be stepped on
pub goes_on : (system : SystemSeen) (grace next : Option ℕ) (old new : SystemPass) → IsReclaiming system grace old → HasRole grace old.view new.view
    → IsPassOf system.sys new → next ≡ Some new.view.number → is_looking new.view.turn.grace ≡ true → IsReclaiming system next new
goes_on system grace next old new is has ours e looking = subst (λ (at : Option ℕ). IsReclaiming system at new) (sym e) (record {
  here = record {
    ours = ours;
    out = ap is_out has.place ∙ is.here.out;
    held = (λ j. (has.taker j).held) ∙ is.here.held;
    notes = has.notes ∙ is.here.notes;
  };
  may = record { own = refl; looking = looking };
  inactive = has.inactive;
  swap = has.swap;
  all = has.all;
})

-- all rows are granted to it
pub granted_all : (grace : Option ℕ) (v w : PassView SystemPart Op Reply) → HasRole grace v w → take w.granted w.rows ≡ v.rows
granted_all grace v w has = ap (λ n. take n w.rows) has.all ∙ take-length w.rows ∙ has.rows

-- once they are freed, the pass has none
pub none_left : (grace : Option ℕ) (v w x : PassView SystemPart Op Reply) → HasRole grace v w → x ≡ reclaimed_view w x → x.rows ≡ []
none_left grace v w x has knows = ap (λ (y : PassView SystemPart Op Reply). y.rows) knows ∙ ap (λ n. drop n w.rows) has.all ∙ drop_of_length-le w.rows {i = length w.rows} (omega arith)

-- the role was another's: nothing of the pass is other than before but its log
idle_by : (idle : Bool) (active : Option ℕ) → idle && is_none active ≡ true → idle ≡ true
idle_by true active free = refl
idle_by false active free = absurd (cc)

rests_before : (system : SystemSeen) (old : SystemPass) → IsReclaiming system None old → IsAtRest old.view
rests_before system old is =
    let idle = idle_by (is_resting old.view.turn.grace) old.view.turn.active is.may.free in
    λ j. is_none (is.inactive j) && idle j && is.swap j

-- it has found the role with this caller
abbrev pub HasTried : ℕ → PassView SystemPart Op Reply → PassView SystemPart Op Reply → Type 0
HasTried holder v w = w ≡ took steps.TakeRole role_word (holder + 1) (role_view (holder + 1) v)

pub freed_rests : (system : SystemSeen) (grace : Option ℕ) (old new : SystemPass) (holder : ℕ) → IsReclaiming system grace old → grace ≡ None → IsPassOf system.sys new
    → HasTried holder old.view new.view → IsFree system new
freed_rests system grace old new holder is none ours tried =
    let was : IsReclaiming system None old = subst (λ (at : Option ℕ). IsReclaiming system at old) none is in
    let knows = not_taken old.view new.view (holder + 1) tried (omega arith) in
    record {
      here = record {
        ours = ours;
        out = ap (λ (v : PassView SystemPart Op Reply). is_out v.visitor.place) knows ∙ is.here.out;
        held = ap (λ (v : PassView SystemPart Op Reply). v.taker.held) knows ∙ is.here.held;
        notes = ap (λ (v : PassView SystemPart Op Reply). v.notes) knows ∙ is.here.notes;
      };
      rests = ap (λ (v : PassView SystemPart Op Reply). is_at_rest v) knows ∙ rests_before system old was;
    }

pub found_role : (old new : SystemPass) (holder : ℕ) → IsSamePass old new → HasTried holder old.view new.view
    → RoleFound old.view (holder + 1) → HasFoundRole old new
found_role old new holder same tried finds =
    let knows = not_taken old.view new.view (holder + 1) tried (omega arith) in
    let few = finds.small in
    record {
      same = same;
      drawn = ap (λ (v : PassView SystemPart Op Reply). v.taker) knows;
      rows = ap (λ (v : PassView SystemPart Op Reply). v.rows) knows;
      graces = ap (λ (v : PassView SystemPart Op Reply). v.graces) knows;
      holder = holder;
      elsewhere = record {
        tried = record { gained = []; log = ap (λ (v : PassView SystemPart Op Reply). v.log) knows; meets_none = refl };
        another = λ e. finds.another (ap (λ (n : ℕ). n + 1) (e ∙ ap (λ (v : PassView SystemPart Op Reply). v.number) knows));
        caller = omega (arith, few);
      };
    }
