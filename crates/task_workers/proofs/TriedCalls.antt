-- A call that is tried once: what it leaves when it is done, held up, or without memory.
use Rattle.std.proofs.Common.{◌≡◌, ℕ, ◌+◌, Bool, true, false, Option, Some, None, List, [], ◌∷◌, ◌++◌, is_some, length, refl, sym, ap, ◌∙◌, subst, arith}
use Rattle.std.specs.Prelude.{if◌then◌else◌}
use Rattle.k42_kinds.specs.declared.operation.Op.{Op}
use Rattle.k42_kinds.specs.declared.entry.Act.{Act}
use Rattle.k42_kinds.specs.declared.entry.Act.TheVariants.{Call}
use Rattle.k42_kinds.specs.declared.entry.Entry.{Entry}
use Rattle.k42_kinds.specs.declared.operation.Reply.{Reply}
use Rattle.k42_board.proofs.Gained.{extends_as, extends_one, extends_same, ends_on, meets_on}
use Rattle.k42_board.specs.Log.{EndsWith, Extends, last_found, step_at}
use Rattle.k42_board.specs.Seen.{Own}
use Rattle.k42_board.specs.Words.{generation_word, local_word}
use Rattle.k42_board.specs.declared.view.PassView.{PassView}
use Rattle.k42_board.specs.declared.view.StepName.TheVariants as steps
use Rattle.co_system.specs.Systems.{IsAsked}
use Rattle.k42_runtime.specs.Calls.{CallSeen, HasCalled, HasNotCalled, HoldsUp}
use Rattle.co_system.specs.Systems.{SystemPart, SystemPass, SystemSeen}
use Rattle.k42_runtime.specs.Systems.{IsAtWork, IsPassHere, KeepsElse}
use Rattle.k42_runtime.specs.declared.calls.CallCause.{CallCause}
use Rattle.k42_runtime.specs.declared.calls.CallCause.TheVariants as causes
use Rattle.script_text.specs.Lawful.{IsNotGivenUp, deed_of}
use Rattle.script_text.specs.declared.script.CallLine.{CallLine}
use Rattle.k42_workers.specs.Lines.{Standing, IsOpened, IsTimed, left_open}
use Rattle.k42_workers.specs.Passes.{IsBetween, GoesOnAs, HasOnlyEntered, StaysAs, standing_of}
use Rattle.task_workers.specs.Tries.{IsDone, IsHeldUp, IsSame}
use Rattle.task_workers.specs.declared.tasks.TaskAt.TheVariants.{Calling}
use Rattle.task_workers.specs.declared.tasks.TaskCause.TheVariants.{Call as HeldCall}

same_active : (old new : PassView SystemPart Op Reply) → KeepsElse old new → new.turn.active ≡ old.turn.active
same_active old new keeps = ap (λ (own : Own). own.turn.active) keeps

-- the step into an activity meets nothing
meets_none : (old mid : SystemPass) (active : Bool) → is_some old.view.turn.active ≡ active → (is_some old.view.turn.active ≡ true → mid ≡ old)
    → (is_some old.view.turn.active ≡ false → HasOnlyEntered old.view mid.view) → Extends old.view.log mid.view.log
meets_none old mid true is stays entered = extends_as (ap (λ (pass : SystemPass). pass.view.log) (stays is)) (extends_same old.view.log)
meets_none old mid false is stays entered =
    extends_as (entered is) (extends_one (step_at steps.Enter (generation_word old.view.turn.proc) (last_found mid.view.log)) old.view.log refl)

-- so that what a call met after it was met since before it
held_since : (cause : CallCause) (object : ℕ) (old mid new : PassView SystemPart Op Reply) → mid.number ≡ old.number → mid.turn.proc ≡ old.turn.proc → Extends old.log mid.log
    → HoldsUp cause object mid new → HoldsUp cause object old new
held_since causes.Blocked object old mid new number proc free is = record { found = is.found; blocked = is.blocked; met = meets_on free is.met }
held_since (causes.Elsewhere word) object old mid new number proc free is =
    subst (λ (p : ℕ). EndsWith (step_at steps.Install (local_word p object) word) old.log new.log) proc (ends_on free is)
held_since (causes.CellHeld holder) object old mid new number proc free is = record {
  incarnation = is.incarnation;
  place = is.place;
  there = is.there;
  another = λ e. is.another (e ∙ sym number);
  caller = is.caller;
  met = meets_on free is.met;
}

-- the pass of a call, and of one that was left again, is the same
pub same_called : (system : SystemSeen) (old mid new : SystemPass) → GoesOnAs old.view mid.view → KeepsElse mid.view new.view → IsPassHere system new → IsSame system old new
same_called system old mid new on keeps here = record {
  here = here;
  number = ap (λ (own : Own). own.number) keeps ∙ on.number;
  proc = ap (λ (own : Own). own.turn.proc) keeps ∙ on.proc;
}

pub same_left : (system : SystemSeen) (old mid made new : SystemPass) → GoesOnAs old.view mid.view → KeepsElse mid.view made.view → StaysAs made.view new.view
    → IsPassHere system new → IsSame system old new
same_left system old mid made new on keeps same here = record {
  here = here;
  number = same.number ∙ ap (λ (own : Own). own.number) keeps ∙ on.number;
  proc = same.proc ∙ ap (λ (own : Own). own.turn.proc) keeps ∙ on.proc;
}

module _ (system : SystemSeen) (line : CallLine) (inside : Bool) (call : CallSeen Op) (old mid : SystemPass)
    (of : (line.object ≡ call.object) × (line.act ≡ Call call.op))
    (opened : IsOpened (standing_of old.view) (standing_of mid.view)) (on : GoesOnAs old.view mid.view) (level : mid.view.graces ≡ old.view.graces)
    (stays : is_some old.view.turn.active ≡ true → mid ≡ old) where
  pub call_done : (reply : Reply) (made new : SystemPass) → HasCalled call.object call.op reply mid.view made.view → IsBetween new.view
      → standing_of new.view ≡ record (standing_of made.view) { active = if inside then made.view.turn.active else None } → StaysAs made.view new.view
      → IsDone line inside (Calling call) old new
  call_done reply made new called between left same =
      let whole = called.whole in let entry = called.entry in
      let was : made.view.turn.active ≡ Some opened.generation = same_active mid.view made.view called.keeps ∙ opened.active in
      let drawn_in : entry.generation ≡ Some opened.generation = ap (λ (e : Entry Op Reply). e.generation) whole ∙ opened.active in
      let after : new.view.turn.active ≡ left_open inside opened.generation =
      ap (λ (s : Standing). s.active) left ∙ ap (λ (active : Option ℕ). if inside then active else None) was in
      let timed : IsTimed (Call call.op) inside (standing_of old.view) entry.generation new.view.turn.active =
      record { generation = opened.generation; drawn_in = drawn_in; goes_on = opened.goes_on; left = after } in
      record {
        between = between;
        answered = record {
          entry = entry;
          drawn = ap (λ (s : Standing). s.entries) left ∙ called.drawn ∙ ap (λ (mine : List (Entry Op Reply)). mine ++ entry ∷ []) opened.entries;
          deed = ap deed_of whole ∙ (λ j. record { index = length (opened.entries j); object = sym of.0 j; act = sym of.1 j });
          processor = ap (λ (e : Entry Op Reply). e.proc) whole ∙ on.proc;
          kept = subst IsNotGivenUp (sym (ap (λ (e : Entry Op Reply). e.answer) whole)) tt;
          timed = subst (λ (act : Act Op). IsTimed act inside (standing_of old.view) entry.generation new.view.turn.active) (sym of.1) timed;
        };
        graces = let steady = ap (λ (own : Own). own.graces) called.keeps in let last = same.graces in omega (arith, level, steady, last);
      }

  pub call_held : (cause : CallCause) (after : CallSeen Op) (new : SystemPass) → after ≡ record call { ended = false } → IsAsked system.plan call.object call.op
      → (is_some old.view.turn.active ≡ false → HasOnlyEntered old.view mid.view) → HasNotCalled mid.view new.view → HoldsUp cause call.object mid.view new.view → IsAtWork new.view
      → IsHeldUp system line (HeldCall cause) (Calling call) (Calling after) old new
  call_held cause after new is asked entered none found works =
      let active : new.view.turn.active ≡ Some opened.generation = same_active mid.view new.view none.keeps ∙ opened.active in
      subst (λ (c : CallSeen Op). IsHeldUp system line (HeldCall cause) (Calling call) (Calling c) old new) (sym is) (record {
        of = of;
        may = (refl, asked, record { grace = works.grace; swap = works.swap });
        held = held_since cause call.object old.view mid.view new.view on.number on.proc (meets_none old mid (is_some old.view.turn.active) refl stays entered) found;
        stays = record { generation = opened.generation; active = active; goes_on = opened.goes_on; entries = none.same ∙ opened.entries };
        graces = let steady = ap (λ (own : Own). own.graces) none.keeps in omega (arith, level, steady);
      })
