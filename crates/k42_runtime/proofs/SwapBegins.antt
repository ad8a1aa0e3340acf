-- A swap that has tried to begin.
use Rattle.std.proofs.Common.{◌≡◌, ◌↔◌, ℕ, ◌+◌, ◌<◌, ◌≤◌, Bool, true, false, List, [], ◌∷◌, None, refl, sym, ap, ◌∙◌, subst, arith}
use Rattle.k42_kinds.specs.declared.entry.Act.TheVariants.{Swap}
use Rattle.k42_kinds.specs.declared.entry.Answer.TheVariants as answers
use Rattle.turn_core.specs.Stamps.{last_stamp}
use Rattle.k42_stamp.specs.Layouts.{Layouts}
use Rattle.k42_board.proofs.Gained.{extends_as, extends_on, extends_one}
use Rattle.k42_board.specs.Drawing.{IsDrawer, entry_alone, alone_view, stamp_next}
use Rattle.k42_board.specs.Log.{ComesTo, Extends, step_at, took, with_log}
use Rattle.k42_board.specs.Seen.{PassSeen, IsRoomier, IsSamePass}
use Rattle.k42_board.specs.Views.{object_begun, word_begun, live_at}
use Rattle.k42_board.specs.Words.{object_word, role_word}
use Rattle.k42_board.specs.declared.view.PassView.{PassView}
use Rattle.k42_board.specs.declared.view.StepName.TheVariants as names
use Rattle.k42_mediator.specs.Answers.{begun_in}
use Rattle.k42_mediator.specs.Swaps.{HasTried, begun_now, interposed_view}
use Rattle.k42_mediator.specs.declared.answers.Begun.{Begun}
use Rattle.k42_mediator.specs.declared.answers.Begun.TheVariants as begins
use Rattle.k42_mediator.specs.declared.answers.Phase.{Phase}
use Rattle.k42_runtime.specs.Phases.{HasGoneOn}
use Rattle.k42_runtime.specs.Swaps.{SwapSeen, IsSameCaller, IsWornOut, HasSwapped, IsEndTo, IsEndBy, graces_due}
use Rattle.k42_runtime.specs.declared.swaps.Stage.TheVariants.{New, Waiting, Marking}
use Rattle.k42_runtime.specs.declared.swaps.Swapped.TheVariants as ends
use Rattle.k42_kinds.specs.declared.entry.To.{To}
use Rattle.k42_runtime.proofs.SwapEnds.{refused}
use Rattle.k42_runtime.proofs.SwapSteps.{swapped_before}

-- what a test has found not to be so
pub is_not : {A : Type 0} (test : Bool) → test ≡ false → (test ≡ true) ↔ A → A → ⊥
is_not test failed so a = let held = so.1 a in cc

-- a pass whose swap was refused
pub record IsRefused {P O R : Type 0} (live o number : ℕ) (to : To) (old new : PassSeen P O R) : Type 0 where
  pub swapped : HasSwapped o to (ends.Busy number) old.view new.view
  pub caller : IsSameCaller old.view new.view
  pub graces : new.view.graces ≡ old.view.graces
  pub log : Extends old.view.log new.view.log
  pub seat : new.seat ≡ old.seat
  pub keep : new.keep ≡ old.keep
  pub told : IsEndBy live (word_begun new.view.last) (ends.Busy number)

module _ {S L P O R : Type 0} (F : Layouts S L P O R) (declared : List L) (o : ℕ) (old roomy new : PassSeen P O R) (room : IsRoomier old roomy) (same : IsSamePass roomy new)
    (knows : new.view ≡ with_log new.view.log (begun_now o (word_begun new.view.last) roomy.view))
    (tries : HasTried F declared roomy.seat o roomy.view new.view) where
  since : new.view ≡ with_log new.view.log (begun_now o (word_begun new.view.last) old.view)
  since = knows ∙ ap (λ (u : PassView P O R). with_log new.view.log (begun_now o (word_begun new.view.last) u)) room.view

  begun_caller : IsSameCaller old.view new.view
  begun_caller = record {
    number = ap (λ (u : PassView P O R). u.number) since;
    proc = ap (λ (u : PassView P O R). u.turn.proc) since;
  }

  begun_seat : new.seat ≡ old.seat
  begun_seat = same.seat ∙ room.seat

  begun_keep : new.keep ≡ old.keep
  begun_keep = same.keep ∙ room.keep

  begun_drawn : new.view.taker.mine ≡ old.view.taker.mine
  begun_drawn = ap (λ (u : PassView P O R). u.taker.mine) since

  begun_graces : new.view.graces ≡ old.view.graces
  begun_graces = ap (λ (u : PassView P O R). u.graces) since

  begun_object : object_begun new.view.last ≡ o
  begun_object = ap (λ (u : PassView P O R). object_begun u.last) since

  begun_log : Extends old.view.log new.view.log
  begun_log =
      extends_on (extends_as (ap (λ (u : PassView P O R). step_at names.Begin (object_word o) (word_begun new.view.last) ∷ u.log) room.view)
      (extends_one (step_at names.Begin (object_word o) (word_begun new.view.last)) old.view.log refl)) tries.log

  -- the object is over
  pub marks_on : (s m : SwapSeen) → (IsWornOut old.view → ⊥) → s.stage ≡ New → m.stage ≡ Marking → m.object ≡ s.object → m.to ≡ s.to → HasGoneOn s m old new
  marks_on s m fresh first next object to = record {
    object = object;
    to = to;
    seat = begun_seat;
    keep = begun_keep;
    caller = begun_caller;
    drawn = begun_drawn;
    log = begun_log;
    graces =
        let n = begun_graces in
        subst (λ (x : ℕ × ℕ). new.view.graces + x.0 ≤ old.view.graces + x.1)
        (λ j. (graces_due (sym next j) m.holder, graces_due (sym first j) s.holder)) (omega (arith, n));
    waits = λ e. absurd (let never = sym next ∙ e in cc);
    worn = λ e w. absurd (fresh w);
  }

  -- it has begun, and leads all entries to the mediator
  pub waits_on : (s m : SwapSeen) (led : PassSeen P O R) → (IsWornOut old.view → ⊥) → s.stage ≡ New → m.stage ≡ Waiting → m.holder ≡ None → m.object ≡ s.object → m.to ≡ s.to
      → IsSamePass new led → ComesTo new.view (interposed_view new.view) led.view → HasGoneOn s m old led
  waits_on s m led fresh first next none object to next_same leads = record {
    object = object;
    to = to;
    seat = next_same.seat ∙ begun_seat;
    keep = next_same.keep ∙ begun_keep;
    caller = record {
      number = ap (λ (u : PassView P O R). u.number) leads.knows ∙ begun_caller.number;
      proc = ap (λ (u : PassView P O R). u.turn.proc) leads.knows ∙ begun_caller.proc;
    };
    drawn = ap (λ (u : PassView P O R). u.taker.mine) leads.knows ∙ begun_drawn;
    log = extends_on begun_log leads.log;
    graces =
        let n = ap (λ (u : PassView P O R). u.graces) leads.knows ∙ begun_graces in
        subst (λ (x : ℕ × ℕ). led.view.graces + x.0 ≤ old.view.graces + x.1)
        (λ j. (graces_due (sym next j) (sym none j), graces_due (sym first j) s.holder)) (omega (arith, n));
    waits = λ e. absurd (let never = sym next ∙ e in cc);
    worn = λ e w. absurd (fresh w);
  }

  -- another swap is under way
  module _ (drawn : PassSeen P O R) (to : To) (number : ℕ) (draws : IsDrawer new drawn)
      (later : last_stamp new.view.taker.mine < stamp_next new.view [])
      (is : drawn.view ≡ took names.Draw role_word 0 (alone_view (entry_alone new.view (Swap to) (answers.Busy number)) new.view)) where
    pub refused_by : (answer : Begun) (phase : Phase) (live : ℕ) → live_at roomy.view o ≡ live → answer ≡ begun_in (live_at roomy.view o) (word_begun new.view.last) → answer ≡ begins.Busy number phase
        → IsRefused live o number to old drawn
    refused_by answer phase live told_live found busy = record {
      swapped = swapped_before old.view new.view drawn.view begun_caller begun_drawn o to (ends.Busy number) (refused o number to new.view drawn.view begun_object later is);
      caller = record {
        number = ap (λ (u : PassView P O R). u.number) is ∙ begun_caller.number;
        proc = ap (λ (u : PassView P O R). u.turn.proc) is ∙ begun_caller.proc;
      };
      graces = ap (λ (u : PassView P O R). u.graces) is ∙ begun_graces;
      log =
          extends_on begun_log (extends_as (ap (λ (u : PassView P O R). u.log) is)
          (extends_one (step_at names.Draw role_word 0) new.view.log refl));
      seat = draws.seat ∙ begun_seat;
      keep = draws.keep ∙ begun_keep;
      told =
          subst (λ (word : ℕ). IsEndBy live word (ends.Busy number)) (sym (ap (λ (u : PassView P O R). word_begun u.last) is))
          (subst (λ (b : Begun). IsEndTo b (word_begun new.view.last) (ends.Busy number)) (sym busy ∙ found ∙ ap (λ (n : ℕ). begun_in n (word_begun new.view.last)) told_live) refl);
    }
