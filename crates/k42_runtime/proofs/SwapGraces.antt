-- A step of the grace that a swap waits for.
use Rattle.std.proofs.Common.{◌≡◌, ℕ, ◌+◌, ◌<◌, ◌≤◌, Bool, true, false, ◌&&◌, [], Option, Some, None, refl, sym, ap, ◌∙◌, subst, arith, List}
use Rattle.std.specs.Prelude.{is_none, length}
use Rattle.gen_core.specs.Events.{is_idle, is_looking}
use Rattle.gen_core.specs.Plain.{Caller}
use Rattle.phase_core.specs.Effects.{drained_at, draining_from}
use Rattle.phase_core.specs.Plain.{Visitor}
use Rattle.phase_core.specs.declared.caller.SwapAt.{SwapAt}
use Rattle.phase_core.specs.declared.caller.SwapAt.TheVariants.{Draining}
use Rattle.turn_core.specs.Plain as turns
use Rattle.k42_limits.specs.declared.TheConstants.{PASS_ENTRIES}
use Rattle.k42_board.specs.Gracing.{RoleFound, role_view}
use Rattle.k42_board.specs.Log.{took}
use Rattle.k42_board.specs.Seen.{PassSeen, IsSamePass, room_due}
use Rattle.k42_board.specs.Views.{word_begun}
use Rattle.k42_board.specs.Words.{role_word}
use Rattle.k42_board.specs.declared.keep.Keep.{Keep}
use Rattle.k42_board.specs.declared.view.PassView.{PassView}
use Rattle.k42_board.specs.declared.view.StepName.TheVariants as names
use Rattle.k42_quiesce.proofs.GoingOn.{not_taken}
use Rattle.k42_quiesce.specs.Gracing.{IsLeft, GoesOn, has_role, with_role}
use Rattle.k42_quiesce.specs.declared.steps.GraceStep.{GraceStep}
use Rattle.k42_quiesce.specs.declared.steps.GraceStep.TheVariants.{Again}
use Rattle.k42_quiesce.specs.declared.steps.Held.{Held}
use Rattle.k42_quiesce.specs.declared.steps.Held.TheVariants.{Left, RoleHeld}
use Rattle.k42_mediator.specs.Answers.{begun_in}
use Rattle.k42_shapes.specs.declared.shape.Shape.{Shape}
use Rattle.k42_runtime.specs.Phases.{cause_in}
use Rattle.k42_runtime.specs.Systems.{live_in}
use Rattle.k42_runtime.specs.Swaps.{SwapSeen, IsUnderWay, IsWaiting, HasFoundFree, IsAtStage, IsSameCaller, IsHeldUpBy, MayHoldUp, IsStepBy, graces_due}
use Rattle.k42_runtime.specs.declared.swaps.Cause.{Cause}
use Rattle.k42_runtime.specs.declared.swaps.Cause.TheVariants as causes
use Rattle.k42_runtime.specs.declared.swaps.Stage.TheVariants.{Waiting}
use Rattle.k42_runtime.specs.declared.swaps.Step.TheVariants as steps
use Rattle.k42_mediator.specs.declared.answers.Begun.TheVariants.{Begun}

inactive : (idle : Bool) (active : Option ℕ) → idle && is_none active ≡ true → active ≡ None
inactive idle None e = refl
inactive true (Some generation) e = absurd (cc)
inactive false (Some generation) e = absurd (cc)

module _ {P O R : Type 0} (object : ℕ) where
  -- the grace has the role, and has gone on
  pub record HasRole (holder : Option ℕ) (v w : PassView P O R) : Type 0 where
    pub swap : w.visitor.swap ≡ drained_at w.turn.grace (Draining object)
    pub inactive : w.turn.active ≡ None
    pub graces : w.graces ≡ v.graces + graces_due Waiting holder
    pub caller : IsSameCaller v w
    pub taker : w.taker ≡ v.taker
    pub last : w.last ≡ v.last
    pub place : w.visitor.place ≡ v.visitor.place
    pub notes : w.notes ≡ v.notes

  pub has_role_now : (holder : Option ℕ) (v w : PassView P O R) → IsWaiting object holder v → GoesOn (with_role holder v) w → HasRole holder v w
  has_role_now None v w is goes = record {
    swap =
        ap (λ (x : Visitor). x.swap) goes.visitor
        ∙ ap (λ (swap : SwapAt). drained_at w.turn.grace (draining_from swap)) is.0;
    inactive = ap (λ (t : Caller). t.active) goes.turn ∙ inactive (is_idle v.turn.grace) v.turn.active is.1.free;
    graces = ap (λ (x : PassView P O R). x.graces) goes.rest;
    caller = record {
      number = ap (λ (x : PassView P O R). x.number) goes.rest;
      proc = ap (λ (t : Caller). t.proc) goes.turn;
    };
    taker = ap (λ (x : PassView P O R). x.taker) goes.rest;
    last = ap (λ (x : PassView P O R). x.last) goes.rest;
    place = ap (λ (x : Visitor). x.place) goes.visitor;
    notes = ap (λ (x : PassView P O R). x.notes) goes.rest;
  }
  has_role_now (Some holder) v w is goes = record {
    swap = ap (λ (x : Visitor). x.swap) goes.visitor ∙ ap (drained_at w.turn.grace) is.0;
    inactive = ap (λ (t : Caller). t.active) goes.turn ∙ is.1;
    graces = ap (λ (x : PassView P O R). x.graces) goes.rest ∙ more v.graces;
    caller = record {
      number = ap (λ (x : PassView P O R). x.number) goes.rest;
      proc = ap (λ (t : Caller). t.proc) goes.turn;
    };
    taker = ap (λ (x : PassView P O R). x.taker) goes.rest;
    last = ap (λ (x : PassView P O R). x.last) goes.rest;
    place = ap (λ (x : Visitor). x.place) goes.visitor;
    notes = ap (λ (x : PassView P O R). x.notes) goes.rest;
  } where
    more : (n : ℕ) → n ≡ n + 0
    more n = omega arith

-- the grace is held up, and with it the swap
pub record IsHeldUp {P O R : Type 0} (shapes : List (List Shape)) (s t : SwapSeen) (held : Held) (old new : PassSeen P O R) : Type 0 where
  pub stage : IsAtStage t.stage shapes t new
  pub caller : IsSameCaller old.view new.view
  pub graces : new.view.graces + graces_due t.stage t.holder ≤ old.view.graces + graces_due s.stage s.holder
  pub taker : new.view.taker ≡ old.view.taker
  pub place : new.view.visitor.place ≡ old.view.visitor.place
  pub notes : new.view.notes ≡ old.view.notes
  pub told : IsStepBy (live_in shapes s.object) (word_begun new.view.last) (steps.Again (cause_in held))
  pub found : IsHeldUpBy (live_in shapes s.object) (cause_in held) old.view new.view

-- a try has found the role with this caller
pub record HasTriedRole {P O R : Type 0} (holder : ℕ) (v w : PassView P O R) : Type 0 where
  pub knows : w ≡ took names.TakeRole role_word (holder + 1) (role_view (holder + 1) v)
  pub finds : RoleFound v (holder + 1)

module _ {P O R : Type 0} (shapes : List (List Shape)) (s t : SwapSeen) (old new : PassSeen P O R) (same : IsSamePass old new)
    (first : s.stage ≡ Waiting) (stays : t.stage ≡ s.stage) (object : t.object ≡ s.object)
    (way : IsUnderWay (length shapes) s.object old) (free : HasFoundFree (live_in shapes s.object) old.view) (waits : IsWaiting s.object s.holder old.view) where
  waiting : new.view.last ≡ old.view.last → new.view.taker ≡ old.view.taker → IsWaiting t.object t.holder new.view → IsAtStage t.stage shapes t new
  waiting last taker is =
      subst (λ stage. IsAtStage stage shapes t new) (sym (stays ∙ first)) (
        record {
          there = subst (λ o. o < length shapes) (sym object) way.there;
          entry = subst (λ (z : Keep × ℕ). room_due z.0 ≤ z.1) (λ j. ((sym same.keep j).what, sym same.room j)) way.entry;
          row = subst (λ n. 0 < n) (sym same.row_room) way.row;
          few = subst (λ (x : turns.Caller O R). length x.mine < PASS_ENTRIES) (sym taker) way.few;
        },
        subst (λ (o : ℕ). begun_in (live_in shapes o) (word_begun new.view.last) ≡ Begun) (sym object) (ap (λ last. begun_in (live_in shapes s.object) (word_begun last)) last ∙ free),
        is,
      )

  counted : (holder next : Option ℕ) → s.holder ≡ holder → t.holder ≡ next
      → new.view.graces + graces_due Waiting next ≤ old.view.graces + graces_due Waiting holder
      → new.view.graces + graces_due t.stage t.holder ≤ old.view.graces + graces_due s.stage s.holder
  counted holder next was is le =
      subst (λ (x : ℕ × ℕ). new.view.graces + x.0 ≤ old.view.graces + x.1)
      (λ j. (graces_due (sym (stays ∙ first) j) (sym is j), graces_due (sym first j) (sym was j))) le

  told_free : (word : ℕ) (cause : Cause) → begun_in (live_in shapes s.object) word ≡ Begun → MayHoldUp Begun cause → IsStepBy (live_in shapes s.object) word (steps.Again cause)
  told_free word cause e may = subst (λ b. MayHoldUp b cause) (sym e) may

  pub held_up : (answer : GraceStep) (held : Held) → answer ≡ Again held
      → ((proc left : ℕ) → answer ≡ Again (Left proc left) → IsLeft proc left old.view new.view)
      → ((holder : ℕ) → answer ≡ Again (RoleHeld holder) → HasTriedRole holder old.view new.view × (s.holder ≡ None) × (t.holder ≡ None))
      → (has_role answer ≡ true → GoesOn (with_role s.holder old.view) new.view × (t.holder ≡ Some new.view.number))
      → IsHeldUp shapes s t held old new
  held_up answer (Left proc left) e looks holds goes =
      let is = looks proc left e in
      let went = goes (ap has_role e) in
      let has = has_role_now s.object s.holder old.view new.view waits went.0 in
      let swap = has.swap ∙ ap (λ grace. drained_at grace (Draining s.object)) is.at ∙ ap Draining (sym object) in
      record {
        stage =
            waiting has.last has.taker
            (subst (λ holder. IsWaiting t.object holder new.view) (sym went.1)
            (swap, has.inactive, record { own = refl; looking = ap is_looking is.at }));
        caller = has.caller;
        graces = counted s.holder (Some new.view.number) refl went.1 (let n = has.graces in omega (arith, n));
        taker = has.taker;
        place = has.place;
        notes = has.notes;
        told = told_free (word_begun new.view.last) (causes.Left proc left) (ap (λ last. begun_in (live_in shapes s.object) (word_begun last)) has.last ∙ free) tt;
        found = is;
      }
  held_up answer (RoleHeld holder) e looks holds goes =
      let is = holds holder e in
      let knows : new.view ≡ took names.TakeRole role_word (holder + 1) old.view = not_taken old.view new.view (holder + 1) is.0.knows (omega arith) in
      let was : IsWaiting s.object None old.view = subst (λ h. IsWaiting s.object h old.view) is.1 waits in
      let now : IsWaiting t.object None new.view =
      subst (λ (x : ℕ × PassView P O R). IsWaiting x.0 None x.1) (λ j. (sym object j, sym knows j))
      (was.0, record { free = was.1.free; swap = was.1.swap; few = was.1.few }) in
      let few = is.0.finds.small in
      record {
        stage =
            waiting (ap (λ (v : PassView P O R). v.last) knows) (ap (λ (v : PassView P O R). v.taker) knows)
            (subst (λ h. IsWaiting t.object h new.view) (sym is.2) now);
        caller = record {
          number = ap (λ (v : PassView P O R). v.number) knows;
          proc = ap (λ (v : PassView P O R). v.turn.proc) knows;
        };
        graces = counted None None is.1 is.2 (let n = ap (λ (v : PassView P O R). v.graces) knows in omega (arith, n));
        taker = ap (λ (v : PassView P O R). v.taker) knows;
        place = ap (λ (v : PassView P O R). v.visitor.place) knows;
        notes = ap (λ (v : PassView P O R). v.notes) knows;
        told =
            told_free (word_begun new.view.last) (causes.RoleHeld holder)
            (ap (λ (v : PassView P O R). begun_in (live_in shapes s.object) (word_begun v.last)) knows ∙ free) tt;
        found = record {
          tried = record { gained = []; log = ap (λ (v : PassView P O R). v.log) knows; meets_none = refl };
          another = λ same. is.0.finds.another (ap (λ (n : ℕ). n + 1) (same ∙ ap (λ (v : PassView P O R). v.number) knows));
          caller = omega (arith, few);
        };
      }
