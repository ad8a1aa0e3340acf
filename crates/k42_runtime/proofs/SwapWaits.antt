-- A swap that is stepped until it is over.
use Rattle.std.proofs.Common.{◌≡◌, ⊎_elim, inl, inr, ◌↔◌, ℕ, ◌+◌, ◌≤◌, true, false, List, Result, Ok, Err, refl, sym, ap, ◌∙◌, subst, arith}
use Rattle.k42_board.proofs.Gained.{follows_on, follows_same}
use Rattle.k42_board.specs.Seen.{PassSeen}
use Rattle.k42_board.specs.declared.view.PassView.{PassView}
use Rattle.k42_board.specs.declared.view.Row.{Row}
use Rattle.k42_runtime.specs.Phases.{last_step}
use Rattle.k42_runtime.specs.Swaps.{SwapSeen, IsAtStage, IsWornOut, HasNotBegun, HasAbandoned, HasBrought, HasStepped, HasEnded, IsEndBy, StepsWithoutMemory, EndsWithoutMemory, is_over, graces_due}
use Rattle.k42_shapes.specs.declared.shape.Shape.{Shape}
use Rattle.k42_board.specs.Views.{word_begun}
use Rattle.k42_runtime.specs.Systems.{SystemSeen, IsPassHere, IsAtRest, live_in}
use Rattle.k42_runtime.specs.declared.swaps.Cause.{Cause}
use Rattle.k42_runtime.specs.declared.swaps.NoSwap.{NoSwap}
use Rattle.k42_runtime.specs.declared.swaps.NoSwap.TheVariants as reasons
use Rattle.k42_runtime.specs.declared.swaps.Stage.{Stage}
use Rattle.k42_runtime.specs.declared.swaps.Stage.TheVariants as stages
use Rattle.k42_runtime.specs.declared.swaps.Step.{Step}
use Rattle.k42_runtime.specs.declared.swaps.Step.TheVariants.{Again, Ended, Memory, Worn}
use Rattle.k42_runtime.specs.declared.swaps.Swapped.{Swapped}
use Rattle.k42_kinds.specs.declared.entry.To.{To}
use Rattle.k42_runtime.proofs.SwapSteps.{HasComeOn, held_follows, same_caller, fewer, swapped_since, memory_since, worn_before}

-- it has been stepped some times, and is not over
pub record IsStepped {L P O R : Type 0} (system : SystemSeen L) (s t : SwapSeen) (old new : PassSeen P O R) : Type 0 where
  pub here : IsPassHere system new
  pub stage : IsAtStage t.stage system.sys.shapes t new
  pub going : is_over t.stage ≡ false
  pub comes : HasComeOn s t old new

pub not_stepped : {L P O R : Type 0} (system : SystemSeen L) (s : SwapSeen) (new : PassSeen P O R) → IsPassHere system new
    → IsAtStage s.stage system.sys.shapes s new → is_over s.stage ≡ false → IsStepped system s s new new
not_stepped system s new here stage going = record {
  here = here;
  stage = stage;
  going = going;
  comes = record {
    object = refl;
    to = refl;
    seat = refl;
    keep = refl;
    caller = record { number = refl; proc = refl };
    drawn = refl;
    log = follows_same new.view.log;
    graces = omega arith;
    waits = λ e. (e, refl);
    worn = λ e w. e;
  };
}

pub stepped_again : {L P O R : Type 0} (system : SystemSeen L) (s m t : SwapSeen) (old mid new : PassSeen P O R) (cause : Cause) → IsStepped system s m old mid
    → HasStepped system (Again cause) m t mid new → IsStepped system s t old new
stepped_again system s m t old mid new cause is step =
    record {
      here = step.here;
      stage = step.stage;
      going = step.over;
      comes = record {
        object = step.object ∙ is.comes.object;
        to = step.to ∙ is.comes.to;
        seat = step.seat ∙ is.comes.seat;
        keep = step.keep ∙ is.comes.keep;
        caller = same_caller old.view mid.view new.view is.comes.caller step.caller;
        drawn = step.brought.0 ∙ is.comes.drawn;
        log = follows_on is.comes.log (held_follows (live_in system.sys.shapes m.object) cause mid.view new.view step.brought.1);
        graces =
            let first = is.comes.graces in let second = step.graces in
            fewer (old.view.graces + graces_due s.stage s.holder) (mid.view.graces + graces_due m.stage m.holder)
            (new.view.graces + graces_due t.stage t.holder) first second;
        waits = λ e. absurd (step.begun e);
        worn = λ e w. absurd (let never : Again cause ≡ Worn = (worn_before system s m t old mid new is.comes step.worn).1 (e, w) in cc);
      };
    }

pub rests_over : {P O R : Type 0} (stage : Stage) (objects : List (List Shape)) (t : SwapSeen) (new : PassSeen P O R) → is_over stage ≡ true → IsAtStage stage objects t new
    → IsAtRest new.view
rests_over stages.Over objects t new e is = is
rests_over stages.New objects t new e is = absurd (cc)
rests_over stages.Waiting objects t new e is = absurd (cc)
rests_over stages.Shut objects t new e is = absurd (cc)
rests_over stages.Marking objects t new e is = absurd (cc)

-- nothing was begun
pub not_begun : {P O R : Type 0} (v w : PassView P O R) (rows : List Row) (granted : ℕ) → w ≡ record v { rows = rows; granted = granted } → HasNotBegun v w
not_begun {O = O} {R = R} v w rows granted e =
    e ∙ (λ j. record v { rows = sym (ap (λ (u : PassView _ O R). u.rows) e) j; granted = sym (ap (λ (u : PassView _ O R). u.granted) e) j })

out_of_memory : {P O R : Type 0} (live : ℕ) (stage : Stage) (object : ℕ) (to : To) (v w : PassView P O R) → StepsWithoutMemory live stage object to v w → EndsWithoutMemory live object to v w
out_of_memory live stage object to v w =
    ⊎_elim (λ (is : (stage ≡ stages.New) × (w ≡ v)). inl (not_begun v w v.rows v.granted is.1)) (λ (is : HasAbandoned live object to v w). inr is)

one_grace : (new due old : ℕ) → new + due ≤ old + 1 → new ≤ old + 1
one_grace new due old le = omega (arith, le)

-- the last step of a swap that was new
module _ {L P O R : Type 0} (system : SystemSeen L) (s m t : SwapSeen) (old mid new : PassSeen P O R) (first : s.stage ≡ stages.New) (is : IsStepped system s m old mid) where
  few : (result : Step) → HasStepped system result m t mid new → new.view.graces ≤ old.view.graces + 1
  few result step =
      let before = is.comes.graces in let after = step.graces in
      one_grace new.view.graces (graces_due t.stage t.holder) old.view.graces
      (subst (λ (stage : Stage). new.view.graces + graces_due t.stage t.holder ≤ old.view.graces + graces_due stage s.holder) first
      (fewer (old.view.graces + graces_due s.stage s.holder) (mid.view.graces + graces_due m.stage m.holder)
      (new.view.graces + graces_due t.stage t.holder) before after))

  worn_since : (result : Step) → HasStepped system result m t mid new → (result ≡ Worn) ↔ IsWornOut old.view
  worn_since result step =
      let is = worn_before system s m t old mid new is.comes step.worn in (λ e. (is.0 e).1, λ w. is.1 (first, w))

  pub ended_since : (result : Result Swapped NoSwap) → HasStepped system (last_step result) m t mid new → HasEnded system s.object s.to result old new
  ended_since (Ok end) step = record {
    here = step.here;
    rests = rests_over t.stage system.sys.shapes t new step.over step.stage;
    seat = step.seat ∙ is.comes.seat;
    keep = step.keep ∙ is.comes.keep;
    caller = same_caller old.view mid.view new.view is.comes.caller step.caller;
    graces = few (Ended end) step;
    told = subst (λ (o : ℕ). IsEndBy (live_in system.sys.shapes o) (word_begun new.view.last) end) is.comes.object step.told;
    ended = swapped_since system s m t old mid new is.comes end step.brought.0;
    memory = λ e. absurd (cc);
    worn = (λ e. absurd (cc), λ w. absurd (let never = (worn_since (Ended end) step).1 w in cc));
    kept = λ e. absurd (cc);
  }
  ended_since (Err reasons.Memory) step = record {
    here = step.here;
    rests = rests_over t.stage system.sys.shapes t new step.over step.stage;
    seat = step.seat ∙ is.comes.seat;
    keep = step.keep ∙ is.comes.keep;
    caller = same_caller old.view mid.view new.view is.comes.caller step.caller;
    graces = few Memory step;
    told = tt;
    ended = tt;
    memory = λ e. out_of_memory (live_in system.sys.shapes s.object) s.stage s.object s.to old.view new.view (memory_since system s m t old mid new is.comes (live_in system.sys.shapes s.object)
        (subst (λ (o : ℕ). HasBrought (live_in system.sys.shapes o) Memory m mid new) is.comes.object step.brought));
    worn = (λ e. absurd (cc), λ w. absurd (let never = (worn_since Memory step).1 w in cc));
    kept = λ e. absurd (cc);
  }
  ended_since (Err reasons.Worn) step =
      let same : new ≡ old = step.brought ∙ (is.comes.waits (step.worn.0 refl).0).1 in
      record {
        here = step.here;
        rests = rests_over t.stage system.sys.shapes t new step.over step.stage;
        seat = step.seat ∙ is.comes.seat;
        keep = step.keep ∙ is.comes.keep;
        caller = same_caller old.view mid.view new.view is.comes.caller step.caller;
        graces = few Worn step;
        told = tt;
        ended = tt;
        memory = λ e. absurd (cc);
        worn = (λ e. (worn_since Worn step).0 refl, λ w. refl);
        kept = λ e. not_begun old.view new.view old.view.rows old.view.granted (ap (λ (p : PassSeen P O R). p.view) same);
      }
