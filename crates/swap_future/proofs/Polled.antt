-- A swap that is stepped at polls: how it goes on, and what its last step brings.
use Rattle.std.proofs.Common.{ℕ, ◌+◌, ◌≤◌, Option, Result, Ok, Err, refl, sym, subst, ◌∙◌, arith}
use Rattle.k42_runtime.specs.Phases.{last_step}
use Rattle.k42_runtime.specs.Swaps.{SwapSeen, HasBrought, HasStepped, IsEndBy, graces_due}
use Rattle.co_system.specs.Systems.{SystemSeen, SystemPass, MayLead}
use Rattle.k42_board.specs.Views.{word_begun}
use Rattle.k42_runtime.specs.Systems.{live_in}
use Rattle.k42_runtime.specs.declared.swaps.Cause.{Cause}
use Rattle.k42_runtime.specs.declared.swaps.NoSwap.{NoSwap}
use Rattle.k42_runtime.specs.declared.swaps.NoSwap.TheVariants as reasons
use Rattle.k42_runtime.specs.declared.swaps.Stage.{Stage}
use Rattle.k42_runtime.specs.declared.swaps.Step.{Step}
use Rattle.k42_runtime.specs.declared.swaps.Step.TheVariants.{Again, Memory}
use Rattle.k42_runtime.specs.declared.swaps.Swapped.{Swapped}
use Rattle.k42_kinds.specs.declared.entry.To.{To}
use Rattle.k42_runtime.proofs.SwapSteps.{HasComeOn, same_caller, fewer, swapped_since, memory_since, worn_before}
use Rattle.k42_runtime.proofs.SwapWaits.{not_stepped, stepped_again, rests_over}
use Rattle.swap_future.specs.Polling.{IsGoing, Ends}

fewer_due : (new old due : ℕ) (stage : Stage) (holder : Option ℕ) → new + graces_due stage holder ≤ old + due → new ≤ old + due
fewer_due new old due stage holder few = omega (arith, few)

-- a step keeps the object of its swap, and where that leads
pub leads_on : (system : SystemSeen) (s t : SwapSeen) (result : Step) (old new : SystemPass) → MayLead system.plan s.object s.to
    → HasStepped system result s t old new → MayLead system.plan t.object t.to
leads_on system s t result old new leads step =
    subst (λ (x : ℕ × To). MayLead system.plan x.0 x.1) (λ j. (sym step.object j, sym step.to j)) leads

module _ (system : SystemSeen) (s t : SwapSeen) (old new : SystemPass) where
  -- a last step leaves its pass so
  pub ends_by : (result : Result Swapped NoSwap) → HasStepped system (last_step result) s t old new → Ends system s old result new
  ends_by (Ok end) step = record {
    here = step.here;
    rests = rests_over t.stage _ t new step.over step.stage;
    seat = step.seat;
    keep = step.keep;
    caller = step.caller;
    graces = fewer_due new.view.graces old.view.graces (graces_due s.stage s.holder) t.stage t.holder step.graces;
    told = step.told;
    ended = step.brought.0;
    memory = λ e. absurd (cc);
    worn = (λ e. absurd (cc), λ w. absurd (let never = step.worn.1 w in cc));
    kept = λ e. absurd (cc);
  }
  ends_by (Err reasons.Worn) step = record {
    here = step.here;
    rests = rests_over t.stage _ t new step.over step.stage;
    seat = step.seat;
    keep = step.keep;
    caller = step.caller;
    graces = fewer_due new.view.graces old.view.graces (graces_due s.stage s.holder) t.stage t.holder step.graces;
    told = tt;
    ended = tt;
    memory = λ e. absurd (cc);
    worn = (λ e. step.worn.0 refl, λ w. refl);
    kept = λ e. step.brought;
  }
  ends_by (Err reasons.Memory) step = record {
    here = step.here;
    rests = rests_over t.stage _ t new step.over step.stage;
    seat = step.seat;
    keep = step.keep;
    caller = step.caller;
    graces = fewer_due new.view.graces old.view.graces (graces_due s.stage s.holder) t.stage t.holder step.graces;
    told = tt;
    ended = tt;
    memory = λ e. step.brought;
    worn = (λ e. absurd (cc), λ w. absurd (let never = step.worn.1 w in cc));
    kept = λ e. absurd (cc);
  }

module _ (system : SystemSeen) (s m : SwapSeen) (old mid new : SystemPass) (comes : HasComeOn s m old mid) where
  graces_before : new.view.graces ≤ mid.view.graces + graces_due m.stage m.holder → new.view.graces ≤ old.view.graces + graces_due s.stage s.holder
  graces_before few =
      fewer (old.view.graces + graces_due s.stage s.holder) (mid.view.graces + graces_due m.stage m.holder) new.view.graces comes.graces few

  -- what ends a swap that was stepped before ends it from there on
  pub ends_before : (result : Result Swapped NoSwap) → Ends system m mid result new → Ends system s old result new
  ends_before (Ok end) is = record {
    here = is.here;
    rests = is.rests;
    seat = is.seat ∙ comes.seat;
    keep = is.keep ∙ comes.keep;
    caller = same_caller old.view mid.view new.view comes.caller is.caller;
    graces = graces_before is.graces;
    told = subst (λ (o : ℕ). IsEndBy (live_in system.sys.shapes o) (word_begun new.view.last) end) comes.object is.told;
    ended = swapped_since system s m m old mid new comes end is.ended;
    memory = λ e. absurd (cc);
    worn = worn_before system s m m old mid new comes is.worn;
    kept = λ e. absurd (cc);
  }
  ends_before (Err error) is = record {
    here = is.here;
    rests = is.rests;
    seat = is.seat ∙ comes.seat;
    keep = is.keep ∙ comes.keep;
    caller = same_caller old.view mid.view new.view comes.caller is.caller;
    graces = graces_before is.graces;
    told = tt;
    ended = tt;
    memory = λ e.
        memory_since system s m m old mid new comes (live_in system.sys.shapes s.object)
        (subst (λ (o : ℕ). HasBrought (live_in system.sys.shapes o) Memory m mid new) comes.object (is.memory e));
    worn = worn_before system s m m old mid new comes is.worn;
    kept = λ e. is.kept e ∙ (comes.waits (is.worn.0 e).0).1;
  }

module _ (system : SystemSeen) (s m : SwapSeen) (old mid : SystemPass) (cause : Cause) (going : IsGoing system s old) (step : HasStepped system (Again cause) s m old mid) where
  pub still_going : IsGoing system m mid
  still_going = record {
    here = step.here;
    stage = step.stage;
    going = step.over;
    leads = leads_on system s m (Again cause) old mid going.leads step;
  }

  comes_on : HasComeOn s m old mid
  comes_on = (stepped_again system s s m old old mid cause (not_stepped system s old going.here going.stage going.going) step).comes

  pub ends_later : (result : Result Swapped NoSwap) (new : SystemPass) → Ends system m mid result new → Ends system s old result new
  ends_later result new is = ends_before system s m old mid new comes_on result is
